-- A relief row and its line: the line of a row is read as that row, and a row of finite numbers is read from no other line. Assumes nothing.
use Prim.Native.Nat.{ℕ, zero, suc, ◌+◌, ◌<◌}
use mathlib.Core.Path.{◌≡◌, refl, sym, ap, ◌∙◌}
use mathlib.Core.List.{List, [], ◌∷◌, ◌++◌}
use mathlib.Core.Bool.{true, false}
use native.Mathlib.Omega.{arith}
use lib.IntN.{pos}
use lib.ListN.{length, get_or, drop}
use lib.Seq.{drop-cons, drop-length}
use lib.Signed.{mag}
use lib.Ieee.{binary64, fits}
use Rattle.columns.specs.Forms.{words_of, are_words}
use Rattle.columns.specs.Line.{end_of_line}
use Rattle.columns.specs.Word.{half}
use Rattle.columns.proofs.Values.{float_given, yes_no_given, signed_given}
use Rattle.line_stream.specs.RowKind.{Row}
use Rattle.row_writer.specs.Writing.{ReadsBack}
use Rattle.row_writer.proofs.RowsBack.{GivenBack, Rewritten, row_back, row_was}
use Rattle.relief_fan_group.specs.declared.types.ReliefRow.{ReliefRow}
use Rattle.relief_fan_group.specs.Verdict.{numbers_finite}
use Rattle.relief_lines.specs.Relief.{relief_row_of, relief_row_words, relief_kind, relief_line, relief_row_text}

-- a row that 64 bits hold, and its arrays of 2 and 4: each row of a program
pub record Fits (row : ReliefRow) : Type 0 where
  pub time : fits binary64 row.time ≡ true
  pub supply : length row.supply ≡ 2
  pub pressure : fits binary64 row.pressure ≡ true
  pub alarm : length row.alarm ≡ 4
  pub alarm_1 : mag (get_or row.alarm 0 (pos 0)) < half
  pub alarm_2 : mag (get_or row.alarm 1 (pos 0)) < half
  pub alarm_3 : mag (get_or row.alarm 2 (pos 0)) < half
  pub alarm_4 : mag (get_or row.alarm 3 (pos 0)) < half
  pub proof : length row.proof ≡ 4

-- a list is that of its elements
abbrev elements : {A : Type 0} → A → List A → ℕ → ℕ → List A
elements d l k zero = []
elements d l k (suc n) = get_or l k d ∷ elements d l (suc k) n

elements_are : {A : Type 0} (d : A) (l : List A) (k n : ℕ) → length l ≡ k + n → elements d l k n ≡ drop k l
elements_are d l k zero h = let e : length l ≡ k = omega arith in sym (drop-length l) ∙ ap (λ (i : ℕ). drop i l) e
elements_are d l k (suc n) h =
    ap (λ t. get_or l k d ∷ t) (elements_are d l (suc k) n (omega arith)) ∙ sym (drop-cons l k d (omega arith))

given_back : (row : ReliefRow) → Fits row → GivenBack relief_kind row
unfolding relief_row_of relief_row_words are_words
given_back row fit =
    let w1 = float_given row.time fit.time in
    let w2 = yes_no_given (get_or row.supply 0 false) in
    let w3 = yes_no_given (get_or row.supply 1 false) in
    let w4 = float_given row.pressure fit.pressure in
    let w5 = signed_given (get_or row.alarm 0 (pos 0)) fit.alarm_1 in
    let w6 = signed_given (get_or row.alarm 1 (pos 0)) fit.alarm_2 in
    let w7 = signed_given (get_or row.alarm 2 (pos 0)) fit.alarm_3 in
    let w8 = signed_given (get_or row.alarm 3 (pos 0)) fit.alarm_4 in
    let w9 = yes_no_given (get_or row.proof 0 false) in
    let w10 = yes_no_given (get_or row.proof 1 false) in
    let w11 = yes_no_given (get_or row.proof 2 false) in
    let w12 = yes_no_given (get_or row.proof 3 false) in
    record {
      words = rw (w1.0, w2.0, w3.0, w4.0, w5.0, w6.0, w7.0, w8.0, w9.0, w10.0, w11.0, w12.0);
      back = rw (
        w1.1,
        w2.1,
        w3.1,
        w4.1,
        w5.1,
        w6.1,
        w7.1,
        w8.1,
        w9.1,
        w10.1,
        w11.1,
        w12.1,
        elements_are false row.supply 0 2 fit.supply,
        elements_are (pos 0) row.alarm 0 4 fit.alarm,
        elements_are false row.proof 0 4 fit.proof,
      );
    }

-- the line of a row is read as that row, patterns included
pub relief_row_back : (row : ReliefRow) → Fits row → ReadsBack relief_kind row
relief_row_back row fit = row_back relief_kind row (given_back row fit)

rewritten : Rewritten relief_kind
unfolding relief_row_of relief_row_words words_of numbers_finite
rewritten = record { again = λ line. refl; finite = λ line. refl }

-- and a row of finite numbers is read from no line but its own
pub relief_row_was : (line : List ℕ) (row : ReliefRow) → relief_line line ≡ Row row → numbers_finite row ≡ true → line ++ end_of_line ≡ relief_row_text row
relief_row_was = row_was relief_kind rewritten
