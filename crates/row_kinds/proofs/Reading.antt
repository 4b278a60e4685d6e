-- However the input is cut into chunks, the reader writes the output of the whole; for any sequences that bytes past the 255th of a line make no
-- difference to. Assumes nothing.
use Prim.Native.Nat.{ℕ, ◌≤◌}
use mathlib.Core.Path.{◌≡◌, refl, ap}
use mathlib.Core.List.{List, [], ◌∷◌, ◌++◌}
use native.Mathlib.Omega.{arith}
use lib.ListN.{take}
use Rattle.line_stream.specs.Lines.{Answer, whole, cut, answers, feed, rest_after, lines_after}
use Rattle.line_stream.proofs.Cutting.{cut_append, written_is}
use Rattle.row_kinds.specs.Reader.{Reader, First, At, Stopped, Start, last_line, reader_ending, reader_kept, first_line, answer_as, reader_line, reader_output, reader_written}

last_cut : (p : List ℕ) → last_line (cut p) ≡ last_line p
last_cut [] = refl
last_cut (b ∷ p) = refl

ending_kept : {Q : Type 0} (q : Reader Q) (p : List ℕ) → reader_ending q (reader_kept q p) ≡ reader_ending q p
ending_kept First p = refl
ending_kept (At q) p = last_cut p
ending_kept Stopped p = refl

kept_append : {Q : Type 0} (q : Reader Q) (p s : List ℕ) → reader_kept q (reader_kept q p ++ s) ≡ reader_kept q (p ++ s)
kept_append First p s = cut_append p s
kept_append (At q) p s = cut_append p s
kept_append Stopped p s = refl

module _ {Q : Type 0} (start : List ℕ → Start Q) (line : Q → List ℕ → Answer Q) where
  -- nothing is said once the reader has stopped
  stopped_answers : (lines : List (List ℕ)) → answers (reader_line start line) Stopped lines ≡ record { next = Stopped; said = [] }
  unfolding answers reader_line
  stopped_answers [] = refl
  stopped_answers (l ∷ lines) = stopped_answers lines

  pub stopped_feed : (p bytes : List ℕ) → feed (reader_line start line) Stopped p bytes ≡ record { next = Stopped; part = rest_after p bytes; said = [] }
  unfolding feed
  stopped_feed p bytes = ap (λ (a : Answer (Reader Q)). record { next = a.next; part = rest_after p bytes; said = a.said }) (stopped_answers (lines_after p bytes))

  module _ (start_cut : (n : ℕ) (p : List ℕ) → 255 ≤ n → start (take n p) ≡ start p)
      (line_cut : (q : Q) (n : ℕ) (p : List ℕ) → 255 ≤ n → line q (take n p) ≡ line q p) where
    -- bytes past the 255th of a line make no difference
    pub reader_cut : (q : Reader Q) (n : ℕ) (p : List ℕ) → 255 ≤ n → reader_line start line q (take n p) ≡ reader_line start line q p
    unfolding reader_line
    reader_cut First n p h = ap first_line (start_cut n p h)
    reader_cut (At q) n p h = ap (answer_as At) (line_cut q n p h)
    reader_cut Stopped n p h = refl

    kept_line : (q : Reader Q) (p : List ℕ) → reader_line start line q (reader_kept q p) ≡ reader_line start line q p
    unfolding reader_line
    kept_line First p = reader_cut First 256 p (omega arith)
    kept_line (At q) p = reader_cut (At q) 256 p (omega arith)
    kept_line Stopped p = refl

    -- any cutting of the input into chunks gives the output of the whole
    pub reader_any_cutting : (chunks : List (List ℕ)) → reader_written start line chunks ≡ reader_output start line (whole chunks)
    unfolding reader_written reader_output
    reader_any_cutting = written_is (reader_line start line) reader_kept kept_line kept_append reader_ending ending_kept First refl
