-- The scan of a column of 21 bytes with no minus, byte by byte: spaces, a first digit, and more of them. Assumes nothing.
use Prim.Native.Nat.{ℕ, suc, ◌+◌, ◌-◌, ◌*◌, ◌≤◌, ◌<◌}
use mathlib.Core.Path.{◌≡◌, sym, ap, ◌∙◌}
use mathlib.Core.List.{List}
use mathlib.Core.Bool.{Bool, false}
use native.Mathlib.Omega.{arith}
use lib.ListN.{length, get_or}
use borrow.Author.Tests.{lt-ltb, le-ltb, le-leb, ne_eqb}
use Rattle.std.specs.Prelude.{Some, None}
use Rattle.columns.specs.Scan.{limit, number, scan}
use Rattle.columns.proofs.Scanning.{Seen, Blank, Number, Bad, step_of, scan_to, bad_stays, a_digit}
use Rattle.columns.proofs.Inverse.{finish, scan_is}

module _ (c : List ℕ) (long : length c ≡ 21) where
  -- one space more
  pub space_more : (i : ℕ) → scan_to c i ≡ Blank → get_or c i 0 ≡ 32 → scan_to c (suc i) ≡ Blank
  space_more i e b = ap (λ (s : Seen). step_of s (get_or c i 0)) e ∙ ap (λ (x : ℕ). step_of Blank x) b

  -- the first digit
  pub first_digit : (i : ℕ) → scan_to c i ≡ Blank → 48 ≤ get_or c i 0 → get_or c i 0 ≤ 57 → scan_to c (suc i) ≡ Number false (get_or c i 0 - 48)
  first_digit i e a b =
      let s : get_or c i 0 ≡ 32 → ⊥ = λ f. omega arith in
      let m : get_or c i 0 ≡ 45 → ⊥ = λ f. omega arith in
      let d : get_or c i 0 - 48 ≤ 9 = omega arith in
      ap (λ (x : Seen). step_of x (get_or c i 0)) e ∙ simp (ne_eqb _ _ s, ne_eqb _ _ m, a_digit _ a b, le-leb _ _ d)

  -- the digits after it
  module _ (i : ℕ) (neg : Bool) (v : ℕ) (e : scan_to c i ≡ Number neg v) where
    pub whole : i ≡ 21 → Some (number neg v) ≡ scan c
    whole n = ap finish (sym e ∙ ap (λ (k : ℕ). scan_to c k) n) ∙ scan_is c long

    one_more : scan_to c (suc i) ≡ step_of (Number neg v) (get_or c i 0)
    one_more = ap (λ (s : Seen). step_of s (get_or c i 0)) e

    module _ (z : v ≡ 0 → ⊥) (h : i < 21) (a : 48 ≤ get_or c i 0) (b : get_or c i 0 ≤ 57) where
      small : get_or c i 0 - 48 ≤ 9
      small = omega arith

      pub too_large : limit ≤ v * 10 + (get_or c i 0 - 48) → None ≡ scan c
      too_large g =
          let n : suc i + (21 - suc i) ≡ 21 = omega arith in
          let bad : scan_to c (suc i) ≡ Bad = one_more ∙ simp (a_digit _ a b, le-leb _ _ small, ne_eqb _ _ z, le-ltb _ _ g) in
          ap finish (sym (bad_stays c (suc i) (21 - suc i) bad) ∙ ap (λ (k : ℕ). scan_to c k) n) ∙ scan_is c long

      pub next_digit : v * 10 + (get_or c i 0 - 48) < limit → scan_to c (suc i) ≡ Number neg (v * 10 + (get_or c i 0 - 48))
      next_digit g = one_more ∙ simp (a_digit _ a b, le-leb _ _ small, ne_eqb _ _ z, lt-ltb _ _ g)
