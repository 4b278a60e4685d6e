-- Lines of things that stand for rows: they are offered and served as the rows are. So what firmware holds, words of rows, does what the rows do. Assumes nothing.
use Prim.Native.Nat.{ℕ}
use mathlib.Core.Path.{◌≡◌, refl, sym, ap, ◌∙◌}
use mathlib.Core.Bool.{Bool, true, false, cond}
use mathlib.Core.List.{List, [], ◌∷◌, ◌++◌, map}
use lib.Dec.{ltb, eqb}
use Rattle.std.proofs.lemmas.List.{length-map, map-append}
use Rattle.std.specs.Prelude.{find, Option, None, Some, Ok, Err}
use Rattle.refusals.specs.Refusals.{Verdict}
use Rattle.board.specs.Lines.{in_turn, with_unit, Lines, offer_verdict, lines_by, offer_row, next_unit, leaves, serve_by, serve_row}

module _ {P R : Type 0} (f : P → R) where
  -- the lines of what the things stand for, and what has been served
  abbrev pub mapped : Lines P → Lines R
  mapped lines u = map f (lines u)

  abbrev pub mapped_served : Option (ℕ × P) × Lines P → Option (ℕ × R) × Lines R
  mapped_served (None, lines) = (None, mapped lines)
  mapped_served (Some (u, x), lines) = (Some (u, f x), mapped lines)

  with_mapped : (lines : Lines P) (u : ℕ) (line : List P) → with_unit (mapped lines) u (map f line) ≡ mapped (with_unit lines u line)
  unfolding with_unit
  with_mapped lines u line = λ i v. go v (eqb v u) i
    where
      go : (v : ℕ) (q : Bool) → cond q (map f line) (map f (lines v)) ≡ map f (cond q line (lines v))
      go v true = refl
      go v false = refl

  pub offer_mapped : (lines : Lines P) (u : ℕ) (x : P) → offer_row (mapped lines) u (f x) ≡ ((offer_row lines u x).0, mapped (offer_row lines u x).1)
  unfolding offer_row offer_verdict
  offer_mapped lines u x = rw (length-map (lines u) f) (go (offer_verdict lines u))
    where
      go : (verdict : Verdict) → ◌≡◌ {A = Verdict × Lines R} (verdict, lines_by verdict (mapped lines) u (f x)) (verdict, mapped (lines_by verdict lines u x))
      go (Ok tt) = λ i. (Ok tt, (ap (with_unit (mapped lines) u) (sym (map-append f (lines u) (x ∷ []))) ∙ with_mapped lines u (lines u ++ (x ∷ []))) i)
      go (Err refusal) = refl

  next_mapped : (lines : Lines P) (first : ℕ) → next_unit (mapped lines) first ≡ next_unit lines first
  unfolding next_unit
  next_mapped lines first = ap (λ (p : ℕ → Bool). find p (in_turn first)) (λ i u. ltb 0 (length-map (lines u) f i))

  pub serve_mapped : (lines : Lines P) (first : ℕ) → serve_row (mapped lines) first ≡ mapped_served (serve_row lines first)
  unfolding serve_row
  serve_mapped lines first = rw (next_mapped lines first) (go (next_unit lines first))
    where
      by : (u : ℕ) (line : List P) → leaves (mapped lines) u (map f line) ≡ mapped_served (leaves lines u line)
      by u [] = refl
      by u (x ∷ line) = λ i. (Some (u, f x), with_mapped lines u line i)

      go : (found : Option ℕ) → serve_by (mapped lines) found ≡ mapped_served (serve_by lines found)
      go None = refl
      go (Some u) = by u (lines u)
