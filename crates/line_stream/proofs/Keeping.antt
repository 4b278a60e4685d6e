-- Bytes of a line kept up to a bound. Assumes nothing.
use Prim.Native.Nat.{ℕ, ◌+◌, ◌-◌, ◌≤◌, min}
use mathlib.Core.Path.{◌≡◌, sym, ap, ◌∙◌}
use mathlib.Core.List.{List, ◌++◌, append_assoc}
use native.Mathlib.Omega.{arith}
use lib.ListN.{length, take}
use lib.Seq.{take_all, take_at, take-append-add, length_paste_head, length-take-le}
use Rattle.line_stream.specs.Lines.{cut, Kept}
use Rattle.line_stream.proofs.Cutting.{at_most_or_above}

take_min : (a : ℕ) (l : List ℕ) → take (min a (length l)) l ≡ take a l
take_min a l =
    at_most_or_above (length l) a
    (λ h. take_all (min a (length l)) l (omega arith) ∙ sym (take_all a l h))
    (λ h. let e : min a (length l) ≡ a = omega arith in ap (λ (k : ℕ). take k l) e)

-- as many bytes as there is room for, after those that are kept, are the bytes up to the bound
pub kept_is : (line : List ℕ) (len : ℕ) (more : List ℕ) (n : ℕ) (copied rest : List ℕ) → length line ≡ 256 → len ≤ 256 → n ≡ min (256 - len) (length more) → copied ≡ take n more
    → take (len + n) (take len line ++ (copied ++ rest)) ≡ cut (take len line ++ more)
kept_is line len more n copied rest l h e c =
    let t : length (take len line) ≡ len = length-take-le len line (omega arith) in
    let f : length (take len line) + (256 - len) ≡ 256 = omega arith in
    let g : length (take len line ++ take n more) ≡ len + n = length_paste_head line len more n (omega arith) (omega arith) in
    ap (λ (x : List ℕ). take (len + n) (take len line ++ (x ++ rest))) c
    ∙ ap (λ (x : List ℕ). take (len + n) x) (sym (append_assoc (take len line) (take n more) rest))
    ∙ take_at (take len line ++ take n more) rest (len + n) g
    ∙ ap (λ (k : ℕ). take len line ++ take k more) e
    ∙ ap (λ (x : List ℕ). take len line ++ x) (take_min (256 - len) more)
    ∙ sym (take-append-add (take len line) more (256 - len))
    ∙ ap (λ (k : ℕ). take k (take len line ++ more)) f

pub kept : (line : List ℕ) (len : ℕ) (more : List ℕ) (n : ℕ) (copied rest : List ℕ) → length line ≡ 256 → len ≤ 256 → n ≡ min (length more) (256 - len) → copied ≡ take n more
    → Kept line len more (take len line ++ (copied ++ rest)) (len + n)
kept line len more n copied rest l h e c = record { bytes = kept_is line len more n copied rest l h (omega arith) c; fits = omega arith }
