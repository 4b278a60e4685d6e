-- A list of four is its four elements. Assumes nothing.
use mathlib.Core.Path.{◌≡◌, sym, ap, ◌∙◌}
use mathlib.Core.List.{List, ◌∷◌}
use native.Mathlib.Omega.{arith}
use lib.ListN.{length, get_or, drop_of_length-le}
use lib.Seq.{drop-cons}
use Rattle.reals.specs.Four.{each4}

module _ {A : Type 0} (l : List A) (d : A) (n : length l ≡ 4) where
  pub each_is : each4 (λ i. get_or l i d) ≡ l
  each_is =
      sym (drop-cons l 0 d (omega arith)
      ∙ ap (λ (r : List A). get_or l 0 d ∷ r) (drop-cons l 1 d (omega arith)
      ∙ ap (λ (r : List A). get_or l 1 d ∷ r) (drop-cons l 2 d (omega arith)
      ∙ ap (λ (r : List A). get_or l 2 d ∷ r) (drop-cons l 3 d (omega arith)
      ∙ ap (λ (r : List A). get_or l 3 d ∷ r) (drop_of_length-le l {i = 4} (omega arith))))))
