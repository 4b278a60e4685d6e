-- A flag's word stands for the flag; a list of two or of four is its elements; what holds of each element holds of the list. Assumes nothing.
use mathlib.Core.Path.{◌≡◌, refl, sym, ap, ◌∙◌}
use mathlib.Core.Bool.{Bool, true, false}
use mathlib.Core.List.{List, [], ◌∷◌, map}
use native.Mathlib.Omega.{arith}
use lib.ListN.{length, get_or, drop_of_length-le}
use lib.Seq.{drop-cons}
use Rattle.block_words.specs.Flags.{flag_word, word_flag}

pub flag_back : (b : Bool) → word_flag (flag_word b) ≡ b
unfolding word_flag flag_word
flag_back false = refl
flag_back true = refl

-- element by element
pub each_back : {A B : Type 0} (f : A → B) (g : B → A) → ((x : A) → g (f x) ≡ x) → (l : List A) → map g (map f l) ≡ l
each_back f g e [] = refl
each_back f g e (x ∷ l) = λ i. e x i ∷ each_back f g e l i

module _ {A : Type 0} (l : List A) (d : A) where
  pub two_are : length l ≡ 2 → get_or l 0 d ∷ get_or l 1 d ∷ [] ≡ l
  two_are n =
      sym (drop-cons l 0 d (omega (arith, n))
      ∙ ap (λ (r : List A). get_or l 0 d ∷ r) (drop-cons l 1 d (omega (arith, n))
      ∙ ap (λ (r : List A). get_or l 1 d ∷ r) (drop_of_length-le l {i = 2} (omega (arith, n)))))

  pub four_are : length l ≡ 4 → get_or l 0 d ∷ get_or l 1 d ∷ get_or l 2 d ∷ get_or l 3 d ∷ [] ≡ l
  four_are n =
      sym (drop-cons l 0 d (omega (arith, n))
      ∙ ap (λ (r : List A). get_or l 0 d ∷ r) (drop-cons l 1 d (omega (arith, n))
      ∙ ap (λ (r : List A). get_or l 1 d ∷ r) (drop-cons l 2 d (omega (arith, n))
      ∙ ap (λ (r : List A). get_or l 2 d ∷ r) (drop-cons l 3 d (omega (arith, n))
      ∙ ap (λ (r : List A). get_or l 3 d ∷ r) (drop_of_length-le l {i = 4} (omega (arith, n)))))))
