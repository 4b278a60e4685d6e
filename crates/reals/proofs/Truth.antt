-- Tests: what follows from one that holds, and equations of tests by their truth tables. Assumes nothing.
use mathlib.Core.Path.{◌≡◌, refl, sym}
use mathlib.Core.Bool.{Bool, true, false, not, ◌&&◌, ◌||◌, beq, true≢false}
use lib.Dec.{T}

-- ---- one test
pub is_true : (b : Bool) → T b → b ≡ true
is_true true h = refl
is_true false h = absurd h

pub is_false : (b : Bool) → (T b → ⊥) → b ≡ false
is_false true h = absurd (h tt)
is_false false h = refl

pub holds : (b : Bool) → b ≡ true → T b
holds true e = tt
holds false e = absurd (true≢false (sym e))

pub fails : (b : Bool) → b ≡ false → T b → ⊥
fails true e h = absurd (true≢false e)
fails false e h = h

-- ---- two tests
pub or_l : (a b : Bool) → T a → T (a || b)
or_l true b h = tt
or_l false b h = absurd h

pub or_r : (a b : Bool) → T b → T (a || b)
or_r true b h = tt
or_r false b h = h

pub either : (P : Type 0) (a b : Bool) → T (a || b) → (T a → P) → (T b → P) → P
either P true b h f g = f tt
either P false b h f g = g h

-- two tests that imply each other are one
pub same : (a b : Bool) → (T a → T b) → (T b → T a) → a ≡ b
same true true f g = refl
same true false f g = absurd (f tt)
same false true f g = absurd (g tt)
same false false f g = refl

-- a test is the negation of one that it excludes, where one of the two holds
pub opposite : (a b : Bool) → (T a → T b → ⊥) → ((T b → ⊥) → T a) → a ≡ not b
opposite true true f g = absurd (f tt tt)
opposite true false f g = refl
opposite false true f g = refl
opposite false false f g = absurd (g (λ h. h))

-- ---- equations of tests, by the truth table: the argument of type T is `tt`, computed over the whole table
abbrev both : (Bool → Bool) → Bool
both f = f true && f false

beq→eq : (a b : Bool) → T (beq a b) → a ≡ b
beq→eq true true t = refl
beq→eq true false t = absurd t
beq→eq false true t = absurd t
beq→eq false false t = refl

at : (f : Bool → Bool) → T (both f) → (a : Bool) → T (f a)
at f t true = first (f true) (f false) t
  where
    first : (a b : Bool) → T (a && b) → T a
    first true b t = tt
    first false b t = t
at f t false = second (f true) (f false) t
  where
    second : (a b : Bool) → T (a && b) → T b
    second true b t = t
    second false b t = absurd t

pub table1 : (f g : Bool → Bool) → T (both (λ a. beq (f a) (g a))) → (a : Bool) → f a ≡ g a
table1 f g t a = beq→eq (f a) (g a) (at (λ x. beq (f x) (g x)) t a)

pub table2 : (f g : Bool → Bool → Bool) → T (both (λ a. both (λ b. beq (f a b) (g a b)))) → (a b : Bool) → f a b ≡ g a b
table2 f g t a = table1 (f a) (g a) (at (λ x. both (λ b. beq (f x b) (g x b))) t a)

pub table3 : (f g : Bool → Bool → Bool → Bool) → T (both (λ a. both (λ b. both (λ c. beq (f a b c) (g a b c))))) → (a b c : Bool) → f a b c ≡ g a b c
table3 f g t a = table2 (f a) (g a) (at (λ x. both (λ b. both (λ c. beq (f x b c) (g x b c)))) t a)

pub table4 : (f g : Bool → Bool → Bool → Bool → Bool) → T (both (λ a. both (λ b. both (λ c. both (λ d. beq (f a b c d) (g a b c d)))))) → (a b c d : Bool) → f a b c d ≡ g a b c d
table4 f g t a = table3 (f a) (g a) (at (λ x. both (λ b. both (λ c. both (λ d. beq (f x b c d) (g x b c d))))) t a)

pub table5 : (f g : Bool → Bool → Bool → Bool → Bool → Bool) → T (both (λ a. both (λ b. both (λ c. both (λ d. both (λ e. beq (f a b c d e) (g a b c d e))))))) → (a b c d e : Bool) → f a b c d e ≡ g a b c d e
table5 f g t a = table4 (f a) (g a) (at (λ x. both (λ b. both (λ c. both (λ d. both (λ e. beq (f x b c d e) (g x b c d e)))))) t a)
