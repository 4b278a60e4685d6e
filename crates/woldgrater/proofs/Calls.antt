-- Rows handed over call by call from a start are answered as the sequence answers them, and what is held after them stands for its state: nothing is lost between two
-- calls. Assumes nothing.
use mathlib.Core.Path.{◌≡◌, refl, ap, ◌∙◌}
use mathlib.Core.Bool.{Bool}
use mathlib.Core.List.{List, [], ◌∷◌}
use Rattle.logical.specs.Run.{run}
use Rattle.past.specs.Whole.{state_after}
use Rattle.freeze_protection.specs.Step.{freeze_start, freeze_row}
use Rattle.economizer_controller.specs.Step.{economizer_fresh, economizer_row}
use Rattle.relief_fan_group.specs.declared.types.ReliefState.{ReliefState}
use Rattle.relief_fan_group.specs.Step.{relief_fresh, relief_row}
use Rattle.relief_fan_group.specs.Lent.{held_of, lent_state}
use Rattle.freeze_words.specs.declared.freeze_row.FreezeRowWords.{FreezeRowWords}
use Rattle.econ_words.specs.declared.economizer_row.EconomizerRowWords.{EconomizerRowWords}
use Rattle.relief_words.specs.declared.relief_row.ReliefRowWords.{ReliefRowWords}
use Rattle.freeze_words.specs.Freeze.{freeze_words, freeze_of}
use Rattle.freeze_words.specs.FreezeRow.{freeze_row_of}
use Rattle.econ_words.specs.Economizer.{economizer_words, economizer_of}
use Rattle.econ_words.specs.EconomizerRow.{economizer_row_of}
use Rattle.relief_words.specs.ReliefRow.{relief_row_of}
use Rattle.freeze_words.proofs.Back.{freeze_back}
use Rattle.econ_words.proofs.Back.{economizer_back}
use Rattle.relief_words.proofs.Back as held
use Rattle.woldgrater.specs.Freeze.{freeze_answered}
use Rattle.woldgrater.specs.Economizer.{economizer_answered}
use Rattle.woldgrater.specs.Relief.{relief_answered, relief_memory, relief_in}

-- what a caller holds stands for the state that it was made of; then a run on what is held answers as the run on states
module _ {S W R A : Type 0} (held : S → W) (state : W → S) (back : (s : S) → state (held s) ≡ s) (answer : S → R → A) (next : S → R → S) where
  pub by_calls : (s : S) (rows : List R) → run (λ w x. answer (state w) x) (λ w x. held (next (state w) x)) (held s) rows ≡ run answer next s rows
  unfolding run
  by_calls s [] = refl
  by_calls s (x ∷ rows) =
      λ i.
      answer (back s i) x
      ∷ (ap (λ (t : S). run (λ w y. answer (state w) y) (λ w y. held (next (state w) y)) (held (next t x)) rows) (back s) ∙ by_calls (next s x) rows) i

-- and what is held after rows stands for the state after them
module _ {S W R : Type 0} (held : S → W) (state : W → S) (back : (s : S) → state (held s) ≡ s) (next : S → R → S) where
  pub held_after : (s : S) (l : List R) → state (state_after (λ w x. held (next (state w) x)) (held s) l) ≡ state_after next s l
  unfolding state_after
  held_after s [] = back s
  held_after s (x ∷ l) =
      back (next (state (state_after (λ w y. held (next (state w) y)) (held s) l)) x)
      ∙ ap (λ (t : S). next t x) (held_after s l)

-- freeze protection, from either start
pub freeze_by_calls : (keeps_hour : Bool) (rows : List FreezeRowWords)
    → run (λ w x. freeze_answered (freeze_row (freeze_of w) (freeze_row_of x)).answer) (λ w x. freeze_words (freeze_row (freeze_of w) (freeze_row_of x)).state) (freeze_words (freeze_start keeps_hour)) rows
    ≡ run (λ s x. freeze_answered (freeze_row s (freeze_row_of x)).answer) (λ s x. (freeze_row s (freeze_row_of x)).state) (freeze_start keeps_hour) rows
freeze_by_calls keeps_hour rows =
    by_calls freeze_words freeze_of freeze_back (λ s x. freeze_answered (freeze_row s (freeze_row_of x)).answer) (λ s x. (freeze_row s (freeze_row_of x)).state) (freeze_start keeps_hour) rows

pub economizer_by_calls : (rows : List EconomizerRowWords)
    → run (λ w x. economizer_answered (economizer_row (economizer_of w) (economizer_row_of x)).answer) (λ w x. economizer_words (economizer_row (economizer_of w) (economizer_row_of x)).state)
    (economizer_words economizer_fresh) rows
    ≡ run (λ s x. economizer_answered (economizer_row s (economizer_row_of x)).answer) (λ s x. (economizer_row s (economizer_row_of x)).state) economizer_fresh rows
economizer_by_calls rows =
    by_calls economizer_words economizer_of economizer_back (λ s x. economizer_answered (economizer_row s (economizer_row_of x)).answer)
    (λ s x. (economizer_row s (economizer_row_of x)).state) economizer_fresh rows

pub relief_back : (s : ReliefState) → relief_in (relief_memory s) ≡ s
relief_back s = λ i. lent_state (held.relief_back (held_of s) i) s.window.times s.window.integrals

pub relief_by_calls : (rows : List ReliefRowWords)
    → run (λ m x. relief_answered (relief_row (relief_in m) (relief_row_of x)).answer) (λ m x. relief_memory (relief_row (relief_in m) (relief_row_of x)).state) (relief_memory relief_fresh) rows
    ≡ run (λ s x. relief_answered (relief_row s (relief_row_of x)).answer) (λ s x. (relief_row s (relief_row_of x)).state) relief_fresh rows
relief_by_calls rows =
    by_calls relief_memory relief_in relief_back (λ s x. relief_answered (relief_row s (relief_row_of x)).answer) (λ s x. (relief_row s (relief_row_of x)).state) relief_fresh rows
