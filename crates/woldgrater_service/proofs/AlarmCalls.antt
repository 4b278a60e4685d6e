-- The alarm that a relief state remembers of a fan is that of the last accepted row, over every list of rows handed over call by call from a start. Assumes nothing.
use Prim.Native.Nat.{ℕ}
use mathlib.Core.Path.{◌≡◌, refl, ap, ◌∙◌}
use mathlib.Core.List.{List, [], ◌∷◌, map}
use Rattle.past.specs.Whole.{state_after}
use Rattle.relief_fan_group.specs.declared.types.ReliefState.{ReliefState}
use Rattle.relief_fan_group.specs.Step.{relief_fresh, relief_row}
use Rattle.relief_fan_group.specs.Told.{relief_returned}
use Rattle.relief_fan_group.specs.Remembered.{relief_alarm, alarm_read}
use Rattle.relief_fan_group.proofs.LastAlarms.{alarm_remembered}
use Rattle.relief_words.specs.declared.relief_row.ReliefRowWords.{ReliefRowWords}
use Rattle.relief_words.specs.ReliefRow.{relief_row_of}
use Rattle.woldgrater.specs.Relief.{ReliefMemory, relief_memory, relief_in}
use Rattle.woldgrater.proofs.Calls.{held_after, relief_back}
use Rattle.woldgrater_service.specs.Shown.{alarm_given}

-- the state after a row as a caller holds it, by its words
abbrev next : ReliefState → ReliefRowWords → ReliefState
next s x = (relief_row s (relief_row_of x)).state

-- what a caller holds after rows, the newest first: each call gets what the one before gave
abbrev pub memory_after : List ReliefRowWords → ReliefMemory
memory_after l = state_after (λ m x. relief_memory (next (relief_in m) x)) (relief_memory relief_fresh) l

by_words : (l : List ReliefRowWords) → state_after next relief_fresh l ≡ state_after relief_returned relief_fresh (map relief_row_of l)
unfolding state_after
by_words [] = refl
by_words (x ∷ l) = ap (λ (s : ReliefState). next s x) (by_words l)

-- what `woldgrater_relief_alarm` gives then: the alarm of the last accepted row of the list, 0 if there is none
pub alarm_by_calls : (l : List ReliefRowWords) (fan : ℕ)
    → alarm_given (relief_alarm (relief_in (memory_after l)).blocks fan) ≡ alarm_given (alarm_read (map relief_row_of l) fan)
alarm_by_calls l fan =
    ap (λ (s : ReliefState). alarm_given (relief_alarm s.blocks fan)) (held_after relief_memory relief_in relief_back next relief_fresh l ∙ by_words l)
    ∙ ap alarm_given (alarm_remembered (map relief_row_of l) fan)
