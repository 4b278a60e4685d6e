-- Joined rows handed over call by call from either start are answered as the joined sequence answers them. Assumes nothing.
use mathlib.Core.Path.{◌≡◌}
use mathlib.Core.Bool.{Bool}
use mathlib.Core.List.{List}
use Rattle.logical.specs.Run.{run}
use Rattle.rooftop.specs.declared.types.RooftopState.{RooftopState}
use Rattle.rooftop.specs.Lent.{held_of, lent_state}
use Rattle.rooftop.specs.Step.{rooftop_start, rooftop_row}
use Rattle.rooftop_words.specs.declared.rooftop_row.RooftopRowWords.{RooftopRowWords}
use Rattle.rooftop_words.specs.RooftopRow.{rooftop_row_of}
use Rattle.rooftop_words.proofs.Back as held
use Rattle.woldgrater.specs.Rooftop.{rooftop_answered, rooftop_memory, rooftop_in}
use Rattle.woldgrater.proofs.Calls.{by_calls}

pub rooftop_back : (s : RooftopState) → rooftop_in (rooftop_memory s) ≡ s
rooftop_back s = λ i. lent_state (held.rooftop_back (held_of s) i) s.relief.window.times s.relief.window.integrals

pub rooftop_by_calls : (keeps_hour : Bool) (rows : List RooftopRowWords)
    → run (λ m x. rooftop_answered (rooftop_row (rooftop_in m) (rooftop_row_of x)).answer) (λ m x. rooftop_memory (rooftop_row (rooftop_in m) (rooftop_row_of x)).state)
    (rooftop_memory (rooftop_start keeps_hour)) rows
    ≡ run (λ s x. rooftop_answered (rooftop_row s (rooftop_row_of x)).answer) (λ s x. (rooftop_row s (rooftop_row_of x)).state) (rooftop_start keeps_hour) rows
rooftop_by_calls keeps_hour rows =
    by_calls rooftop_memory rooftop_in rooftop_back (λ s x. rooftop_answered (rooftop_row s (rooftop_row_of x)).answer) (λ s x. (rooftop_row s (rooftop_row_of x)).state)
    (rooftop_start keeps_hour) rows
