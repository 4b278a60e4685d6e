-- `woldgrater_rooftop_start`: the words of a start in the manner that is asked for, and arrays of 0.
use Rattle.std.proofs.Common.{◌≡◌, refl, ap, ◌∙◌, Bool, true, false}
use mathlib.Core.Bool.{not}
use Rattle.std.specs.Prelude.{cond, eqb}
use Rattle.block_words.specs.Flags.{word_flag}
use Rattle.moving_average.specs.State.{moving_average_new}
use Rattle.relief_fan_group.specs.Step.{relief_fresh}
use Rattle.rooftop.specs.Lent.{held_of}
use Rattle.rooftop.specs.Step.{rooftop_start}
use Rattle.rooftop_words.specs.Rooftop.{rooftop_words}
use Rattle.woldgrater.specs.Memory.{memory}
use Rattle.woldgrater.proofs.joined.woldgrater_rooftop_start.Goals as goal

not_is : (b : Bool) → not b ≡ cond b false true
not_is false = refl
not_is true = refl

pub returns : goal.returns
unfolding rooftop_start relief_fresh moving_average_new word_flag
returns c =
    ap (λ w. memory w relief_fresh.window.times relief_fresh.window.integrals)
    (c.from.ensures ∙ ap rooftop_words (c.held_start.ensures ∙ λ i. held_of (rooftop_start (not_is (eqb c.args.keeps_hour 0) i))))
