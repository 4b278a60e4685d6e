-- An answer as the caller gets it, where its parts are known. Assumes nothing.
use mathlib.Core.Path.{◌≡◌}
use Rattle.std.specs.Prelude.{Result, Ok, Err, MatchResult}
use Rattle.refusals.specs.declared.Refusal.{Refusal}
use Rattle.refusals.specs.Refusals.{refusal_number}
use Rattle.woldgrater.specs.declared.answered.Answered.{Answered}
use Rattle.woldgrater.specs.Answered.{answered}

pub answered_is : {C W : Type 0} (words : C → W) (zero : W) (answer : Result C Refusal) (a : Answered W)
    → MatchResult answer (λ c. (a.status ≡ 0) × (a.commands ≡ words c)) (λ r. (a.status ≡ refusal_number r) × (a.commands ≡ zero)) → a ≡ answered words zero answer
unfolding answered
answered_is words zero (Ok c) a h = λ i. record { status = h.0 i; commands = h.1 i }
answered_is words zero (Err r) a h = λ i. record { status = h.0 i; commands = h.1 i }
