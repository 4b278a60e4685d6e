-- What a caller gets of a row's answer.
use Rattle.std.specs.Prelude.{Result, Ok, Err}
use Rattle.refusals.specs.declared.Refusal.{Refusal}
use Rattle.refusals.specs.Refusals.{refusal_number}
use Rattle.woldgrater.specs.declared.answered.Answered.{Answered}

-- status 0 and the commands of an accepted row as words; the number of a refused one's refusal, and commands that are all 0
unfoldable pub answered : {C W : Type 0} → (C → W) → W → Result C Refusal → Answered W
answered words zero (Ok commands) = record { status = 0; commands = words commands }
answered words zero (Err refusal) = record { status = refusal_number refusal; commands = zero }
