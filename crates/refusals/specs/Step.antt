-- What a row gives, by its verdict: commands and the next state where it is accepted; the refusal, no command and the old state where it is refused.
use Rattle.std.specs.Prelude.{◌≡◌, Ok, Err}
use Rattle.refusals.specs.declared.step.Step.{Step}
use Rattle.refusals.specs.Refusals.{Verdict}

module _ {C S : Type 0} where
  -- a row whose commands, were it accepted, and whose next state are given
  abbrev pub stepped : Verdict → C → S → S → Step C S
  stepped (Ok tt) commands next state = record { answer = Ok commands; state = next }
  stepped (Err refusal) commands next state = record { answer = Err refusal; state = state }

  -- the same, where commands and next state are told by what they are worked by
  abbrev pub Stepped : (C × S → Type 0) → Verdict → S → Step C S → Type 0
  Stepped Worked (Ok tt) state step = (commands : C) × (next : S) × Worked (commands, next) × (step ≡ record { answer = Ok commands; state = next })
  Stepped Worked (Err refusal) state step = step ≡ record { answer = Err refusal; state = state }
