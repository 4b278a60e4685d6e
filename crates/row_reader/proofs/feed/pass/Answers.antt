-- `pass`: by the phase of the reader.
use Rattle.std.proofs.Common.{inl, inr}
use Rattle.row_kinds.specs.Rows.{carried}
use Rattle.row_reader.proofs.Phases.{not_first, stopped_passes}
use Rattle.row_reader.proofs.feed.pass.Goals as goal

pub returns-in-First : goal.returns-in-First
returns-in-First c =
    elim c.in-First.is [
      | inl e ↦ not_first _ c.requires.named e
      | inr e ↦ stopped_passes (carried c.args.reader.now c.args.times.now c.args.integrals.now) e (record { times_long = c.told-times; integrals_long = c.told-integrals }) c.requires.named _ _ _ _
    ]
