-- `rooftop_row_lent`: an accepted row, from what its parts ensure.
use Rattle.std.proofs.Common.{rules, w64, to_z-of_z}
use Rattle.rooftop.specs.Step.{rooftop_row}
use Rattle.rooftop.proofs.lent.rooftop_row_lent.Goals as goal

pub returns-in-Ok : goal.returns-in-Ok
unfolding rooftop_row
returns-in-Ok c =
    rw (
      to_z-of_z {w = w64} {z = c.stage_told-stage.result} (search rules),
      ← c.falls-falling.ensures,
      ← rw (to_z-of_z {w = w64} {z = c.args.held.stage} (search rules)) at c.economizer_row_of.ensures,
      ← c.economizer_accepted.ensures,
      ← c.is_full-full.ensures c.args.integrals.now c.told-integrals,
      ← c.rooftop_verdict.ensures,
      c.in-Ok.is,
      ← c.freeze_row_of.ensures,
      ← c.freeze_accepted.ensures.accepted,
      ← c.stage_told-stage.ensures,
      ← c.relief_row_of-relief_row.ensures,
      ← c.relief_accepted_lent.ensures.commands,
      ← c.relief_accepted_lent.ensures.after,
    )
