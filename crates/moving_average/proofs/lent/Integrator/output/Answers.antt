-- `output`: each callee's equation is folded into the definition.
use Rattle.std.proofs.Common.{rules, ◌≡◌, take}
use lib.ListN.{get_or}
use Rattle.moving_average.specs.State.{moving_average_output}
use Rattle.moving_average.specs.Lent.{joined}
use Rattle.moving_average.proofs.Held.{Sized, held_front, held_first}
use Rattle.moving_average.proofs.lent.Integrator.output.Goals as goal

pub returns : goal.returns
unfolding moving_average_output
returns c =
    let a = c.args in
    let whole = joined a.self a.times.now a.integrals.now in
    let sized : Sized whole = record { times = c.told-times; integrals = c.told-integrals } in
    let n = c.len-n.result in
    let e = c.len-n.ensures in
    let first : c.unwrap_or-first.result ≡ get_or (take n a.times.now) 0 c.start-start.result = search rules in
    rw (
      held_first whole sized n e _,
      held_front whole sized n e,
      ← c.start-start.ensures,
      ← c.mu_now-mu.ensures,
      ← c.mu_at-old.ensures,
      ← first,
      ← c.averaged_time.ensures,
    )
