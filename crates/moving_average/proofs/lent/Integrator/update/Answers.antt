-- `update`: where there is room, both arrays are written alike.
use mathlib.Core.Path.{◌≡◌, refl, sym, ◌∙◌}
use Rattle.std.specs.Prelude.{true}
use Rattle.moving_average.specs.State.{moving_average_is_full, moving_average_update, moving_average_stored}
use Rattle.moving_average.specs.Lent.{joined}
use Rattle.moving_average.proofs.Held.{Sized, counts, full_reads, placed, next_times, next_integrals, next_count}
use Rattle.moving_average.proofs.lent.Integrator.update.Goals as goal

pub returns-in_default : goal.returns-in_default
unfolding moving_average_update
returns-in_default c =
    let a = c.args in
    let s = joined a.self a.times.now a.integrals.now in
    let full : true ≡ moving_average_is_full s a.t =
    rw (← full_reads s (record { times = c.told-times; integrals = c.told-integrals }) a.t, ← c.place.ensures.place, c.in_default.is) refl in
    rw (← full)

pub returns : goal.returns
unfolding moving_average_update moving_average_stored
returns c =
    let a = c.args in
    let s = joined a.self a.times.now a.integrals.now in
    let sized : Sized s = record { times = c.told-times; integrals = c.told-integrals } in
    let p = placed s sized a.t _ _ (sym c.place.ensures.place ∙ c.in-Some.is) in
    let small = counts s a.t p.room in
    let mu = c.mu_now-mu.result in
    rw (
      p.room,
      ← c.mu_now-mu.ensures,
      ← c.start.ensures,
      next_times s sized small a.t mu,
      next_integrals s sized small a.t mu,
      next_count s sized small a.t mu,
      ← p.at,
      ← p.dropped,
      c.put-2.ensures,
      c.put.ensures,
    )
