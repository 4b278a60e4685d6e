-- What each sequence is handed, read off the joined rows' own fields: the freeze stage hangs on nothing that the economizer hands on, the economizer is handed the stage of
-- the row before, and the relief fan group the row's own fan, or none at stage 3. Assumes nothing.
use Rattle.std.specs.Prelude.{Ok}
use Prim.Native.Nat.{ℕ}
use mathlib.Core.Path.{◌≡◌, refl, sym, ap, ◌∙◌}
use mathlib.Core.Bool.{Bool, not, ◌&&◌}
use mathlib.Core.List.{List, [], ◌∷◌, map}
use lib.Dec.{T, eqb}
use lib.IntN.{pos}
use lib.Ieee.{of_bits}
use Rattle.reals.specs.Seen.{seen_above}
use Rattle.refusals.specs.Refusals.{Verdict, judge}
use Rattle.refusals.proofs.Accepting.{judged, judge_accepts}
use Rattle.past.specs.Acceptance.{last_time, verdict_after}
use Rattle.past.specs.Whole.{next_by, state_after, accepted}
use Rattle.past.proofs.Whole.{all_accepted, accepted_here, accepted_before, accepted_all, whole_more}
use Rattle.freeze_protection.specs.declared.types.FreezeRow.{FreezeRow}
use Rattle.freeze_protection.specs.declared.types.FreezeSignals.{FreezeSignals}
use Rattle.freeze_protection.specs.declared.types.FreezeState.{FreezeState}
use Rattle.freeze_protection.specs.Verdict as freeze_verdict
use Rattle.freeze_protection.specs.Signals.{freeze_calls, freeze_signals}
use Rattle.freeze_protection.specs.Step.{freeze_next}
use Rattle.freeze_protection.specs.Reading.{stage_from}
use Rattle.freeze_protection.specs.Reading as freeze
use Rattle.freeze_protection.specs.Told.{freeze_returned}
use Rattle.freeze_protection.proofs.Demand3.{verdict_reads, returned_is, stage_reads}
use Rattle.freeze_protection.proofs.Stages.{fan_by_stage}
use Rattle.relief_fan_group.proofs.Windowed as windowed
use Rattle.rooftop.specs.declared.types.RooftopRow.{RooftopRow}
use Rattle.rooftop.specs.declared.types.RooftopState.{RooftopState}
use Rattle.rooftop.specs.Wiring.{economizer_row_of, freeze_row_of, relief_row_of}
use Rattle.rooftop.specs.Verdict.{numbers_finite}
use Rattle.rooftop.specs.Step.{freeze_accepted, freeze_handed, freeze_at}
use Rattle.rooftop.specs.Reading.{Past, time_of_row, verdict_of, freeze_fields, stage_of, economizer_rows, relief_rows}
use Rattle.rooftop.specs.SideBySide.{freeze_alone, wired, state_alone}
use Rattle.rooftop.proofs.OwnEntries.{each_finite}
use Rattle.rooftop.proofs.SideBySide.{windowed_row, good_of, alone, freeze_takes, stage_here}

-- ---- freeze protection takes the joined rows' own fields, with 0 for what is handed on
-- they have the times of the joined rows
own_times : (h : Past) → last_time freeze.time_of_row (map freeze_fields h) ≡ last_time time_of_row h
unfolding freeze_row_of
own_times [] = refl
own_times (x ∷ h) = refl

-- and finite numbers
own_numbers : (x : RooftopRow) → T (numbers_finite x) → T (freeze_verdict.numbers_finite (freeze_fields x))
unfolding freeze_verdict.numbers_finite freeze_row_of of_bits
own_numbers x t =
    let each = each_finite x t in
    rw (
      each.time,
      each.heating_coil,
      each.minimum_outdoor_damper,
      each.supply_air_temperature,
      each.supply_fan_speed,
      each.cooling_coil,
      each.mixed_air_temperature,
    )
    tt

-- so an accepted joined row is accepted with them
own_accepted : (x : RooftopRow) (h : Past) → verdict_of h x ≡ Ok tt → freeze.verdict_of (map freeze_fields h) (freeze_fields x) ≡ Ok tt
unfolding verdict_of verdict_after judge freeze_row_of
own_accepted x h e =
    let j : judge (numbers_finite x) x.time (last_time time_of_row h) ≡ Ok tt = windowed.accepted_judged windowed_row x h e in
    let t = judged (numbers_finite x) x.time (seen_above (last_time time_of_row h) x.time) j in
    rw (own_times h) (judge_accepts (freeze_verdict.numbers_finite (freeze_fields x)) x.time _ (own_numbers x t.0) t.1 t.2)

own_whole : (h : Past) → T (all_accepted verdict_of h) → accepted freeze.verdict_of (map freeze_fields h) ≡ map freeze_fields h
unfolding accepted
own_whole [] a = refl
own_whole (x ∷ h) a =
    whole_more freeze.verdict_of (freeze_fields x) (map freeze_fields h) (own_whole h (accepted_before verdict_of x h a)) (own_accepted x h (accepted_here verdict_of x h a))

-- of every list of joined rows, refused ones too: freeze protection leaves nothing out, and what is proved of its lists holds of this one
pub own_fields_taken : (l : List RooftopRow) → accepted freeze.verdict_of (map freeze_fields (accepted verdict_of l)) ≡ map freeze_fields (accepted verdict_of l)
own_fields_taken l = own_whole (accepted verdict_of l) (accepted_all verdict_of l)

module _ (k : Bool) where
  -- ---- the stage
  -- whatever is handed on, the signals are the same, and so are the blocks after the row
  module _ (s : FreezeState) (here : RooftopState) (x : RooftopRow) where
    same_signals : freeze_signals s (freeze_handed here x) ≡ freeze_signals s (freeze_fields x)
    unfolding freeze_signals freeze_calls freeze_row_of
    same_signals = refl

    same_next : freeze_next s (freeze_handed here x) (freeze_signals s (freeze_handed here x)) ≡ freeze_next s (freeze_fields x) (freeze_signals s (freeze_fields x))
    unfolding freeze_next freeze_signals freeze_calls freeze_row_of
    same_next = refl

  -- freeze protection by itself, on a row that it accepts
  moved : (l : freeze.Past) (x : FreezeRow) → accepted freeze.verdict_of l ≡ l → freeze.verdict_of l x ≡ Ok tt
      → freeze_returned (freeze_alone k l) x ≡ freeze_next (freeze_alone k l) x (freeze_signals (freeze_alone k l) x)
  moved l x a e =
      returned_is (freeze_alone k l) x
      ∙ ap (λ (v : Verdict). next_by v (freeze_next (freeze_alone k l) x (freeze_signals (freeze_alone k l) x)) (freeze_alone k l))
      (verdict_reads k x l ∙ ap (λ (p : freeze.Past). freeze.verdict_of p x) a ∙ e)

  same_state : (h : Past) → T (all_accepted verdict_of h) → freeze_alone k (wired k h).freeze ≡ freeze_alone k (map freeze_fields h)
  unfolding wired state_after
  same_state [] a = refl
  same_state (x ∷ h) a =
      let b = accepted_before verdict_of x h a in
      let e = accepted_here verdict_of x h a in
      let here = state_alone k (wired k h) in
      moved (wired k h).freeze (freeze_handed here x) (alone k h b).freeze (freeze_takes k h (alone k h b) x (good_of h b) e)
      ∙ same_next (freeze_alone k (wired k h).freeze) here x
      ∙ ap (λ (s : FreezeState). freeze_next s (freeze_fields x) (freeze_signals s (freeze_fields x))) (same_state h b)
      ∙ sym (moved (map freeze_fields h) (freeze_fields x) (own_whole h b) (own_accepted x h e))

  -- the stage of the rows that freeze protection was handed is that of the joined rows' own fields
  pub own_stage : (h : Past) → T (all_accepted verdict_of h) → stage_from k (wired k h).freeze ≡ stage_of k h
  unfolding wired
  own_stage [] a = refl
  own_stage (x ∷ h) a =
      let b = accepted_before verdict_of x h a in
      let e = accepted_here verdict_of x h a in
      let w = (wired k h).freeze in
      let here = state_alone k (wired k h) in
      let whole = (alone k h b).freeze in
      let own = own_whole h b in
      sym (rw whole at (stage_reads k (freeze_handed here x) w (rw whole (freeze_takes k h (alone k h b) x (good_of h b) e))))
      ∙ ap (λ (s : FreezeSignals). s.stage) (same_signals (freeze_alone k w) here x)
      ∙ ap (λ (s : FreezeState). (freeze_signals s (freeze_fields x)).stage) (same_state h b)
      ∙ rw own at (stage_reads k (freeze_fields x) (map freeze_fields h) (rw own (own_accepted x h e)))

  -- ---- the rows that the economizer was handed
  pub own_economizer_rows : (h : Past) → T (all_accepted verdict_of h) → (wired k h).economizer ≡ economizer_rows k h
  unfolding wired
  own_economizer_rows [] a = refl
  own_economizer_rows (x ∷ h) a =
      let b = accepted_before verdict_of x h a in
      λ i. economizer_row_of x (pos (own_stage h b i)) ∷ own_economizer_rows h b i

  -- ---- and those that the relief fan group was
  own_fan : (x : RooftopRow) (h : Past) (a : T (all_accepted verdict_of (x ∷ h)))
      → (freeze_at (state_alone k (wired k h)) x).0.supply_fan_status ≡ x.supply_fan_status && not (eqb (stage_of k (x ∷ h)) 3)
  unfolding freeze_accepted freeze_row_of wired
  own_fan x h a =
      let b = accepted_before verdict_of x h a in
      let here = state_alone k (wired k h) in
      fan_by_stage here.freeze (freeze_handed here x)
      ∙ ap (λ (stage : ℕ). x.supply_fan_status && not (eqb stage 3)) (stage_here k h (alone k h b) x (good_of h b) (accepted_here verdict_of x h a) ∙ own_stage (x ∷ h) a)

  pub own_relief_rows : (h : Past) → T (all_accepted verdict_of h) → (wired k h).relief ≡ relief_rows k h
  unfolding wired
  own_relief_rows [] a = refl
  own_relief_rows (x ∷ h) a = λ i. relief_row_of x (own_fan x h a i) ∷ own_relief_rows h (accepted_before verdict_of x h a) i
