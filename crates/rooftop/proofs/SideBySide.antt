-- Three runs side by side: after any joined rows from either start each sequence by itself accepts every row that it is handed, the joined verdict is the one that the
-- list tells, and the joined state moves on to that of the three. Assumes nothing.
use Rattle.std.specs.Prelude.{Ok, Err}
use mathlib.Core.Path.{◌≡◌, refl, ap, sym, ◌∙◌}
use mathlib.Core.Bool.{Bool, true, false, ◌||◌}
use mathlib.Core.List.{List, [], ◌∷◌}
use lib.Dec.{T}
use lib.IntN.{pos}
use Rattle.reals.specs.Seen.{seen_above}
use Rattle.refusals.specs.Refusals.{Verdict, judge}
use Rattle.refusals.specs.Step.{stepped}
use Rattle.past.specs.Acceptance.{last_time}
use Rattle.past.specs.Whole.{state_after, accepted, next_by}
use Rattle.past.proofs.Whole.{all_accepted, accepted_here, accepted_before, accepted_whole, accepted_all, whole_more}
use Rattle.economizer_controller.specs.Step.{economizer_row}
use Rattle.economizer_controller.specs.Reading as economizer
use Rattle.economizer_controller.proofs.Demand3 as economizer_reads
use Rattle.freeze_protection.specs.Step.{freeze_row}
use Rattle.freeze_protection.specs.Commands.{freeze_commands}
use Rattle.freeze_protection.specs.Reading.{stage_from}
use Rattle.freeze_protection.specs.Reading as freeze
use Rattle.freeze_protection.proofs.Demand3 as freeze_reads
use Rattle.moving_average.specs.Past.{moving_average_of}
use Rattle.relief_fan_group.specs.Step.{relief_row}
use Rattle.relief_fan_group.specs.Reading as relief
use Rattle.relief_fan_group.proofs.Demand3 as relief_reads
use Rattle.relief_fan_group.proofs.Windowed as windowed
use Rattle.rooftop.specs.declared.types.RooftopRow.{RooftopRow}
use Rattle.rooftop.specs.declared.types.RooftopState.{RooftopState}
use Rattle.rooftop.specs.Wiring.{economizer_row_of, freeze_row_of, relief_row_of}
use Rattle.rooftop.specs.Verdict.{numbers_finite, falls}
use Rattle.rooftop.specs.Step.{freeze_accepted, economizer_handed, freeze_handed, freeze_at, relief_handed, rooftop_commands, rooftop_next, verdict_at, rooftop_row}
use Rattle.rooftop.specs.Reading.{Past, time_of_row, pressure_of_row, alarm_of_row, verdict_of}
use Rattle.rooftop.specs.SideBySide.{economizer_alone, freeze_alone, relief_alone, wired, state_alone}
use Rattle.rooftop.specs.Told.{rooftop_returned}
use Rattle.rooftop.proofs.OwnEntries.{time_finite, verdict_is_judged, economizer_accepts, freeze_accepts, relief_accepts, own_economizer, own_freeze, own_relief}

abbrev pub windowed_row : windowed.WindowedRow RooftopRow
windowed_row = record { time = time_of_row; value = pressure_of_row; alarm = alarm_of_row; all_finite = numbers_finite; time_finite = time_finite }

-- where every joined row of a past is accepted, its times are in order and the window had room for each
pub good_of : (h : Past) → T (all_accepted verdict_of h) → T (windowed.good windowed_row h)
unfolding verdict_of
good_of h a = rw (accepted_whole verdict_of h a) at (windowed.accepted_good windowed_row h)

module _ (k : Bool) where
  -- ---- the rows that each is handed have the times of the joined ones, and the relief fan group's their pressures
  economizer_times : (h : Past) → last_time economizer.time_of_row (wired k h).economizer ≡ last_time time_of_row h
  unfolding wired economizer_row_of
  economizer_times [] = refl
  economizer_times (x ∷ h) = refl

  freeze_times : (h : Past) → last_time freeze.time_of_row (wired k h).freeze ≡ last_time time_of_row h
  unfolding wired freeze_row_of
  freeze_times [] = refl
  freeze_times (x ∷ h) = refl

  relief_times : (h : Past) → last_time relief.time_of_row (wired k h).relief ≡ last_time time_of_row h
  unfolding wired relief_row_of
  relief_times [] = refl
  relief_times (x ∷ h) = refl

  averaged : (h : Past) → moving_average_of relief.time_of_row relief.pressure_of_row (wired k h).relief ≡ moving_average_of time_of_row pressure_of_row h
  unfolding moving_average_of wired relief_row_of
  averaged [] = refl
  averaged (x ∷ h) = rw (averaged h) refl

  -- ---- each sequence accepts every row that it is handed: nothing of them is left out
  pub record Alone (h : Past) : Type 0 where
    pub economizer : accepted economizer.verdict_of (wired k h).economizer ≡ (wired k h).economizer
    pub freeze : accepted freeze.verdict_of (wired k h).freeze ≡ (wired k h).freeze
    pub relief : accepted relief.verdict_of (wired k h).relief ≡ (wired k h).relief

  module _ (h : Past) (alone : Alone h) where
    abbrev pub here : RooftopState
    here = state_alone k (wired k h)

    -- what the three states keep is what the joined list tells
    economizer_last : here.economizer.last ≡ last_time time_of_row h
    economizer_last = economizer_reads.last_reads (wired k h).economizer ∙ ap (last_time economizer.time_of_row) alone.economizer ∙ economizer_times h

    freeze_last : here.freeze.last ≡ last_time time_of_row h
    freeze_last = freeze_reads.last_reads k (wired k h).freeze ∙ ap (last_time freeze.time_of_row) alone.freeze ∙ freeze_times h

    relief_last : here.relief.blocks.last ≡ last_time time_of_row h
    relief_last = relief_reads.last_after (wired k h).relief ∙ ap (last_time relief.time_of_row) alone.relief ∙ relief_times h

    window : here.relief.window ≡ moving_average_of time_of_row pressure_of_row h
    window = relief_reads.window_after (wired k h).relief ∙ ap (moving_average_of relief.time_of_row relief.pressure_of_row) alone.relief ∙ averaged h

    module _ (x : RooftopRow) (g : T (windowed.good windowed_row h)) where
      -- so is the joined verdict
      verdict_here : verdict_at here x ≡ verdict_of h x
      unfolding falls verdict_of
      verdict_here =
          verdict_is_judged here x
          ∙ rw (economizer_last, freeze_last, relief_last, window, thrice (seen_above (last_time time_of_row h) x.time))
          (unfold judge in windowed.verdict_is windowed_row x h g (last_time time_of_row h) refl)
        where
          thrice : (b : Bool) → (b || b || b) ≡ b
          thrice true = refl
          thrice false = refl

      -- where the joined row is accepted, each sequence accepts the row that it is handed
      module _ (e : verdict_of h x ≡ Ok tt) where
        ok : verdict_at here x ≡ Ok tt
        ok = verdict_here ∙ e

        pub economizer_takes : economizer.verdict_of (wired k h).economizer (economizer_handed here x) ≡ Ok tt
        economizer_takes =
            ap (λ (p : economizer.Past). economizer.verdict_of p (economizer_handed here x)) (sym alone.economizer)
            ∙ sym (economizer_reads.verdict_reads (economizer_handed here x) (wired k h).economizer) ∙ economizer_accepts here x ok

        pub freeze_takes : freeze.verdict_of (wired k h).freeze (freeze_handed here x) ≡ Ok tt
        freeze_takes =
            ap (λ (p : freeze.Past). freeze.verdict_of p (freeze_handed here x)) (sym alone.freeze)
            ∙ sym (freeze_reads.verdict_reads k (freeze_handed here x) (wired k h).freeze) ∙ freeze_accepts here x ok

        pub relief_takes : relief.verdict_of (wired k h).relief (relief_handed here x) ≡ Ok tt
        relief_takes =
            ap (λ (p : relief.Past). relief.verdict_of p (relief_handed here x)) (sym alone.relief)
            ∙ sym (relief_reads.verdict_reads (relief_handed here x) (wired k h).relief) ∙ (unfold relief_row_of in relief_accepts here x ok)

        -- so nothing is left out with it either
        alone_more : Alone (x ∷ h)
        unfolding wired
        alone_more = record {
          economizer = whole_more economizer.verdict_of (economizer_handed here x) (wired k h).economizer alone.economizer economizer_takes;
          freeze = whole_more freeze.verdict_of (freeze_handed here x) (wired k h).freeze alone.freeze freeze_takes;
          relief = whole_more relief.verdict_of (relief_handed here x) (wired k h).relief alone.relief relief_takes;
        }

        -- the stage among the commands is the one that is read off freeze protection's rows
        pub stage_here : (freeze_at here x).0.freeze_protection_stage ≡ stage_from k (freeze_handed here x ∷ (wired k h).freeze)
        unfolding freeze_accepted freeze_commands
        stage_here = rw alone.freeze at (freeze_reads.stage_reads k (freeze_handed here x) (wired k h).freeze (rw alone.freeze freeze_takes))

        -- and the joined state moves on to that of the three
        moves_here : rooftop_next here x ≡ state_alone k (wired k (x ∷ h))
        unfolding wired state_after
        moves_here = λ i. record {
          stage = pos (stage_here i);
          economizer = (sym (own_economizer here x ok) i).state;
          freeze = (sym (own_freeze here x ok) i).state;
          relief = (sym (own_relief here x ok) i).state;
        }

  -- ---- over all accepted rows
  pub alone : (h : Past) → T (all_accepted verdict_of h) → Alone h
  unfolding accepted
  alone [] a = unfold wired in (record { economizer = refl; freeze = refl; relief = refl })
  alone (x ∷ h) a = let b = accepted_before verdict_of x h a in alone_more h (alone h b) x (good_of h b) (accepted_here verdict_of x h a)

  -- of every list of joined rows, refused ones too
  pub nothing_left_out : (l : List RooftopRow) → Alone (accepted verdict_of l)
  nothing_left_out l = alone (accepted verdict_of l) (accepted_all verdict_of l)

  -- ---- one row further
  module _ (x : RooftopRow) (h : Past) (a : T (all_accepted verdict_of h)) where
    pub verdict_reads : verdict_at (state_alone k (wired k h)) x ≡ verdict_of h x
    verdict_reads = verdict_here h (alone h a) x (good_of h a)

    -- where it is accepted, each sequence by itself answers the row that it is handed with what the joined answer has of it
    pub answers_alone : verdict_of h x ≡ Ok tt →
        let w = wired k h in
        let s = state_alone k w in
        ((economizer_row (economizer_alone w.economizer) (economizer_handed s x)).answer ≡ Ok (rooftop_commands s x).economizer)
        × ((freeze_row (freeze_alone k w.freeze) (freeze_handed s x)).answer ≡ Ok (rooftop_commands s x).freeze)
        × ((relief_row (relief_alone w.relief) (relief_handed s x)).answer ≡ Ok (rooftop_commands s x).relief)
    answers_alone e =
        let s = state_alone k (wired k h) in
        let o = verdict_reads ∙ e in
        (λ i. (own_economizer s x o i).answer, λ i. (own_freeze s x o i).answer, λ i. (own_relief s x o i).answer)

    pub returned_reads : rooftop_returned (state_alone k (wired k h)) x ≡ next_by (verdict_of h x) (state_alone k (wired k (x ∷ h))) (state_alone k (wired k h))
    unfolding rooftop_row
    returned_reads =
        ap (λ (v : Verdict). (stepped v (rooftop_commands s x) (rooftop_next s x) s).state) verdict_reads ∙ go (verdict_of h x) (moves_here h (alone h a) x (good_of h a))
      where
        s : RooftopState
        s = state_alone k (wired k h)

        go : (v : Verdict) → (v ≡ Ok tt → rooftop_next s x ≡ state_alone k (wired k (x ∷ h)))
            → (stepped v (rooftop_commands s x) (rooftop_next s x) s).state ≡ next_by v (state_alone k (wired k (x ∷ h))) s
        go (Ok v) f = f refl
        go (Err r) f = refl
