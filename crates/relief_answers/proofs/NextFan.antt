-- The next fans are a table of the row's supply flags and proofs, whatever went before: the per-fan thresholds have no band, so that what they give is told by the row,
-- and on all 64 rows it is the table. Assumes nothing.
use Prim.Native.Nat.{ℕ}
use mathlib.Core.Path.{◌≡◌, refl, ap, ◌∙◌}
use mathlib.Core.Bool.{Bool, true, false, not, ◌&&◌, ◌||◌}
use mathlib.Core.List.{List, [], ◌∷◌}
use lib.Dec.{T}
use lib.Ieee.{Float, add, sub, mul, div, lt, of_bits, is_nan}
use Rattle.reals.specs.Constants.{plus_zero, half}
use Rattle.reals.specs.Four.{flag, real, each4}
use Rattle.reals.specs.Sign.{abs}
use Rattle.reals.specs.Order.{lesser, smallest}
use Rattle.reals.specs.Switch.{switch, bool_to_real}
use Rattle.reals.specs.declared.threshold.ThresholdMode.TheVariants.{Less}
use Rattle.reals.specs.declared.threshold.ThresholdState.{ThresholdState}
use Rattle.reals.specs.Threshold.{crosses, threshold_below, threshold_output, threshold_update}
use Rattle.reals.proofs.Truth.{table1}
use Rattle.past.specs.Past.{every}
use Rattle.relief_fans.specs.Table.{ena_rel, gai}
use Rattle.relief_fans.specs.Flags.{not_each, or_each, xor_each, all_of}
use Rattle.relief_fans.specs.Orders.{pro1, pro2, swi, swi3, distance}
use Rattle.relief_fans.specs.Blocks.{threshold_outputs, threshold_updates}
use Rattle.relief_fan_group.specs.declared.types.ReliefRow.{ReliefRow}
use Rattle.relief_fan_group.specs.declared.types.ReliefBlocks.{ReliefBlocks}
use Rattle.relief_fan_group.specs.Signals.{pressure_control, stage_up, stage_down, relief_signals}
use Rattle.relief_fan_group.specs.Step.{relief_blocks, relief_next}
use Rattle.relief_fan_group.specs.Reading.{Past, mean}
use Rattle.relief_fan_group.specs.Blocks.{blocks_of, signals_of}
use Rattle.relief_answers.specs.NextFan.{first_in_order, next_to_start, next_to_stop, fans_after_up, fans_after_down, off_after_down}
use Rattle.relief_answers.proofs.Flags.{both_are, two, four, all64, at64, same4, four_same}

-- ---- four thresholds below a half, without a band: each gives whether its input is below a half, whatever it gave before
abbrev below : List Float → List Bool
below u = each4 (λ i. lt (real u i) half)

abbrev below_half : Bool → ThresholdState
below_half gave = record { threshold = half; hysteresis = plus_zero; previous = gave; mode = Less }

record Bandless (b : List ThresholdState) : Type 0 where
  gave : ℕ → Bool
  are : b ≡ each4 (λ i. below_half (gave i))

gives : (p : Bool) (u : Float) → threshold_output (below_half p) u ≡ lt u half
unfolding threshold_output crosses
gives false u = table1 (λ a. a || false) (λ a. a) tt (lt u half)
gives true u = ap (λ (x : Float). lt u x) (unfold add of_bits in refl)

bandless_output : (b : List ThresholdState) → Bandless b → (u : List Float) → threshold_outputs b u ≡ below u
unfolding threshold_outputs
bandless_output b f u =
    rw (f.are, gives (f.gave 0) (real u 0), gives (f.gave 1) (real u 1), gives (f.gave 2) (real u 2), gives (f.gave 3) (real u 3)) refl

bandless_update : (b : List ThresholdState) → Bandless b → (u : List Float) → Bandless (threshold_updates b u)
unfolding threshold_updates threshold_update
bandless_update b f u = record { gave = λ i. threshold_output (below_half (f.gave i)) (real u i); are = rw f.are refl }

bandless_new : Bandless (each4 (λ i. threshold_below half plus_zero))
unfolding threshold_below
bandless_new = record { gave = λ i. false; are = refl }

-- so after every past; `thr` are four of the group's thresholds, and `input` is what they are given
module _ (thr : ReliefBlocks → List ThresholdState) (input : ReliefBlocks → ReliefRow → Float → List Float)
    (starts : thr relief_blocks ≡ each4 (λ i. threshold_below half plus_zero))
    (next : (b : ReliefBlocks) (x : ReliefRow) (a : Float) → thr (relief_next b x (relief_signals b x a)) ≡ threshold_updates (thr b) (input b x a)) where
  always : (h : Past) → Bandless (thr (blocks_of h))
  unfolding blocks_of
  always [] = rw starts bandless_new
  always (x ∷ h) = rw (next (blocks_of h) x (mean (x ∷ h))) (bandless_update (thr (blocks_of h)) (always h) (input (blocks_of h) x (mean (x ∷ h))))

  told : (h : Past) (u : List Float) → threshold_outputs (thr (blocks_of h)) u ≡ below u
  told h u = bandless_output (thr (blocks_of h)) (always h) u

told1 : (h : Past) (u : List Float) → threshold_outputs (blocks_of h).les_thr1 u ≡ below u
unfolding relief_blocks relief_next
told1 = told (λ b. b.les_thr1) (λ b x a. (relief_signals b x a).up.pro1) refl (λ b x a. refl)

told2 : (h : Past) (u : List Float) → threshold_outputs (blocks_of h).les_thr2 u ≡ below u
unfolding relief_blocks relief_next
told2 = told (λ b. b.les_thr2) (λ b x a. (relief_signals b x a).up.up_distance) refl (λ b x a. refl)

told4 : (h : Past) (u : List Float) → threshold_outputs (blocks_of h).les_thr4 u ≡ below u
unfolding relief_blocks relief_next
told4 = told (λ b. b.les_thr4) (λ b x a. (relief_signals b x a).down.pro2) refl (λ b x a. refl)

told5 : (h : Past) (u : List Float) → threshold_outputs (blocks_of h).les_thr5 u ≡ below u
unfolding relief_blocks relief_next
told5 = told (λ b. b.les_thr5) (λ b x a. (relief_signals b x a).down.down_distance) refl (λ b x a. refl)

-- ---- the fans after a stage, worked as the sequence works them, from the supplies and the proofs alone
unfoldable pub up_worked : List Bool → List Bool → List Bool
up_worked supply proof =
    let order = gai (ena_rel supply) in
    let waiting = pro1 order (ena_rel supply) proof in
    or_each (below (distance order (smallest (swi3 (all_of (not_each proof)) waiting (swi (below waiting) waiting))))) proof

unfoldable pub down_worked : List Bool → List Bool → List Bool
down_worked supply proof =
    let order = gai (ena_rel supply) in
    let running = pro2 order proof in
    xor_each (below (distance order (smallest (swi (below running) running)))) proof

up_worked_lem : (x : ReliefRow) (h : Past) → (signals_of x h).up.or2 ≡ up_worked x.supply x.proof
unfolding relief_signals stage_up pressure_control up_worked
up_worked_lem x h = rw (told1 h (pro1 (gai (ena_rel x.supply)) (ena_rel x.supply) x.proof)) (rw (told2 h) refl)

down_worked_lem : (x : ReliefRow) (h : Past) → (signals_of x h).down.xor ≡ down_worked x.supply x.proof
unfolding relief_signals stage_down pressure_control down_worked
down_worked_lem x h = rw (told4 h (pro2 (gai (ena_rel x.supply)) x.proof)) (rw (told5 h) refl)

-- ---- the table: on all 64 rows what is worked is what it says
pub next_fans : T (all64 (λ s p. same4 (up_worked s p) (fans_after_up s p) && same4 (down_worked s p) (fans_after_down s p)))
unfolding every up_worked down_worked fans_after_up fans_after_down next_to_start next_to_stop first_in_order gai ena_rel pro1 pro2 or_each xor_each distance smallest swi3 swi all_of not_each lesser switch bool_to_real abs is_nan lt add sub mul div of_bits
next_fans = tt

module _ (s p : List Bool) where
  tabled : (same4 (up_worked (two s) (four p)) (fans_after_up (two s) (four p)) ≡ true)
      × (same4 (down_worked (two s) (four p)) (fans_after_down (two s) (four p)) ≡ true)
  tabled =
      both_are (same4 (up_worked (two s) (four p)) (fans_after_up (two s) (four p))) (same4 (down_worked (two s) (four p)) (fans_after_down (two s) (four p)))
      (at64 (λ s p. same4 (up_worked s p) (fans_after_up s p) && same4 (down_worked s p) (fans_after_down s p)) next_fans s p)

  -- only these six flags count
  up_flags : up_worked s p ≡ four (up_worked (two s) (four p))
  unfolding up_worked gai ena_rel pro1 or_each distance smallest swi3 swi all_of not_each
  up_flags = refl

  down_flags : down_worked s p ≡ four (down_worked (two s) (four p))
  unfolding down_worked gai ena_rel pro2 xor_each distance smallest swi
  down_flags = refl

  pub up_only : fans_after_up s p ≡ fans_after_up (two s) (four p)
  unfolding fans_after_up next_to_start first_in_order
  up_only = refl

  pub down_only : fans_after_down s p ≡ fans_after_down (two s) (four p)
  unfolding fans_after_down next_to_stop first_in_order
  down_only = refl

  up_is : up_worked s p ≡ fans_after_up s p
  up_is = up_flags ∙ four_same (up_worked (two s) (four p)) (fans_after_up (two s) (four p)) tabled.0 ∙ unfold fans_after_up next_to_start first_in_order in refl

  down_is : down_worked s p ≡ fans_after_down s p
  down_is = down_flags ∙ four_same (down_worked (two s) (four p)) (fans_after_down (two s) (four p)) tabled.1 ∙ unfold fans_after_down next_to_stop first_in_order in refl

-- ---- after every past: the fans that a stage up has on (or2), and those that a stage down has on (xor) and off (not5)
pub or2_is : (x : ReliefRow) (h : Past) → (signals_of x h).up.or2 ≡ fans_after_up x.supply x.proof
or2_is x h = up_worked_lem x h ∙ up_is x.supply x.proof

pub xor_is : (x : ReliefRow) (h : Past) → (signals_of x h).down.xor ≡ fans_after_down x.supply x.proof
xor_is x h = down_worked_lem x h ∙ down_is x.supply x.proof

pub not5_is : (x : ReliefRow) (h : Past) → (signals_of x h).down.not5 ≡ off_after_down x.supply x.proof
not5_is x h = negated ∙ rw (xor_is x h) refl
  where
    negated : (signals_of x h).down.not5 ≡ each4 (λ i. not (flag (signals_of x h).down.xor i))
    negated = unfold relief_signals stage_down not_each in refl
