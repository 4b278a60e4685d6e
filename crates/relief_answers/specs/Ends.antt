-- What becomes of a pulse. `drop k h` is the past of the row k accepted rows before here (crate past).
use Rattle.std.specs.Prelude.{ℕ, suc, ◌<◌, ◌≡◌, Bool, true, false, ◌&&◌, List, [], ◌∷◌, drop}
use Rattle.std.specs.Bool.{beq}
use Rattle.reals.specs.Four.{flag}
use Rattle.past.specs.Past.{every}
use Rattle.past.specs.Runs.{running}
use Rattle.relief_fan_group.specs.Constants.{proof_time}
use Rattle.relief_fan_group.specs.Reading.{Past, time_of_row}
use Rattle.relief_answers.specs.NextFan.{some_fan, next_to_start, next_to_stop}
use Rattle.relief_answers.specs.Latches.{supply_here, proof_here}

-- the row here has these supply flags and proofs
unfoldable pub alike : (supply proof : List Bool) → Past → Bool
alike supply proof [] = false
alike supply proof (x ∷ h) =
    every 2 (λ i. beq (flag x.supply i) (flag supply i)) && every 4 (λ i. beq (flag x.proof i) (flag proof i))

-- steady: the supply flags and proofs of this row have stood for 2 s
abbrev pub steady : Past → Bool
steady h = running time_of_row proof_time (alike (supply_here h) (proof_here h)) h

-- there is a fan that is next to start, and one that is next to stop
abbrev pub start_named : Past → Bool
start_named h = some_fan (next_to_start (supply_here h) (proof_here h))

abbrev pub stop_named : Past → Bool
stop_named h = some_fan (next_to_stop (supply_here h) (proof_here h))

-- How the pulse k rows ago has ended for a fan, here being h. `settled` clears the latch; `due`: the stage has had the fan on (off) for 2 s; `done`: the fan is
-- proven (unproven). The four cases exclude each other (`one_end` of proofs/Complete.antt), so each says exactly when.
pub data Ends (settled latch due done : Past → Bool) (k : ℕ) (h : Past) : Type 0 where
  -- lost: its own row is settled
  lost : settled (drop k h) ≡ true → Ends settled latch due done k h
  -- stands: no row is settled from there to here, and the latch is on
  stands : latch h ≡ true → ((j : ℕ) → j < suc k → settled (drop j h) ≡ false) → Ends settled latch due done k h
  -- served: at the first settled row after it, j rows ago, the fan is as the stage has had it for 2 s
  served : (j : ℕ) → j < k → settled (drop j h) ≡ true → ((m : ℕ) → j < m → m < suc k → settled (drop m h) ≡ false)
      → done (drop j h) ≡ true → due (drop j h) ≡ true → Ends settled latch due done k h
  -- cut short: at that row the fan is not done, and the stage has not had it so for 2 s
  cut_short : (j : ℕ) → j < k → settled (drop j h) ≡ true → ((m : ℕ) → j < m → m < suc k → settled (drop m h) ≡ false)
      → done (drop j h) ≡ false → due (drop j h) ≡ false → Ends settled latch due done k h

-- the number of its case
abbrev pub end_of : {settled latch due done : Past → Bool} {k : ℕ} {h : Past} → Ends settled latch due done k h → ℕ
end_of (lost c) = 0
end_of (stands l f) = 1
end_of (served j w c f p q) = 2
end_of (cut_short j w c f p q) = 3

-- How a steady pulse k rows ago has gone on for a fan that its table named, here being h; `wanted`: the stage has the fan on (off).
pub data GoesOn (settled latch wanted due done : Past → Bool) (k : ℕ) (h : Past) : Type 0 where
  -- commanded: the latch is on here, and the stage has had the fan so for 2 s
  commanded : latch h ≡ true → wanted h ≡ true → due h ≡ true → GoesOn settled latch wanted due done k h
  -- proved: at a row after it, j rows ago, the latch was cleared and the fan was as asked
  proved : (j : ℕ) → j < k → settled (drop j h) ≡ true → done (drop j h) ≡ true → GoesOn settled latch wanted due done k h
  -- taken off: at a row after it, j rows ago, the table no longer had the fan so
  taken_off : (j : ℕ) → j < k → wanted (drop j h) ≡ false → GoesOn settled latch wanted due done k h
