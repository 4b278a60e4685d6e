-- The words of case R3: the commands of the four fans as lists, a row with other alarms, and a state that remembers others.
use Rattle.std.specs.Prelude.{List, [], ◌∷◌, ℤ, Float}
use Rattle.relief_fan_group.specs.declared.types.ReliefRow.{ReliefRow}
use Rattle.relief_fan_group.specs.declared.types.ReliefBlocks.{ReliefBlocks}
use Rattle.relief_fan_group.specs.declared.types.ReliefState.{ReliefState}
use Rattle.relief_fan_group.specs.declared.types.ReliefCommands.{ReliefCommands}

abbrev pub speeds_of : ReliefCommands → List Float
speeds_of c = c.fan_speed_1 ∷ c.fan_speed_2 ∷ c.fan_speed_3 ∷ c.fan_speed_4 ∷ []

abbrev pub dampers_of : ReliefCommands → List Float
dampers_of c = c.damper_1 ∷ c.damper_2 ∷ c.damper_3 ∷ c.damper_4 ∷ []

-- the same row with these alarms
abbrev pub with_alarm : ReliefRow → List ℤ → ReliefRow
with_alarm row alarm = record { time = row.time; supply = row.supply; pressure = row.pressure; alarm = alarm; proof = row.proof }

-- the same blocks, remembering these alarms
abbrev pub remembering : List ℤ → ReliefBlocks → ReliefBlocks
remembering alarms blocks =
    record {
      last = blocks.last;
      alarms = alarms;
      gre_thr = blocks.gre_thr;
      les_thr = blocks.les_thr;
      tim = blocks.tim;
      lat = blocks.lat;
      gre_thr1 = blocks.gre_thr1;
      gre_thr2 = blocks.gre_thr2;
      up_tim = blocks.up_tim;
      pre = blocks.pre;
      les_thr1 = blocks.les_thr1;
      les_thr2 = blocks.les_thr2;
      tru_del = blocks.tru_del;
      lat2 = blocks.lat2;
      les_thr3 = blocks.les_thr3;
      dow_tim = blocks.dow_tim;
      pre1 = blocks.pre1;
      les_thr4 = blocks.les_thr4;
      les_thr5 = blocks.les_thr5;
      tru_del1 = blocks.tru_del1;
      lat1 = blocks.lat1;
      gre_thr3 = blocks.gre_thr3;
    }

-- and the same state
abbrev pub state_remembering : List ℤ → ReliefState → ReliefState
state_remembering alarms state = record { window = state.window; blocks = remembering alarms state.blocks }
