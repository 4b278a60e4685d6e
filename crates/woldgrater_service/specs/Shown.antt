-- What a caller gets that asks for the signals of a row: its refusal, or what its commands are worked from, and what is left on its timers. What one gets that
-- asks for an alarm that a state remembers.
use Rattle.std.specs.Prelude.{ℤ, pos, Ok, Err, Option, None, Some}
use Rattle.econ_words.specs.EconomizerSignals.{economizer_signals_words, economizer_signals_zero}
use Rattle.economizer_controller.specs.declared.types.EconomizerSignals.{EconomizerSignals}
use Rattle.freeze_protection.specs.declared.types.FreezeLeft.{FreezeLeft}
use Rattle.freeze_protection.specs.declared.types.FreezeSignals.{FreezeSignals}
use Rattle.freeze_words.specs.FreezeLeft.{freeze_left_words, freeze_left_zero}
use Rattle.freeze_words.specs.FreezeSignals.{freeze_signals_words, freeze_signals_zero}
use Rattle.moving_average.specs.State.{moving_average_is_full}
use Rattle.refusals.specs.Refusals.{refusal_number}
use Rattle.refusals.specs.Refusals.{Verdict}
use Rattle.relief_fan_group.specs.Left.{relief_left}
use Rattle.relief_fan_group.specs.Step.{signals_at}
use Rattle.relief_fan_group.specs.Verdict.{relief_verdict}
use Rattle.relief_fan_group.specs.declared.types.ReliefLeft.{ReliefLeft}
use Rattle.relief_fan_group.specs.declared.types.ReliefRow.{ReliefRow}
use Rattle.relief_fan_group.specs.declared.types.ReliefSignals.{ReliefSignals}
use Rattle.relief_fan_group.specs.declared.types.ReliefState.{ReliefState}
use Rattle.relief_words.specs.ReliefLeft.{relief_left_words, relief_left_zero}
use Rattle.relief_words.specs.ReliefSignals.{relief_signals_words, relief_signals_zero}
use Rattle.woldgrater_service.specs.declared.econ.EconomizerShown.{EconomizerShown}
use Rattle.woldgrater_service.specs.declared.freeze.FreezeShown.{FreezeShown}
use Rattle.woldgrater_service.specs.declared.relief.AlarmGiven.{AlarmGiven}
use Rattle.woldgrater_service.specs.declared.relief.ReliefShown.{ReliefShown}

-- a row's refusal, or the signals that its commands are worked from, and what is left on its timers
unfoldable pub freeze_shown : Verdict → FreezeLeft → FreezeSignals → FreezeShown
freeze_shown (Ok tt) left signals = record { status = 0; signals = freeze_signals_words signals; left = freeze_left_words left }
freeze_shown (Err refusal) left signals = record { status = refusal_number refusal; signals = freeze_signals_zero; left = freeze_left_zero }

-- a row's refusal, or the signals that its commands are worked from
unfoldable pub economizer_shown : Verdict → EconomizerSignals → EconomizerShown
economizer_shown (Ok tt) signals = record { status = 0; signals = economizer_signals_words signals }
economizer_shown (Err refusal) signals = record { status = refusal_number refusal; signals = economizer_signals_zero }

-- a row's refusal, or the signals that its commands are worked from, and what is left on its timers
unfoldable pub relief_shown_by : Verdict → ReliefLeft → ReliefSignals → ReliefShown
relief_shown_by (Ok tt) left signals = record { status = 0; signals = relief_signals_words signals; left = relief_left_words left }
relief_shown_by (Err refusal) left signals = record { status = refusal_number refusal; signals = relief_signals_zero; left = relief_left_zero }

-- for a row on a state, whose window may have no room for it
unfoldable pub relief_shown : ReliefState → ReliefRow → ReliefShown
relief_shown state row =
    let signals = signals_at state row in
    relief_shown_by (relief_verdict state.blocks row (moving_average_is_full state.window row.time)) (relief_left state.blocks signals) signals

-- the alarm of a fan that there is, and 1; 0 and 0 where there is none
unfoldable pub alarm_given : Option ℤ → AlarmGiven
alarm_given (Some alarm) = record { known = 1; alarm = alarm }
alarm_given None = record { known = 0; alarm = pos 0 }
