-- `is_long`: `long` says whether the bytes seen are digits.
use Rattle.std.proofs.Common.{◌≡◌}
use Rattle.columns.specs.ScanSteps.{every, is_digit}
use Rattle.columns.proofs.scan.is_long.Given as goal

abbrev pub invariant-loop-byte : goal.invariant-loop-byte
invariant-loop-byte l = l.long ≡ every is_digit l.column 2 l.byte-index
