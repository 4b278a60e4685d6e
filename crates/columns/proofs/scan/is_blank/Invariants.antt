-- `is_blank`: `blank` says whether the bytes seen are spaces.
use Rattle.std.proofs.Common.{◌≡◌}
use Rattle.columns.specs.ScanSteps.{every, is_space}
use Rattle.columns.proofs.scan.is_blank.Given as goal

abbrev pub invariant-loop-byte : goal.invariant-loop-byte
invariant-loop-byte l = l.blank ≡ every is_space l.column 0 l.byte-index
