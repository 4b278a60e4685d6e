-- `value_of`: the digits that are left, after those of `value`, make the number of all.
use Rattle.std.proofs.Common.{◌≡◌, drop}
use Rattle.columns.specs.ScanSteps.{value_after}
use Rattle.columns.proofs.scan.value_of.Given as goal

abbrev pub invariant-loop-byte : goal.invariant-loop-byte
invariant-loop-byte l = value_after l.value (drop l.byte-index l.digits) ≡ value_after 0 l.digits
