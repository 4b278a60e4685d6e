-- CDL.Reals.Line with limitBelow and limitAbove: y = b + a · xLim, where a = (f2 − f1) / (x2 − x1) and b = f2 − a · x2.
use Rattle.std.specs.Prelude.{Float}
use Rattle.std.specs.Float.{binary64}
use Rattle.std.specs.Float.Ieee.{add, sub, mul, div}
use Rattle.reals.specs.Limits.{clamp}

-- the line through (x1, f1) and (x2, f2) at u limited to x1 .. x2; `buildings_line` of cdl_recurrences.rs works b from the far end, as the model does
unfoldable pub buildings_line : Float → Float → Float → Float → Float → Float
buildings_line x1 f1 x2 f2 u =
    let a = div binary64 (sub binary64 f2 f1) (sub binary64 x2 x1) in
    let b = sub binary64 f2 (mul binary64 a x2) in
    add binary64 b (mul binary64 a (clamp u x1 x2))
