-- CDL.Reals.Switch, CDL.Logical.Switch and CDL.Integers.Switch, which are one block over three types; CDL.Conversions.BooleanToReal.
use Rattle.std.specs.Prelude.{Bool, cond, Float}
use Rattle.reals.specs.Constants.{plus_zero, one}

-- y = if u2 then u1 else u3
unfoldable pub switch : {A : Type 0} → Bool → A → A → A
switch u a b = cond u a b

-- y = if u then 1 else 0
unfoldable pub bool_to_real : Bool → Float
bool_to_real u = cond u one plus_zero
