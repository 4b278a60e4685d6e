-- CDL.Integers.Equal.
use Rattle.std.specs.Prelude.{Bool, false, eqb, ℤ, pos, negsuc}

-- y = (u1 == u2)
unfoldable pub integers_equal : ℤ → ℤ → Bool
integers_equal (pos m) (pos n) = eqb m n
integers_equal (pos m) (negsuc n) = false
integers_equal (negsuc m) (pos n) = false
integers_equal (negsuc m) (negsuc n) = eqb m n
