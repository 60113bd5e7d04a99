-- Raised values keep and tell the order of coordinates.
use Rattle.std.proofs.Common.{◌≡◌, ◌^◌, ◌<◌, ◌≤◌, ℤ, ◌-ℤ◌, nat_abs, ◌≤ℤ◌, arith}
use Rattle.std.proofs.lemmas.Int.{ints}
use Rattle.zorder.specs.Code.{Axis, raised, OnAxis}

pub nat_abs_le : (l x y : ℤ) → l ≤ℤ x → x ≤ℤ y → nat_abs (x -ℤ l) ≤ nat_abs (y -ℤ l)
nat_abs_le l x y p q = omega (arith, ints)

pub raised_lt : (a : Axis) (z : ℤ) → OnAxis a z → raised a z < 2 ^ a.bits
raised_lt a z h = omega (arith, ints)

pub raised_eq : (a : Axis) (y z : ℤ) → OnAxis a y → OnAxis a z → raised a y ≡ raised a z → y ≡ z
raised_eq a y z h k e = omega (arith, ints)
