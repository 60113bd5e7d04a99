-- Facts about coordinates that hold in one way at most, so that a struct can carry them.
use Rattle.std.specs.Prelude.{List, [], ◌∷◌, ℤ, ◌≤ℤ◌, ◌<ℤ◌}
use Rattle.std.specs.Coded.{×_prop, Unit-prop}
use lib.Dec.{T_prop}
use Rattle.zorder.specs.Code.{Axis, OnAxes}
use Rattle.zorder.specs.Sharing.{Under}

≤ℤ-prop : {a b : ℤ} → IsProp (a ≤ℤ b)
≤ℤ-prop p q = λ i. record { le = T_prop _ p.le q.le i }

<ℤ-prop : {a b : ℤ} → IsProp (a <ℤ b)
<ℤ-prop p q = λ i. record { lt = T_prop _ p.lt q.lt i }

pub OnAxes-prop : (axes : List Axis) (zs : List ℤ) → IsProp (OnAxes axes zs)
OnAxes-prop [] [] = Unit-prop
OnAxes-prop [] (z ∷ zs) = λ p. absurd p
OnAxes-prop (a ∷ axes) [] = λ p. absurd p
OnAxes-prop (a ∷ axes) (z ∷ zs) = ×_prop (×_prop ≤ℤ-prop <ℤ-prop) (OnAxes-prop axes zs)

pub Under-prop : (xs ys : List ℤ) → IsProp (Under xs ys)
Under-prop [] [] = Unit-prop
Under-prop [] (y ∷ ys) = λ p. absurd p
Under-prop (x ∷ xs) [] = λ p. absurd p
Under-prop (x ∷ xs) (y ∷ ys) = ×_prop ≤ℤ-prop (Under-prop xs ys)
