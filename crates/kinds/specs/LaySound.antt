-- Lay points are a sound kind.
use Rattle.std.specs.Prelude.{◌≡◌, ℕ, List, [], ◌∷◌, ℤ, unsigned_abs}
use Rattle.std.proofs.Common.{ap, ap₂, arith, rules}
use Rattle.std.proofs.lemmas.Int.{ints}
use Rattle.zorder.specs.Code.{OnAxes}
use Rattle.kinds.specs.Kind.{Sound}
use Rattle.kinds.specs.Lay.{lay_axes, lay_kind}
use Rattle.kinds.specs.declared.lay.LayPoint.{LayPoint}

every : (zs : List ℤ) → OnAxes lay_axes zs → (p : LayPoint) × (lay_kind.coords p ≡ zs)
every (x ∷ y ∷ []) h = (record { course = unsigned_abs x; shog = y }, ap (λ z. z ∷ y ∷ []) (omega (arith, ints)))
every [] h = elim h [ ]
every (x ∷ []) h = elim h.1 [ ]
every (x ∷ y ∷ z ∷ zs) h = elim h.1.1 [ ]

one : (p q : LayPoint) → lay_kind.coords p ≡ lay_kind.coords q → p ≡ q
one p q e =
    let c : p.course ≡ q.course = cc in
    let s : p.shog ≡ q.shog = cc in
    ap₂ (λ (x : ℕ) (z : ℤ). record { course = x; shog = z }) c s

-- what the kind must show
pub lay_sound : Sound lay_kind
lay_sound = search (rules, every, one)
