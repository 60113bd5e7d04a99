-- Bar points are a sound kind.
use Rattle.std.specs.Prelude.{◌≡◌, ℕ, List, [], ◌∷◌, ℤ, pos, unsigned_abs}
use Rattle.std.proofs.Common.{ap, ap₂, ◌∙◌, arith, rules}
use Rattle.std.proofs.lemmas.Int.{ints}
use Rattle.zorder.specs.Code.{OnAxes}
use Rattle.kinds.specs.Kind.{Sound}
use Rattle.kinds.specs.Bar.{bar_axes, bar_kind}
use Rattle.kinds.specs.declared.bar.BarPoint.{BarPoint}

every : (zs : List ℤ) → OnAxes bar_axes zs → (p : BarPoint) × (bar_kind.coords p ≡ zs)
every (x ∷ y ∷ z ∷ []) h =
    let p : pos (unsigned_abs x) ≡ x = omega (arith, ints) in
    let q : pos (unsigned_abs y) ≡ y = omega (arith, ints) in
    (record { course = unsigned_abs x; bar = unsigned_abs y; shog = z }, cc)
every [] h = elim h [ ]
every (x ∷ []) h = elim h.1 [ ]
every (x ∷ y ∷ []) h = elim h.1.1 [ ]
every (w ∷ x ∷ y ∷ z ∷ zs) h = elim h.1.1.1 [ ]

abbrev made : ℕ → ℕ → ℤ → BarPoint
made x y z = record { course = x; bar = y; shog = z }

one : (p q : BarPoint) → bar_kind.coords p ≡ bar_kind.coords q → p ≡ q
one p q e =
    let c : p.course ≡ q.course = cc in
    let b : p.bar ≡ q.bar = cc in
    let s : p.shog ≡ q.shog = cc in
    ap (λ x. made x p.bar p.shog) c ∙ ap₂ (made q.course) b s

-- what the kind must show
pub bar_sound : Sound bar_kind
bar_sound = search (rules, every, one)
