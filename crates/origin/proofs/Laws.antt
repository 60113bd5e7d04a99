-- Placing at (0, 0) changes nothing, keeps points apart, and has one answer.
use Rattle.std.proofs.Common.{◌≡◌, ◌+◌, pos, ◌+ℤ◌, Ok, Err, sym, ap, ◌∙◌, subst, arith}
use Rattle.std.proofs.lemmas.Int.{ints}
use Rattle.refusal.specs.Numbers.{NumbersLaw}
use Rattle.kinds.specs.declared.lay.LayPoint.{LayPoint}
use Rattle.kinds.specs.Kind.{On}
use Rattle.kinds.specs.Lay.{lay_kind}
use Rattle.origin.specs.declared.origin.Origin.{Origin}
use Rattle.origin.specs.Placing.{sum}
use Rattle.origin.specs.Laws.{StartLaw, ApartLaw, OneLaw}

-- points with the same coordinates are one
same : (p q : LayPoint) → p.course ≡ q.course → p.shog ≡ q.shog → p ≡ q
same p q a b = ap (λ x. record { course = x; shog = p.shog }) a ∙ ap (λ x. record { course = q.course; shog = x }) b

-- at (0, 0) the sum is the point
still : (o : Origin) (p : LayPoint) → o.course ≡ 0 → o.shog ≡ pos 0 → sum o p ≡ p
still o p a b = same (sum o p) p (omega arith) (omega (arith, ints))

pub start : StartLaw
start o p (Ok q) a b on says = ap Ok (same q (sum o p) says.2 says.3 ∙ still o p a b)
start o p (Err e) a b on says = absurd (says.0 on (subst (On lay_kind) (sym (still o p a b)) on))

pub apart : ApartLaw
apart o p q r h k =
    let x : o.course + p.course ≡ o.course + q.course = sym h.2 ∙ k.2 in
    let y : (o.shog +ℤ p.shog) ≡ (o.shog +ℤ q.shog) = sym h.3 ∙ k.3 in
    same p q (omega arith) (omega (arith, ints))

pub one : NumbersLaw → OneLaw
one numbers o p (Ok q) (Ok r) h k = ap Ok (same q r (h.2 ∙ sym k.2) (h.3 ∙ sym k.3))
one numbers o p (Ok q) (Err e) h k = absurd (k.0 h.0 h.1)
one numbers o p (Err d) (Ok r) h k = absurd (h.0 k.0 k.1)
one numbers o p (Err d) (Err e) h k = ap Err (numbers d e (h.1 ∙ sym k.1))
