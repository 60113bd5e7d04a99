use Rattle.std.proofs.Common.{◌∷◌, map, sym, refl, ap, ◌∙◌, arith}
use Rattle.std.specs.Int.{int_min, int_max}
use Rattle.zorder.specs.Sharing.{corner}
use Rattle.kinds.specs.Kind.{low_corner, high_corner}
use Rattle.hand.specs.Hands.{left}
use Rattle.hand.proofs.Steps.{count_is, left_is}
use Rattle.hand.proofs.points.Hand.entry.Goals as goal

pub loop-point-init : goal.loop-point-init
loop-point-init g c =
    let k = g.K.PointKind.kind in
    let h = c.args.self.now in
    let first = c.point-first.result in
    let n = count_is h in
    let e = left_is h 0 first (omega (arith, c.requires)) c.point-first.ensures in
    let is = ap (λ xs. first ∷ xs) (ap left c.into_iter-point-iterator.ensures.into_iter_gives ∙ c.iter_from-point-items.ensures) ∙ sym e in
    (ap (low_corner k) is, ap (high_corner k) is)

pub loop-point-preserved : goal.loop-point-preserved
loop-point-preserved g c =
    let f = g.K.PointKind.kind.coords in
    let rest = map f (left c.next.new.self) in
    let e = ap (map f) (sym c.in-Some.ensures.steps) in (
      ap (λ z. corner int_min z rest) c.lower-low.ensures ∙ ap (corner int_min (f c.loop-point.low)) e ∙ c.loop-point.invariant.0,
      ap (λ z. corner int_max z rest) c.upper-high.ensures ∙ ap (corner int_max (f c.loop-point.high)) e ∙ c.loop-point.invariant.1,
    )

pub returns : goal.returns
returns g c =
    let f = g.K.PointKind.kind.coords in
    let none = ap (map f) (sym c.in-None.ensures.steps.0) in
    record {
      page = refl;
      count = sym (count_is c.args.self.now);
      low = ap (corner int_min (f c.loop-point.low)) none ∙ c.loop-point.invariant.0;
      high = ap (corner int_max (f c.loop-point.high)) none ∙ c.loop-point.invariant.1;
    }
