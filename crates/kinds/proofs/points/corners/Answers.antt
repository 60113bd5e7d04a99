use Rattle.std.proofs.Common.{◌∙◌}
use Rattle.std.specs.Int.{int_min, int_max}
use Rattle.zorder.proofs.Cornering.{corner_more, corner_end}
use Rattle.kinds.proofs.points.corners.Goals as goal

pub loop-p-preserved : goal.loop-p-preserved
loop-p-preserved g c =
    let xs = c.args.more.now in
    let f = g.K.PointKind.kind.coords in
    let i = c.loop-p.p-index in
    let t = c.loop-p-test.true in (
      corner_more f int_min xs i (f c.loop-p.low) (f c.lower-low.result) c.p-item.result t c.p-item.is c.lower-low.ensures ∙ c.loop-p.invariant.0,
      corner_more f int_max xs i (f c.loop-p.high) (f c.upper-high.result) c.p-item.result t c.p-item.is c.upper-high.ensures ∙ c.loop-p.invariant.1,
    )

pub returns : goal.returns
returns g c =
    let xs = c.args.more.now in
    let f = g.K.PointKind.kind.coords in
    let i = c.loop-p.p-index in
    record {
      low = corner_end f int_min xs i (f c.loop-p.low) c.loop-p-test.false ∙ c.loop-p.invariant.0;
      high = corner_end f int_max xs i (f c.loop-p.high) c.loop-p-test.false ∙ c.loop-p.invariant.1;
    }
