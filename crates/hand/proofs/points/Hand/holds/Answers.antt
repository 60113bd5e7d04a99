use Rattle.std.proofs.Common.{sym, ap, ◌∙◌}
use Rattle.kinds.specs.Kind.{On, code_of}
use Rattle.tree.specs.Sets.{live}
use Rattle.hand.specs.Hands.{left}
use Rattle.hand.proofs.Steps.{next_has, live_here, live_on}
use Rattle.hand.proofs.points.Hand.holds.Goals as goal

pub returns-then-sought-code : goal.returns-then-sought-code
returns-then-sought-code g c =
    let code = code_of g.K.PointKind.kind in
    sym (live_here code c.args.p.now _ _ c.in-Some.point (left c.next.new.self) c.code-sought.ensures c.code.ensures c.if-sought-code.true) ∙ ap (live code c.args.p.now) (sym c.in-Some.ensures.steps) ∙ c.loop-point.invariant.0

pub loop-point-preserved : goal.loop-point-preserved
loop-point-preserved g c =
    let k = g.K.PointKind.kind in
    let code = code_of k in (
      sym (live_on code c.args.p.now _ _ c.in-Some.point (left c.next.new.self) c.code-sought.ensures c.code.ensures c.if-sought-code.false) ∙ ap (live code c.args.p.now) (sym c.in-Some.ensures.steps) ∙ c.loop-point.invariant.0,
      (next_has (On k) _ _ c.in-Some.point c.in-Some.ensures.steps c.loop-point.invariant.1).1,
    )
