use Rattle.std.proofs.Common.{rules, length, ap, arith}
use Rattle.hand.proofs.Steps.{left_is}
use Rattle.hand.proofs.points.iter.PointsIterator.next.Goals as goal

pub returns-clause-steps : goal.returns-clause-steps
returns-clause-steps g c = left_is c.args.self.now.hand.now c.args.self.now.next c.point-point.result c.if-self.false c.point-point.ensures

pub returns-clause-goes : goal.returns-clause-goes
returns-clause-goes g c =
    let n = ap length (left_is c.args.self.now.hand.now c.args.self.now.next c.point-point.result c.if-self.false c.point-point.ensures) in
    record { on = λ f. (search rules, f, omega (arith, n)); keeps = search rules; rests = λ f. search rules }
