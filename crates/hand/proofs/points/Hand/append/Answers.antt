use Rattle.std.proofs.Common.{◌++◌, length, drop, sym, ap, ◌∙◌, arith, length-append}
use Rattle.hand.specs.Hands.{listed, left}
use Rattle.hand.proofs.Steps.{behind}
use Rattle.hand.proofs.points.Hand.append.Goals as goal

pub push-requires : goal.push-requires
push-requires g c =
    let e = ap length c.loop-point.invariant in
    let a = length-append (listed c.loop-point.self) (left c.loop-point.point-iterator) in
    let b = length-append (listed c.args.self.now) (drop c.args.from (listed c.args.other.now)) in
    let n = ap length c.in-Some.ensures.steps in
    omega (arith, c.requires)

pub loop-point-preserved : goal.loop-point-preserved
loop-point-preserved g c = behind (listed c.loop-point.self) _ _ (left c.next.new.self) c.in-Some.point (ap (λ xs. listed c.loop-point.self ++ xs) (sym c.in-Some.ensures.steps) ∙ c.loop-point.invariant) c.push.ensures
