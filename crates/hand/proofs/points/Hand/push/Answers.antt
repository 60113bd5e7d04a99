use Rattle.std.proofs.Common.{◌+◌, ◌<◌, ◌≤◌, take, ap, ◌∙◌, arith}
use Rattle.std.proofs.lemmas.List.{take_more_set}
use Rattle.hand.specs.Places.{sixteen}
use Rattle.hand.proofs.Steps.{count_is}
use Rattle.hand.proofs.Sixteen.{sixteen_long, sixteen_set}
use Rattle.hand.proofs.points.Hand.push.Goals as goal

pub at-row-requires : goal.at-row-requires
at-row-requires g c = let n = count_is c.args.self.now in omega (arith, c.requires)

pub put-requires-2 : goal.put-requires-2
put-requires-2 g c = let n = count_is c.args.self.now in omega (arith, c.requires)

pub invariant_of-self : goal.invariant_of-self
invariant_of-self g c =
    let n = count_is c.args.self.now in
    let le : c.args.self.now.count + 1 ≤ 16 = omega (arith, c.requires) in
    record { few = le }

pub returns : goal.returns
returns g c =
    let h = c.args.self.now in
    let i = h.count in
    let n = count_is h in
    let lt : i < 16 = omega (arith, c.requires) in
    let m = sixteen_long h.points in
    ap (take (i + 1)) (sixteen_set h.points c.put-2.new.self c.at-row.result c.put.new.self c.args.p i lt c.at-row.ensures c.put.ensures c.put-2.ensures)
    ∙ take_more_set (sixteen h.points) i c.args.p (omega arith)
