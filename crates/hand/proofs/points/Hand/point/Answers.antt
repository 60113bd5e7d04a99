use Rattle.std.proofs.Common.{◌<◌, sym, ◌∙◌, arith}
use Rattle.std.proofs.lemmas.List.{get_or-take}
use Rattle.hand.specs.Places.{sixteen}
use Rattle.hand.proofs.Sixteen.{sixteen_at}
use Rattle.hand.proofs.points.Hand.point.Goals as goal

pub returns : goal.returns
returns g c =
    let h = c.args.self.now in
    let i = c.args.place in
    let f = h.few in
    let lt : i < 16 = omega (arith, c.requires) in
    sixteen_at h.points c.at.result c.at-2.result i lt c.at.ensures c.at-2.ensures ∙ sym (get_or-take h.count (sixteen h.points) i c.at-2.result c.requires)
