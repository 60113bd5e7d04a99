use Rattle.std.proofs.Common.{take, ap, ◌∙◌}
use Rattle.hand.specs.declared.places.Four.{Four}
use Rattle.hand.specs.Places.{sixteen}
use Rattle.hand.proofs.Sixteen.{sixteen_first}
use Rattle.hand.proofs.points.Hand.one.Goals as goal

pub returns : goal.returns
returns g c =
    ap (λ x. take 1 (sixteen x)) (c.all-2.ensures ∙ ap (λ (x : Four g.row.K.Denot). record { a = x; b = x; c = x; d = x }) c.all.ensures) ∙ sixteen_first c.args.p
