use Rattle.std.proofs.Common.{[], ◌∷◌, ◌++◌, length, take, drop, sym, ap, ◌∙◌, arith}
use Rattle.std.proofs.lemmas.List.{append_assoc, length-take-le}
use Rattle.hand.specs.Hands.{listed}
use Rattle.hand.proofs.points.Hand.with.Goals as goal

pub push-requires : goal.push-requires
push-requires g c =
    let ps = listed c.args.self.now in
    let b = ap length c.first-hand.ensures ∙ length-take-le c.place-place.result ps c.place-place.ensures.within in
    let m = g.met.K.PointKind.sound.small in
    omega (arith, c.requires.few, c.place-place.ensures.within)

pub returns : goal.returns
returns g c =
    let ps = listed c.args.self.now in
    let r = c.place-place.result in
    let p = c.args.p.now in
    c.append.ensures ∙ ap (λ x. x ++ drop r ps) (c.push.ensures ∙ ap (λ x. x ++ (p ∷ [])) c.first-hand.ensures) ∙ append_assoc (take r ps) (p ∷ []) (drop r ps) ∙ sym c.place-place.ensures.splits
