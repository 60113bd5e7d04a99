use Rattle.std.proofs.Common.{not, eqb, ap, ◌∙◌}
use Rattle.kinds.specs.Kind.{code_of}
use Rattle.hand.proofs.points.Hand.without.Goals as goal

pub returns : goal.returns
returns g c =
    let code = code_of g.K.PointKind.kind in
    c.kept.ensures (λ q. not (eqb (code c.args.p.now) (code q))) (λ x r on post. post ∙ ap (λ n. not (eqb n (code x.now))) c.code-gone.ensures)
