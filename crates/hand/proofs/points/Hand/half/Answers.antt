use Rattle.std.proofs.Common.{eqb}
use Rattle.zorder.specs.Code.{bit_at}
use Rattle.kinds.specs.Kind.{wide, code_of}
use Rattle.hand.proofs.points.Hand.half.Goals as goal

pub returns : goal.returns
returns g c = let k = g.K.PointKind.kind in c.kept.ensures (λ q. eqb (bit_at (wide k) c.args.depth (code_of k q)) c.args.bit) (λ x r on post. post)
