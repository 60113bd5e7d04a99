use Rattle.std.proofs.Common.{sym}
use Rattle.hand.proofs.Steps.{count_is}
use Rattle.hand.proofs.points.Hand.count.Goals as goal

pub returns : goal.returns
returns g c = sym (count_is c.args.self.now)
