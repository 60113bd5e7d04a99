use Rattle.std.proofs.Common.{◌+◌, ◌-◌}
use Rattle.kinds.specs.Kind.{wide}
use Rattle.take.proofs.below.+take_below.Given as goal

abbrev pub decreases-take_below : goal.decreases-take_below
decreases-take_below g l = wide g.K.PointKind.kind + 1 - l.above
