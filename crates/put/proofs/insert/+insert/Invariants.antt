use Rattle.std.proofs.Common.{◌+◌, ◌-◌}
use Rattle.kinds.specs.Kind.{wide}
use Rattle.put.proofs.insert.+insert.Given as goal

abbrev pub decreases-insert : goal.decreases-insert
decreases-insert g l = (wide g.K.PointKind.kind + 1) - l.above
