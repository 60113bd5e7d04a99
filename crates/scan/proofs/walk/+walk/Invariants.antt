use Rattle.std.proofs.Common.{suc, ◌-◌}
use Rattle.kinds.specs.Kind.{wide}
use Rattle.scan.proofs.walk.+walk.Given as goal

-- the depth rises and stays below W
abbrev pub decreases-walk : goal.decreases-walk
decreases-walk g l = suc (wide g.K.PointKind.kind) - l.above
