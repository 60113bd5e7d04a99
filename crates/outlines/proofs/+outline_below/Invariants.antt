use Rattle.std.proofs.Common.{suc, ◌-◌}
use Rattle.kinds.specs.Kind.{wide}
use Rattle.outlines.proofs.+outline_below.Given as goal

-- the depth rises and stays below W
abbrev pub decreases-outline_below : goal.decreases-outline_below
decreases-outline_below g l = suc (wide g.K.PointKind.kind) - l.above
