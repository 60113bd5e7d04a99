-- A checked window is whole.
use Rattle.kinds.specs.declared.kind.PointKind.{Ghosts}
use Rattle.query.specs.Windows.{Whole}
use Rattle.scan.specs.declared.whole.WholeWindow.{WholeWindow}

pub whole : {P : Type 0} {g : Ghosts P} (w : WholeWindow P g) → Whole g.kind w.corners
whole w = record { low_on = w.low_on; high_on = w.high_on; uncrossed = w.uncrossed }
