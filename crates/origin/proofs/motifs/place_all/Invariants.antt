use Rattle.origin.specs.Motifs.{Placed, Stay}
use Rattle.origin.proofs.motifs.place_all.Given as goal

-- The points so far are placed, and the others are as they were.
abbrev pub invariant-loop-point : goal.invariant-loop-point
invariant-loop-point l = Placed l.temporary.origin.now l.point-index l.initial.points l.points × Stay l.point-index l.initial.points l.points
