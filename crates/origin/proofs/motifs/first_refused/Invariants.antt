use Rattle.std.proofs.Common.{ℕ, ◌<◌}
use Rattle.origin.specs.Motifs.{Placeable, at}
use Rattle.origin.proofs.motifs.first_refused.Given as goal

-- The points so far can be placed.
abbrev pub invariant-loop-i : goal.invariant-loop-i
invariant-loop-i l = (k : ℕ) → k < l.i → Placeable l.temporary.origin.now (at l.points k)
