use Rattle.std.proofs.Common.{◌≡◌, ℕ, ◌+◌, ◌*◌, ◌<◌, get_or}
use Rattle.store.proofs.twin.scatter.Given as goal

abbrev pub invariant-loop-i : goal.invariant-loop-i
invariant-loop-i l = (k : ℕ) → k < l.i → (get_or l.buf (2 * k) 0 ≡ get_or l.even k 0) × (get_or l.buf (2 * k + 1) 0 ≡ get_or l.odd k 0)
