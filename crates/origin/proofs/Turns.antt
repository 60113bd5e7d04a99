-- One more point of a motif placed.
use Rattle.std.proofs.Common.{ℕ, ◌+◌, ◌<◌, ◌≢◌, List, length, set, Ok, subst, arith, get_or-set_other, get_or-set_same, below_more}
use Rattle.kinds.specs.declared.lay.LayPoint.{LayPoint}
use Rattle.origin.specs.declared.origin.Origin.{Origin}
use Rattle.origin.specs.Placing.{PlaceSays}
use Rattle.origin.specs.Motifs.{at, Placed, Stay}

pub one_more : (o : Origin) (before after : List LayPoint) (i : ℕ) (q : LayPoint) → i < length after → Placed o i before after → Stay i before after → PlaceSays o (at after i) (Ok q)
    → Placed o (i + 1) before (set after i q) × Stay (i + 1) before (set after i q)
one_more o before after i q lt placed stay says = (
  below_more (λ k. PlaceSays o (at before k) (Ok (at (set after i q) k))) i
      (λ k h. let ne : k ≢ i = omega arith in rw get_or-set_other (placed k h))
      (rw get_or-set_same (subst (λ p. PlaceSays o p (Ok q)) (stay i (omega arith)) says)),
  λ k h. let ne : k ≢ i = omega arith in rw get_or-set_other (stay k (omega arith)),
)
