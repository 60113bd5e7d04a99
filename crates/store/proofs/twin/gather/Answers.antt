use Rattle.std.proofs.Common.{arith}
use Rattle.store.proofs.Twins.{woven}
use Rattle.store.proofs.twin.gather.Goals as goal

pub returns : goal.returns
returns c = record { gives = woven _ _ _ (omega arith) (omega arith) (λ k h. c.loop-i.invariant k (omega arith)) }
