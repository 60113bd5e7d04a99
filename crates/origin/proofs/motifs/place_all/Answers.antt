use Rattle.std.proofs.Common.{arith}
use Rattle.origin.proofs.Turns.{one_more}
use Rattle.origin.proofs.motifs.place_all.Goals as goal

pub loop-point-preserved : goal.loop-point-preserved
loop-point-preserved c =
    one_more c.set-temporary.result.origin.now _ _ _ _ (omega arith) c.loop-point.invariant.0 c.loop-point.invariant.1 c.in_ok-point.ensures
