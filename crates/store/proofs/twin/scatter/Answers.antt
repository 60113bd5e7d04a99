use Rattle.std.proofs.Common.{◌≢◌, sym, arith, rules, below_more}
use Rattle.std.proofs.lemmas.List.{places}
use Rattle.store.proofs.Twins.{woven}
use Rattle.store.proofs.twin.scatter.Goals as goal

pub loop-i-preserved : goal.loop-i-preserved
loop-i-preserved c =
    below_more _ _
    (λ k h. let ne : k ≢ c.loop-i.i = omega arith in let v = c.loop-i.invariant k h in (search (rules, places), search (rules, places)))
    (search (rules, places), search (rules, places))

pub returns : goal.returns
returns c = record { gives = sym (woven _ _ _ (omega arith) (omega arith) (λ k h. c.loop-i.invariant k (omega arith))) }
