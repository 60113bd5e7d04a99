use Rattle.std.proofs.Common.{refl, arith, length-append}
use Rattle.scan.proofs.count.CounterGather.unread.Goals as goal

pub returns : goal.returns
returns g c = record {
  lawful = λ before buffer xs ys long count few met. let n = length-append xs ys in let m = rw c.in_ok-self.ensures.ok_part at c.checked_add-total.ensures in let e = m.1 in omega arith;
  always = λ low high before buffer long fair. tt;
  refused = tt;
  same = refl;
}
