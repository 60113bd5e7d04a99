use Rattle.std.proofs.Common.{[], ◌∷◌, refl, arith, length-append}
use Rattle.scan.proofs.count.CounterGather.point.Goals as goal

pub returns : goal.returns
returns g c = record {
  lawful = λ before xs few met. let n = length-append xs (c.args.p.now ∷ []) in let m = rw c.in_ok-self.ensures.ok_part at c.checked_add-total.ensures in let e = m.1 in omega arith;
  always = λ low high before on inside fair. tt;
  refused = tt;
  same = refl;
}
