use Rattle.std.proofs.Common.{refl, inl, inr, arith, length-append}
use Rattle.scan.proofs.Listing.{listed_pass, fair_pass}
use Rattle.scan.proofs.list.ListerGather.unread.Goals as goal
use Rattle.scan.proofs.list.ListerGather.unread.Goals.{else-seen-self-via-then-seen-self+else-self-places, else-seen-self-via-else-seen-self}

-- all are passed over, or no place is left
pub returns : goal.returns
returns g c =
    let m = rw c.in_ok-seen.ensures.ok_part at c.checked_add-seen.ensures in let e = m.1 in
    record {
      lawful = λ before buffer xs ys long count few v.
          let n = length-append xs ys in
          let a = v.all in
          listed_pass before buffer xs c.args.self.now.skip c.args.self.now.seen c.args.self.now.written v ys c.in_ok-seen.seen (omega arith)
          (elim c.else-seen-self.branch [
            | else-seen-self-via-then-seen-self+else-self-places w ↦ inr (omega (arith, w.if-self-places.false))
            | else-seen-self-via-else-seen-self w ↦ inl w.if-seen-self.false
          ]);
      always = λ low high before buffer long fair.
          fair_pass g.K.PointKind.kind c.args.self.now.skip c.args.self.now.seen c.args.self.now.written low high before buffer fair c.in_ok-seen.seen (omega arith)
          (elim c.else-seen-self.branch [
            | else-seen-self-via-then-seen-self+else-self-places w ↦ inr (omega (arith, w.if-self-places.false))
            | else-seen-self-via-else-seen-self w ↦ inl w.if-seen-self.false
          ]);
      refused = tt;
      same = refl;
    }
