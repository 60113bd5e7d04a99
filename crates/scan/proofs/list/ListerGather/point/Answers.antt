use Rattle.std.proofs.Common.{◌+◌, [], ◌∷◌, ◌++◌, sym, ap, subst, inl, inr, arith, length-append}
use Rattle.scan.specs.Listing.{Listed, ListFair}
use Rattle.scan.proofs.Listing.{listed_pass, listed_put, fair_pass, fair_put}
use Rattle.scan.proofs.list.ListerGather.point.Goals as goal
use Rattle.scan.proofs.list.ListerGather.point.Goals.{then-self+then-at-buffer, else-self, else-self-via-then-self+else-at-buffer, else-self-via-else-self}

pub returns : goal.returns
returns g c =
    let k = g.K.PointKind.kind in
    let self = c.args.self.now in
    let buffer = c.args.buffer.now in
    let p = c.args.p.now in
    let m = rw c.in_ok-seen.ensures.ok_part at c.checked_add.ensures in let e = m.1 in
    record {
      lawful = λ before xs few v.
          let n = length-append xs (p ∷ []) in
          let a = v.all in
          elim c.if-self.branch [
            | then-self+then-at-buffer w ↦
                subst (λ x. Listed x.skip c.in_ok-seen.seen x.written before c.if-self.buffer (xs ++ p ∷ [])) (sym w.self-is)
                (subst (λ b. Listed self.skip c.in_ok-seen.seen (self.written + 1) before b (xs ++ p ∷ [])) (sym w.buffer-is)
                (listed_put before buffer xs self.skip self.seen self.written v p c.in_ok-seen.seen e w.if-self.true w.if-at-buffer.true))
            | else-self w ↦
                subst (λ x. Listed x.skip c.in_ok-seen.seen x.written before c.if-self.buffer (xs ++ p ∷ [])) (sym w.self-is)
                (subst (λ b. Listed self.skip c.in_ok-seen.seen self.written before b (xs ++ p ∷ [])) (sym w.buffer-is)
                (listed_pass before buffer xs self.skip self.seen self.written v (p ∷ []) c.in_ok-seen.seen (omega arith)
                (elim w.else-self.branch [
                  | else-self-via-then-self+else-at-buffer w' ↦ inr w'.if-at-buffer.false
                  | else-self-via-else-self w' ↦ inl (omega (arith, w'.if-self.false))
                ])))
          ];
      always = λ low high before on inside fair.
          elim c.if-self.branch [
            | then-self+then-at-buffer w ↦
                subst (λ x. ListFair k x.skip c.in_ok-seen.seen x.written low high before c.if-self.buffer) (sym w.self-is)
                (subst (λ b. ListFair k self.skip c.in_ok-seen.seen (self.written + 1) low high before b) (sym w.buffer-is)
                (fair_put k self.skip self.seen self.written low high before buffer fair p c.in_ok-seen.seen e w.if-self.true w.if-at-buffer.true on inside))
            | else-self w ↦
                subst (λ x. ListFair k x.skip c.in_ok-seen.seen x.written low high before c.if-self.buffer) (sym w.self-is)
                (subst (λ b. ListFair k self.skip c.in_ok-seen.seen self.written low high before b) (sym w.buffer-is)
                (fair_pass k self.skip self.seen self.written low high before buffer fair c.in_ok-seen.seen (omega arith)
                (elim w.else-self.branch [
                  | else-self-via-then-self+else-at-buffer w' ↦ inr w'.if-at-buffer.false
                  | else-self-via-else-self w' ↦ inl (omega (arith, w'.if-self.false))
                ])))
          ];
      refused = tt;
      same = elim c.if-self.branch [ then-self+then-at-buffer w ↦ ap (λ x. x.skip) w.self-is | else-self w ↦ ap (λ x. x.skip) w.self-is ];
    }
