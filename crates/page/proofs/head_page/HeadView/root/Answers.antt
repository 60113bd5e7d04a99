use Rattle.std.proofs.Common.{take, drop, ap, ◌∙◌, subst}
use Rattle.page.specs.Causes.{AllZero}
use Rattle.page.proofs.Ends.{cut_root, root_agrees}
use Rattle.page.proofs.head_page.HeadView.root.Goals as goal

pub returns-then-zeros : goal.returns-then-zeros
returns-then-zeros g c =
    let k = g.K.PointKind.kind in
    let bs = c.args.self.now.bytes.now in
    let z = c.entry_size-end.result in
    let e = c.entry_size-end.ensures in
    let cut = cut_root bs z ∙ ap (λ n. take n (drop 5 bs)) e in
    let part = subst AllZero cut c.if-zeros.ensures in
    record { part = part; whole = tt; view = root_agrees k bs _ _ part }

pub returns : goal.returns
returns g c =
    let k = g.K.PointKind.kind in
    let bs = c.args.self.now.bytes.now in
    let z = c.entry_size-end.result in
    let e = c.entry_size-end.ensures in
    let cut = cut_root bs z ∙ ap (λ n. take n (drop 5 bs)) e in
    let same = c.over.ensures ∙ cut in
    let some = subst (λ x. AllZero x → ⊥) cut c.if-zeros.ensures in
    record { part = (same, some); whole = c.over.result.long; view = root_agrees k bs _ _ (same, some) }
