use Rattle.std.proofs.Common.{◌≡◌, ◌+◌, ◌-◌, take, drop, sym, refl, ap, ◌∙◌, arith}
use Rattle.kinds.specs.Kind.{entry_length}
use Rattle.page.proofs.Runs.{drop_plus}
use Rattle.page.proofs.Pairs.{high_is}
use Rattle.page.proofs.directory_page.DirectoryView.high.Goals as goal

pub returns : goal.returns
returns g c =
    let k = g.K.PointKind.kind in
    let bs = c.args.self.now.bytes.now in
    let z = c.entry_size-size.result in
    let e = c.entry_size-size.ensures in
    let long : ((2 + z) + z) - (2 + z) ≡ z = omega arith in
    let part = c.over.ensures ∙ ap (λ n. take n (drop (2 + z) bs)) long ∙ ap (λ n. take n (drop (2 + n) bs)) e in
    record {
      part = part;
      whole = c.over.result.long;
      view = λ n l h r. part ∙ ap (take (entry_length k)) (drop_plus 2 (entry_length k) bs) ∙ sym (high_is k bs (entry_length k) refl (record { depth = n; low_entry = l; high_entry = h; reads = r }));
    }
