use Rattle.std.proofs.Common.{[], ◌∷◌, ◌++◌, refl, ap, ◌∙◌, arith}
use Rattle.page.specs.Form.{padded, entry_bytes, encode}
use Rattle.page.specs.Checks.{summary}
use Rattle.page.proofs.encode.directory_page.Goals as goal

pub returns : goal.returns
unfolding encode
returns g c =
    let k = g.K.PointKind.kind in
    let d = c.DIRECTORY_PAGE.result in
    let L = entry_bytes k (summary k c.args.low.now) in
    let H = entry_bytes k (summary k c.args.high.now) in
    let s = c.entry_size.ensures in
    let l = c.put_entry.ensures.long in
    let x2 = c.put_bytes.ensures [] refl refl in
    let x3 = c.put_entry.ensures.adds (d ∷ (c.args.depth ∷ [])) refl x2 in
    let x4 = c.put_entry-2.ensures.adds (d ∷ (c.args.depth ∷ L)) (omega arith) x3 in
    x4 ∙ ap (λ x. padded (x ∷ (c.args.depth ∷ (L ++ H)))) (c.DIRECTORY_PAGE.ensures ∙ g.met.K.PointKind.constants.4)
