use Rattle.std.proofs.Common.{◌+◌, ◌*◌, [], ◌∷◌, ◌++◌, sym, refl, ap, ◌∙◌, arith}
use Rattle.kinds.specs.Bytes.{bytes}
use Rattle.kinds.specs.Kind.{size_of}
use Rattle.page.specs.Form.{padded, entry_bytes, root_bytes, encode}
use Rattle.page.specs.Checks.{summary, root_summary}
use Rattle.page.proofs.Ends.{none_zeros}
use Rattle.page.proofs.Writing.{more_zeros}
use Rattle.page.proofs.encode.head_page.Goals as goal

pub returns-in-Some : goal.returns-in-Some
unfolding encode
returns-in-Some g c =
    let k = g.K.PointKind.kind in
    let d = c.HEAD_PAGE.result in
    let h = c.args.head.now in
    let F = bytes 2 h.first ++ bytes 2 h.free in
    let R = entry_bytes k (summary k c.in-Some.root) in
    let x1 = c.put_bytes.ensures [] refl refl in
    let x2 = c.put_bytes-2.ensures (d ∷ []) refl x1 ∙ ap (λ z. padded (d ∷ z)) c.to_le_bytes.ensures in
    let x3 = c.put_bytes-3.ensures (d ∷ bytes 2 h.first) refl x2 ∙ ap (λ z. padded (d ∷ (bytes 2 h.first ++ z))) c.to_le_bytes-2.ensures in
    let x4 = c.put_entry.ensures.adds (d ∷ F) refl x3 in
    x4 ∙ ap (λ x. padded (x ∷ (F ++ R))) (c.HEAD_PAGE.ensures ∙ g.met.K.PointKind.constants.5) ∙ ap (λ o. padded (k.head_kind ∷ (F ++ root_bytes k (root_summary k o)))) (sym c.in-Some.is)

pub returns-in_default : goal.returns-in_default
unfolding encode
returns-in_default g c =
    let k = g.K.PointKind.kind in
    let d = c.HEAD_PAGE.result in
    let h = c.args.head.now in
    let F = bytes 2 h.first ++ bytes 2 h.free in
    let fit = g.met.K.PointKind.sound.head_fits in
    let x1 = c.put_bytes.ensures [] refl refl in
    let x2 = c.put_bytes-2.ensures (d ∷ []) refl x1 ∙ ap (λ z. padded (d ∷ z)) c.to_le_bytes.ensures in
    let x3 = c.put_bytes-3.ensures (d ∷ bytes 2 h.first) refl x2 ∙ ap (λ z. padded (d ∷ (bytes 2 h.first ++ z))) c.to_le_bytes-2.ensures in
    x3 ∙ ap (λ x. padded (x ∷ F)) (c.HEAD_PAGE.ensures ∙ g.met.K.PointKind.constants.5) ∙ more_zeros (k.head_kind ∷ F) (6 + 2 * size_of k) (omega arith) ∙ ap (λ z. padded (k.head_kind ∷ (F ++ z))) (sym (none_zeros k []))
    ∙ ap (λ o. padded (k.head_kind ∷ (F ++ root_bytes k (root_summary k o)))) (sym c.in_default.is)
