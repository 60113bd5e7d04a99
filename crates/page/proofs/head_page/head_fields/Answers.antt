use Rattle.std.proofs.Common.{◌≡◌, ◌+◌, ◌≤◌, length, get_or, take, drop, replicate, Some, None, sym, ap, ◌∙◌, subst, arith}
use Rattle.kinds.specs.Kind.{entry_length}
use Rattle.page.specs.Causes.{AllZero, EntryCause, root_wrong, head_not_zero, head_cause}
use Rattle.page.specs.Checks.{summary, HeadRead}
use Rattle.page.proofs.Ends.{head_reads, cut_root, cut_after, root_none, none_root}
use Rattle.page.proofs.Faults.{not_zero_from, refused}
use Rattle.page.proofs.head_page.head_fields.Goals as goal

pub returns-then-not-zeros : goal.returns-then-not-zeros
returns-then-not-zeros g c =
    let k = g.K.PointKind.kind in
    let bs = c.args.bytes.now in
    let z = c.entry_size-size.result in
    let e : 5 + z ≡ 5 + entry_length k = omega (arith, c.entry_size-size.ensures) in
    refused k g.met.K.PointKind.sound bs (head_cause c.requires (head_not_zero (not_zero_from 64 (5 + z) _ bs c.told-bytes c.if-not-zeros.ensures e)))

pub returns-then-zeros : goal.returns-then-zeros
returns-then-zeros g c =
    let k = g.K.PointKind.kind in
    let bs = c.args.bytes.now in
    let z = c.entry_size-size.result in
    let e = c.entry_size-size.ensures in
    let kind : get_or bs 0 0 ≡ k.head_kind = c.requires in
    let fit : 5 + z ≤ length bs = omega (arith, c.told-bytes, c.entry_size-size.ensures, g.met.K.PointKind.sound.directory_fits) in
    let t = c.fits-bytes in
    let tail = sym (cut_after bs 64 z c.told-bytes) ∙ c.if-not-zeros.ensures ∙ ap (λ x. replicate (length x) 0) (cut_after bs 64 z c.told-bytes) in
    let zero = sym (cut_root bs z) ∙ c.if-zeros.ensures ∙ ap (λ x. replicate (length x) 0) (cut_root bs z) in
    (head_reads k bs c.from_le_bytes-first.result c.from_le_bytes-free.result z None c.told-bytes (λ i. let h = t i in omega arith) kind c.from_le_bytes-first.ensures c.from_le_bytes-free.ensures e (omega (arith, fit, c.told-bytes)) tt (root_none k bs z e fit zero) tail)

pub returns-in_err-entry : goal.returns-in_err-entry
returns-in_err-entry g c =
    let k = g.K.PointKind.kind in
    let bs = c.args.bytes.now in
    let z = c.entry_size-size.result in
    let e = c.entry_size-size.ensures in
    let part = cut_root bs z ∙ ap (λ n. take n (drop 5 bs)) e in
    subst (HeadRead k bs) (sym c.from_residual.ensures) (refused k g.met.K.PointKind.sound bs (head_cause c.requires (root_wrong (subst (λ x. AllZero x → ⊥) part c.if-zeros.ensures) (subst (EntryCause k) (c.over.ensures ∙ part) c.in_err-entry.ensures.reads.1))))

pub returns : goal.returns
returns g c =
    let k = g.K.PointKind.kind in
    let bs = c.args.bytes.now in
    let z = c.entry_size-size.result in
    let e = c.entry_size-size.ensures in
    let kind : get_or bs 0 0 ≡ k.head_kind = c.requires in
    let fit : 5 + z ≤ length bs = omega (arith, c.told-bytes, c.entry_size-size.ensures, g.met.K.PointKind.sound.directory_fits) in
    let t = c.fits-bytes in
    let tail = sym (cut_after bs 64 z c.told-bytes) ∙ c.if-not-zeros.ensures ∙ ap (λ x. replicate (length x) 0) (cut_after bs 64 z c.told-bytes) in
    let l = c.in_ok-entry.ensures.reads in
    let root = l.2 ∙ c.over.ensures ∙ cut_root bs z in
    (head_reads k bs c.from_le_bytes-first.result c.from_le_bytes-free.result z (Some (summary g.K.PointKind.kind c.in_ok-entry.entry)) c.told-bytes (λ i. let h = t i in omega arith) kind c.from_le_bytes-first.ensures c.from_le_bytes-free.ensures e (omega (arith, fit, c.told-bytes))
    (l.0, l.1, λ q. c.if-zeros.ensures (cut_root bs z ∙ none_root k bs z (sym q ∙ root) ∙ ap (λ x. replicate (length x) 0) (sym (cut_root bs z)))) root tail)
