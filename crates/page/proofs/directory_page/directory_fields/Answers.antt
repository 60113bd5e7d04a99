use Rattle.std.proofs.Common.{None, Option, ℕ, List, ◌≡◌, ◌+◌, ◌*◌, length, take, drop, replicate, sym, ap, ◌∙◌, subst, arith}
use Rattle.kinds.specs.Kind.{entry_length}
use Rattle.page.specs.Causes.{EntryCause, too_deep, low_wrong, high_wrong, directory_not_zero, directory_cause}
use Rattle.page.specs.Checks.{summary, DirectoryRead}
use Rattle.page.specs.declared.directory_page.Fork.{Fork}
use Rattle.page.proofs.Pairs.{cut_low, cut_high, cut_tail, directory_reads}
use Rattle.page.proofs.Faults.{not_zero_from, refused}
use Rattle.page.proofs.directory_page.directory_fields.Given as given
use Rattle.page.proofs.directory_page.directory_fields.Goals as goal

-- none, with the cause
none : (g : given.Over) (bs : List ℕ) (o : Option (Fork _)) → o ≡ None → DirectoryRead g.K.PointKind.kind bs None → DirectoryRead g.K.PointKind.kind bs o
none g bs o e r = subst (DirectoryRead g.K.PointKind.kind bs) (sym e) r

pub returns-then-depth-BITS : goal.returns-then-depth-BITS
returns-then-depth-BITS g c =
    let k = g.K.PointKind.kind in
    refused k g.met.K.PointKind.sound c.args.bytes.now (directory_cause c.requires (too_deep (omega (arith, c.from-depth.ensures, c.if-depth-BITS.true, c.BITS.ensures, g.met.K.PointKind.constants.0))))

pub returns-in_err-low : goal.returns-in_err-low
returns-in_err-low g c =
    let k = g.K.PointKind.kind in
    let bs = c.args.bytes.now in
    let z = c.entry_size-size.result in
    let e = c.entry_size-size.ensures in
    let part = c.over.ensures ∙ cut_low bs z ∙ ap (λ n. take n (drop 2 bs)) e in
    none g bs _ c.from_residual.ensures (refused k g.met.K.PointKind.sound bs (directory_cause c.requires (low_wrong (subst (EntryCause k) part c.in_err-low.ensures.reads.1))))

pub returns-in_err-high : goal.returns-in_err-high
returns-in_err-high g c =
    let k = g.K.PointKind.kind in
    let bs = c.args.bytes.now in
    let z = c.entry_size-size.result in
    let e = c.entry_size-size.ensures in
    let part = c.over-2.ensures ∙ cut_high bs z ∙ ap (λ n. take n (drop n (drop 2 bs))) e in
    none g bs _ c.from_residual-in_err-high.ensures (refused k g.met.K.PointKind.sound bs (directory_cause c.requires (high_wrong (subst (EntryCause k) part c.in_err-high.ensures.reads.1))))

pub returns-then-not-zeros : goal.returns-then-not-zeros
returns-then-not-zeros g c =
    let k = g.K.PointKind.kind in
    let bs = c.args.bytes.now in
    let z = c.entry_size-size.result in
    let e : 2 + 2 * z ≡ 2 + 2 * entry_length k = omega (arith, c.entry_size-size.ensures) in
    refused k g.met.K.PointKind.sound bs (directory_cause c.requires (directory_not_zero (not_zero_from 64 (2 + 2 * z) _ bs c.told-bytes c.if-not-zeros.ensures e)))

pub returns : goal.returns
returns g c =
    let k = g.K.PointKind.kind in
    let bs = c.args.bytes.now in
    let z = c.entry_size-size.result in
    let e = c.entry_size-size.ensures in
    let lo = c.in_ok-low.ensures.reads in
    let hi = c.in_ok-high.ensures.reads in
    let t = cut_tail bs 64 z c.told-bytes in
    directory_reads k bs c.from-depth.result z (summary g.K.PointKind.kind c.in_ok-low.low) (summary g.K.PointKind.kind c.in_ok-high.high) c.told-bytes c.requires (sym c.from-depth.ensures) e
    (omega (arith, g.met.K.PointKind.sound.directory_fits, c.entry_size-size.ensures))
    (record { shallow = omega (arith, c.from-depth.ensures, c.if-depth-BITS.false, c.BITS.ensures, g.met.K.PointKind.constants.0); low_entry = lo.0; high_entry = hi.0 }) lo.1 hi.1
    (lo.2 ∙ c.over.ensures ∙ cut_low bs z) (hi.2 ∙ c.over-2.ensures ∙ cut_high bs z) (sym t ∙ c.if-not-zeros.ensures ∙ ap (λ x. replicate (length x) 0) t)
