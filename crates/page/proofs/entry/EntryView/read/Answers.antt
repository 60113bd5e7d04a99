use Rattle.std.proofs.Common.{◌≡◌, ℕ, List, Some, None, Option, sym, refl, subst}
use Rattle.page.specs.declared.entry.Entry.{Entry}
use Rattle.page.specs.Causes.{EntryCause, low_off, high_off, crossed}
use Rattle.page.specs.Checks.{summary, EntryRead}
use Rattle.page.proofs.Parts.{glued}
use Rattle.page.proofs.Faults.{entry_wrong}
use Rattle.page.proofs.Views.{entry_agrees}
use Rattle.page.proofs.entry.EntryView.read.Given as given
use Rattle.page.proofs.entry.EntryView.read.Goals as goal

-- none, with the cause
none : (g : given.Over) (bs : List ℕ) (o : Option (Entry _)) → o ≡ None → EntryCause g.K.PointKind.kind bs → EntryRead g.K.PointKind.kind bs o
none g bs o e w = subst (EntryRead g.K.PointKind.kind bs) (sym e) (entry_wrong g.K.PointKind.kind g.met.K.PointKind.sound bs w, w)

pub returns-in_err-low : goal.returns-in_err-low
returns-in_err-low g c =
    let bs = c.args.self.now.bytes.now in
    let reads = none g bs _ c.from_residual.ensures (low_off c.in_err-low.ensures.reads) in
    record { reads = reads; entry = entry_agrees g.K.PointKind.kind g.met.K.PointKind.sound bs _ reads }

pub returns-in_err-high : goal.returns-in_err-high
returns-in_err-high g c =
    let bs = c.args.self.now.bytes.now in
    let reads = none g bs _ c.from_residual-in_err-high.ensures (high_off c.in_err-high.ensures.reads) in
    record { reads = reads; entry = entry_agrees g.K.PointKind.kind g.met.K.PointKind.sound bs _ reads }

pub returns-then-not-under : goal.returns-then-not-under
returns-then-not-under g c =
    let k = g.K.PointKind.kind in
    let bs = c.args.self.now.bytes.now in
    let lo = c.in_ok-low.ensures.reads in
    let hi = c.in_ok-high.ensures.reads in
    let reads = none g bs None refl (crossed (k.coords c.in_ok-low.low) (k.coords c.in_ok-high.high) lo.0 hi.0 lo.1 hi.1 c.if-not-under.ensures) in
    record { reads = reads; entry = entry_agrees k g.met.K.PointKind.sound bs None reads }

pub returns : goal.returns
returns g c =
    let k = g.K.PointKind.kind in
    let bs = c.args.self.now.bytes.now in
    let lo = c.in_ok-low.ensures.reads in
    let hi = c.in_ok-high.ensures.reads in
    let x : Entry _ = record { page = c.page.result; count = c.count.result; low = c.in_ok-low.low; high = c.in_ok-high.high } in
    let reads : EntryRead k bs (Some x) = (
      record { low_on = lo.0; high_on = hi.0; uncrossed = c.if-not-under.ensures },
      record { page_fits = c.page.ensures.fits; count_fits = c.count.ensures.fits },
      glued k bs (summary k x) c.page.ensures.form c.count.ensures.form lo.1 hi.1,
    ) in
    record { reads = reads; entry = entry_agrees k g.met.K.PointKind.sound bs (Some x) reads }
