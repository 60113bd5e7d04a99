use Rattle.std.proofs.Common.{ℕ, ◌≤◌, List, map, length, sym, refl, ap, ◌∙◌, subst, ap₂}
use Rattle.zorder.specs.Halves.{half}
use Rattle.kinds.specs.Kind.{code_of, wide}
use Rattle.page.specs.Form.{Summary, data_view, directory_view, encode}
use Rattle.access.proofs.Writes.{written_as}
use Rattle.hand.specs.Hands.{listed}
use Rattle.hand.proofs.Entries.{entry_of}
use Rattle.put.proofs.Splits.{parts_of, low_corner_on, high_corner_on}
use Rattle.put.proofs.insert.split.Goals as goal

pub depth-depth-requires : goal.depth-depth-requires
depth-depth-requires g c =
    let k = g.K.PointKind.kind in
    let s = g.met.K.PointKind.sound in
    let h = c.args.points.now in
    record {
      low_on = low_corner_on k s _ (listed h) c.requires.some c.requires.on c.entry-whole.ensures.low;
      high_on = high_corner_on k s _ (listed h) c.requires.some c.requires.on c.entry-whole.ensures.high;
    }

pub half-low-requires : goal.half-low-requires
half-low-requires g c =
    let h = c.args.points.now in
    let e = c.entry-whole.ensures in
    let d = parts_of g.K.PointKind.kind g.met.K.PointKind.sound _ _ _ (listed h) c.requires.mixed c.requires.few c.requires.some c.requires.on e.low e.high c.depth-depth.ensures.set in
    record { all_on = c.requires.on; shallow = d.short }

pub half-high-requires : goal.half-high-requires
half-high-requires g c =
    let h = c.args.points.now in
    let e = c.entry-whole.ensures in
    let d = parts_of g.K.PointKind.kind g.met.K.PointKind.sound _ _ _ (listed h) c.requires.mixed c.requires.few c.requires.some c.requires.on e.low e.high c.depth-depth.ensures.set in
    record { all_on = c.requires.on; shallow = d.short }

pub page-requires : goal.page-requires
page-requires g c =
    let h = c.args.points.now in
    let e = c.entry-whole.ensures in
    let d = parts_of g.K.PointKind.kind g.met.K.PointKind.sound _ _ _ (listed h) c.requires.mixed c.requires.few c.requires.some c.requires.on e.low e.high c.depth-depth.ensures.set in
    subst (λ ys. length ys ≤ g.K.PointKind.kind.capacity) (sym c.half-low.ensures) d.low_few

pub page-requires-2 : goal.page-requires-2
page-requires-2 g c =
    let h = c.args.points.now in
    let e = c.entry-whole.ensures in
    let d = parts_of g.K.PointKind.kind g.met.K.PointKind.sound _ _ _ (listed h) c.requires.mixed c.requires.few c.requires.some c.requires.on e.low e.high c.depth-depth.ensures.set in
    subst (λ ys. length ys ≤ g.K.PointKind.kind.capacity) (sym c.half-high.ensures) d.high_few

pub entry-requires : goal.entry-requires
entry-requires g c =
    let h = c.args.points.now in
    let e = c.entry-whole.ensures in
    let d = parts_of g.K.PointKind.kind g.met.K.PointKind.sound _ _ _ (listed h) c.requires.mixed c.requires.few c.requires.some c.requires.on e.low e.high c.depth-depth.ensures.set in
    subst (λ ys. 1 ≤ length ys) (sym c.half-low.ensures) d.low_some

pub entry-requires-2 : goal.entry-requires-2
entry-requires-2 g c =
    let h = c.args.points.now in
    let e = c.entry-whole.ensures in
    let d = parts_of g.K.PointKind.kind g.met.K.PointKind.sound _ _ _ (listed h) c.requires.mixed c.requires.few c.requires.some c.requires.on e.low e.high c.depth-depth.ensures.set in
    subst (λ ys. 1 ≤ length ys) (sym c.half-high.ensures) d.high_some

pub fork_page-fork-requires : goal.fork_page-fork-requires
fork_page-fork-requires g c =
    let h = c.args.points.now in
    let e = c.entry-whole.ensures in
    let d = parts_of g.K.PointKind.kind g.met.K.PointKind.sound _ _ _ (listed h) c.requires.mixed c.requires.few c.requires.some c.requires.on e.low e.high c.depth-depth.ensures.set in
    d.short

pub returns : goal.returns
returns g c =
    let k = g.K.PointKind.kind in
    let h = c.args.points.now in
    let e = c.entry-whole.ensures in
    let d = parts_of k g.met.K.PointKind.sound _ _ _ (listed h) c.requires.mixed c.requires.few c.requires.some c.requires.on e.low e.high c.depth-depth.ensures.set in
    let n = c.depth-depth.result in
    let q = c.args.page in
    let x = c.args.spare in
    let lows = half (code_of k) (wide k) n 0 (listed h) in
    let highs = half (code_of k) (wide k) n 1 (listed h) in
    let data_bytes : List _ → List ℕ = λ ys. encode k (data_view (map k.coords ys)) in
    let el = entry_of k c.entry.result q _ lows c.half-low.ensures c.entry.ensures.page c.entry.ensures.count c.entry.ensures.low c.entry.ensures.high in
    let eh = entry_of k c.entry-2.result x.leaf _ highs c.half-high.ensures c.entry-2.ensures.page c.entry-2.ensures.count c.entry-2.ensures.low c.entry-2.ensures.high in
    let one = written_as c.put_page.ensures refl c.from.ensures (c.page.ensures ∙ ap data_bytes c.half-low.ensures) in
    let two = written_as c.put_page-2.ensures one c.from-2.ensures (c.page-2.ensures ∙ ap data_bytes c.half-high.ensures) in
    record {
      depth = n;
      deep = d.deep;
      entry_is = entry_of k c.entry-whole.result x.fork (listed h) (listed h) refl e.page e.count e.low e.high;
      used = refl;
      written = written_as c.put_page-3.ensures two c.from-3.ensures (c.fork_page-fork.ensures ∙ ap₂ (λ (a b : Summary). encode k (directory_view n a b)) el eh);
    }
