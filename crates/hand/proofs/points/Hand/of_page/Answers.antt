use Rattle.std.proofs.Common.{◌≡◌, ◌<◌, List, map, length, sym, subst, arith}
use Rattle.page.specs.declared.data_page.DataView.{DataView}
use Rattle.page.specs.Form.{Point, data_view}
use Rattle.page.specs.Fields.{Reads}
use Rattle.page.specs.Checks.{IsData}
use Rattle.hand.specs.Hands.{listed}
use Rattle.hand.proofs.Reading.{came, gone, never_refused, read_count, all_read, same_points, sane_points}
use Rattle.hand.proofs.points.Hand.of_page.Goals as goal

-- a data page is read
pub returns-in_err-view-clause-tells : goal.returns-in_err-view-clause-tells
returns-in_err-view-clause-tells g c ps r =
    let k = g.K.PointKind.kind in
    let bs = c.args.bytes.now in
    let (fault, is) = gone c.new.result c.in_err-view.ensures.value in
    absurd (never_refused k g.met.K.PointKind.sound bs {X = DataView g.row.K.Denot} _ 0 (λ v. (v.bytes.now ≡ bs) × IsData k bs) fault r (rw is at c.new.ensures))

-- the view has the bytes of the page
pub push-requires : goal.push-requires
push-requires g c =
    let k = g.K.PointKind.kind in
    let bs = c.args.bytes.now in
    let (same, (xs, r)) = (rw (came c.new.result c.in_ok-view.view c.in_ok-view.ensures.value) at c.new.ensures).1 in
    let r' = subst (λ x. Reads k x (data_view xs)) (sym same) r in
    let i = c.loop-i.invariant xs r in
    let n = read_count k g.met.K.PointKind.sound bs (listed c.loop-i.hand) xs c.loop-i.i i.0 i.1 in
    let q = c.count-i-end.ensures xs r' in
    let m = g.met.K.PointKind.sound.small in
    let b = r.fields.fit in
    let few : length (listed c.loop-i.hand) < 16 = omega (arith, c.loop-i-test.true) in
    few

pub returns : goal.returns
returns g c =
    let k = g.K.PointKind.kind in
    let s = g.met.K.PointKind.sound in
    let bs = c.args.bytes.now in
    let ps = listed c.loop-i.hand in
    let e = (rw (came c.new.result c.in_ok-view.view c.in_ok-view.ensures.value) at c.new.ensures).1 in
    let whole : (xs : List Point) → Reads k bs (data_view xs) → map k.coords ps ≡ xs =
    λ xs r.
    let q = c.count-i-end.ensures xs (subst (λ x. Reads k x (data_view xs)) (sym e.0) r) in
    all_read k s bs ps xs c.loop-i.i (c.loop-i.invariant xs r).0 (omega (arith, c.loop-i-test.false)) in
    record {
      tells = λ qs r. same_points k s bs ps qs (whole (map k.coords qs) r);
      sane = sane_points k s bs ps e.1.0 (whole e.1.0 e.1.1) e.1.1;
    }
