use Rattle.std.proofs.Common.{◌≡◌, ◌≤◌, List, [], ◌++◌, map, length, take, sym, refl, ap, ◌∙◌, subst, arith, take_all}
use Rattle.page.specs.Form.{Point, data_view}
use Rattle.page.specs.Fields.{Reads}
use Rattle.page.proofs.Writing.{length_coords}
use Rattle.tree.specs.Book.{windowed}
use Rattle.scan.proofs.Wholes.{whole}
use Rattle.scan.proofs.Pages.{point_on, point_here, step_in, step_out, step_few}
use Rattle.scan.proofs.walk.gather_page.Goals as goal
use Rattle.scan.proofs.walk.gather_page.Goals.{then-holds+in_ok-point, else-holds}

-- what holds of some values holds of equal ones
moved : {A B C : Type 0} (M : A → B → C → Type 0) {a a' : A} {b b' : B} {xs ys : C} → a' ≡ a → b' ≡ b → xs ≡ ys → M a b xs → M a' b' ys
moved M {a} {a'} {b} {b'} {xs} {ys} e f h m = subst (λ x. M x b' ys) (sym e) (subst (λ x. M a x ys) (sym f) (subst (M a b) h m))

-- a page that is read has a point at each place
pub returns-in_err-p-clause-lawful : goal.returns-in_err-p-clause-lawful
returns-in_err-p-clause-lawful g c points rd before xs few met =
    let k = g.K.PointKind.kind in
    let r = subst (λ x. Reads k x (data_view (map k.coords points))) (sym c.over-view.ensures) rd in
    let n = c.count-i-end.ensures (map k.coords points) r in
    let m = rw c.in_err-p.ensures.ok_part at c.point.ensures in
    let l = m (map k.coords points) r in
    absurd (omega (arith, c.loop-i-test.true))

-- a point of the window is never refused
pub returns-in_err-point-clause-lawful : goal.returns-in_err-point-clause-lawful
returns-in_err-point-clause-lawful g c points rd before xs few met =
    let k = g.K.PointKind.kind in
    let w = c.args.window.now.corners in
    let i = c.loop-i.i in
    let p = c.in_ok-p.p in
    let h = point_here k g.met.K.PointKind.sound points i p ((rw c.in_ok-p.ensures.ok_part at c.point.ensures) (map k.coords points) (subst (λ x. Reads k x (data_view (map k.coords points))) (sym c.over-view.ensures) rd)) in
    absurd (c.in_err-point.ensures.lawful before (xs ++ windowed k w.low w.high (take i points)) (step_few k g.met.K.PointKind.sound w (whole c.args.window.now) points i p h.0 h.1 c.if-holds.ensures xs few) (c.loop-i.invariant.0 points rd before xs few met))

pub loop-i-preserved : goal.loop-i-preserved
loop-i-preserved g c =
    let k = g.K.PointKind.kind in
    let s = g.met.K.PointKind.sound in
    let w = c.args.window.now.corners in
    let i = c.loop-i.i in
    let p = c.in_ok-p.p in
    let at = λ (ps : List Point) (rd : Reads k c.args.bytes.now (data_view ps)). (rw c.in_ok-p.ensures.ok_part at c.point.ensures) ps (subst (λ x. Reads k x (data_view ps)) (sym c.over-view.ensures) rd) in
    let on = point_on k s c.args.bytes.now i p c.requires at in (
      (λ points rd before xs few met.
          let h = point_here k s points i p (at (map k.coords points) rd) in
          let now = c.loop-i.invariant.0 points rd before xs few met in
          elim c.if-holds.branch [
            | then-holds+in_ok-point v ↦ moved (λ a b ys. g.G.Gather.met a before b ys) v.gather-is v.buffer-is (step_in k s w (whole c.args.window.now) points i p h.0 h.1 v.if-holds.ensures xs) (v.in_ok-point.ensures.lawful before (xs ++ windowed k w.low w.high (take i points)) (step_few k s w (whole c.args.window.now) points i p h.0 h.1 v.if-holds.ensures xs few) now)
            | else-holds v ↦ moved (λ a b ys. g.G.Gather.met a before b ys) v.gather-is v.buffer-is (step_out k s w (whole c.args.window.now) points i p h.0 h.1 on v.if-holds.ensures xs) now
          ]),
      (λ before fair.
          let now = c.loop-i.invariant.1 before fair in
          elim c.if-holds.branch [
            | then-holds+in_ok-point v ↦ moved (λ a b (ys : List Point). g.G.Gather.fair a w.low w.high before b) {ys = []} v.gather-is v.buffer-is refl (v.in_ok-point.ensures.always w.low w.high before on v.if-holds.ensures now)
            | else-holds v ↦ moved (λ a b (ys : List Point). g.G.Gather.fair a w.low w.high before b) {ys = []} v.gather-is v.buffer-is refl now
          ]),
      elim c.if-holds.branch [
        | then-holds+in_ok-point v ↦ ap g.G.Gather.passes v.gather-is ∙ v.point-then-holds.ensures.same ∙ c.loop-i.invariant.2
        | else-holds v ↦ ap g.G.Gather.passes v.gather-is ∙ c.loop-i.invariant.2
      ],
    )

pub returns : goal.returns
returns g c =
    let k = g.K.PointKind.kind in
    let w = c.args.window.now.corners in
    record {
      lawful = λ points rd before xs few met.
          let n = c.count-i-end.ensures (map k.coords points) (subst (λ x. Reads k x (data_view (map k.coords points))) (sym c.over-view.ensures) rd) in
          let m = length_coords k points in
          let le : length points ≤ c.loop-i.i = omega (arith, c.loop-i-test.false) in
          subst (λ ys. g.G.Gather.met c.loop-i.gather before c.loop-i.buffer (xs ++ windowed k w.low w.high ys)) (take_all c.loop-i.i points le) (c.loop-i.invariant.0 points rd before xs few met);
      always = c.loop-i.invariant.1;
      refused = tt;
      same = c.loop-i.invariant.2;
    }
