use Rattle.std.proofs.Common.{◌≡◌, ℕ, ◌+◌, ◌-◌, ◌*◌, ◌≤◌, List, [], ◌∷◌, ◌++◌, length, sym, refl, ap, ◌∙◌, add-mul, one-mul, arith, length-append}
use Rattle.std.specs.List.{flat_map}
use Rattle.std.proofs.lemmas.List.{append-nil, length_push}
use Rattle.std.proofs.lemmas.Grind.{flat_map-append}
use Rattle.kinds.specs.Kind.{size_of, bytes_of}
use Rattle.page.specs.Form.{padded}
use Rattle.page.proofs.Runs.{within_page}
use Rattle.page.proofs.Writing.{adds_part, part_long, padded_long, data_made}
use Rattle.hand.specs.Hands.{listed, left}
use Rattle.hand.proofs.Steps.{count_is, behind, whole}
use Rattle.hand.proofs.points.Hand.page.Given as given
use Rattle.hand.proofs.points.Hand.page.Goals as goal

pub loop-point-init : goal.loop-point-init
loop-point-init g c =
    let k = g.K.PointKind.kind in
    let n = sym (count_is c.args.self.now) in
    ([], ap left c.into_iter-point-iterator.ensures.into_iter_gives ∙ c.iter-point-items.ensures, omega arith, ap (λ x. padded (x ∷ (c.args.self.now.count ∷ []))) (c.DATA_PAGE.ensures ∙ g.met.K.PointKind.constants.3) ∙ ap (λ x. padded (k.data_kind ∷ (x ∷ []))) n, omega arith)

-- a point more fits behind those that are written
fits : (g : given.Over) (done rest ps : List g.row.K.Denot) (at r : ℕ) → done ++ rest ≡ ps → 1 ≤ length rest → length ps ≤ g.K.PointKind.kind.capacity → at ≡ 2 + length done * size_of g.K.PointKind.kind → r ≡ size_of g.K.PointKind.kind → at + r ≤ 64
fits g done rest ps at r all some few is e =
    let k = g.K.PointKind.kind in
    let fit = g.met.K.PointKind.sound.data_fits in
    let n = sym (length-append done rest) ∙ ap length all in
    let same : length done * r ≡ length done * size_of k = ap (λ z. length done * z) e in
    let w = within_page (length done) k.capacity k.capacity (size_of k) r (omega arith) (omega arith) e (omega arith) in
    omega (arith, w, is, same)

pub overflow_add-end : goal.overflow_add-end
overflow_add-end g c =
    let (done, all, at_is, made, long) = c.loop-point.invariant in
    let n = ap length c.in-Some.ensures.steps in
    let w = fits g done _ _ c.loop-point.at c.SIZE.result all (omega arith) c.requires at_is (c.SIZE.ensures ∙ g.met.K.PointKind.constants.2) in
    record { fits = omega (arith, w) }

pub slice_bounds-page-end : goal.slice_bounds-page-end
slice_bounds-page-end g c =
    let (done, all, at_is, made, long) = c.loop-point.invariant in
    let n = ap length c.in-Some.ensures.steps in
    let w = fits g done _ _ c.loop-point.at c.SIZE.result all (omega arith) c.requires at_is (c.SIZE.ensures ∙ g.met.K.PointKind.constants.2) in
    omega (arith, w)

pub loop-point-preserved : goal.loop-point-preserved
loop-point-preserved g c =
    let k = g.K.PointKind.kind in
    let (done, all, at_is, made, long) = c.loop-point.invariant in
    let ps = listed c.args.self.now in
    let at = c.loop-point.at in
    let r = c.SIZE.result in
    let s = size_of k in
    let x = c.in-Some.point in
    let J = flat_map (bytes_of k) done in
    let r_is = c.SIZE.ensures ∙ g.met.K.PointKind.constants.2 in
    let n = ap length c.in-Some.ensures.steps in
    let w = fits g done _ _ at r all (omega arith) c.requires at_is r_is in
    let page_long = ap length made ∙ padded_long (k.data_kind ∷ (length ps ∷ J)) (omega (arith, w, long, at_is)) in
    let l : length (bytes_of k x) ≡ r = ap length (sym c.write.ensures) ∙ c.write.auto.out ∙ part_long at r c.loop-point.page (omega (arith, w, page_long)) in
    let put = adds_part at (at + r - at) c.loop-point.page c.write.new.out (bytes_of k x) (omega arith) c.write.ensures (omega (arith, w)) (k.data_kind ∷ (length ps ∷ J)) (omega (arith, long, at_is)) made in
    let more = flat_map-append (bytes_of k) done (x ∷ []) ∙ ap (λ z. J ++ z) (append-nil (bytes_of k x)) in
    let a = length-append J (bytes_of k x) in
    let b = length_push done x in
    let e1 = add-mul (length done) 1 s in
    let e2 = one-mul s in
    let times : length (done ++ x ∷ []) * s ≡ length done * s + s = ap (λ z. z * s) b ∙ omega (arith, e1, e2) in (
      done ++ x ∷ [],
      behind done (done ++ x ∷ []) ps (left c.next.new.self) x (ap (λ z. done ++ z) (sym c.in-Some.ensures.steps) ∙ all) refl,
      omega (arith, at_is, r_is, times),
      put ∙ ap (λ z. padded (k.data_kind ∷ (length ps ∷ z))) (sym more),
      ap length more ∙ omega (arith, a, l, long, r_is, times),
    )

pub returns : goal.returns
returns g c =
    let k = g.K.PointKind.kind in
    let (done, all, at_is, made, long) = c.loop-point.invariant in
    let ps = listed c.args.self.now in
    data_made k ps c.loop-point.page (made ∙ ap (λ qs. padded (k.data_kind ∷ (length ps ∷ flat_map (bytes_of k) qs))) (whole done ps _ c.in-None.ensures.steps.0 all))
