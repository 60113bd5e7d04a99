use Rattle.std.proofs.Common.{◌≡◌, ◌+◌, ◌-◌, ◌≤◌, [], ◌∷◌, length, refl, ap, ◌∙◌, arith, sym}
use Rattle.std.proofs.lemmas.List.{append-nil}
use Rattle.kinds.specs.Kind.{size_of, bytes_of}
use Rattle.page.specs.Form.{padded}
use Rattle.page.proofs.Runs.{within_page}
use Rattle.page.proofs.Writing.{adds_part, part_long, data_made}
use Rattle.hand.proofs.lone.lone_page.Given as given
use Rattle.hand.proofs.lone.lone_page.Goals as goal

-- the point fits into the page
fits : (g : given.Over) (r : _) → r ≡ size_of g.K.PointKind.kind → 2 + r ≤ 64
fits g r e =
    let k = g.K.PointKind.kind in
    let fit = g.met.K.PointKind.sound.data_fits in
    let room = g.met.K.PointKind.sound.room in
    let w = within_page 0 k.capacity k.capacity (size_of k) r (omega arith) (omega arith) e (omega arith) in
    omega (arith, w)

pub slice_bounds-page-end : goal.slice_bounds-page-end
slice_bounds-page-end g c = omega (arith, fits g c.SIZE-end.result (c.SIZE-end.ensures ∙ g.met.K.PointKind.constants.2))

pub returns : goal.returns
returns g c =
    let k = g.K.PointKind.kind in
    let p = c.args.p.now in
    let r = c.SIZE-end.result in
    let w = fits g r (c.SIZE-end.ensures ∙ g.met.K.PointKind.constants.2) in
    let start = ap (λ x. padded (x ∷ (1 ∷ []))) (c.DATA_PAGE.ensures ∙ g.met.K.PointKind.constants.3) in
    let before = padded (c.DATA_PAGE.result ∷ (1 ∷ [])) in
    let long : length before ≡ 64 = refl in
    let l : length (bytes_of k p) ≡ r = ap length (sym c.write.ensures) ∙ c.write.auto.out ∙ part_long 2 r before (omega (arith, w, long)) in
    let put = adds_part 2 (2 + r - 2) before c.write.new.out (bytes_of k p) (omega arith) c.write.ensures (omega (arith, w)) (k.data_kind ∷ (1 ∷ [])) refl start in
    data_made k (p ∷ []) _ (put ∙ ap (λ z. padded (k.data_kind ∷ (1 ∷ z))) (sym (append-nil (bytes_of k p))))
