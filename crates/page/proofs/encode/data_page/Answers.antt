use Rattle.std.proofs.Common.{◌≡◌, ℕ, ◌+◌, ◌*◌, ◌<◌, ◌≤◌, [], ◌∷◌, length, take, sym, refl, ap, ◌∙◌, add-mul, one-mul, arith, length-append}
use Rattle.std.specs.List.{flat_map}
use Rattle.std.proofs.lemmas.List.{take_all}
use Rattle.kinds.specs.Kind.{size_of, bytes_of}
use Rattle.page.specs.Form.{padded}
use Rattle.page.proofs.Runs.{within_page}
use Rattle.page.proofs.Writing.{joined_more, data_made}
use Rattle.page.proofs.encode.data_page.Given as given
use Rattle.page.proofs.encode.data_page.Goals as goal

pub loop-i-init : goal.loop-i-init
loop-i-init g c =
    let k = g.K.PointKind.kind in
    let d = c.DATA_PAGE.result in
    let n = length c.args.points.now in
    (c.put_bytes.ensures [] refl refl ∙ ap (λ x. padded (x ∷ (n ∷ []))) (c.DATA_PAGE.ensures ∙ g.met.K.PointKind.constants.3), omega arith)

-- a point within the page
fits : (g : given.Over) (i r : ℕ) → i < g.K.PointKind.kind.capacity → r ≡ size_of g.K.PointKind.kind → (2 + i * r) + r ≤ 64
fits g i r lt e = let k = g.K.PointKind.kind in let fit = g.met.K.PointKind.sound.data_fits in within_page i k.capacity k.capacity (size_of k) r lt (omega arith) e (omega arith)

pub put_point-requires : goal.put_point-requires
put_point-requires g c =
    let r = c.SIZE.ensures ∙ g.met.K.PointKind.constants.2 in
    let w = fits g c.loop-i.i c.SIZE.result (omega (arith, c.loop-i-test.true, c.requires)) r in
    omega (arith, w, r)

pub loop-i-preserved : goal.loop-i-preserved
loop-i-preserved g c =
    let k = g.K.PointKind.kind in
    let ps = c.args.points.now in
    let i = c.loop-i.i in
    let s = size_of k in
    let J = flat_map (bytes_of k) (take i ps) in
    let p = c.index-points-i.result in
    let inv = c.loop-i.invariant in
    let r = c.SIZE.ensures ∙ g.met.K.PointKind.constants.2 in
    let at : i * c.SIZE.result ≡ i * s = ap (λ x. i * x) r in
    let w = fits g i c.SIZE.result (omega (arith, c.loop-i-test.true, c.requires)) r in
    let x = c.put_point.ensures.adds (k.data_kind ∷ (length ps ∷ J)) (omega (arith, inv.1, at)) inv.0 in
    let m = joined_more k ps i p c.loop-i-test.true c.index-points-i.is in
    let y : c.put_point.new.page ≡ padded (k.data_kind ∷ (length ps ∷ flat_map (bytes_of k) (take (i + 1) ps))) = x ∙ ap (λ z. padded (k.data_kind ∷ (length ps ∷ z))) (sym m) in
    let l = c.put_point.ensures.long in
    let a = length-append J (bytes_of k p) in
    let e1 = add-mul i 1 s in
    let e2 = one-mul s in
    let n : length (flat_map (bytes_of k) (take (i + 1) ps)) ≡ (i + 1) * s = ap length m ∙ omega (arith, a, l, inv.1, e1, e2) in
    (y, n)

pub returns : goal.returns
returns g c =
    let k = g.K.PointKind.kind in
    let ps = c.args.points.now in
    let all : take c.loop-i.i ps ≡ ps = take_all c.loop-i.i ps c.loop-i-test.false in
    data_made k ps c.loop-i.page (c.loop-i.invariant.0 ∙ ap (λ qs. padded (k.data_kind ∷ (length ps ∷ flat_map (bytes_of k) qs))) all)
