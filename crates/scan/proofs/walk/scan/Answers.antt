use Rattle.std.proofs.Common.{◌≡◌, suc, [], length, sym, refl, ap, ◌∙◌, subst, arith}
use Rattle.page.specs.Checks.{root_summary, summary}
use Rattle.tree.specs.Book.{windowed}
use Rattle.access.proofs.Heads.{no_root, rooted}
use Rattle.scan.proofs.Walking.{cases_map, walked_on, root_walked, root_few_windowed}
use Rattle.scan.proofs.walk.scan.Goals as goal

-- the head of a lawful card is read
pub returns-in_err-head-clause-lawful : goal.returns-in_err-head-clause-lawful
returns-in_err-head-clause-lawful g c set w before met = absurd (c.in_err-head.ensures.lawful set w)

-- no root entry: no points
pub returns-in_default : goal.returns-in_default
returns-in_default g c =
    let k = g.K.PointKind.kind in
    let s = g.met.K.PointKind.sound in
    record {
      lawful = λ set w before met.
          let h = c.in_ok-head.ensures.lawful set w in
          let e = (no_root k s _ set w (h.2 ∙ ap (root_summary k) c.in_default.is)).1 in
          subst (λ ys. g.G.Gather.met c.args.gather.now before c.args.buffer.now (windowed k c.args.window.now.corners.low c.args.window.now.corners.high ys)) (sym e) met;
      always = λ before fair. fair;
      refused = tt;
      same = refl;
      keeps = c.load_head.ensures.keeps;
    }

-- the walk from the root
pub returns : goal.returns
returns g c =
    let k = g.K.PointKind.kind in
    let s = g.met.K.PointKind.sound in
    let card = g.S.PageStore.pages c.args.store.now in
    record {
      lawful = λ set w before met.
          let h = c.in_ok-head.ensures.lawful set w in
          let r = rooted k s card set w (summary k c.in-Some.root) (h.2 ∙ ap (root_summary k) c.in-Some.is) in
          let n : suc c.saturating_sub-left.result ≡ length card = let a = c.count-count.ensures.gives ∙ ap length c.load_head.ensures.keeps in let b = w.size.0 in omega (arith, c.saturating_sub-left.ensures) in
          let v = root_walked k s card set w r.tree r.is_root r.stands _ c.saturating_sub-left.result (ap (summary k) c.in-Some.root-is ∙ sym r.entry_is) n in
          cases_map c.walk.result _ _ (λ m. m.0)
          (c.walk.ensures.lawful set r.tree (walked_on k c.load_head.ensures.keeps v) before [] (root_few_windowed k s card set w r.tree r.is_root r.stands c.args.window.now.corners.low c.args.window.now.corners.high) met);
      always = λ before fair. c.walk.ensures.always before fair;
      refused = c.walk.ensures.refused;
      same = c.walk.ensures.same;
      keeps = c.walk.ensures.keeps ∙ c.load_head.ensures.keeps;
    }
