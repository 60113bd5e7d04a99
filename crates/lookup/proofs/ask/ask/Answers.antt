use Rattle.std.proofs.Common.{sym, refl, ap, ◌∙◌, subst, inl}
use Rattle.page.specs.Checks.{root_summary, summary}
use Rattle.tree.specs.Book.{ask_off}
use Rattle.tree.specs.Standing.{Standing}
use Rattle.access.proofs.Heads.{no_root, rooted}
use Rattle.lookup.proofs.Asks.{ask_none, ask_found, ask_any}
use Rattle.lookup.proofs.ask.ask.Goals as goal

-- off an axis
pub returns-then-not-on_axes : goal.returns-then-not-on_axes
returns-then-not-on_axes g c =
    let off = c.if-not-on_axes.ensures in
    record { lawful = λ set w. ask_off off; always = inl (off, refl); keeps = refl }

-- the head of a lawful card is read
pub returns-in_err-head-clause-lawful : goal.returns-in_err-head-clause-lawful
returns-in_err-head-clause-lawful g c set w = absurd (c.in_err-head.ensures.lawful set w)

-- no root entry
pub returns-in_default : goal.returns-in_default
returns-in_default g c =
    let k = g.K.PointKind.kind in
    let s = g.met.K.PointKind.sound in
    let on = c.if-not-on_axes.ensures in
    record {
      lawful = λ set w.
          let h = c.in_ok-head.ensures.lawful set w in
          ask_none k s _ set w c.args.p.now on (no_root k s _ set w (h.2 ∙ ap (root_summary k) c.in_default.is)).1;
      always = on;
      keeps = c.load_head.ensures.keeps;
    }

-- the way from the root
pub returns : goal.returns
returns g c =
    let k = g.K.PointKind.kind in
    let s = g.met.K.PointKind.sound in
    let on = c.if-not-on_axes.ensures in
    record {
      lawful = λ set w.
          let h = c.in_ok-head.ensures.lawful set w in
          let r = rooted k s _ set w (summary k c.in-Some.root) (h.2 ∙ ap (root_summary k) c.in-Some.is) in
          ask_found k s _ set w c.args.p.now c.walk.result on (c.walk.ensures.lawful set r.tree (subst (λ x. Standing k x set r.tree) (sym c.load_head.ensures.keeps) r.stands) (r.begins ∙ ap (λ x. x.page) (sym c.in-Some.root-is)));
      always = ask_any k c.args.p.now c.walk.result on c.walk.ensures.always;
      keeps = c.walk.ensures.keeps ∙ c.load_head.ensures.keeps;
    }
