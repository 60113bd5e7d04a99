use Rattle.std.proofs.Common.{◌≡◌, suc, ◌+◌, ◌*◌, ◌<◌, length, sym, refl, ap, ◌∙◌, subst, inl, inr, ⊎_elim, zero-mul, arith}
use Rattle.page.specs.Checks.{root_summary, summary}
use Rattle.tree.specs.Book.{outline}
use Rattle.tree.specs.Laid.{shape}
use Rattle.access.proofs.Heads.{no_root, rooted}
use Rattle.access.proofs.Reaching.{root_reached, reached_on}
use Rattle.outlines.proofs.Ending.{never_err, ok_is}
use Rattle.outlines.proofs.Roots.{free_fits, none_has, empty_outline, root_end, short_outline, whole_outline}
use Rattle.outlines.proofs.outline.Goals as goal

-- the head of a lawful card is read
pub returns-in_err-head-clause-lawful : goal.returns-in_err-head-clause-lawful
returns-in_err-head-clause-lawful g c set w = absurd (c.in_err-head.ensures.lawful set w)

-- the numbers of a lawful card add up
pub returns-in_err-pages-clause-lawful : goal.returns-in_err-pages-clause-lawful
returns-in_err-pages-clause-lawful g c set w =
    let k = g.K.PointKind.kind in
    let s = g.met.K.PointKind.sound in
    let card = g.S.PageStore.pages c.args.store.now in
    let told = rw c.in_err-pages.ensures.ok_part at c.tree_pages.ensures in
    let n = c.count.ensures.gives ∙ ap length c.load_head.ensures.keeps in
    let h = c.in_ok-head.ensures.lawful set w in
    let a = free_fits k s card set w _ h.1 in
    let b = w.size.1 in
    absurd (⊎_elim (λ le. omega arith) (λ lt. omega arith) told)

-- an empty draft
pub returns-then-end-eq0 : goal.returns-then-end-eq0
returns-then-end-eq0 g c =
    let k = g.K.PointKind.kind in
    let s = g.met.K.PointKind.sound in
    let card = g.S.PageStore.pages c.args.store.now in
    let told = rw c.in_ok-pages.ensures.ok_part at c.tree_pages.ensures in
    let n = c.count.ensures.gives ∙ ap length c.load_head.ensures.keeps in
    record {
      lawful = λ set w.
          let h = c.in_ok-head.ensures.lawful set w in
          let p : length card ≡ suc (c.in_ok-pages.pages + c.in_ok-head.head.free) = sym n ∙ told.0 in
          empty_outline k s card set w c.in_ok-pages.pages _ h.1 p c.args.buffer.now (no_root k s card set w (h.2 ∙ ap (root_summary k) c.in_default.is)).1;
      always = (omega arith, refl);
      keeps = c.load_head.ensures.keeps;
    }

-- a lawful card without a root entry has no tree pages
pub returns-else-end-eq0 : goal.returns-else-end-eq0
returns-else-end-eq0 g c =
    let k = g.K.PointKind.kind in
    let s = g.met.K.PointKind.sound in
    let card = g.S.PageStore.pages c.args.store.now in
    let told = rw c.in_ok-pages.ensures.ok_part at c.tree_pages.ensures in
    let n = c.count.ensures.gives ∙ ap length c.load_head.ensures.keeps in
    record {
      lawful = λ set w.
          let h = c.in_ok-head.ensures.lawful set w in
          let p : length card ≡ suc (c.in_ok-pages.pages + c.in_ok-head.head.free) = sym n ∙ told.0 in
          let z = none_has k s card set w c.in_ok-pages.pages _ h.1 p (no_root k s card set w (h.2 ∙ ap (root_summary k) c.in_default.is)).0 in
          absurd (c.if-end-eq0.false (ap (λ i. i * c.entry_size.result) z ∙ zero-mul c.entry_size.result));
      always = inl refl;
      keeps = c.load_head.ensures.keeps;
    }

-- too short
pub returns-then-end-buffer : goal.returns-then-end-buffer
returns-then-end-buffer g c =
    let k = g.K.PointKind.kind in
    let s = g.met.K.PointKind.sound in
    let card = g.S.PageStore.pages c.args.store.now in
    let told = rw c.in_ok-pages.ensures.ok_part at c.tree_pages.ensures in
    let n = c.count.ensures.gives ∙ ap length c.load_head.ensures.keeps in
    record {
      lawful = λ set w.
          let h = c.in_ok-head.ensures.lawful set w in
          let r = rooted k s card set w (summary k c.in-Some.root) (h.2 ∙ ap (root_summary k) c.in-Some.is) in
          let p : length card ≡ suc (c.in_ok-pages.pages + c.in_ok-head.head.free) = sym n ∙ told.0 in
          short_outline k s card set w c.in_ok-pages.pages _ h.1 p r.tree r.is_root r.stands c.args.buffer.now (subst (λ z. length c.args.buffer.now < c.in_ok-pages.pages * z) c.entry_size.ensures c.if-end-buffer.true);
      always = inr (refl, refl);
      keeps = c.load_head.ensures.keeps;
    }

-- the walk is not refused
pub returns-in_err-next-clause-lawful : goal.returns-in_err-next-clause-lawful
returns-in_err-next-clause-lawful g c set w =
    let k = g.K.PointKind.kind in
    let s = g.met.K.PointKind.sound in
    let card = g.S.PageStore.pages c.args.store.now in
    let told = rw c.in_ok-pages.ensures.ok_part at c.tree_pages.ensures in
    let n = c.count.ensures.gives ∙ ap length c.load_head.ensures.keeps in
    let h = c.in_ok-head.ensures.lawful set w in
    let r = rooted k s card set w (summary k c.in-Some.root) (h.2 ∙ ap (root_summary k) c.in-Some.is) in
    let p : length card ≡ suc (c.in_ok-pages.pages + c.in_ok-head.head.free) = sym n ∙ told.0 in
    let e = root_end k s card set w c.in_ok-pages.pages _ h.1 p r.tree r.is_root r.stands in
    let f : c.in_ok-pages.pages * c.entry_size.result ≡ length (outline k (shape r.tree)) = ap (λ z. c.in_ok-pages.pages * z) c.entry_size.ensures ∙ e in
    never_err (c.in_err-next.ensures.lawful set r.tree (reached_on k c.load_head.ensures.keeps (root_reached k s card set _ r.tree r.stands (ap (summary k) c.in-Some.root-is ∙ sym r.entry_is))) (omega arith) (omega arith)).0

-- the whole outline
pub returns-then-next-end : goal.returns-then-next-end
returns-then-next-end g c =
    let k = g.K.PointKind.kind in
    let s = g.met.K.PointKind.sound in
    let card = g.S.PageStore.pages c.args.store.now in
    let told = rw c.in_ok-pages.ensures.ok_part at c.tree_pages.ensures in
    let n = c.count.ensures.gives ∙ ap length c.load_head.ensures.keeps in
    record {
      lawful = λ set w.
          let h = c.in_ok-head.ensures.lawful set w in
          let r = rooted k s card set w (summary k c.in-Some.root) (h.2 ∙ ap (root_summary k) c.in-Some.is) in
          let p : length card ≡ suc (c.in_ok-pages.pages + c.in_ok-head.head.free) = sym n ∙ told.0 in
          let e = root_end k s card set w c.in_ok-pages.pages _ h.1 p r.tree r.is_root r.stands in
          let f : c.in_ok-pages.pages * c.entry_size.result ≡ length (outline k (shape r.tree)) = ap (λ z. c.in_ok-pages.pages * z) c.entry_size.ensures ∙ e in
          let v = c.in_ok-next.ensures.lawful set r.tree (reached_on k c.load_head.ensures.keeps (root_reached k s card set _ r.tree r.stands (ap (summary k) c.in-Some.root-is ∙ sym r.entry_is))) (omega arith) (omega arith) in
          whole_outline k s card set w c.in_ok-pages.pages _ h.1 p r.tree r.is_root r.stands c.args.buffer.now _ _ (ap (λ z. c.in_ok-pages.pages * z) c.entry_size.ensures) v.1;
      always = (c.if-end-buffer.false, c.in_ok-next.ensures.always.1);
      keeps = c.outline_below.ensures.keeps ∙ c.load_head.ensures.keeps;
    }

-- as many records as pages
pub returns-else-next-end : goal.returns-else-next-end
returns-else-next-end g c =
    let k = g.K.PointKind.kind in
    let s = g.met.K.PointKind.sound in
    let card = g.S.PageStore.pages c.args.store.now in
    let told = rw c.in_ok-pages.ensures.ok_part at c.tree_pages.ensures in
    let n = c.count.ensures.gives ∙ ap length c.load_head.ensures.keeps in
    record {
      lawful = λ set w.
          let h = c.in_ok-head.ensures.lawful set w in
          let r = rooted k s card set w (summary k c.in-Some.root) (h.2 ∙ ap (root_summary k) c.in-Some.is) in
          let p : length card ≡ suc (c.in_ok-pages.pages + c.in_ok-head.head.free) = sym n ∙ told.0 in
          let e = root_end k s card set w c.in_ok-pages.pages _ h.1 p r.tree r.is_root r.stands in
          let f : c.in_ok-pages.pages * c.entry_size.result ≡ length (outline k (shape r.tree)) = ap (λ z. c.in_ok-pages.pages * z) c.entry_size.ensures ∙ e in
          let v = c.in_ok-next.ensures.lawful set r.tree (reached_on k c.load_head.ensures.keeps (root_reached k s card set _ r.tree r.stands (ap (summary k) c.in-Some.root-is ∙ sym r.entry_is))) (omega arith) (omega arith) in
          let m = ok_is v.0 in
          absurd (c.if-next-end.false (omega arith));
      always = inl refl;
      keeps = c.outline_below.ensures.keeps ∙ c.load_head.ensures.keeps;
    }
