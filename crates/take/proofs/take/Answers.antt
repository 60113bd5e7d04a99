use Rattle.std.proofs.Common.{◌≡◌, ℕ, ◌+◌, ◌<◌, List, length, set, Err, Option, sym, refl, ap, ◌∙◌, subst, ap₂, arith}
use Rattle.std.specs.List.{AllByRecursion}
use Rattle.std.proofs.lemmas.Result.{err_from_is_err_and}
use Rattle.page.specs.Form.{Summary, head_view, encode}
use Rattle.page.specs.Checks.{root_summary, summary}
use Rattle.tree.specs.Lawful.{Card}
use Rattle.tree.specs.Book.{Takes, take_off, take_absent, take_done}
use Rattle.refusal.specs.declared.Refusal.TheVariants.{Absent}
use Rattle.access.proofs.Refusing.{given}
use Rattle.access.proofs.Heads.{no_root, rooted}
use Rattle.take.specs.Shrinking.{freed, front_of, linked, left_entry, Shrunk, Shrinking}
use Rattle.take.proofs.Cards.{live_has, live_has_not, root_shrinking, few_free, take_changed}
use Rattle.take.proofs.take.Goals as goal

-- off an axis
pub returns-then-not-on_axes-clause-lawful : goal.returns-then-not-on_axes-clause-lawful
returns-then-not-on_axes-clause-lawful g c ps w =
    let off = c.if-not-on_axes.ensures in
    record { answers = take_off off; leaves = refl }

-- the head of a lawful card is read
pub returns-in_err-head-clause-lawful : goal.returns-in_err-head-clause-lawful
returns-in_err-head-clause-lawful g c ps w = absurd (c.in_err-head.ensures.lawful ps w)

-- an empty draft
pub returns-in_err-root-clause-lawful : goal.returns-in_err-root-clause-lawful
returns-in_err-root-clause-lawful g c ps w =
    let k = g.K.PointKind.kind in
    let s = g.met.K.PointKind.sound in
    let card = g.S.PageStore.pages c.args.store.now in
    let p = c.args.p.now in
    let on = c.if-not-on_axes.ensures in
    let keeps = c.load_head.ensures.keeps in
    let h = c.in_ok-head.ensures.lawful ps w in
    let none = (no_root k s card ps w (h.2 ∙ ap (root_summary k) c.in_err-root.ensures.ok_part)).1 in
    let exit = err_from_is_err_and c.from_residual-in_err-root.result c.from_residual-in_err-root.ensures.1 in
    rw (exit.1, exit.2, given c.in_ok-head.head.root c.in_err-root.field-0.0 Absent c.in_err-root.ensures.value) (record { answers = take_absent on (λ has. let a = has.1 in let b = ap length none in omega arith); leaves = keeps })

-- so many pages cannot be free
pub returns-then-head-clause-lawful : goal.returns-then-head-clause-lawful
returns-then-head-clause-lawful g c ps w =
    let k = g.K.PointKind.kind in
    let s = g.met.K.PointKind.sound in
    let card = g.S.PageStore.pages c.args.store.now in
    let p = c.args.p.now in
    let on = c.if-not-on_axes.ensures in
    let keeps = c.load_head.ensures.keeps in
    let h = c.in_ok-head.ensures.lawful ps w in
    let r = rooted k s card ps w (summary k c.in_ok-root.root) (h.2 ∙ ap (root_summary k) c.in_ok-root.ensures.ok_part) in
    let few = few_free k s card ps w p r.tree r.is_root in
    absurd (omega (arith, h.1, c.if-head.true))

-- refused on the way
pub returns-in_err-taken-clause-lawful : goal.returns-in_err-taken-clause-lawful
returns-in_err-taken-clause-lawful g c ps w =
    let k = g.K.PointKind.kind in
    let s = g.met.K.PointKind.sound in
    let card = g.S.PageStore.pages c.args.store.now in
    let p = c.args.p.now in
    let on = c.if-not-on_axes.ensures in
    let keeps = c.load_head.ensures.keeps in
    let exit = err_from_is_err_and c.from_residual-in_err-taken.result c.from_residual-in_err-taken.ensures.1 in
    let sub = c.in_err-taken.ensures in
    let h = c.in_ok-head.ensures.lawful ps w in
    let r = rooted k s card ps w (summary k c.in_ok-root.root) (h.2 ∙ ap (root_summary k) c.in_ok-root.ensures.ok_part) in
    let reached = subst (λ (a : Card). Shrinking k a ps (summary k c.in_ok-root.root) 0 r.tree) (sym keeps) (root_shrinking k s card ps w p (summary k c.in_ok-root.root) r.tree r.is_root r.entry_is) in
    let no = sub.lawful ps r.tree reached in
    rw (exit.1, exit.2) (record { answers = subst (λ n. Takes k (length card) ps p (Err n)) (sym no.1) (take_absent on (live_has_not k s card ps w p on no.0)); leaves = sub.always.0 ∙ keeps })

-- taken
pub returns-clause-lawful : goal.returns-clause-lawful
returns-clause-lawful g c ps w =
    let k = g.K.PointKind.kind in
    let s = g.met.K.PointKind.sound in
    let card = g.S.PageStore.pages c.args.store.now in
    let p = c.args.p.now in
    let on = c.if-not-on_axes.ensures in
    let keeps = c.load_head.ensures.keeps in
    let sub = c.in_ok-taken.ensures in
    let taken = c.in_ok-taken.taken in
    let first = c.in_ok-head.head.first in
    let free = c.in_ok-head.head.free in
    let mid = g.S.PageStore.pages c.take_below.new.store in
    let after = g.S.PageStore.pages c.put_page.new.store in
    let next = c.release-next.result in
    let made = c.release-next.ensures in
    let linked-card = linked k mid (freed taken) first in
    let written : after ≡ set linked-card 0 (encode k (head_view (front_of (freed taken) first) (length (freed taken) + free) (left_entry k taken))) =
    c.put_page.ensures ∙ ap₂ (λ (a : Card) (b : List ℕ). set a 0 b) made.pages (c.head_page.ensures
    ∙ ap (λ i. encode k (head_view i next.free (root_summary k next.root))) made.first
    ∙ ap (λ i. encode k (head_view (front_of (freed taken) first) i (root_summary k next.root))) made.free
    ∙ ap (λ (o : Option Summary). encode k (head_view (front_of (freed taken) first) (length (freed taken) + free) o)) made.root) in
    let within = subst (λ (a : Card). AllByRecursion (λ q. q < length a) (freed taken)) keeps sub.always.1 in
    let h = c.in_ok-head.ensures.lawful ps w in
    let r = rooted k s card ps w (summary k c.in_ok-root.root) (h.2 ∙ ap (root_summary k) c.in_ok-root.ensures.ok_part) in
    let reached = subst (λ (a : Card). Shrinking k a ps (summary k c.in_ok-root.root) 0 r.tree) (sym keeps) (root_shrinking k s card ps w p (summary k c.in_ok-root.root) r.tree r.is_root r.entry_is) in
    let shrunk = subst (λ (a : Card). Shrunk k a ps p r.tree taken mid) keeps (sub.lawful ps r.tree reached) in
    record {
      answers = take_done on (live_has k s card ps w p on shrunk.was_live);
      leaves = take_changed k s card ps w p on r.tree r.is_root taken mid shrunk within first free h.0 h.1 after written;
    }
