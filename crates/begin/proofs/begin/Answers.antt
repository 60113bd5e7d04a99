use Rattle.std.proofs.Common.{◌≡◌, ◌<◌, ◌≤◌, ◌≢◌, [], length, get_or, set, sym, ap, ◌∙◌, subst, ⊎_elim, arith, rules, length-set, get_or-set_other, get_or-set_same}
use Rattle.std.proofs.lemmas.Bool.{cases_eq, cases_lt}
use Rattle.page.specs.Form.{free_view, encode}
use Rattle.tree.specs.Lawful.{page, begun_card, Lawful}
use Rattle.begin.proofs.Fresh.{free_bytes, made, begun_length, begun_lawful}
use Rattle.begin.proofs.begin.Goals as goal

-- one more free page
pub loop-page-preserved : goal.loop-page-preserved
loop-page-preserved g c =
    let k = g.K.PointKind.kind in
    let xs = g.S.PageStore.pages c.loop-page.store in
    let p = c.loop-page.page in
    let inv = c.loop-page.invariant in
    let b = c.free_page.result in
    let bytes : b ≡ free_bytes k c.count-count.result p = c.free_page.ensures ∙ ap (λ x. encode k (free_view x)) c.next_page.ensures in
    let e = c.put_page.ensures in
    let there : p < length xs = omega (arith, inv.0, c.loop-page-test.true) in (
      ap length e ∙ length-set xs p b ∙ inv.0,
      λ q h lt. ap (λ card. page card q) e ∙ ⊎_elim
          (λ same. subst (λ i. get_or (set xs p b) i [] ≡ free_bytes k c.count-count.result i) (sym same) (rw get_or-set_same bytes))
          (λ ne. let other : q ≢ p = ne in let below : q < p = ⊎_elim (λ l. l) (λ l. absurd (ne (omega arith))) (cases_lt q p) in rw get_or-set_other (inv.1 q h below))
          (cases_eq q p),
    )

pub returns : goal.returns
returns g c =
    let k = g.K.PointKind.kind in
    let n = c.count-count.result in
    let inv = c.loop-page.invariant in
    let e : n ≡ length (g.S.PageStore.pages c.args.store.now) = c.count-count.ensures.gives in
    let two : 2 ≤ n = search rules in
    let most : n ≤ 65535 = omega (arith, c.if-count-gt65535.false) in
    let is : g.S.PageStore.pages c.put_page-2.new.store ≡ begun_card k n =
    c.put_page-2.ensures ∙ made k n (g.S.PageStore.pages c.loop-page.store) _ (omega arith) inv.0 (λ q h lt. inv.1 q h (omega (arith, c.loop-page-test.false))) c.head_page.ensures in (
      omega (arith, e, two),
      omega (arith, e, most),
      is ∙ ap (begun_card k) e,
      ap length is ∙ begun_length k n (omega arith) ∙ e,
      subst (λ card. Lawful k card []) (sym is) (begun_lawful k n two most),
    )
