-- From the page that was read to the part of the tree that begins there.
use Rattle.std.proofs.Common.{◌≡◌, ℕ, ◌<◌, ◌≤◌, false, List, map, length, Some, sym, ap, ◌∙◌, subst, arith, Result}
use lib.Bits.{bit_xor}
use lib.Count.{count_leading_zeros}
use Rattle.refusal.specs.declared.Refusal.{Refusal}
use Rattle.zorder.specs.Code.{first, bit_at}
use Rattle.zorder.proofs.Shared.{agree_zeros, zeros_agree}
use Rattle.kinds.specs.Kind.{Kind, Sound, On, code_of, wide}
use Rattle.kinds.proofs.Telling.{code_of_lt}
use Rattle.page.specs.declared.directory_page.Fork.{Fork}
use Rattle.page.specs.declared.entry.Entry.{Entry}
use Rattle.page.specs.Form.{data_view}
use Rattle.page.specs.Fields.{Reads}
use Rattle.page.specs.Checks.{IsData, DirectoryRead, summary}
use Rattle.tree.specs.Sets.{live}
use Rattle.tree.specs.Laid.{Laid, data_at, directory_at, agrees}
use Rattle.tree.specs.Lawful.{Card, page}
use Rattle.tree.specs.Standing.{view_of}
use Rattle.tree.proofs.Laws.{live_not}
use Rattle.tree.proofs.Standings.{leaf_inv}
use Rattle.access.specs.Reached.{Reached}
use Rattle.access.proofs.Reaching.{reached_points, reached_there, reached_reads, reached_parted, leafed, forked, deep, agrees_if, agrees_not}
use Rattle.take.specs.declared.taken.Taken.{Taken}
use Rattle.take.specs.Shrinking.{Shrinking, Divided, TakeEnd}

module _ {P : Type 0} (k : Kind P) (s : Sound k) (card : Card) (ps : List P) (e : Entry P) (above : ℕ) (t : Laid P) (w : Shrinking k card ps (summary k e) above t) where
  -- the page is there
  pub below_there : e.page < length card
  below_there = reached_there k s card ps (summary k e) above t w.reached

  module _ (bs : List ℕ) (is : bs ≡ page card e.page) where
    pub reads : Reads k bs (view_of k t)
    reads = reached_reads k s card ps (summary k e) above t w.reached bs is

    -- a data page has the points of the part
    pub data_case : (F : Laid P → Type 0) → IsData k bs → (Reads k bs (data_view (map k.coords ps)) → F (data_at e.page ps)) → F t
    data_case F there next =
        let leaf = leafed k s card t bs reads there in
        let w' = subst (Reached k card ps (summary k e) above) leaf.is w.reached in
        let points = (leaf_inv k w'.stands.halved).0 in
        let t_is : t ≡ data_at e.page ps = leaf.is ∙ ap (λ xs. data_at leaf.q xs) (sym points) ∙ ap (λ i. data_at i ps) (sym (ap (λ y. y.page) w'.at)) in
        subst F (sym t_is) (next (subst (λ u. Reads k bs (view_of k u)) t_is reads))

    module _ (x : Fork P) (d : DirectoryRead k bs (Some x)) where
      -- the depth rises
      pub below_deep : above ≤ wide k → x.depth < above → ⊥
      below_deep le lt =
          let f = forked k s card t bs _ _ _ reads d in
          let a = deep k s card ps (summary k e) above f.q x.depth f.l f.h (subst (Reached k card ps (summary k e) above) f.is w.reached) le in
          omega arith

      -- a point that does not share the first bits is not live
      pub below_absent : (p : P) → On k p → On k e.low → (z : ℕ) → z ≡ count_leading_zeros (wide k) (bit_xor (code_of k e.low) (code_of k p)) → z < x.depth → live (code_of k) p ps ≡ false
      below_absent p on low_on z z_is lt =
          let deep = d.fields.0.shallow in
          let ne : first (wide k) x.depth (code_of k e.low) ≡ first (wide k) x.depth (code_of k p) → ⊥ =
          λ same. let a = agree_zeros (wide k) _ _ x.depth (code_of_lt k s e.low low_on) (code_of_lt k s p on) (omega arith) same in omega arith in
          let f = forked k s card t bs _ _ _ reads d in
          let w' = subst (Reached k card ps (summary k e) above) f.is w.reached in
          let part = reached_parted k s card ps (summary k e) above f.q x.depth f.l f.h w' in
          let off = agrees_not k s card ps (summary k e) above f.q x.depth f.l f.h w' p ne in
          live_not (code_of k) (wide k) x.depth part.front ps p part.share (subst (λ xs. agrees (code_of k) (wide k) x.depth xs p ≡ false) (reached_points k s card ps (summary k e) above (directory_at f.q x.depth f.l f.h) w') off)

      -- else its half goes on
      fork_case : (F : Laid P → Type 0) (bit : ℕ) (p : P) → On k p → On k e.low → (z : ℕ) → z ≡ count_leading_zeros (wide k) (bit_xor (code_of k e.low) (code_of k p)) → x.depth ≤ z → bit_at (wide k) x.depth (code_of k p) ≡ bit
          → ((q : ℕ) (l h : Laid P) → Divided k card ps e above x bit p q l h → F (directory_at q x.depth l h)) → F t
      fork_case F bit p on low_on z z_is le b next =
          let same = zeros_agree (wide k) _ _ x.depth (code_of_lt k s e.low low_on) (code_of_lt k s p on) (omega arith) in
          let f = forked k s card t bs _ _ _ reads d in
          let w' = subst (Shrinking k card ps (summary k e) above) f.is w in
          subst F (sym f.is) (next f.q f.l f.h (record {
            shrinking = w';
            low_is = f.low_is;
            high_is = f.high_is;
            shares = agrees_if k s card ps (summary k e) above f.q x.depth f.l f.h w'.reached p same;
            bit_is = b;
          }))

-- A directory page is read, which changes no page: what is told of both halves tells how the take ends.
pub forked_end : {P : Type 0} (k : Kind P) (s : Sound k) (now card : Card) (same : now ≡ card) (ps : List P) (e : Entry P) (above : ℕ) (t : Laid P) (w : Shrinking k card ps (summary k e) above t) (bs : List ℕ) (is : bs ≡ page card e.page) (x : Fork P) (d : DirectoryRead k bs (Some x))
    (bit : ℕ) (p : P) → On k p → On k e.low → (z : ℕ) → z ≡ count_leading_zeros (wide k) (bit_xor (code_of k e.low) (code_of k p)) → x.depth ≤ z → bit ≡ bit_at (wide k) x.depth (code_of k p) → (r : Result (Taken P) Refusal) (after : Card)
    → ((q : ℕ) (l h : Laid P) → Divided k now ps e above x bit p q l h → TakeEnd k now ps p (directory_at q x.depth l h) r after) → TakeEnd k card ps p t r after
forked_end k s now card same ps e above t w bs is x d bit p on low_on z z_is le b r after f =
    subst (λ (a : Card). TakeEnd k a ps p t r after) same
    (fork_case k s now ps e above t (subst (λ (a : Card). Shrinking k a ps (summary k e) above t) (sym same) w) bs (is ∙ ap (λ a. page a e.page) (sym same)) x d (λ u. TakeEnd k now ps p u r after) bit p on low_on z z_is le (sym b) f)
