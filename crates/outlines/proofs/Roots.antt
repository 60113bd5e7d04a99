-- The outline of a lawful card, from its root.
use Rattle.std.proofs.Common.{◌≡◌, ℕ, suc, ◌+◌, ◌*◌, ◌<◌, List, [], ◌++◌, length, drop, Some, None, Ok, Err, sym, ap, ◌∙◌, subst, arith}
use Rattle.kinds.specs.Kind.{Kind, Sound, entry_length}
use Rattle.tree.specs.Book.{Outlines, too_short, outlined, outline, written}
use Rattle.tree.specs.Laid.{Laid, shape, root_shape}
use Rattle.tree.specs.Lawful.{Card, Lawful}
use Rattle.tree.specs.Standing.{Standing}
use Rattle.tree.specs.Tree.{count_pages}
use Rattle.tree.proofs.Laws.{whole_card_law}
use Rattle.tree.proofs.Standings.{laid_pages}
use Rattle.outlines.specs.Records.{Wrote}
use Rattle.outlines.proofs.Parts.{outline_long}

-- there are fewer free pages than pages
pub free_fits : {P : Type 0} (k : Kind P) (s : Sound k) (card : Card) (set : List P) (w : Lawful k card set) (free : ℕ) → length w.chain ≡ free → free < length card
free_fits {P} k s card set w free e = let a = whole_card_law P k s card set w in omega arith

module _ {P : Type 0} (k : Kind P) (s : Sound k) (card : Card) (set : List P) (w : Lawful k card set) (pages free : ℕ) (chain : length w.chain ≡ free) (whole : length card ≡ suc (pages + free)) where
  -- the pages that are neither the head nor free are those of the tree
  tree_has : pages ≡ count_pages (root_shape w.root)
  tree_has = let a = whole_card_law P k s card set w in omega arith

  pub none_has : w.root ≡ None → pages ≡ 0
  none_has e = tree_has ∙ ap (λ r. count_pages (root_shape r)) e

  pub empty_outline : (before : List ℕ) → set ≡ [] → Outlines k (length card) set before (Ok 0) before
  empty_outline before e = outlined None e (omega arith)

  module _ (t : Laid P) (is_root : w.root ≡ Some t) (st : Standing k card set t) where
    pub root_end : pages * entry_length k ≡ length (outline k (shape t))
    root_end = ap (λ n. n * entry_length k) (tree_has ∙ ap (λ r. count_pages (root_shape r)) is_root ∙ laid_pages t) ∙ sym (outline_long k s card set t st)

    pub short_outline : (before : List ℕ) → length before < pages * entry_length k → Outlines k (length card) set before (Err 7) before
    short_outline before lt = let e = root_end in too_short (Some (shape t)) st.halved (subst (λ n. length before < n) e lt)

    pub whole_outline : (before after : List ℕ) (end : ℕ) → end ≡ pages * entry_length k → Wrote before 0 (outline k (shape t)) after → Outlines k (length card) set before (Ok end) after
    whole_outline before after end is v =
        let n = v.room in
        let z : 0 + length (outline k (shape t)) ≡ length (outline k (shape t)) = omega arith in
        let a : after ≡ written (outline k (shape t)) before = v.is ∙ ap (λ i. outline k (shape t) ++ drop i before) z in
        subst (λ x. Outlines k (length card) set before (Ok x) after) (sym (is ∙ root_end))
        (subst (λ x. Outlines k (length card) set before (Ok (length (outline k (shape t)))) x) (sym a) (outlined (Some (shape t)) st.halved (omega arith)))
