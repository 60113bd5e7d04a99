-- The tally of a lawful card.
use Rattle.std.proofs.Common.{◌≡◌, ℕ, suc, ◌+◌, ◌-◌, ◌/◌, ◌<◌, List, length, Some, None, Option, sym, ap, ◌∙◌, arith}
use Rattle.std.specs.Prelude.{MatchOption}
use Rattle.kinds.specs.Kind.{Kind, Sound}
use Rattle.page.specs.declared.entry.Entry.{Entry}
use Rattle.page.specs.Checks.{summary, root_summary}
use Rattle.tree.specs.Tree.{Tree, OptionalTreeOf, count_pages, count_data, count_directories}
use Rattle.tree.specs.Laid.{root_shape}
use Rattle.tree.specs.Lawful.{Card, Lawful, root_entry}
use Rattle.tree.proofs.Trees.{data_more}
use Rattle.tree.proofs.Laws.{one_tree_law, whole_card_law}
use Rattle.access.proofs.Heads.{no_root, rooted}

module _ {P : Type 0} (k : Kind P) (s : Sound k) (card : Card) (set : List P) (w : Lawful k card set) where
  one : (o : Option (Tree P)) → OptionalTreeOf k set o → o ≡ root_shape w.root
  one o h = let u = one_tree_law P k s set w.is_set in u.2 o h ∙ sym (u.2 (root_shape w.root) w.is_tree)

  whole : suc (count_pages (root_shape w.root) + length w.chain) ≡ length card
  whole = whole_card_law P k s card set w

  odd_data : (o : Option (Tree P)) (t : ℕ) → t ≡ count_pages o → (t + 1) / 2 ≡ count_data o
  odd_data None t e = omega arith
  odd_data (Some u) t e = let m = data_more u in omega arith

  odd_directories : (o : Option (Tree P)) (t : ℕ) → t ≡ count_pages o → t / 2 ≡ count_directories o
  odd_directories None t e = omega arith
  odd_directories (Some u) t e = let m = data_more u in omega arith

  module _ (free : ℕ) (f : length w.chain ≡ free) where
    pub free_fits : free < length card
    free_fits = let a = whole in omega arith

    pub pages_left : (count : ℕ) → count ≡ length card → (count - 1) - free ≡ count_pages (root_shape w.root)
    pages_left count e = let a = whole in omega arith

    pub data_are : (t : ℕ) → t ≡ count_pages (root_shape w.root) → (o : Option (Tree P)) → OptionalTreeOf k set o → (t + 1) / 2 ≡ count_data o
    data_are t e o h = odd_data o t (e ∙ ap count_pages (sym (one o h)))

    pub directories_are : (t : ℕ) → t ≡ count_pages (root_shape w.root) → (o : Option (Tree P)) → OptionalTreeOf k set o → t / 2 ≡ count_directories o
    directories_are t e o h = odd_directories o t (e ∙ ap count_pages (sym (one o h)))

    pub free_are : (o : Option (Tree P)) → OptionalTreeOf k set o → suc (count_pages o + free) ≡ length card
    free_are o h = let a = whole in let e = ap count_pages (one o h) in omega arith

-- the number of points is that of the root entry, 0 where there is none
pub all_points : {P : Type 0} (k : Kind P) (s : Sound k) (card : Card) (set : List P) (w : Lawful k card set) (o : Option (Entry P)) → root_entry k w.root ≡ root_summary k o
    → (n : ℕ) (Counts : Entry P → Type 0) → MatchOption o (n ≡ 0) Counts → ((e : Entry P) → Counts e → n ≡ e.count) → n ≡ length set
all_points k s card set w None h n Counts m counts = m ∙ sym (ap length (no_root k s card set w h).1)
all_points k s card set w (Some e) h n Counts m counts = counts e m ∙ sym (rooted k s card set w (summary k e) h).counts
