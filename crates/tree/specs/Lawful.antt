-- Lawful cards.
use Rattle.std.specs.Prelude.{◌≡◌, ℕ, ◌+◌, ◌-◌, ◌≤◌, cond, ◌&&◌, List, [], ◌∷◌, ◌++◌, map, length, Some, None, Option, nat_le, nat_lt, slice_index_or}
use Rattle.std.specs.List.{AllByRecursion, range_with_len}
use Rattle.kinds.specs.Kind.{Kind, low_corner, high_corner}
use Rattle.page.specs.Form.{Summary, free_view, data_view, directory_view, head_view, encode, times}
use Rattle.tree.specs.Sets.{IsSet}
use Rattle.tree.specs.Tree.{OptionalTreeOf}
use Rattle.tree.specs.Laid.{Laid, data_at, directory_at, number, below_it, root_shape, root_numbers}

-- A card is the list of its pages, each the list of its bytes.
abbrev pub Card : Type 0
Card = List (List ℕ)

-- the bytes of page q
abbrev pub page : Card → ℕ → List ℕ
page card q = slice_index_or card q []

-- A page and its bytes.
pub record Part : Type 0 where
  pub at : ℕ
  pub holds : List ℕ

-- The free chain: each page leads to the next, and the last to 0.
abbrev pub front : List ℕ → ℕ
front [] = 0
front (q ∷ qs) = q

module _ {P : Type 0} (k : Kind P) where
  -- the entry that leads to a laid tree: its first page, its number of points, its corners
  abbrev pub entry : Laid P → Summary
  entry t = record { page = number t; count = length (below_it t); low = low_corner k (below_it t); high = high_corner k (below_it t) }

  -- the bytes of the first page of a laid tree
  abbrev pub face : Laid P → List ℕ
  face (data_at q ps) = encode k (data_view (map k.coords ps))
  face (directory_at q n l h) = encode k (directory_view n (entry l) (entry h))

  -- the pages of a laid tree, each with its bytes
  abbrev pub parts : Laid P → List Part
  parts (data_at q ps) = record { at = q; holds = face (data_at q ps) } ∷ []
  parts (directory_at q n l h) = record { at = q; holds = face (directory_at q n l h) } ∷ (parts l ++ parts h)

  abbrev pub root_parts : Option (Laid P) → List Part
  root_parts None = []
  root_parts (Some t) = parts t

  -- The card shows the parts: each of their pages has exactly the bytes of its part.
  abbrev pub Holds : Card → List Part → Type 0
  Holds card xs = AllByRecursion (λ x. page card x.at ≡ x.holds) xs

  -- the card shows a laid tree
  abbrev pub Shows : Card → Laid P → Type 0
  Shows card t = Holds card (parts t)

  abbrev pub root_entry : Option (Laid P) → Option Summary
  root_entry None = None
  root_entry (Some t) = Some (entry t)

  abbrev pub Chained : Card → List ℕ → Type 0
  Chained card [] = Unit {0}
  Chained card (q ∷ qs) = (page card q ≡ encode k (free_view (front qs))) × Chained card qs

  -- A card is lawful for a set of points, its live points.
  pub record Lawful (card : Card) (set : List P) : Type 0 where
    -- the laid tree from the root entry, and the free chain
    pub root : Option (Laid P)
    pub chain : List ℕ
    -- it has 2 to 65,535 pages
    pub size : (2 ≤ length card) × (length card ≤ 65535)
    pub is_set : IsSet k set
    -- page 0 is the kind's head: the free chain's first page and length, and the entry made for the set, zero bytes for the empty set
    pub head : page card 0 ≡ encode k (head_view (front chain) (length chain) (root_entry root))
    -- the pages from the root are the set's tree
    pub is_tree : OptionalTreeOf k set (root_shape root)
    pub shows : Holds card (root_parts root)
    -- the free chain
    pub chained : Chained card chain
    -- each page but the head stands exactly once in the tree or in the chain, and nothing else does
    pub each_once : (q : ℕ) → times q (root_numbers root ++ chain) ≡ cond (nat_le 1 q && nat_lt q (length card)) 1 0

  -- A fresh card of n pages: an empty draft whose chain is 1, 2, up to n - 1.
  unfoldable pub begun_card : ℕ → Card
  begun_card n = encode k (head_view 1 (n - 1) None) ∷ map (λ q. encode k (free_view (cond (nat_lt (q + 1) n) (q + 1) 0))) (range_with_len 1 (n - 1))

-- The cards have the same number of pages, and every page that does not stand in the list is kept.
pub record KeptBut (changed : List ℕ) (before after : Card) : Type 0 where
  pub same_size : length after ≡ length before
  pub kept : (q : ℕ) → times q changed ≡ 0 → page after q ≡ page before q
