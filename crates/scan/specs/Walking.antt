-- The part of a draft's tree below an entry, as a walk finds it on a card.
use Rattle.std.specs.Prelude.{◌≡◌, ℕ, ◌≤◌, List, length}
use Rattle.std.specs.List.{AllByRecursion}
use Rattle.kinds.specs.Kind.{Kind, On, wide, low_corner, high_corner}
use Rattle.page.specs.Form.{Summary}
use Rattle.tree.specs.Laid.{Laid, numbers}
use Rattle.tree.specs.Lawful.{Card}
use Rattle.access.specs.Reached.{Reached}

module _ {P : Type 0} (k : Kind P) where
  -- the points below an entry, all on their axes: the entry has their number and their corners
  pub record Below (ps : List P) (e : Summary) : Type 0 where
    pub on : AllByRecursion (On k) ps
    pub counted : e.count ≡ length ps
    pub low_is : e.low ≡ low_corner k ps
    pub high_is : e.high ≡ high_corner k ps

  -- the entry leads to the tree of ps, at most W bits are shared above it, and as many reads are left as it has pages
  pub record Walked (card : Card) (ps : List P) (t : Laid P) (e : Summary) (above left : ℕ) : Type 0 where
    pub reached : Reached k card ps e above t
    pub shallow : above ≤ wide k
    pub enough : length (numbers t) ≤ left
