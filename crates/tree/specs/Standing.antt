-- A part of a draft's tree as it stands on a card.
use Rattle.std.specs.Prelude.{◌^◌, ◌<◌, List, map, length}
use Rattle.std.specs.List.{AllByRecursion}
use Rattle.kinds.specs.Kind.{Kind}
use Rattle.page.specs.Form.{View, data_view, directory_view}
use Rattle.tree.specs.Sets.{IsSet}
use Rattle.tree.specs.Tree.{TreeOf}
use Rattle.tree.specs.Laid.{Laid, data_at, directory_at, numbers, shape}
use Rattle.tree.specs.Lawful.{Card, Shows, entry}

module _ {P : Type 0} (k : Kind P) where
  -- what the first page of a laid tree says
  abbrev pub view_of : Laid P → View
  view_of (data_at q ps) = data_view (map k.coords ps)
  view_of (directory_at q n l h) = directory_view n (entry k l) (entry k h)

  -- The card shows the laid tree of a set, and its numbers fit their bytes.
  pub record Standing (card : Card) (ps : List P) (t : Laid P) : Type 0 where
    pub shows : Shows k card t
    pub is_set : IsSet k ps
    pub halved : TreeOf k ps (shape t)
    pub few : length ps < 2 ^ 32
    pub within : AllByRecursion (λ q. q < 65536) (numbers t)
