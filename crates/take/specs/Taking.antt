-- What take answers, and the card that it leaves.
use Rattle.std.specs.Prelude.{◌≡◌, ◌⊎◌, List, ◌∷◌, ◌++◌, length, Ok, Err, Result}
use Rattle.refusal.specs.declared.Refusal.{Refusal}
use Rattle.refusal.specs.Numbers.{number, numbered}
use Rattle.kinds.specs.Kind.{Kind, On, code_of}
use Rattle.tree.specs.Sets.{without_point}
use Rattle.tree.specs.Laid.{root_way, root_beside}
use Rattle.tree.specs.Lawful.{Card, Lawful, KeptBut}
use Rattle.tree.specs.Book.{Takes}

module _ {P : Type 0} (k : Kind P) where
  -- What an accepted take changes: the head, pages of the point's way and the page beside its last. The card is lawful for the set without the point.
  pub record TakeChanged (before : Card) (set : List P) (w : Lawful k before set) (p : P) (after : Card) : Type 0 where
    pub kept : KeptBut (0 ∷ (root_way k w.root p ++ root_beside k w.root p)) before after
    pub lawful : Lawful k after (without_point (code_of k) p set)

  abbrev pub TakeLeft : (before : Card) (set : List P) → Lawful k before set → P → Result Unit Refusal → Card → Type 0
  TakeLeft before set w p (Ok u) after = TakeChanged before set w p after
  TakeLeft before set w p (Err e) after = after ≡ before

  -- A take on a lawful card: the book's answer; a refusal keeps all pages.
  pub record TakeStep (before : Card) (set : List P) (w : Lawful k before set) (p : P) (r : Result Unit Refusal) (after : Card) : Type 0 where
    pub answers : Takes k (length before) set p (numbered r)
    pub leaves : TakeLeft before set w p r after

  -- A take on any card: 3 exactly off an axis, else accepted, 9 or 5; the number of pages is kept, and a refusal keeps all pages.
  abbrev pub TakeAny : P → Card → Card → Result Unit Refusal → Type 0
  TakeAny p before after (Ok u) = On k p × (length after ≡ length before)
  TakeAny p before after (Err e) = (after ≡ before) × (((On k p → ⊥) × (number e ≡ 3)) ⊎ (On k p × ((number e ≡ 9) ⊎ (number e ≡ 5))))
