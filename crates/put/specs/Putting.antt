-- What put answers, and the card that it leaves.
use Rattle.std.specs.Prelude.{◌≡◌, ℕ, ◌≤◌, ◌⊎◌, List, ◌∷◌, ◌++◌, length, Ok, Err, Result}
use Rattle.refusal.specs.declared.Refusal.{Refusal}
use Rattle.refusal.specs.Numbers.{number, numbered}
use Rattle.kinds.specs.Kind.{Kind, On, code_of}
use Rattle.page.specs.Form.{times}
use Rattle.tree.specs.Sets.{with_point}
use Rattle.tree.specs.Laid.{root_way}
use Rattle.tree.specs.Lawful.{Card, Lawful, KeptBut}
use Rattle.tree.specs.Book.{Puts}

module _ {P : Type 0} (k : Kind P) where
  -- What an accepted put changes: the head, pages of the point's way and at most two free pages. The card is lawful for the set with the point.
  pub record PutChanged (before : Card) (set : List P) (w : Lawful k before set) (p : P) (after : Card) : Type 0 where
    pub used : List ℕ
    pub few : length used ≤ 2
    pub free : (q : ℕ) → times q used ≤ times q w.chain
    pub kept : KeptBut (0 ∷ (root_way k w.root p ++ used)) before after
    pub lawful : Lawful k after (with_point (code_of k) p set)

  abbrev pub PutLeft : (before : Card) (set : List P) → Lawful k before set → P → Result Unit Refusal → Card → Type 0
  PutLeft before set w p (Ok u) after = PutChanged before set w p after
  PutLeft before set w p (Err e) after = after ≡ before

  -- A put on a lawful card: the book's answer; a refusal keeps all pages.
  pub record PutStep (before : Card) (set : List P) (w : Lawful k before set) (p : P) (r : Result Unit Refusal) (after : Card) : Type 0 where
    pub answers : Puts k (length before) set p (numbered r)
    pub leaves : PutLeft before set w p r after

  -- A put on any card: 3 exactly off an axis, else accepted, 9, 4 or 6; the number of pages is kept, and a refusal keeps all pages.
  abbrev pub PutAny : P → Card → Card → Result Unit Refusal → Type 0
  PutAny p before after (Ok u) = On k p × (length after ≡ length before)
  PutAny p before after (Err e) = (after ≡ before) × (((On k p → ⊥) × (number e ≡ 3)) ⊎ (On k p × ((number e ≡ 9) ⊎ (number e ≡ 4) ⊎ (number e ≡ 6))))
