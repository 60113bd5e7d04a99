-- A part of the tree of a set, as a call comes to it on the way of a point.
use Rattle.std.specs.Prelude.{◌≡◌, ℕ, cond, List, ◌==◌}
use Rattle.std.specs.List.{AllByRecursion}
use Rattle.zorder.specs.Code.{first}
use Rattle.kinds.specs.Kind.{Kind, wide, code_of}
use Rattle.page.specs.Form.{Summary}
use Rattle.tree.specs.Laid.{Laid}
use Rattle.tree.specs.Lawful.{Card, entry}
use Rattle.tree.specs.Standing.{Standing}

-- the low one at bit 0, else the high one
abbrev pub chosen : {X : Type 0} → ℕ → X → X → X
chosen bit low high = cond (bit == 0) low high

module _ {P : Type 0} (k : Kind P) where
  -- The laid tree of ps stands on the card, its entry is e, and all its codes share the first `above` bits.
  pub record Reached (card : Card) (ps : List P) (e : Summary) (above : ℕ) (t : Laid P) : Type 0 where
    pub stands : Standing k card ps t
    pub at : e ≡ entry k t
    pub front : ℕ
    pub share : AllByRecursion (λ q. first (wide k) above (code_of k q) ≡ front) ps
