-- The head of a lawful card, as a call reads it.
use Rattle.std.specs.Prelude.{◌≡◌, List, length}
use Rattle.kinds.specs.Kind.{Kind}
use Rattle.page.specs.Checks.{root_summary}
use Rattle.page.specs.declared.head_page.Head.{Head}
use Rattle.tree.specs.Lawful.{Card, Lawful, front, root_entry}

-- The head says where the free chain begins, how long it is, and where the tree begins.
abbrev pub HeadOf : {P : Type 0} (k : Kind P) (card : Card) (set : List P) → Lawful k card set → Head P → Type 0
HeadOf k card set w head = (front w.chain ≡ head.first) × (length w.chain ≡ head.free) × (root_entry k w.root ≡ root_summary k head.root)
