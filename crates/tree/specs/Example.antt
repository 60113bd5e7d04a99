-- A worked example: sixteen lay points, courses 0 to 15 at shog 0, on a card of four pages.
use Rattle.std.specs.Prelude.{ℕ, List, [], ◌∷◌, map, pos, Some}
use Rattle.std.specs.List.{range_with_len}
use Rattle.kinds.specs.declared.lay.LayPoint.{LayPoint}
use Rattle.kinds.specs.Lay.{lay_kind}
use Rattle.page.specs.Form.{head_view, encode}
use Rattle.tree.specs.Tree.{leaf, node, TreeOf}
use Rattle.tree.specs.Laid.{Laid, data_at, directory_at}
use Rattle.tree.specs.Lawful.{Card, entry, face, Lawful}

-- the lay points at shog 0 of some courses in a row
abbrev pub row : ℕ → ℕ → List LayPoint
row first many = map (λ course. record { course = course; shog = pos 0 }) (range_with_len first many)

-- page 1 is the directory page, page 2 has courses 0 to 7, page 3 courses 8 to 15
abbrev pub example_tree : Laid LayPoint
example_tree = directory_at 1 24 (data_at 2 (row 0 8)) (data_at 3 (row 8 8))

abbrev pub example_card : Card
example_card =
    encode lay_kind (head_view 0 0 (Some (entry lay_kind example_tree)))
    ∷ (face lay_kind example_tree
    ∷ (face lay_kind (data_at 2 (row 0 8))
    ∷ (face lay_kind (data_at 3 (row 8 8))
    ∷ [])))

-- The sixteen points have depth 24 and two data pages of eight, and this card of four pages is lawful for them.
pub record Example : Type 0 where
  pub tree : TreeOf lay_kind (row 0 16) (node 24 (leaf (row 0 8)) (leaf (row 8 8)))
  pub card : Lawful lay_kind example_card (row 0 16)
