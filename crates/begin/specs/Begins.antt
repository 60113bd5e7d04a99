-- What begin answers, and the card that it leaves.
use Rattle.std.specs.Prelude.{◌≡◌, ◌<◌, ◌≤◌, ◌⊎◌, [], length, Ok, Err, Result}
use Rattle.refusal.specs.declared.Refusal.{Refusal}
use Rattle.refusal.specs.Numbers.{number}
use Rattle.kinds.specs.Kind.{Kind}
use Rattle.tree.specs.Lawful.{Card, Lawful, begun_card}

-- A fresh card of as many pages, which is lawful for the empty set; or 1, exactly if there are too few pages or too many, and then no page is changed.
abbrev pub Begins : {P : Type 0} → Kind P → Card → Card → Result Unit Refusal → Type 0
Begins k before after (Ok u) = (2 ≤ length before) × (length before ≤ 65535) × (after ≡ begun_card k (length before)) × (length after ≡ length before) × Lawful k after []
Begins k before after (Err e) = (number e ≡ 1) × ((length before < 2) ⊎ (65535 < length before)) × (after ≡ before)
