-- Placing the points of a motif one after another.
use Rattle.std.specs.Prelude.{◌≡◌, ℕ, ◌<◌, ◌≤◌, List, length, pos, Some, None, Ok, Err, Option, Result, slice_index_or}
use Rattle.refusal.specs.declared.Refusal.{Refusal}
use Rattle.kinds.specs.declared.lay.LayPoint.{LayPoint}
use Rattle.kinds.specs.Kind.{On}
use Rattle.kinds.specs.Lay.{lay_kind}
use Rattle.origin.specs.declared.origin.Origin.{Origin}
use Rattle.origin.specs.Placing.{sum, PlaceSays}

-- Point k of a motif; it is used of numbers below the motif's length only.
abbrev pub at : List LayPoint → ℕ → LayPoint
at ps k = slice_index_or ps k (record { course = 0; shog = pos 0 })

-- The first n points of a motif are placed.
abbrev pub Placed : Origin → ℕ → List LayPoint → List LayPoint → Type 0
Placed o n before after = (k : ℕ) → k < n → PlaceSays o (at before k) (Ok (at after k))

-- The points of a motif from number n on stay as they were.
abbrev pub Stay : ℕ → List LayPoint → List LayPoint → Type 0
Stay n before after = (k : ℕ) → n ≤ k → at after k ≡ at before k

-- What placing a whole motif answers: every point is placed; or there is a first point that is refused, the points before it are placed, and it and those after it stay.
abbrev pub PlacesSays : Origin → List LayPoint → List LayPoint → Result Unit Refusal → Type 0
PlacesSays o before after (Ok _) = Placed o (length before) before after
PlacesSays o before after (Err e) =
    (n : ℕ) × (n < length before) × Placed o n before after × PlaceSays o (at before n) (Err e) × Stay n before after

-- A point can be placed: it and the sum lie on the axes.
abbrev pub Placeable : Origin → LayPoint → Type 0
Placeable o p = On lay_kind p × On lay_kind (sum o p)

-- The number of the first point of a motif that cannot be placed, or none where every point can.
abbrev pub FirstSays : Origin → List LayPoint → Option ℕ → Type 0
FirstSays o ps (Some n) = (n < length ps) × ((k : ℕ) → k < n → Placeable o (at ps k)) × (Placeable o (at ps n) → ⊥)
FirstSays o ps None = (k : ℕ) → k < length ps → Placeable o (at ps k)
