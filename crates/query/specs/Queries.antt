-- Queries: exact match, partial match, range and partial range queries are the cases in which each axis has one coordinate, some axes have one and the others are free, each axis has a range, and some axes have a range and the others are free.
use Rattle.std.specs.Prelude.{◌≡◌, ℕ, ◌^◌, ◌<◌, ◌≤◌, List, [], ◌∷◌, length, get_or, ℤ, pos, ◌+ℤ◌, ◌-ℤ◌, ◌≤ℤ◌, Some, None, Ok, Err, Option, Result, slice_index_or}
use Rattle.refusal.specs.declared.Refusal.{Refusal}
use Rattle.refusal.specs.Numbers.{number}
use Rattle.zorder.specs.Code.{Axis, OnAxis, OnAxes}
use Rattle.zorder.specs.Sharing.{Inside}
use Rattle.kinds.specs.Kind.{Kind, On}
use Rattle.query.specs.declared.choice.Choice.{Choice}
use Rattle.query.specs.declared.choice.Choice.TheVariants.{Any, One, Range}
use Rattle.query.specs.declared.window.Window.{Window}

-- The query selects a coordinate: any, the one, or one between the two ends.
abbrev pub Chooses : Choice → ℤ → Type 0
Chooses Any z = Unit {0}
Chooses (One at) z = z ≡ at
Chooses (Range low high) z = (low ≤ℤ z) × (z ≤ℤ high)

-- The query selects a point: one choice for each coordinate, and each is met.
abbrev pub Selects : List Choice → List ℤ → Type 0
Selects [] [] = Unit {0}
Selects [] (z ∷ zs) = ⊥
Selects (c ∷ cs) [] = ⊥
Selects (c ∷ cs) (z ∷ zs) = Chooses c z × Selects cs zs

-- Every coordinate that a choice names lies on the axis.
abbrev pub Names : Axis → Choice → Type 0
Names a Any = Unit {0}
Names a (One at) = OnAxis a at
Names a (Range low high) = OnAxis a low × OnAxis a high

-- One choice for each axis, and every coordinate that is named lies on its axis.
abbrev pub QueryOn : List Axis → List Choice → Type 0
QueryOn [] [] = Unit {0}
QueryOn [] (c ∷ cs) = ⊥
QueryOn (a ∷ axs) [] = ⊥
QueryOn (a ∷ axs) (c ∷ cs) = Names a c × QueryOn axs cs

-- The greatest coordinate of an axis.
abbrev pub greatest : Axis → ℤ
greatest a = (a.least +ℤ pos (2 ^ a.bits)) -ℤ pos 1

-- The ends of a choice: those of the axis where it is free.
abbrev pub low_end : ℤ → Choice → ℤ
low_end least Any = least
low_end least (One at) = at
low_end least (Range low high) = low

abbrev pub high_end : ℤ → Choice → ℤ
high_end most Any = most
high_end most (One at) = at
high_end most (Range low high) = high

module _ {P : Type 0} (k : Kind P) where
  -- an axis of the kind, by its smallest and its greatest coordinate
  abbrev pub SpanOf : ℕ → Option (ℤ × ℤ) → Type 0
  SpanOf i (Some x) = (i < length k.axes) × ((d : Axis) → (x.0 ≡ (get_or k.axes i d).least) × (x.1 ≡ greatest (slice_index_or k.axes i d)))
  SpanOf i None = length k.axes ≤ i

  -- the point with these coordinates, if they lie on the axes
  abbrev pub PointOf : List ℤ → Option P → Type 0
  PointOf zs (Some p) = On k p × (k.coords p ≡ zs)
  PointOf zs None = OnAxes k.axes zs → ⊥

  -- The window of a query: its corners lie on the axes, and a point lies in it exactly if the query selects it. Or 3, exactly if a coordinate is named that is off its axis, or the number of choices is not that of the axes.
  pub record WindowOf (query : List Choice) (w : Window P) : Type 0 where
    pub named : QueryOn k.axes query
    pub low_on : On k w.low
    pub high_on : On k w.high
    pub selected : (p : P) → On k p → Inside (k.coords w.low) (k.coords w.high) (k.coords p) → Selects query (k.coords p)
    pub inside : (p : P) → On k p → Selects query (k.coords p) → Inside (k.coords w.low) (k.coords w.high) (k.coords p)

  abbrev pub Queried : List Choice → Result (Window P) Refusal → Type 0
  Queried query (Ok w) = WindowOf query w
  Queried query (Err e) = (QueryOn k.axes query → ⊥) × (number e ≡ 3)

-- ---- the points of a set that a query selects, in their order
module _ {P : Type 0} (k : Kind P) (query : List Choice) where
  pub data Selected : List P → List P → Type 0 where
    no_points : Selected [] []
    one_more : {p : P} {set xs : List P} → Selects query (k.coords p) → Selected set xs → Selected (p ∷ set) (p ∷ xs)
    one_not : {p : P} {set xs : List P} → (Selects query (k.coords p) → ⊥) → Selected set xs → Selected (p ∷ set) xs

-- the exact match query for a point: its coordinate on each axis
abbrev pub exact : List ℤ → List Choice
exact [] = []
exact (z ∷ zs) = One z ∷ exact zs
