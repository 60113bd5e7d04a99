-- What the calls answer to a query, over the live points.
use Rattle.std.specs.Prelude.{◌≤◌, Bool, List, length, Ok, Err, Result}
use Rattle.refusal.specs.declared.Refusal.{Refusal}
use Rattle.zorder.specs.Sharing.{Under}
use Rattle.kinds.specs.Kind.{Kind, On, Whether}
use Rattle.tree.specs.Lawful.{Card, Lawful}
use Rattle.query.specs.declared.choice.Choice.{Choice}
use Rattle.query.specs.declared.window.Window.{Window}
use Rattle.query.specs.Queries.{WindowOf, Selected, exact}

-- an answer that some points give, and no refusal
abbrev pub Answers : {P X : Type 0} → (List P → X → Type 0) → List P → Result X Refusal → Type 0
Answers Gives xs (Ok x) = Gives xs x
Answers Gives xs (Err e) = ⊥

module _ {P : Type 0} (k : Kind P) (card : Card) where
  -- On a lawful card a call on the window of a query answers what the live points that the query selects give. (A query one of whose ranges ends before it begins has crossed corners, which are refused.)
  abbrev pub ByQuery : {X : Type 0} → Window P → (List P → X → Type 0) → Result X Refusal → Type 0
  ByQuery w Gives r = (set : List P) → Lawful k card set → (query : List Choice) → WindowOf k query w → Under (k.coords w.low) (k.coords w.high) → (xs : List P) → Selected k query set xs → Answers Gives xs r

  -- Ask is the exact match query: whether it selects a live point.
  abbrev pub ByExactMatch : P → Result Bool Refusal → Type 0
  ByExactMatch p r = (set : List P) → Lawful k card set → On k p → (xs : List P) → Selected k (exact (k.coords p)) set xs → Answers (λ xs b. Whether b (1 ≤ length xs)) xs r
