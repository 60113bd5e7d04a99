-- What tally answers.
use Rattle.std.specs.Prelude.{◌≡◌, ℕ, List, Ok, Err, Result}
use Rattle.refusal.specs.declared.Refusal.{Refusal}
use Rattle.refusal.specs.Numbers.{number}
use Rattle.kinds.specs.Kind.{Kind}
use Rattle.tree.specs.Book.{Tallies}
use Rattle.lookup.specs.declared.counts.Tally.{Tally}

-- On a lawful card tally always answers, and what the book does.
abbrev pub TallySays : {P : Type 0} → Kind P → ℕ → List P → Result Tally Refusal → Type 0
TallySays k total set (Ok r) = Tallies k total set r.points r.data_pages r.directory_pages r.free_pages
TallySays k total set (Err e) = ⊥

-- On any card: a tally, or 9.
abbrev pub TallyAny : Result Tally Refusal → Type 0
TallyAny (Ok r) = Unit {0}
TallyAny (Err e) = number e ≡ 9
