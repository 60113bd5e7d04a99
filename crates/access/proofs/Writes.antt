-- A page that was written.
use Rattle.std.proofs.Common.{◌≡◌, ℕ, List, set, ap, ◌∙◌}
use Rattle.tree.specs.Lawful.{Card}

-- the same page of the same card, with the same bytes
pub written_as : {after before card : Card} {i j : ℕ} {b c : List ℕ} → after ≡ set before i b → before ≡ card → i ≡ j → b ≡ c → after ≡ set card j c
written_as {before} {card} {i} {j} {b} {c} w e f g = w ∙ ap (λ (x : Card). set x i b) e ∙ ap (λ n. set card n b) f ∙ ap (set card j) g
