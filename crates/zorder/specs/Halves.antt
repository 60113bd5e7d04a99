-- The two halves of a set of points.
use Rattle.std.specs.Prelude.{ℕ, ◌<◌, List, [], ◌∷◌, filter, nat_eq}
use Rattle.std.specs.List.{AllByRecursion}
use Rattle.zorder.specs.Code.{bit_at}

-- The members whose code, of w bits, has b as bit n, in their order: the low half at b = 0, the high half at b = 1.
abbrev pub half : {X : Type 0} → (X → ℕ) → ℕ → ℕ → ℕ → List X → List X
half code w n b xs = filter (λ x. nat_eq (bit_at w n (code x)) b) xs

-- The codes strictly rise.
abbrev pub Rising : {X : Type 0} → (X → ℕ) → List X → Type 0
Rising code [] = Unit {0}
Rising code (x ∷ xs) = AllByRecursion (λ y. code x < code y) xs × Rising code xs
