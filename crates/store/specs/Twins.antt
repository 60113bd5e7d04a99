-- The pages that stand on two boards, half of each on either.
use Rattle.std.specs.Prelude.{ℕ, ◌*◌, ◌/◌, min, List, [], ◌∷◌, map, length, drop}
use Rattle.std.specs.List.{range_with_len}
use Rattle.store.specs.Rows.{part}

-- One byte of each list in turn, the first list's first.
abbrev pub weave : List ℕ → List ℕ → List ℕ
weave [] ys = []
weave (x ∷ xs) [] = []
weave (x ∷ xs) (y ∷ ys) = x ∷ y ∷ weave xs ys

-- How many halves of 32 bytes both boards have.
abbrev pub twin_count : List ℕ → List ℕ → ℕ
twin_count es os = min (length es / 32) (length os / 32)

-- The pages, with their even bytes on the first board and their odd bytes on the second.
abbrev pub twin_pages : List ℕ → List ℕ → List (List ℕ)
twin_pages es os = map (λ i. weave (part 32 es i) (part 32 os i)) (range_with_len 0 (twin_count es os))

-- What either board has past the last page's half.
abbrev pub twin_rest : List ℕ → List ℕ → List ℕ × List ℕ
twin_rest es os = (drop (32 * twin_count es os) es, drop (32 * twin_count es os) os)
