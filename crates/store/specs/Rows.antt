-- The pages that stand in a row of bytes.
use Rattle.std.specs.Prelude.{ℕ, ◌*◌, ◌/◌, List, ◌++◌, map, length, take, drop}
use Rattle.std.specs.List.{range_with_len}

-- Part i of a row that is cut into parts of n bytes.
abbrev pub part : ℕ → List ℕ → ℕ → List ℕ
part n xs i = take n (drop (n * i) xs)

-- The whole pages of a row.
abbrev pub row_pages : List ℕ → List (List ℕ)
row_pages xs = map (part 64 xs) (range_with_len 0 (length xs / 64))

-- The bytes past the last whole page.
abbrev pub left_over : List ℕ → List ℕ
left_over xs = drop (64 * (length xs / 64)) xs

-- A row xs with the bytes ys in the place of its own, from byte n on.
abbrev pub overwritten : ℕ → List ℕ → List ℕ → List ℕ
overwritten n ys xs = take n xs ++ (ys ++ drop (length ys) (drop n xs))
