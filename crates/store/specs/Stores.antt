-- What the stores in plain buffers hold.
use Rattle.std.specs.Prelude.{ℕ, List, vec_items}
use Rattle.store.specs.Rows.{row_pages, left_over}
use Rattle.store.specs.Twins.{twin_pages, twin_rest}
use Rattle.store.specs.declared.row.RowStore.{RowStore}
use Rattle.store.specs.declared.twin.TwinBoards.{TwinBoards}

-- The pages of a row store.
abbrev pub in_row : RowStore → List (List ℕ)
in_row s = row_pages (vec_items s.bytes)

-- The bytes of its buffer that belong to no page.
abbrev pub past_row : RowStore → List ℕ
past_row s = left_over (vec_items s.bytes)

-- The pages of twin boards.
abbrev pub on_boards : TwinBoards → List (List ℕ)
on_boards s = twin_pages (vec_items s.even) (vec_items s.odd)

-- The bytes of either board that belong to no page.
abbrev pub past_boards : TwinBoards → List ℕ × List ℕ
past_boards s = twin_rest (vec_items s.even) (vec_items s.odd)
