-- A page written from its front on.
use Rattle.std.specs.Prelude.{◌≡◌, ℕ, List, ◌++◌, length}
use Rattle.page.specs.Form.{padded}

-- Where some bytes stand before the place `at` and zero bytes from there on, the new bytes now follow them.
abbrev pub Adds : List ℕ → ℕ → List ℕ → List ℕ → Type 0
Adds before at new after = (front : List ℕ) → length front ≡ at → before ≡ padded front → after ≡ padded (front ++ new)
