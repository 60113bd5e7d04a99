-- The texts of lines.
use Rattle.std.specs.Prelude.{ℕ, List}
use Rattle.std.specs.Str.{trim}
use Rattle.std.specs.Str.Lossy.{utf8_lossy}
use Rattle.std.specs.Io.BufRead.{first_piece}

-- The text of the bytes up to the first that is `byte`, without the blanks around it.
abbrev pub first_text : ℕ → List ℕ → List ℕ
first_text byte bytes = trim (utf8_lossy (first_piece byte bytes))
