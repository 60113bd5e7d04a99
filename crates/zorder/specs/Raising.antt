-- A point as the loop that weaves its code is given it.
use Rattle.std.specs.Prelude.{ℕ, List, map}
use Rattle.zorder.specs.declared.weave.Raised.{Raised}

-- The number of bits of each axis.
abbrev pub widths_of : List Raised → List ℕ
widths_of point = map (λ r. r.width) point

-- The raised coordinate on each axis.
abbrev pub values_of : List Raised → List ℕ
values_of point = map (λ r. r.value) point
