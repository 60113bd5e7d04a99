use Rattle.std.proofs.Common.{◌≡◌, ◌≤◌, List, map, length, take}
use Rattle.page.specs.Form.{Point, data_view}
use Rattle.page.specs.Fields.{Reads}
use Rattle.hand.specs.Hands.{listed}
use Rattle.hand.proofs.points.Hand.of_page.Given as goal

abbrev pub invariant-loop-i : goal.invariant-loop-i
invariant-loop-i g l = (xs : List Point) → Reads g.K.PointKind.kind l.bytes (data_view xs) → (map g.K.PointKind.kind.coords (listed l.hand) ≡ take l.i xs) × (l.i ≤ length xs)
