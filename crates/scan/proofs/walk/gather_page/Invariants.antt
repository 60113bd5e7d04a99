use Rattle.std.proofs.Common.{◌≡◌, ◌^◌, ◌<◌, List, ◌++◌, map, length, take}
use Rattle.page.specs.Fields.{Reads}
use Rattle.page.specs.Form.{data_view}
use Rattle.tree.specs.Book.{windowed}
use Rattle.scan.proofs.walk.gather_page.Given as goal

-- the points before the index were met
abbrev pub invariant-loop-i : goal.invariant-loop-i
invariant-loop-i g l =
    ((points : List g.row.K.Denot) → Reads g.K.PointKind.kind l.bytes (data_view (map g.K.PointKind.kind.coords points)) → (before xs : List g.row.K.Denot)
    → length (xs ++ windowed g.K.PointKind.kind l.window.corners.low l.window.corners.high points) < 2 ^ 32
    → g.G.Gather.met l.initial.gather before l.initial.buffer xs
    → g.G.Gather.met l.gather before l.buffer (xs ++ windowed g.K.PointKind.kind l.window.corners.low l.window.corners.high (take l.i points)))
    × ((before : List g.row.K.Denot) → g.G.Gather.fair l.initial.gather l.window.corners.low l.window.corners.high before l.initial.buffer
    → g.G.Gather.fair l.gather l.window.corners.low l.window.corners.high before l.buffer)
    × (g.G.Gather.passes l.gather ≡ g.G.Gather.passes l.initial.gather)
