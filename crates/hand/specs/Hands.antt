-- The points in the hand.
use Rattle.std.specs.Prelude.{◌≡◌, List, take, drop, Some, None, Option}
use Rattle.hand.specs.declared.points.Hand.{Hand}
use Rattle.hand.specs.declared.points.iter.Points.{Points}
use Rattle.hand.specs.Places.{sixteen}

module _ {P : Type 0} where
  -- the points, in their order
  abbrev pub listed : Hand P → List P
  listed h = take h.count (sixteen h.points)

  -- the hand holds these points
  abbrev pub HoldsAll : List P → Option (Hand P) → Type 0
  HoldsAll ps (Some h) = listed h ≡ ps
  HoldsAll ps None = ⊥

  -- the points that come yet
  abbrev pub left : Points P → List P
  left s = drop s.next (listed s.hand.now)
