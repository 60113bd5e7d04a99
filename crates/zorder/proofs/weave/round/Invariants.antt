use Rattle.std.proofs.Common.{◌≡◌, drop}
use Rattle.zorder.specs.Code.{digits, turns, after}
use Rattle.zorder.specs.Raising.{widths_of, values_of}
use Rattle.zorder.proofs.weave.round.Given as goal

abbrev pub invariant-loop-raised : goal.invariant-loop-raised
invariant-loop-raised l =
    digits l.woven (turns (drop l.raised-index (after l.done (widths_of l.point))) (drop l.raised-index (values_of l.point)))
    ≡ digits l.code (turns (after l.done (widths_of l.point)) (values_of l.point))
