use Rattle.std.proofs.Common.{◌≡◌, ◌-◌}
use Rattle.zorder.specs.Code.{digits, rounds, after, woven}
use Rattle.zorder.specs.Raising.{widths_of, values_of}
use Rattle.zorder.proofs.weave.weave.Given as goal

abbrev pub invariant-loop-done : goal.invariant-loop-done
invariant-loop-done l = digits l.code (rounds (32 - l.done) (after l.done (widths_of l.point)) (values_of l.point)) ≡ woven (widths_of l.point) (values_of l.point)
