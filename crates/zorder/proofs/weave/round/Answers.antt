use Rattle.std.proofs.Common.{ℕ, ◌+◌, drop, sym, ap, ◌∙◌, refl, arith}
use Rattle.zorder.specs.Code.{digits, turns, after}
use Rattle.zorder.specs.Raising.{widths_of, values_of}
use Rattle.zorder.proofs.Points.{skipped, taken, bit_fits, narrow_at, turns_end}
use Rattle.zorder.proofs.weave.round.Goals as goal
use Rattle.zorder.proofs.weave.round.Goals.{then-done-width, else-done-width}

pub overflow_mul-woven : goal.overflow_mul-woven
overflow_mul-woven c = omega (arith, bit_fits c.args.done c.args.point.now c.loop-raised.raised-index c.loop-raised-test.true c.loop-raised.woven _ _ c.if-done-width.true refl c.loop-raised.invariant c.requires.fits)

pub overflow_shr-value : goal.overflow_shr-value
overflow_shr-value c = omega (arith, narrow_at c.args.done c.args.point.now c.loop-raised.raised-index c.loop-raised-test.true c.requires.narrow, c.if-done-width.true)

pub overflow_add-woven : goal.overflow_add-woven
overflow_add-woven c = omega (arith, bit_fits c.args.done c.args.point.now c.loop-raised.raised-index c.loop-raised-test.true c.loop-raised.woven _ _ c.if-done-width.true c.from.ensures c.loop-raised.invariant c.requires.fits)

pub loop-raised-preserved : goal.loop-raised-preserved
loop-raised-preserved c =
    let i = c.loop-raised.raised-index in
    let rest = λ (m : ℕ). digits m (turns (drop (i + 1) (after c.args.done (widths_of c.args.point.now))) (drop (i + 1) (values_of c.args.point.now))) in
    elim c.if-done-width.branch [
      | then-done-width w ↦ ap rest w.woven-is ∙ taken c.args.done c.args.point.now i c.loop-raised-test.true c.loop-raised.woven w.from.result w.if-done-width.true w.from.ensures ∙ c.loop-raised.invariant
      | else-done-width w ↦ ap rest w.woven-is ∙ skipped c.args.done c.args.point.now i c.loop-raised-test.true c.loop-raised.woven w.if-done-width.false ∙ c.loop-raised.invariant
    ]

pub returns : goal.returns
returns c = sym (turns_end c.args.done c.args.point.now c.loop-raised.raised-index c.loop-raised.woven c.loop-raised-test.false) ∙ c.loop-raised.invariant
