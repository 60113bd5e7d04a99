use Rattle.std.proofs.Common.{◌+◌, ◌-◌, sym, ap, ◌∙◌, arith}
use Rattle.zorder.specs.Code.{digits, rounds, after, woven}
use Rattle.zorder.specs.Raising.{widths_of, values_of}
use Rattle.zorder.proofs.Points.{same}
use Rattle.zorder.proofs.Mix.{rounds_enough}
use Rattle.zorder.proofs.Weaving.{after_none, round_more, round_fits, spent}
use Rattle.zorder.proofs.weave.weave.Goals as goal

pub round-code-requires : goal.round-code-requires
unfolding woven
round-code-requires c =
    record {
      narrow = c.requires.narrow;
      fits = round_fits 32 c.loop-done.done (widths_of c.args.point.now) (values_of c.args.point.now) c.loop-done.code (omega (arith, c.loop-done-test.true, c.widest-done-end.ensures.least 32 c.requires.narrow)) (same c.args.point.now) c.requires.narrow c.requires.few c.loop-done.invariant;
    }

pub loop-done-init : goal.loop-done-init
unfolding woven
loop-done-init c = ap (λ ks. digits 0 (rounds 32 ks (values_of c.args.point.now))) (after_none (widths_of c.args.point.now))

pub loop-done-preserved : goal.loop-done-preserved
loop-done-preserved c =
    let ks = (widths_of c.args.point.now) in
    let vs = (values_of c.args.point.now) in
    let r = c.loop-done.done in
    ap (λ m. digits m (rounds (32 - (r + 1)) (after (r + 1) ks) vs)) c.round-code.ensures ∙ round_more 32 r ks vs c.loop-done.code (omega (arith, c.loop-done-test.true, c.widest-done-end.ensures.least 32 c.requires.narrow)) ∙ c.loop-done.invariant

pub returns : goal.returns
returns c =
    let ks = widths_of c.args.point.now in
    let r = c.loop-done.done in
    let none = spent c.widest-done-end.result r (omega (arith, c.loop-done-test.false)) ks c.widest-done-end.ensures.all in
    sym (ap (digits c.loop-done.code) (rounds_enough 0 (32 - r) (after r ks) (values_of c.args.point.now) none (omega arith))) ∙ c.loop-done.invariant
