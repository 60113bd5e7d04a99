use Rattle.std.proofs.Common.{ℕ, ◌+◌, ◌<◌, ◌≤◌, List, length, get_or, drop, sym, subst, arith}
use Rattle.std.specs.List.{AllByRecursion}
use Rattle.zorder.specs.Raising.{widths_of}
use Rattle.zorder.specs.declared.weave.Raised.{Raised}
use Rattle.zorder.proofs.Points.{blank, widths_left, no_widths_left, width_within}
use Rattle.zorder.proofs.weave.widest.Goals as goal
use Rattle.zorder.proofs.weave.widest.Goals.{then-raised-most, else-raised-most}

pub loop-raised-init : goal.loop-raised-init
loop-raised-init c = (λ n le all. all, λ n all. omega arith)

-- a bound of the width at a place and of those behind it
back : (ps : List Raised) (i : ℕ) → i < length ps → (n : ℕ) → (get_or ps i blank).width ≤ n → AllByRecursion (λ k. k ≤ n) (drop (i + 1) (widths_of ps)) → AllByRecursion (λ k. k ≤ n) (drop i (widths_of ps))
back ps i lt n le all = subst (AllByRecursion (λ k. k ≤ n)) (sym (widths_left ps i lt)) (le, all)

pub loop-raised-preserved : goal.loop-raised-preserved
loop-raised-preserved c =
    let ps = c.args.point.now in
    let i = c.loop-raised.raised-index in
    let lt = c.loop-raised-test.true in
    let (left, all_left) = c.loop-raised.invariant in
    elim c.if-raised-most.branch [
      | then-raised-most w ↦ (
        λ n le all. left n (omega (arith, w.most-is, w.if-raised-most.true, le)) (back ps i lt n (omega (arith, w.most-is, le)) all),
        λ n all. omega (arith, w.most-is, width_within n ps i lt all),
      )
      | else-raised-most w ↦ (
        λ n le all. left n (omega (arith, w.most-is, le)) (back ps i lt n (omega (arith, w.most-is, w.if-raised-most.false, le)) all),
        λ n all. omega (arith, w.most-is, all_left n all),
      )
    ]

pub returns : goal.returns
returns c =
    let most = c.loop-raised.most in
    record {
      all = c.loop-raised.invariant.0 most (omega arith) (subst (AllByRecursion (λ k. k ≤ most)) (sym (no_widths_left c.args.point.now c.loop-raised.raised-index c.loop-raised-test.false)) tt);
      least = c.loop-raised.invariant.1;
    }
