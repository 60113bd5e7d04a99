use Rattle.std.proofs.Common.{ℕ, ◌≤◌, drop}
use Rattle.std.specs.List.{AllByRecursion}
use Rattle.zorder.specs.Raising.{widths_of}
use Rattle.zorder.proofs.weave.widest.Given as goal

-- a bound of the widest so far and of those that are left bounds all, and each bound of all bounds the widest so far
abbrev pub invariant-loop-raised : goal.invariant-loop-raised
invariant-loop-raised l =
    ((n : ℕ) → l.most ≤ n → AllByRecursion (λ k. k ≤ n) (drop l.raised-index (widths_of l.point)) → AllByRecursion (λ k. k ≤ n) (widths_of l.point))
    × ((n : ℕ) → AllByRecursion (λ k. k ≤ n) (widths_of l.point) → l.most ≤ n)
