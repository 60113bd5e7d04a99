-- How a walk ends.
use Rattle.std.proofs.Common.{◌≡◌, ℕ, ◌≤◌, List, drop, Ok, Err, Result, ◌∙◌, arith, MatchResult}
use Rattle.refusal.specs.declared.Refusal.{Refusal}
use Rattle.refusal.specs.Numbers.{number}

pub never_err : {X E Y : Type 0} {e : E} {x : X} → Err e ≡ Ok x → Y
never_err h = let z : ◌≡◌ {A = ℕ} 0 1 = cc in absurd (omega arith)

pub ok_is : {X E : Type 0} {x y : X} → ◌≡◌ {A = Result X E} (Ok x) (Ok y) → x ≡ y
ok_is h = cc

-- what stands past the end is kept by one call after another
pub both_ok : (r : Result ℕ Refusal) (end : ℕ) (before middle after : List ℕ) → drop end middle ≡ drop end before
    → MatchResult r (λ next. (next ≤ end) × (drop end after ≡ drop end middle)) (λ e. number e ≡ 9) → MatchResult r (λ next. (next ≤ end) × (drop end after ≡ drop end before)) (λ e. number e ≡ 9)
both_ok (Ok n) end before middle after e h = (h.0, h.1 ∙ e)
both_ok (Err x) end before middle after e h = h
