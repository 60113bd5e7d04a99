-- What `ok_or` gives.
use Rattle.std.proofs.Common.{◌≡◌, ℕ, Some, None, Option, Err, Result, arith}
use Rattle.std.specs.Option.{ok_or}

-- where it gives an error, that is the one it was given
pub given : {X E : Type 0} (o : Option X) (e d : E) → ◌≡◌ {A = Result X E} (Err e) (ok_or o d) → e ≡ d
given None e d h = cc
given (Some x) e d h = let z : ◌≡◌ {A = ℕ} 0 1 = cc in absurd (omega arith)
