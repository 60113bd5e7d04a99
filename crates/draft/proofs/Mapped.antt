-- What a call answers once its error has been turned into another.
use Rattle.std.proofs.Common.{◌≡◌, ℕ, Ok, Err, Result, sym, subst, arith, MatchResult}
use Rattle.std.specs.Prelude.{IfOk, IsErrAnd}
use Rattle.std.proofs.lemmas.Result.{err_from_is_err_and}

module _ {X E D : Type 0} (Turns : E → D → Type 0) where
  -- m is r with its error turned
  abbrev pub Mapped : Result X E → Result X D → Type 0
  Mapped r m = MatchResult r (λ x. m ≡ Ok x) (λ e. IsErrAnd m (Turns e))

  -- what held of the answer holds of it still, and of the new error what follows from the old one
  pub mapped : (Good : X → Type 0) (Bad : E → Type 0) (Ends : D → Type 0) (r : Result X E) (m : Result X D) → Mapped r m → MatchResult r Good Bad → ((e : E) (d : D) → Bad e → Turns e d → Ends d) → MatchResult m Good Ends
  mapped Good Bad Ends (Ok x) m c h f = subst (λ y. MatchResult y Good Ends) (sym c) h
  mapped Good Bad Ends (Err e) m c h f = let d = err_from_is_err_and m c in subst (λ y. MatchResult y Good Ends) (sym d.1) (f e d.0 h d.2)

module _ {X E : Type 0} (Good : X → Type 0) (Bad : E → Type 0) where
  -- an answer came through, so it was there before
  pub was_ok : (D : Type 0) (r : Result X E) (y : X) → MatchResult r (λ x. ◌≡◌ {A = Result X D} (Ok y) (Ok x)) (λ e. ⊥) → MatchResult r Good Bad → Good y
  was_ok D (Ok x) y c h = let same : x ≡ y = cc in subst Good same h
  was_ok D (Err e) y c h = absurd c

  -- an error came through, so there was one before
  pub was_err : {D : Type 0} (Turned : E → Type 0) (Ends : Type 0) (r : Result X E) (y : D) → MatchResult r (λ x. ◌≡◌ {A = Result X D} (Err y) (Ok x)) Turned → MatchResult r Good Bad → ((e : E) → Bad e → Turned e → Ends) → Ends
  was_err Turned Ends (Ok x) y c h f = let z : ◌≡◌ {A = ℕ} 0 1 = cc in absurd (omega arith)
  was_err Turned Ends (Err e) y c h f = f e h c

-- what holds of an answer, and what holds of an answer or an error
pub both : {X E : Type 0} (P A G : X → Type 0) (B : E → Type 0) (r : Result X E) → IfOk r P → MatchResult r A B → ((x : X) → P x → G x) → MatchResult r G B
both P A G B (Ok x) p m f = f x p
both P A G B (Err e) p m f = m
