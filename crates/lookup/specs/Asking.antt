-- What ask answers.
use Rattle.std.specs.Prelude.{◌≡◌, ℕ, Bool, ◌⊎◌, Some, None, Ok, Err, Option, Result}
use Rattle.refusal.specs.declared.Refusal.{Refusal}
use Rattle.refusal.specs.Numbers.{number}
use Rattle.zorder.specs.Code.{first, bit_at}
use Rattle.kinds.specs.Kind.{Kind, On, wide, code_of}
use Rattle.page.specs.declared.directory_page.Fork.{Fork}

-- an answer, or the refusal 9
abbrev pub FoundOr9 : Result Bool Refusal → Type 0
FoundOr9 (Ok b) = Unit {0}
FoundOr9 (Err e) = number e ≡ 9

module _ {P : Type 0} (k : Kind P) where
  -- where the way of p leads from a directory page: nowhere if p does not share the first bits of its points, else to the half of its next bit
  abbrev pub Leads : Fork P → P → Option ℕ → Type 0
  Leads x p None = first (wide k) x.depth (code_of k x.low.low) ≡ first (wide k) x.depth (code_of k p) → ⊥
  Leads x p (Some q) = (first (wide k) x.depth (code_of k x.low.low) ≡ first (wide k) x.depth (code_of k p))
      × (((bit_at (wide k) x.depth (code_of k p) ≡ 0) × (q ≡ x.low.page)) ⊎ ((bit_at (wide k) x.depth (code_of k p) ≡ 1) × (q ≡ x.high.page)))

  -- On any card: 3 exactly off an axis, else an answer or 9.
  abbrev pub AskAny : P → Result Bool Refusal → Type 0
  AskAny p (Ok b) = On k p
  AskAny p (Err e) = ((On k p → ⊥) × (number e ≡ 3)) ⊎ (On k p × (number e ≡ 9))
