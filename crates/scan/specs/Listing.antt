-- What list writes into its buffer.
use Rattle.std.specs.Prelude.{◌≡◌, ℕ, ◌-◌, min, ◌⊎◌, List, length, take, drop, Ok, Err, Result}
use Rattle.std.specs.List.{AllByRecursion}
use Rattle.refusal.specs.declared.Refusal.{Refusal}
use Rattle.refusal.specs.Numbers.{number}
use Rattle.zorder.specs.Sharing.{Inside}
use Rattle.kinds.specs.Kind.{Kind, On}
use Rattle.tree.specs.Book.{windowed, written}
use Rattle.query.specs.declared.window.Window.{Window}

-- After the points xs were met: all are counted, and those behind the first `skip` stand at the buffer's front, as many as it has places for.
pub record Listed {P : Type 0} (skip seen done : ℕ) (before buffer xs : List P) : Type 0 where
  pub all : seen ≡ length xs
  pub given : done ≡ length (take (length before) (drop skip xs))
  pub shown : buffer ≡ written (take (length before) (drop skip xs)) before

module _ {P : Type 0} (k : Kind P) where
  -- On any card: as many points were written as follow the first `skip` and have a place, each on its axes and in the window, and the rest of the buffer is kept.
  pub record ListFair (skip seen done : ℕ) (low high : P) (before buffer : List P) : Type 0 where
    pub count : done ≡ min (length before) (seen - skip)
    pub long : length buffer ≡ length before
    pub kept : drop done buffer ≡ drop done before
    pub good : AllByRecursion (λ p. On k p × Inside (k.coords low) (k.coords high) (k.coords p)) (take done buffer)

  -- On a lawful card: the buffer has the points in its front and is otherwise kept; a refused call keeps it.
  abbrev pub ListBuffer : List P → P → P → ℕ → List P → List P → Result (ℕ × ℕ) Refusal → Type 0
  ListBuffer set low high skip before after (Ok x) = after ≡ written (take (length before) (drop skip (windowed k low high set))) before
  ListBuffer set low high skip before after (Err e) = after ≡ before

  -- On any card: a refusal other than 9 keeps the buffer; 9 leaves it open.
  abbrev pub ListAny : Window P → ℕ → List P → List P → Result (ℕ × ℕ) Refusal → Type 0
  ListAny w skip before after (Ok x) = ListFair skip x.1 x.0 w.low w.high before after
  ListAny w skip before after (Err e) = (number e ≡ 9) ⊎ (after ≡ before)
