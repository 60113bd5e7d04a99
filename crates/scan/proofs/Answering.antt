-- What a call on a window answers.
use Rattle.std.proofs.Common.{◌≡◌, ℕ, List, Ok, Err, Result, sym, ap, ◌∙◌, subst, inl, inr}
use Rattle.refusal.specs.declared.Refusal.{Refusal}
use Rattle.refusal.specs.Numbers.{number, numbered}
use Rattle.kinds.specs.Kind.{Kind}
use Rattle.tree.specs.Book.{InWindow, low_off, high_off, crossed, in_it, windowed}
use Rattle.query.specs.declared.window.Window.{Window}
use Rattle.query.specs.Windows.{Whole, Checked}

module _ {P X : Type 0} (k : Kind P) (total : ℕ) (set : List P) (w : Window P) (Gives : List P → X → Type 0) where
  -- a refused window
  pub refused_window : (e : Refusal) → Checked k w (Err e) → InWindow k total set w.low w.high Gives (Err (number e))
  refused_window e (inl ((inl off), n)) = subst (λ m. InWindow k total set w.low w.high Gives (Err m)) (sym n) (low_off off)
  refused_window e (inl ((inr off), n)) = subst (λ m. InWindow k total set w.low w.high Gives (Err m)) (sym n) (high_off off)
  refused_window e (inr (l, h, x, n)) = subst (λ m. InWindow k total set w.low w.high Gives (Err m)) (sym n) (crossed l h x)

  -- the same, of what leaves the call
  pub refused_exit : (r : Result X Refusal) (e y : Refusal) → r ≡ Err y → y ≡ e → Checked k w (Err e) → InWindow k total set w.low w.high Gives (numbered r)
  refused_exit r e y is same c = subst (λ x. InWindow k total set w.low w.high Gives (numbered x)) (sym (is ∙ ap Err same)) (refused_window e c)

  pub answered_window : (x : X) → Whole k w → Gives (windowed k w.low w.high set) x → InWindow k total set w.low w.high Gives (Ok x)
  answered_window x whole g = in_it whole.low_on whole.high_on whole.uncrossed g
