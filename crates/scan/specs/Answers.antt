-- What a call on a window answers on any card.
use Rattle.std.specs.Prelude.{◌≡◌, ◌⊎◌, Some, None, Ok, Err, Option, Result}
use Rattle.refusal.specs.declared.Refusal.{Refusal}
use Rattle.refusal.specs.Numbers.{number}
use Rattle.zorder.specs.Sharing.{Inside}
use Rattle.kinds.specs.Kind.{Kind, On}
use Rattle.query.specs.declared.window.Window.{Window}
use Rattle.query.specs.Windows.{Whole, Checked}

module _ {P : Type 0} (k : Kind P) where
  -- 3 exactly if a corner is off an axis, else 2 exactly if the low corner exceeds the high one on some axis, else an answer with some property, or 9.
  abbrev pub WindowAny : {X : Type 0} → Window P → (X → Type 0) → Result X Refusal → Type 0
  WindowAny w good (Ok x) = Whole k w × good x
  WindowAny w good (Err e) = Checked k w (Err e) ⊎ (Whole k w × (number e ≡ 9))

  -- a point on its axes and in the window, or none
  abbrev pub InIt : P → P → Option P → Type 0
  InIt low high None = Unit {0}
  InIt low high (Some p) = On k p × Inside (k.coords low) (k.coords high) (k.coords p)
