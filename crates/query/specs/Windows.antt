-- Windows of two corners.
use Rattle.std.specs.Prelude.{◌≡◌, ◌⊎◌, Ok, Err, Result}
use Rattle.refusal.specs.declared.Refusal.{Refusal}
use Rattle.refusal.specs.Numbers.{number}
use Rattle.zorder.specs.Sharing.{Under}
use Rattle.kinds.specs.Kind.{Kind, On}
use Rattle.query.specs.declared.window.Window.{Window}

module _ {P : Type 0} (k : Kind P) where
  -- Both corners lie on the axes, and the low one is nowhere above the high one.
  pub record Whole (w : Window P) : Type 0 where
    pub low_on : On k w.low
    pub high_on : On k w.high
    pub uncrossed : Under (k.coords w.low) (k.coords w.high)

  -- 3 exactly if a corner is off an axis, else 2 exactly if the low corner exceeds the high one on some axis.
  abbrev pub Checked : Window P → Result Unit Refusal → Type 0
  Checked w (Ok u) = Whole w
  Checked w (Err e) =
      (((On k w.low → ⊥) ⊎ (On k w.high → ⊥)) × (number e ≡ 3))
      ⊎ (On k w.low × On k w.high × (Under (k.coords w.low) (k.coords w.high) → ⊥) × (number e ≡ 2))
