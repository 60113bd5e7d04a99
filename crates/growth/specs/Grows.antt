-- What a put makes of a laid tree, with two free pages f and g at hand.
use Rattle.std.specs.Prelude.{◌≡◌, ℕ, ◌<◌, ◌≤◌, true, false, List, [], ◌∷◌, length}
use Rattle.zorder.specs.Code.{bit_at}
use Rattle.zorder.specs.Halves.{half}
use Rattle.tree.specs.Sets.{with_point}
use Rattle.tree.specs.Tree.{Depth}
use Rattle.tree.specs.Laid.{Laid, data_at, directory_at, below_it, agrees}

module _ {P : Type 0} (code : P → ℕ) (w b : ℕ) where
  -- the laid tree, the laid tree with p, and which new pages it has
  pub data Grows (p : P) (f g : ℕ) : Laid P → Laid P → List ℕ → Type 0 where
    -- a data page with room
    fits_in : {q : ℕ} {ps : List P} → length ps < b → Grows p f g (data_at q ps) (data_at q (with_point code p ps)) []
    -- a full data page is split: f is the directory page above, and g has the high half
    splits : {q n : ℕ} {ps : List P} → b ≤ length ps → Depth code w n (with_point code p ps)
        → Grows p f g (data_at q ps) (directory_at f n (data_at q (half code w n 0 (with_point code p ps))) (data_at g (half code w n 1 (with_point code p ps)))) (f ∷ (g ∷ []))
    -- a directory page whose first bits p does not share: f is a directory page above it, and g has p alone
    above_low : {q n m : ℕ} {l h : Laid P} → agrees code w n (below_it (directory_at q n l h)) p ≡ false → Depth code w m (with_point code p (below_it (directory_at q n l h))) → bit_at w m (code p) ≡ 1
        → Grows p f g (directory_at q n l h) (directory_at f m (directory_at q n l h) (data_at g (p ∷ []))) (f ∷ (g ∷ []))
    above_high : {q n m : ℕ} {l h : Laid P} → agrees code w n (below_it (directory_at q n l h)) p ≡ false → Depth code w m (with_point code p (below_it (directory_at q n l h))) → bit_at w m (code p) ≡ 0
        → Grows p f g (directory_at q n l h) (directory_at f m (data_at g (p ∷ [])) (directory_at q n l h)) (f ∷ (g ∷ []))
    -- else into the half of bit n
    into_low : {q n : ℕ} {l h m : Laid P} {new : List ℕ} → agrees code w n (below_it (directory_at q n l h)) p ≡ true → bit_at w n (code p) ≡ 0 → Grows p f g l m new → Grows p f g (directory_at q n l h) (directory_at q n m h) new
    into_high : {q n : ℕ} {l h m : Laid P} {new : List ℕ} → agrees code w n (below_it (directory_at q n l h)) p ≡ true → bit_at w n (code p) ≡ 1 → Grows p f g h m new → Grows p f g (directory_at q n l h) (directory_at q n l m) new
