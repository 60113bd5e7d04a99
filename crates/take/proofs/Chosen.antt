-- The two halves of a directory page: the half of a bit and the other.
use Rattle.std.proofs.Common.{◌≡◌, ℕ, ◌+◌, ◌<◌, ◌≤◌, true, eqb, ◌⊎◌, List, [], ◌∷◌, ◌++◌, length, Some, None, sym, ap, ◌∙◌, subst, ap₂, inl, inr, arith, length-append}
use Rattle.std.proofs.ByRecursion.{All-append}
use Rattle.std.proofs.lemmas.Bool.{cond_both}
use Rattle.zorder.specs.Code.{bit_at}
use Rattle.zorder.specs.Halves.{half, Rising}
use Rattle.kinds.specs.Kind.{Kind, Sound, code_of, wide}
use Rattle.page.specs.Form.{directory_view, encode, times}
use Rattle.tree.specs.Sets.{live, without_point}
use Rattle.tree.specs.Laid.{Laid, data_at, directory_at, numbers, shape, below_it, agrees, way}
use Rattle.tree.specs.Lawful.{Card, page, entry, parts, Shows}
use Rattle.tree.specs.Standing.{Standing}
use Rattle.tree.specs.Tree.{TreeOf}
use Rattle.tree.proofs.Counts.{times_append}
use Rattle.tree.proofs.Halves.{half_live, half_rising, rising_kept}
use Rattle.tree.proofs.Standings.{all_front, all_back, node_inv, parted, standing_low, standing_high}
use Rattle.tree.proofs.Trees.{halved_points, halved_some}
use Rattle.access.specs.Reached.{chosen}
use Rattle.growth.specs.Shrinks.{Shrinks, low_gone, high_gone, merged_low, merged_high, less_low, less_high}
use Rattle.growth.proofs.Puts.{way_low, way_high}
use Rattle.growth.proofs.Takes.{shrinks_halved, left_low, left_high}

-- what holds at both bits
pub by_bit : (A : ℕ → Type 0) → A 0 → A 1 → (b : ℕ) → (b ≡ 0) ⊎ (b ≡ 1) → A b
by_bit A zero_bit one_bit b (inl e) = subst A (sym e) zero_bit
by_bit A zero_bit one_bit b (inr e) = subst A (sym e) one_bit

-- as many points as both parts have
pub chosen_length : {X : Type 0} (b : ℕ) (xs ys : List X) → length (chosen b (xs ++ ys) (ys ++ xs)) ≡ length xs + length ys
chosen_length b xs ys =
    let a = length-append xs ys in
    let c = length-append ys xs in
    cond_both (eqb b 0) (xs ++ ys) (ys ++ xs) (λ zs. length zs ≡ length xs + length ys) (λ _. omega arith) (λ _. omega arith)

-- the points that are left of a half
left_half : {P : Type 0} (k : Kind P) (s : Sound k) (p : P) (n b : ℕ) (ps : List P) (m : Laid P) (freed : List ℕ) (t : Laid P) → Rising (code_of k) ps → Shrinks (code_of k) (wide k) k.capacity p t (Some m) freed → TreeOf k (half (code_of k) (wide k) n b ps) (shape t)
    → bit_at (wide k) n (code_of k p) ≡ b → live (code_of k) p ps ≡ true → (below_it m ≡ without_point (code_of k) p (half (code_of k) (wide k) n b ps)) × (1 ≤ length (below_it m))
left_half k s p n b ps m freed t up sh tree z on =
    let C = code_of k in
    let W = wide k in
    let B = k.capacity in
    let rises = half_rising C W n b ps up in
    let left = shrinks_halved C W B s.room p (half C W n b ps) sh tree rises (half_live C W n b p ps z ∙ on) in
    let e = halved_points C W B s.room (without_point C p (half C W n b ps)) (shape m) left (rising_kept C _ (half C W n b ps) rises) in
    (e, subst (λ xs. 1 ≤ length xs) (sym e) (halved_some C W B left))

module _ {P : Type 0} (k : Kind P) (p : P) (q n : ℕ) (l h : Laid P) (b : ℕ) (two : (b ≡ 0) ⊎ (b ≡ 1)) where
  pub side_times : (i : ℕ) → times i (numbers (directory_at q n l h)) ≡ times i (q ∷ []) + (times i (numbers (chosen b l h)) + times i (numbers (chosen b h l)))
  side_times i =
      let a = times_append i (numbers l) (numbers h) in
      by_bit (λ b. times i (numbers (directory_at q n l h)) ≡ times i (q ∷ []) + (times i (numbers (chosen b l h)) + times i (numbers (chosen b h l)))) (omega arith) (omega arith) b two

  pub side_way : agrees (code_of k) (wide k) n (below_it (directory_at q n l h)) p ≡ true → bit_at (wide k) n (code_of k p) ≡ b → way (code_of k) (wide k) (directory_at q n l h) p ≡ q ∷ way (code_of k) (wide k) (chosen b l h) p
  side_way ok is =
      by_bit (λ b. bit_at (wide k) n (code_of k p) ≡ b → way (code_of k) (wide k) (directory_at q n l h) p ≡ q ∷ way (code_of k) (wide k) (chosen b l h) p)
      (way_low (code_of k) (wide k) p q n l h ok) (way_high (code_of k) (wide k) p q n l h ok) b two is

  -- the other half is shown
  pub side_shows : (card : Card) → Shows k card (directory_at q n l h) → Shows k card (chosen b h l)
  side_shows card s = by_bit (λ b. Shows k card (chosen b h l)) (all_back _ (parts k l) (parts k h) s.1) (all_front _ (parts k l) (parts k h) s.1) b two

  -- the directory page with another tree in the place of its half
  pub side_changed : (card : Card) (m : Laid P) → page card q ≡ encode k (directory_view n (entry k (chosen b m l)) (entry k (chosen b h m))) → Shows k card m → Shows k card (chosen b h l) → Shows k card (directory_at q n (chosen b m l) (chosen b h m))
  side_changed card m =
      by_bit (λ b. page card q ≡ encode k (directory_view n (entry k (chosen b m l)) (entry k (chosen b h m))) → Shows k card m → Shows k card (chosen b h l) → Shows k card (directory_at q n (chosen b m l) (chosen b h m)))
      (λ e x y. (e, All-append _ (parts k m) (parts k h) x y)) (λ e x y. (e, All-append _ (parts k l) (parts k m) y x)) b two

  -- the half is gone: the other stands in the place of both
  pub side_gone : (freed : List ℕ) → bit_at (wide k) n (code_of k p) ≡ b → Shrinks (code_of k) (wide k) k.capacity p (chosen b l h) None freed → Shrinks (code_of k) (wide k) k.capacity p (directory_at q n l h) (Some (chosen b h l)) (q ∷ freed)
  side_gone freed is =
      by_bit (λ b. bit_at (wide k) n (code_of k p) ≡ b → Shrinks (code_of k) (wide k) k.capacity p (chosen b l h) None freed → Shrinks (code_of k) (wide k) k.capacity p (directory_at q n l h) (Some (chosen b h l)) (q ∷ freed))
      low_gone high_gone b two is

  -- both halves stay
  pub side_less : (m : Laid P) (freed : List ℕ) → bit_at (wide k) n (code_of k p) ≡ b → Shrinks (code_of k) (wide k) k.capacity p (chosen b l h) (Some m) freed → k.capacity < length (below_it (chosen b m l) ++ below_it (chosen b h m))
      → Shrinks (code_of k) (wide k) k.capacity p (directory_at q n l h) (Some (directory_at q n (chosen b m l) (chosen b h m))) freed
  side_less m freed is =
      by_bit (λ b. bit_at (wide k) n (code_of k p) ≡ b → Shrinks (code_of k) (wide k) k.capacity p (chosen b l h) (Some m) freed → k.capacity < length (below_it (chosen b m l) ++ below_it (chosen b h m))
      → Shrinks (code_of k) (wide k) k.capacity p (directory_at q n l h) (Some (directory_at q n (chosen b m l) (chosen b h m))) freed)
      less_low less_high b two is

  -- both halves become one data page
  pub side_merged : (r s : ℕ) (xs ys : List P) → chosen b l h ≡ data_at r xs → chosen b h l ≡ data_at s ys → bit_at (wide k) n (code_of k p) ≡ b → 1 ≤ length (without_point (code_of k) p xs)
      → length (chosen b (without_point (code_of k) p xs ++ ys) (ys ++ without_point (code_of k) p xs)) ≤ k.capacity
      → Shrinks (code_of k) (wide k) k.capacity p (directory_at q n l h) (Some (data_at r (chosen b (without_point (code_of k) p xs ++ ys) (ys ++ without_point (code_of k) p xs)))) (q ∷ (s ∷ []))
  side_merged r s xs ys own other is some =
      by_bit (λ b. chosen b l h ≡ data_at r xs → chosen b h l ≡ data_at s ys → bit_at (wide k) n (code_of k p) ≡ b → length (chosen b (without_point (code_of k) p xs ++ ys) (ys ++ without_point (code_of k) p xs)) ≤ k.capacity
      → Shrinks (code_of k) (wide k) k.capacity p (directory_at q n l h) (Some (data_at r (chosen b (without_point (code_of k) p xs ++ ys) (ys ++ without_point (code_of k) p xs)))) (q ∷ (s ∷ [])))
      (λ el eh z fit. subst (λ x. Shrinks (code_of k) (wide k) k.capacity p (directory_at q n x h) (Some (data_at r (without_point (code_of k) p xs ++ ys))) (q ∷ (s ∷ []))) (sym el)
      (subst (λ x. Shrinks (code_of k) (wide k) k.capacity p (directory_at q n (data_at r xs) x) (Some (data_at r (without_point (code_of k) p xs ++ ys))) (q ∷ (s ∷ []))) (sym eh) (merged_low z some fit)))
      (λ eh el z fit. subst (λ x. Shrinks (code_of k) (wide k) k.capacity p (directory_at q n x h) (Some (data_at r (ys ++ without_point (code_of k) p xs))) (q ∷ (s ∷ []))) (sym el)
      (subst (λ x. Shrinks (code_of k) (wide k) k.capacity p (directory_at q n (data_at s ys) x) (Some (data_at r (ys ++ without_point (code_of k) p xs))) (q ∷ (s ∷ []))) (sym eh) (merged_high z some fit)))
      b two own other is

  module _ (s : Sound k) (card : Card) (ps : List P) where
    -- the other half stands on the card
    pub side_stands : Standing k card ps (directory_at q n l h) → (xs : List P) × Standing k card xs (chosen b h l)
    side_stands st = by_bit (λ b. (xs : List P) × Standing k card xs (chosen b h l)) (half (code_of k) (wide k) n 1 ps, standing_high k s card ps q n l h st) (half (code_of k) (wide k) n 0 ps, standing_low k s card ps q n l h st) b two

    -- the points of both halves
    pub side_count : Standing k card ps (directory_at q n l h) → length (below_it (chosen b l h)) + length (below_it (chosen b h l)) ≡ length ps
    side_count st =
        let a = ap length (halved_points (code_of k) (wide k) k.capacity s.room ps (shape (directory_at q n l h)) st.halved st.is_set.rising) in
        let c = length-append (below_it l) (below_it h) in
        by_bit (λ b. length (below_it (chosen b l h)) + length (below_it (chosen b h l)) ≡ length ps) (omega arith) (omega arith) b two

    -- what is left where the half has lost the point
    pub side_left : (m : Laid P) (freed : List ℕ) → Standing k card ps (directory_at q n l h) → Shrinks (code_of k) (wide k) k.capacity p (chosen b l h) (Some m) freed → bit_at (wide k) n (code_of k p) ≡ b → live (code_of k) p ps ≡ true
        → (below_it (chosen b m l) ++ below_it (chosen b h m) ≡ without_point (code_of k) p ps) × (1 ≤ length (below_it (chosen b m l))) × (1 ≤ length (below_it (chosen b h m)))
    side_left m freed st sh is on =
        let C = code_of k in
        let W = wide k in
        let B = k.capacity in
        let up = st.is_set.rising in
        let i = node_inv k st.halved in
        let part = parted k s n ps st.is_set i.0 i.1 in
        by_bit (λ b. Shrinks C W B p (chosen b l h) (Some m) freed → bit_at W n (C p) ≡ b → (below_it (chosen b m l) ++ below_it (chosen b h m) ≡ without_point C p ps) × (1 ≤ length (below_it (chosen b m l))) × (1 ≤ length (below_it (chosen b h m))))
        (λ sh z.
        let m_is = left_half k s p n 0 ps m freed (chosen 0 l h) up sh i.2 z on in
        let eh = halved_points C W B s.room (half C W n 1 ps) (shape h) i.3 (half_rising C W n 1 ps up) in
        (ap₂ (λ (a b : List P). a ++ b) m_is.0 eh ∙ left_low C W p n ps up part z, m_is.1, subst (λ xs. 1 ≤ length xs) (sym eh) (halved_some C W B i.3)))
        (λ sh z.
        let m_is = left_half k s p n 1 ps m freed (chosen 1 l h) up sh i.3 z on in
        let el = halved_points C W B s.room (half C W n 0 ps) (shape l) i.2 (half_rising C W n 0 ps up) in
        (ap₂ (λ (a b : List P). a ++ b) el m_is.0 ∙ left_high C W p n ps up part z, subst (λ xs. 1 ≤ length xs) (sym el) (halved_some C W B i.2), m_is.1))
        b two sh is
