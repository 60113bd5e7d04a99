-- What the halving rule needs of shared bits and corners.
use Rattle.std.proofs.Common.{◌≡◌, ℕ, suc, ◌+◌, ◌-◌, ◌/◌, ◌%◌, ◌^◌, ◌<◌, ◌≤◌, cond, eqb, ◌⊎◌, List, [], ◌∷◌, ◌++◌, map, length, ℤ, sym, refl, ap, ◌∙◌, subst, ap₂, inl, inr, mod-lt, lt_of_not-le, arith, lit<, shr-shr}
use native.Mathlib.Decide.{ℕ_discrete}
use lib.Bits.{bit_xor}
use lib.Count.{count_leading_zeros}
use Rattle.std.specs.Int.{int_min, int_max}
use Rattle.std.specs.List.{AllByRecursion}
use Rattle.std.proofs.ByRecursion.{All-weaker, All-map, all_kept_by, kept_by_passes}
use Rattle.std.proofs.lemmas.Bool.{eq-eqb, ne_eqb, eqb-true}
use Rattle.std.proofs.lemmas.Int.{ints, clamps}
use Rattle.zorder.specs.Code.{Axis, OnAxes, code, width, first, bit_at}
use Rattle.zorder.specs.Sharing.{Shares, Common, Narrow, on_each, corner, least_corner, greatest_corner}
use Rattle.zorder.specs.Halves.{half, Rising}
use Rattle.zorder.specs.Laws.{DepthLaw, ZerosLaw, PartsLaw, HalvesLaw, JoinLaw}
use Rattle.zorder.proofs.Corners.{all_and, all_unmap, code_lt, low_on, high_on, corner_law}
use Rattle.zorder.proofs.Shared.{bit_order, shares_one, shares_zeros}

-- ---- how many bits

-- fewer first bits
pub first_fewer : (w m n c d : ℕ) → n ≤ m → m ≤ w → first w m c ≡ first w m d → first w n c ≡ first w n d
first_fewer w m n c d h k e =
    let s : w - n ≡ (w - m) + (m - n) = omega arith in
    let f = λ (x : ℕ). ap (λ i. x / 2 ^ i) s ∙ sym (shr-shr x (w - m) (m - n)) in
    f c ∙ ap (λ x. x / 2 ^ (m - n)) e ∙ sym (f d)

-- the shared first bits are the most on which all agree
pub common_most : (w m n c : ℕ) (cs : List ℕ) → Common w m c cs → n ≤ w → AllByRecursion (λ d. first w n c ≡ first w n d) cs → n ≤ m
common_most w m n c cs k h a =
    let lt : n < suc m = lt_of_not-le (λ (g : suc m ≤ n). k.differ (omega arith)
    (All-weaker _ _ (λ d e. ap (λ x. x % 2) (first_fewer w n (suc m) c d g h e)) cs a)) in
    omega arith

pub common_one : (w m n c : ℕ) (cs : List ℕ) → Common w m c cs → Common w n c cs → m ≡ n
common_one w m n c cs h k =
    let p = common_most w n m c cs k h.within h.agree in
    let q = common_most w m n c cs h k.within k.agree in
    omega arith

-- ---- corners of several sets together

module _ (f : ℤ → ℤ → ℤ) (assoc : (x y z : ℤ) → f (f x y) z ≡ f x (f y z)) where
  each_assoc : (p q r : List ℤ) → on_each f (on_each f p q) r ≡ on_each f p (on_each f q r)
  each_assoc [] q r = refl
  each_assoc (x ∷ p) [] r = refl
  each_assoc (x ∷ p) (y ∷ q) [] = refl
  each_assoc (x ∷ p) (y ∷ q) (z ∷ r) = ap₂ (λ (u : ℤ) (us : List ℤ). u ∷ us) (assoc x y z) (each_assoc p q r)

  pub corner_first : (p q : List ℤ) (ps : List (List ℤ)) → corner f p (q ∷ ps) ≡ on_each f p (corner f q ps)
  corner_first p q [] = refl
  corner_first p q (r ∷ ps) = ap (λ m. corner f m ps) (each_assoc p q r) ∙ corner_first p (on_each f q r) ps

  -- the corner of two sets together
  pub corner_append : (p q : List ℤ) (ps qs : List (List ℤ)) → corner f p (ps ++ q ∷ qs) ≡ on_each f (corner f p ps) (corner f q qs)
  corner_append p q [] qs = corner_first p q qs
  corner_append p q (r ∷ ps) qs = corner_append (on_each f p r) q ps qs

  module _ (comm : (x y : ℤ) → f x y ≡ f y x) where
    each_comm : (p q : List ℤ) → on_each f p q ≡ on_each f q p
    each_comm [] [] = refl
    each_comm [] (y ∷ q) = refl
    each_comm (x ∷ p) [] = refl
    each_comm (x ∷ p) (y ∷ q) = ap₂ (λ (u : ℤ) (us : List ℤ). u ∷ us) (comm x y) (each_comm p q)

    -- a point put in at any place
    pub corner_put : (p q : List ℤ) (ps qs : List (List ℤ)) → corner f p (ps ++ q ∷ qs) ≡ on_each f q (corner f p (ps ++ qs))
    corner_put p q [] qs = ap (λ m. corner f m qs) (each_comm p q) ∙ corner_first q p qs
    corner_put p q (r ∷ ps) qs = corner_put (on_each f p r) q ps qs

pub min_assoc : (x y z : ℤ) → int_min (int_min x y) z ≡ int_min x (int_min y z)
min_assoc x y z = omega (arith, ints, clamps)

pub max_assoc : (x y z : ℤ) → int_max (int_max x y) z ≡ int_max x (int_max y z)
max_assoc x y z = omega (arith, ints, clamps)

pub min_comm : (x y : ℤ) → int_min x y ≡ int_min y x
min_comm x y = omega (arith, ints, clamps)

pub max_comm : (x y : ℤ) → int_max x y ≡ int_max y x
max_comm x y = omega (arith, ints, clamps)

-- ---- halves

bit_of : (w n c : ℕ) → (bit_at w n c ≡ 0) ⊎ (bit_at w n c ≡ 1)
bit_of w n c =
    let h : bit_at w n c < 2 = mod-lt (c / 2 ^ (w - suc n)) (lit< tt) in
    elim (ℕ_discrete (bit_at w n c) 0) [ yes e ↦ inl e | no k ↦ inr (omega (arith, h, k)) ]

module _ {X : Type 0} (code : X → ℕ) (w n v : ℕ) (lt : n < w) where
  -- nothing but bit 1
  high_only : (xs : List X) → AllByRecursion (λ x. bit_at w n (code x) ≡ 1) xs → (half code w n 0 xs ≡ []) × (half code w n 1 xs ≡ xs)
  high_only [] h = (refl, refl)
  high_only (x ∷ xs) h = let r = high_only xs h.1 in let e = h.0 in (rw e r.0, rw e (ap (λ ys. x ∷ ys) r.1))

  -- where codes rise and share n first bits, the set is its low half and then its high half
  pub halves_join : (xs : List X) → Rising code xs → AllByRecursion (λ x. first w n (code x) ≡ v) xs → half code w n 0 xs ++ half code w n 1 xs ≡ xs
  halves_join [] h a = refl
  halves_join (x ∷ xs) h a =
      elim (bit_of w n (code x)) [
        | inl e ↦ rw e (ap (λ ys. x ∷ ys) (halves_join xs h.1 a.1))
        | inr e ↦
            let ones : AllByRecursion (λ y. bit_at w n (code y) ≡ 1) xs = All-weaker _ _ (λ y g. elim (bit_of w n (code y)) [
              | inl z ↦ let o : code y < code x = bit_order w n (code y) (code x) lt (g.1 ∙ sym a.0) z e in absurd (omega (arith, g.0))
              | inr z ↦ z
            ]) xs (all_and _ _ xs h.0 a.1) in
            let r = high_only xs ones in
            rw (e, r.0, r.1) refl
      ]

-- ---- the laws

module _ (axs : List Axis) (narrow : Narrow axs) (p : List ℤ) (ps : List (List ℤ)) (on : AllByRecursion (OnAxes axs) (p ∷ ps)) where
  low_lt : code axs (least_corner p ps) < 2 ^ width axs
  low_lt = code_lt axs narrow (least_corner p ps) (low_on axs p ps on)

  high_lt : code axs (greatest_corner p ps) < 2 ^ width axs
  high_lt = code_lt axs narrow (greatest_corner p ps) (high_on axs p ps on)

pub depth_law : DepthLaw
depth_law axs m p ps h n =
    let w = width axs in
    let lo = code axs (least_corner p ps) in
    let hi = code axs (greatest_corner p ps) in
    let c = code axs p in
    let cs = map (code axs) ps in
    let whole = corner_law axs m p ps h in (
      λ s. subst (λ i. Common w i c cs) (sym (shares_one w n lo hi (low_lt axs m p ps h) (high_lt axs m p ps h) s)) whole,
      λ k. subst (λ i. Shares w i lo hi) (common_one w (count_leading_zeros w (bit_xor lo hi)) n c cs whole k) (shares_zeros w lo hi (low_lt axs m p ps h) (high_lt axs m p ps h)),
    )

pub zeros_law : ZerosLaw
zeros_law w c d hc hd = (shares_zeros w c d hc hd, λ n s. shares_one w n c d hc hd s)

pub parts_law : PartsLaw
parts_law p q ps qs = (corner_append int_min min_assoc p q ps qs, corner_append int_max max_assoc p q ps qs)

module _ {X : Type 0} (code : X → ℕ) (w n : ℕ) where
  -- where a half has no member, every bit is the other one
  all_other : (b : ℕ) (xs : List X) → length (half code w n b xs) ≡ 0 → AllByRecursion (λ x. bit_at w n (code x) ≡ b → ⊥) xs
  all_other b [] e = tt
  all_other b (x ∷ xs) e =
      elim (ℕ_discrete (bit_at w n (code x)) b) [
        | yes i ↦ absurd (let g : suc (length (half code w n b xs)) ≡ 0 = sym (ap (λ t. length (cond t (x ∷ half code w n b xs) (half code w n b xs))) (eq-eqb (bit_at w n (code x)) b i)) ∙ e in omega arith)
        | no i ↦ (i, all_other b xs (sym (ap (λ t. length (cond t (x ∷ half code w n b xs) (half code w n b xs))) (ne_eqb (bit_at w n (code x)) b i)) ∙ e))
      ]

  -- what holds of all holds of a half, whose bits are known
  half_all : (b : ℕ) (P : X → Type 0) (xs : List X) → AllByRecursion P xs → AllByRecursion (λ x. P x × (bit_at w n (code x) ≡ b)) (half code w n b xs)
  half_all b P xs h =
      all_and P (λ x. bit_at w n (code x) ≡ b) (half code w n b xs) (all_kept_by (λ x. eqb (bit_at w n (code x)) b) P xs h)
      (All-weaker _ _ (λ x e. eqb-true (bit_at w n (code x)) b e) (half code w n b xs) (kept_by_passes (λ x. eqb (bit_at w n (code x)) b) xs))

other_bits : (b c d : ℕ) → c < 2 → d < 2 → b < 2 → (c ≡ b → ⊥) → (d ≡ b → ⊥) → c ≡ d
other_bits b c d h k l i j = omega arith

pub halves_law : HalvesLaw
halves_law axs n p ps lt k =
    let w = width axs in
    let f = code axs in
    let bit : (q : List ℤ) → bit_at w n (f q) < 2 = λ q. mod-lt (f q / 2 ^ (w - suc n)) (lit< tt) in
    let full : (b : ℕ) → b < 2 → 0 < length (half f w n b (p ∷ ps)) = λ b l. lt_of_not-le (λ (z : length (half f w n b (p ∷ ps)) ≤ 0).
    let o = all_other f w n b (p ∷ ps) (omega arith) in
    k.differ lt (All-map _ f ps (All-weaker _ _ (λ q i. other_bits b (bit_at w n (f p)) (bit_at w n (f q)) (bit p) (bit q) l o.0 i) ps o.1))) in
    let agree : AllByRecursion (λ q. first w n (f p) ≡ first w n (f q)) (p ∷ ps) = (refl, all_unmap _ f ps k.agree) in
    let lows = half_all f w n 0 _ (p ∷ ps) agree in
    let highs = half_all f w n 1 _ (p ∷ ps) agree in (
      full 0 (lit< tt),
      full 1 (lit< tt),
      All-weaker _ _ (λ q i. All-weaker _ _ (λ r j. bit_order w n (f q) (f r) lt (sym i.0 ∙ j.0) i.1 j.1) (half f w n 1 (p ∷ ps)) highs) (half f w n 0 (p ∷ ps)) lows,
    )

pub join_law : JoinLaw
join_law axs n p ps lt k rising =
    let w = width axs in
    let f = code axs in
    halves_join f w n (first w n (f p)) lt (p ∷ ps) rising (refl, All-weaker _ _ (λ q e. sym e) ps (all_unmap _ f ps k.agree))
