-- The laws of codes, at coordinates.
use Rattle.std.proofs.Common.{◌≡◌, ℕ, suc, ◌-◌, ◌/◌, ◌%◌, ◌^◌, ◌<◌, ◌≤◌, true, false, cond, ◌⊎◌, List, [], ◌∷◌, map, length, take, ℤ, sym, refl, ap, ◌∙◌, subst, inl, inr, mod-eq_of_lt, div-lt_iff_lt-mul, one-mul, div-one, arith, pow_pos}
use lib.Arith.{lt_of_le-ne}
use lib.Signed.{lt_z}
use lib.Bits.{bit_xor}
use lib.Count.{count_leading_zeros, leading_le}
use Rattle.std.specs.Int.{int_min, int_max}
use Rattle.std.specs.List.{AllByRecursion}
use Rattle.std.proofs.ByRecursion.{All-weaker, All-map}
use Rattle.std.proofs.lemmas.Int.{ints, clamps}
use Rattle.zorder.specs.Code.{Axis, OnAxis, OnAxes, raised, raise, digits, rounds, code, woven, widths, width, first}
use Rattle.zorder.specs.Sharing.{on_each, corner, least_corner, greatest_corner, Narrow, Under}
use Rattle.zorder.specs.Laws.{TakenLaw, BelowLaw, OnePointLaw, OrderLaw, WindowLaw, BoundsLaw, CornerLaw, ApartLaw}
use Rattle.zorder.proofs.Bitlists.{Bin, digits_div, digits_eq, agree_digits, digits_agree}
use Rattle.zorder.proofs.Order.{Each, done, each, Any, Below, rounds_bin, code_le}
use Rattle.zorder.proofs.Mix.{Mix, unmixed, mixed, rounds_mix, most, rounds_length, rounds_enough, Same, rounds_same}
use Rattle.zorder.proofs.Raised.{nat_abs_le, raised_lt, raised_eq}
use Rattle.zorder.proofs.Shared.{agree_zeros, zeros_agree, between, bit_next}

-- two points on the axes
pub data Two : List Axis → List ℤ → List ℤ → Type 0 where
  no_axes : Two [] [] []
  two : (a : Axis) (x y : ℤ) {axs : List Axis} {p q : List ℤ} → OnAxis a x → OnAxis a y → Two axs p q → Two (a ∷ axs) (x ∷ p) (y ∷ q)

pub both : (axs : List Axis) (p q : List ℤ) → OnAxes axs p → OnAxes axs q → Two axs p q
both [] [] [] h k = no_axes
both [] [] (y ∷ q) h k = elim k [ ]
both [] (x ∷ p) q h k = elim h [ ]
both (a ∷ axs) [] q h k = elim h [ ]
both (a ∷ axs) (x ∷ p) [] h k = elim k [ ]
both (a ∷ axs) (x ∷ p) (y ∷ q) h k = two a x y h.0 k.0 (both axs p q h.1 k.1)

pair : {axs : List Axis} {p q : List ℤ} → Two axs p q → Each Any (widths axs) (raise axs p) (raise axs q)
pair no_axes = done
pair (two a x y h k t) = each a.bits (raised a x) (raised a y) tt (pair t)

below : {axs : List Axis} {p q : List ℤ} → Two axs p q → Under p q → Each Below (widths axs) (raise axs p) (raise axs q)
below no_axes u = done
below (two a x y h k t) u =
    let e : raised a x % 2 ^ a.bits ≡ raised a x = mod-eq_of_lt (raised_lt a x h) in
    let f : raised a y % 2 ^ a.bits ≡ raised a y = mod-eq_of_lt (raised_lt a y k) in
    let g : raised a x ≤ raised a y = nat_abs_le a.least x y h.0 u.0 in
    each a.bits (raised a x) (raised a y) (rw (e, f) g) (below t u.1)

pub order_law : OrderLaw
unfolding woven
order_law axs p q h k u = code_le 32 (below (both axs p q h k) u)

abbrev code_bits : List Axis → List ℤ → List ℕ
code_bits axs zs = rounds 32 (widths axs) (raise axs zs)

bits_of : (axs : List Axis) (p q : List ℤ) → OnAxes axs p → OnAxes axs q → Bin (code_bits axs p) (code_bits axs q)
bits_of axs p q h k = rounds_bin 32 (pair (both axs p q h k))

long : (axs : List Axis) → Narrow axs → (p : List ℤ) → OnAxes axs p → length (code_bits axs p) ≡ width axs
long axs m p h = rounds_length 32 (pair (both axs p p h h)) (most 32 (widths axs) m)

pub taken_law : TakenLaw
unfolding woven
taken_law axs m p h n l =
    let e : rounds n (widths axs) (raise axs p) ≡ code_bits axs p = rounds_enough 32 n (widths axs) (raise axs p) (most 32 (widths axs) m) l in
    (ap length e ∙ long axs m p h, sym (ap (digits 0) e))

pub code_lt : BelowLaw
unfolding woven
code_lt axs m p h =
    let z : code axs p / 2 ^ length (code_bits axs p) ≡ 0 = digits_div (bits_of axs p p h h) 0 in
    let l : code axs p / 2 ^ length (code_bits axs p) < 1 = omega (arith, z) in
    subst (λ k. code axs p < 2 ^ k) (long axs m p h) (rw one-mul at ((div-lt_iff_lt-mul (pow_pos (length (code_bits axs p)))).0 l))

same_point : {axs : List Axis} {p q : List ℤ} → Two axs p q → Each Same (widths axs) (raise axs p) (raise axs q) → p ≡ q
same_point no_axes e = refl
same_point (two a x y {axs} {p} {q} h k t) (each n u v s e) =
    let f : raised a x ≡ raised a y = sym (mod-eq_of_lt (raised_lt a x h)) ∙ s ∙ mod-eq_of_lt (raised_lt a y k) in
    let g : x ≡ y = raised_eq a x y h k f in
    let r : p ≡ q = same_point t e in
    cc

pub one_point_law : OnePointLaw
unfolding woven
one_point_law axs m p q h k e =
    let t = both axs p q h k in
    same_point t (rounds_same 32 (pair t) (most 32 (widths axs) m) (digits_eq (bits_of axs p q h k) 0 0 e).1)

-- ---- corners

pub min_one : (x y : ℤ) → (int_min x y ≡ x) ⊎ (int_min x y ≡ y)
min_one x y = elim (lt_z y x) as (λ b. (cond b y x ≡ x) ⊎ (cond b y x ≡ y)) [ true ↦ inr refl | false ↦ inl refl ]

pub max_one : (x y : ℤ) → (int_max x y ≡ x) ⊎ (int_max x y ≡ y)
max_one x y = elim (lt_z y x) as (λ b. (cond b x y ≡ x) ⊎ (cond b x y ≡ y)) [ true ↦ inl refl | false ↦ inr refl ]

picked : (a : Axis) (x y m : ℤ) → (m ≡ x) ⊎ (m ≡ y) → OnAxis a x → OnAxis a y → OnAxis a m
picked a x y m (inl e) h k = subst (OnAxis a) (sym e) h
picked a x y m (inr e) h k = subst (OnAxis a) (sym e) k

picked_raised : (a : Axis) (x y m : ℤ) → (m ≡ x) ⊎ (m ≡ y) → (raised a m ≡ raised a x) ⊎ (raised a m ≡ raised a y)
picked_raised a x y m (inl e) = inl (ap (raised a) e)
picked_raised a x y m (inr e) = inr (ap (raised a) e)

-- f gives one of the two
module _ (f : ℤ → ℤ → ℤ) (one_of_lem : (x y : ℤ) → (f x y ≡ x) ⊎ (f x y ≡ y)) where
  each_on : {axs : List Axis} {p q : List ℤ} → Two axs p q → OnAxes axs (on_each f p q)
  each_on no_axes = tt
  each_on (two a x y h k t) = (picked a x y (f x y) (one_of_lem x y) h k, each_on t)

  each_mix : {axs : List Axis} {p q : List ℤ} → Two axs p q → Mix (raise axs p) (raise axs q) (raise axs (on_each f p q))
  each_mix no_axes = unmixed
  each_mix (two a x y h k t) = mixed (raised a x) (raised a y) (raised a (f x y)) (picked_raised a x y (f x y) (one_of_lem x y)) (each_mix t)

  pub corner_on : (axs : List Axis) (p : List ℤ) (ps : List (List ℤ)) → AllByRecursion (OnAxes axs) (p ∷ ps) → OnAxes axs (corner f p ps)
  corner_on axs p [] h = h.0
  corner_on axs p (q ∷ qs) h = corner_on axs (on_each f p q) qs (each_on (both axs p q h.0 h.1.0), h.1.1)

  -- where a relation holds from f's point to both, it holds from the corner to all
  corner_all : (axs : List Axis) (R : List ℤ → List ℤ → Type 0) → ((p : List ℤ) → R p p) → ((p q r : List ℤ) → R p q → R q r → R p r)
      → ((p q : List ℤ) → Two axs p q → R (on_each f p q) p × R (on_each f p q) q)
      → (p : List ℤ) (ps : List (List ℤ)) → AllByRecursion (OnAxes axs) (p ∷ ps) → AllByRecursion (R (corner f p ps)) (p ∷ ps)
  corner_all axs R same then step p [] h = (same p, tt)
  corner_all axs R same then step p (q ∷ qs) h =
      let t = both axs p q h.0 h.1.0 in
      let m = on_each f p q in
      let s = step p q t in
      let i = corner_all axs R same then step m qs (each_on t, h.1.1) in
      let e = corner f m qs in
      (then e m p i.0 s.0, (then e m q i.0 s.1, i.1))

pub lower_under : {axs : List Axis} {p q : List ℤ} → Two axs p q → Under (on_each int_min p q) p × Under (on_each int_min p q) q
lower_under no_axes = (tt, tt)
lower_under (two a x y h k t) = let r = lower_under t in ((omega (arith, ints, clamps), r.0), (omega (arith, ints, clamps), r.1))

pub upper_over : {axs : List Axis} {p q : List ℤ} → Two axs p q → Under p (on_each int_max p q) × Under q (on_each int_max p q)
upper_over no_axes = (tt, tt)
upper_over (two a x y h k t) = let r = upper_over t in ((omega (arith, ints, clamps), r.0), (omega (arith, ints, clamps), r.1))

first_on : {axs : List Axis} {p q : List ℤ} → Two axs p q → OnAxes axs p × OnAxes axs q
first_on no_axes = (tt, tt)
first_on (two a x y h k t) = let r = first_on t in ((h, r.0), (k, r.1))

pub low_le : (axs : List Axis) (p : List ℤ) (ps : List (List ℤ)) → AllByRecursion (OnAxes axs) (p ∷ ps) → AllByRecursion (λ r. code axs (least_corner p ps) ≤ code axs r) (p ∷ ps)
low_le axs = corner_all int_min min_one axs (λ p q. code axs p ≤ code axs q) (λ p. omega arith) (λ p q r g h. omega arith)
    (λ p q t. let o = first_on t in let u = lower_under t in let on = each_on int_min min_one t in
    (order_law axs (on_each int_min p q) p on o.0 u.0, order_law axs (on_each int_min p q) q on o.1 u.1))

pub high_ge : (axs : List Axis) (p : List ℤ) (ps : List (List ℤ)) → AllByRecursion (OnAxes axs) (p ∷ ps) → AllByRecursion (λ r. code axs r ≤ code axs (greatest_corner p ps)) (p ∷ ps)
high_ge axs = corner_all int_max max_one axs (λ p q. code axs q ≤ code axs p) (λ p. omega arith) (λ p q r g h. omega arith)
    (λ p q t. let o = first_on t in let u = upper_over t in let on = each_on int_max max_one t in
    (order_law axs p (on_each int_max p q) o.0 on u.0, order_law axs q (on_each int_max p q) o.1 on u.1))

pub all_and : {X : Type 0} (P Q : X → Type 0) (xs : List X) → AllByRecursion P xs → AllByRecursion Q xs → AllByRecursion (λ x. P x × Q x) xs
all_and P Q [] h k = tt
all_and P Q (x ∷ xs) h k = ((h.0, k.0), all_and P Q xs h.1 k.1)

pub bounds_law : BoundsLaw
bounds_law axs p ps h = all_and _ _ (p ∷ ps) (low_le axs p ps h) (high_ge axs p ps h)

-- a point mixed of two shares what they share
mix_agrees : (axs : List Axis) → Narrow axs → (p q r : List ℤ) → OnAxes axs p → OnAxes axs q → OnAxes axs r → Mix (raise axs p) (raise axs q) (raise axs r)
    → (n : ℕ) → n ≤ width axs → first (width axs) n (code axs p) ≡ first (width axs) n (code axs q) → first (width axs) n (code axs p) ≡ first (width axs) n (code axs r)
unfolding woven
mix_agrees axs m p q r hp hq hr w n le e =
    let lp : length (code_bits axs p) ≡ width axs = long axs m p hp in
    let fits : n ≤ length (code_bits axs p) = omega (arith, lp) in
    let t : take n (code_bits axs p) ≡ take n (code_bits axs q) = agree_digits (bits_of axs p q hp hq) n fits (subst (λ k. first k n (code axs p) ≡ first k n (code axs q)) (sym lp) e) in
    let s : take n (code_bits axs r) ≡ take n (code_bits axs p) = rounds_mix 32 w (widths axs) n t in
    subst (λ k. first k n (code axs p) ≡ first k n (code axs r)) lp (digits_agree (bits_of axs p r hp hr) n fits (sym s))

abbrev AgreeAll : List Axis → ℕ → List ℤ → List (List ℤ) → Type 0
AgreeAll axs n p ps = AllByRecursion (λ r. first (width axs) n (code axs p) ≡ first (width axs) n (code axs r)) ps

module _ (f : ℤ → ℤ → ℤ) (one_of_lem : (x y : ℤ) → (f x y ≡ x) ⊎ (f x y ≡ y)) where
  pub corner_agrees : (axs : List Axis) → Narrow axs → (p : List ℤ) (ps : List (List ℤ)) → AllByRecursion (OnAxes axs) (p ∷ ps) → (n : ℕ) → n ≤ width axs → AgreeAll axs n p ps
      → first (width axs) n (code axs p) ≡ first (width axs) n (code axs (corner f p ps))
  corner_agrees axs m p [] h n le e = refl
  corner_agrees axs m p (q ∷ qs) h n le e =
      let t = both axs p q h.0 h.1.0 in
      let o = each_on f one_of_lem t in
      let i = mix_agrees axs m p q (on_each f p q) h.0 h.1.0 o (each_mix f one_of_lem t) n le e.0 in
      i ∙ corner_agrees axs m (on_each f p q) qs (o, h.1.1) n le (All-weaker _ _ (λ r g. sym i ∙ g) qs e.1)

-- ---- the corner law

pub all_unmap : {X Y : Type 0} (P : Y → Type 0) (f : X → Y) (xs : List X) → AllByRecursion P (map f xs) → AllByRecursion (λ x. P (f x)) xs
all_unmap P f [] h = tt
all_unmap P f (x ∷ xs) h = (h.0, all_unmap P f xs h.1)

pub corner_law : CornerLaw
corner_law axs m p ps h =
    let w = width axs in
    let lo = code axs (least_corner p ps) in
    let hi = code axs (greatest_corner p ps) in
    let n = count_leading_zeros w (bit_xor lo hi) in
    let lt_lo : lo < 2 ^ w = code_lt axs m (least_corner p ps) (corner_on int_min min_one axs p ps h) in
    let lt_hi : hi < 2 ^ w = code_lt axs m (greatest_corner p ps) (corner_on int_max max_one axs p ps h) in
    let le : n ≤ w = leading_le w (bit_xor lo hi) in
    let e : first w n lo ≡ first w n hi = zeros_agree w lo hi n lt_lo lt_hi (omega arith) in
    let all : AllByRecursion (λ r. first w n (code axs r) ≡ first w n lo) (p ∷ ps) = All-weaker _ _ (λ r g. between (w - n) lo (code axs r) hi g.0 g.1 e) (p ∷ ps) (bounds_law axs p ps h) in
    let agrees : AgreeAll axs n p ps = All-weaker _ _ (λ r g. all.0 ∙ sym g) ps all.1 in
    record {
      within = le;
      agree = All-map _ (code axs) ps agrees;
      differ = λ lt bs.
          let more : AgreeAll axs (suc n) p ps = All-weaker _ _ (λ r g. bit_next w n (code axs p) (code axs r) lt g.0 g.1) ps (all_and _ _ ps agrees (all_unmap _ (code axs) ps bs)) in
          let l = corner_agrees int_min min_one axs m p ps h (suc n) lt more in
          let u = corner_agrees int_max max_one axs m p ps h (suc n) lt more in
          let too : suc n ≤ n = agree_zeros w lo hi (suc n) lt_lo lt_hi lt (sym l ∙ u) in
          omega arith;
    }

pub apart_law : ApartLaw
apart_law axs m n p q ps h ne k =
    lt_of_le-ne k.within (λ e.
    let g : first (width axs) n (code axs p) ≡ first (width axs) n (code axs q) = k.agree.0 in
    let z : width axs - n ≡ 0 = omega (arith, e) in
    let s : code axs p / 1 ≡ code axs q / 1 = subst (λ i. code axs p / 2 ^ i ≡ code axs q / 2 ^ i) z g in
    ne (one_point_law axs m p q h.0 h.1.0 (sym (div-one (code axs p)) ∙ s ∙ div-one (code axs q))))

pub low_on : (axs : List Axis) (p : List ℤ) (ps : List (List ℤ)) → AllByRecursion (OnAxes axs) (p ∷ ps) → OnAxes axs (least_corner p ps)
low_on = corner_on int_min min_one

pub high_on : (axs : List Axis) (p : List ℤ) (ps : List (List ℤ)) → AllByRecursion (OnAxes axs) (p ∷ ps) → OnAxes axs (greatest_corner p ps)
high_on = corner_on int_max max_one

-- ---- the window of the corners

pub under_same : (p : List ℤ) → Under p p
under_same [] = tt
under_same (x ∷ p) = (omega (arith, ints), under_same p)

pub under_then : (p q r : List ℤ) → Under p q → Under q r → Under p r
under_then [] [] r h k = k
under_then [] (y ∷ q) r h k = elim h [ ]
under_then (x ∷ p) [] r h k = elim h [ ]
under_then (x ∷ p) (y ∷ q) [] h k = elim k [ ]
under_then (x ∷ p) (y ∷ q) (z ∷ r) h k = (omega (arith, ints), under_then p q r h.1 k.1)

-- nowhere above one another: the same point
pub under_both : (p q : List ℤ) → Under p q → Under q p → p ≡ q
under_both [] [] h k = refl
under_both [] (y ∷ q) h k = elim h [ ]
under_both (x ∷ p) [] h k = elim h [ ]
under_both (x ∷ p) (y ∷ q) h k =
    let e : x ≡ y = omega (arith, ints) in
    let f : p ≡ q = under_both p q h.1 k.1 in
    cc

under_lower : (l p q : List ℤ) → Under l p → Under l q → Under l (on_each int_min p q)
under_lower [] [] q h k = tt
under_lower [] (x ∷ p) q h k = elim h [ ]
under_lower (m ∷ l) [] q h k = elim h [ ]
under_lower (m ∷ l) (x ∷ p) [] h k = elim k [ ]
under_lower (m ∷ l) (x ∷ p) (y ∷ q) h k = (omega (arith, ints, clamps), under_lower l p q h.1 k.1)

upper_under : (u p q : List ℤ) → Under p u → Under q u → Under (on_each int_max p q) u
upper_under [] [] q h k = tt
upper_under [] (x ∷ p) q h k = elim h [ ]
upper_under (m ∷ u) [] q h k = elim h [ ]
upper_under (m ∷ u) (x ∷ p) [] h k = elim k [ ]
upper_under (m ∷ u) (x ∷ p) (y ∷ q) h k = (omega (arith, ints, clamps), upper_under u p q h.1 k.1)

low_tight : (l p : List ℤ) (ps : List (List ℤ)) → AllByRecursion (Under l) (p ∷ ps) → Under l (least_corner p ps)
low_tight l p [] h = h.0
low_tight l p (q ∷ qs) h = low_tight l (on_each int_min p q) qs (under_lower l p q h.0 h.1.0, h.1.1)

high_tight : (u p : List ℤ) (ps : List (List ℤ)) → AllByRecursion (λ r. Under r u) (p ∷ ps) → Under (greatest_corner p ps) u
high_tight u p [] h = h.0
high_tight u p (q ∷ qs) h = high_tight u (on_each int_max p q) qs (upper_under u p q h.0 h.1.0, h.1.1)

pub window_law : WindowLaw
window_law axs p ps h =
    let lows = corner_all int_min min_one axs Under under_same under_then (λ q r t. lower_under t) p ps h in
    let highs = corner_all int_max max_one axs (λ q r. Under r q) under_same (λ q r s g k. under_then s r q k g) (λ q r t. upper_over t) p ps h in (
      (low_on axs p ps h, high_on axs p ps h),
      all_and _ _ (p ∷ ps) lows highs,
      λ low high k. (low_tight low p ps (All-weaker _ _ (λ r i. i.0) (p ∷ ps) k), high_tight high p ps (All-weaker _ _ (λ r i. i.1) (p ∷ ps) k)),
    )
