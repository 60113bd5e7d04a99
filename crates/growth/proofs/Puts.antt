-- A put keeps the halving rule.
use Rattle.std.proofs.Common.{◌≡◌, ℕ, zero, suc, ◌+◌, ◌%◌, ◌^◌, ◌<◌, ◌≤◌, true, false, ◌⊎◌, List, [], ◌∷◌, length, sym, refl, ap, ◌∙◌, subst, inl, inr, ⊎_elim, arith, length-append}
use Rattle.std.specs.List.{AllByRecursion}
use Rattle.std.proofs.lemmas.Bool.{cases_lt, cases_eq, cases_Bool, both_ways, and_parts, eqb-true, eq-eqb, ne_eqb, cond-true, cond-false}
use Rattle.std.proofs.ByRecursion.{All-weaker, All-append}
use Rattle.zorder.specs.Code.{first, bit_at}
use Rattle.zorder.specs.Halves.{half, Rising}
use Rattle.zorder.proofs.Halving.{first_fewer}
use Rattle.kinds.specs.Kind.{Kind, wide, code_of}
use Rattle.tree.specs.Sets.{with_point}
use Rattle.tree.specs.Tree.{leaf, Depth, Halved, one_page, halves}
use Rattle.page.specs.Form.{times}
use Rattle.tree.specs.Laid.{Laid, data_at, directory_at, numbers, shape, below_it, agrees, way}
use Rattle.tree.specs.Lawful.{Part, parts}
use Rattle.growth.specs.Grows.{Grows, fits_in, splits, above_low, above_high, into_low, into_high}
use Rattle.tree.proofs.Halves.{Absent, all_with, all_with_out, length_with, rising_with, half_rising, half_all, half_none, half_whole, half_with, half_past, not_one, not_zero, bit_cases, Parted, depth_parted, parted_depth, parted_count}
use Rattle.tree.proofs.Trees.{depth_some, halved_points}
use Rattle.tree.proofs.Counts.{times_append}
use Rattle.tree.proofs.Standings.{all_front, all_back}
use Rattle.tree.proofs.Laws.{agrees_all}

module _ {P : Type 0} (code : P → ℕ) (w : ℕ) where
  pub agrees_each : (n : ℕ) (p : P) (ps : List P) → agrees code w n ps p ≡ true → AllByRecursion (λ q. first w n (code q) ≡ first w n (code p)) ps
  agrees_each n p [] e = tt
  agrees_each n p (q ∷ qs) e = let h = and_parts _ _ e in (eqb-true _ _ h.0, agrees_each n p qs h.1)

  -- a point that agrees keeps the depth
  pub parted_with : (n : ℕ) (p : P) (ps : List P) → Rising code ps → Parted code w n ps → agrees code w n ps p ≡ true → Parted code w n (with_point code p ps)
  parted_with n p [] up d ok = let h = d.low in absurd (omega arith)
  parted_with n p (q ∷ r) up d ok =
      let ps = q ∷ r in
      let same : first w n (code p) ≡ d.front = sym (agrees_each n p ps ok).0 ∙ d.share.0 in
      let more : (c : ℕ) → 1 ≤ length (half code w n c ps) → 1 ≤ length (half code w n c (with_point code p ps)) = λ c h.
      ⊎_elim
      (λ e. let m = ap length (half_with code w n c p ps e up) ∙ length_with code p (half code w n c ps) in omega arith)
      (λ ne. let m = ap length (half_past code w n c p ps ne) in omega arith)
      (cases_eq (bit_at w n (code p)) c) in
      record {
        short = d.short;
        front = d.front;
        share = all_with code _ p ps same d.share;
        low = more 0 d.low;
        high = more 1 d.high;
      }

  -- the two halves of a set with a point that does not agree with the n first bits
  pub record Beside (p : P) (m : ℕ) (ps : List P) : Type 0 where
    pub with_it : (c : ℕ) → bit_at w m (code p) ≡ c → half code w m c (with_point code p ps) ≡ p ∷ []
    pub old : (c : ℕ) → (bit_at w m (code p) ≡ c → ⊥) → c < 2 → half code w m c (with_point code p ps) ≡ ps

  pub beside_is : (n m : ℕ) (p : P) (ps : List P) → Rising code ps → Parted code w n ps → agrees code w n ps p ≡ false → Parted code w m (with_point code p ps) → Beside p m ps
  beside_is n m p [] up d off e = absurd (both_ways true off refl)
  beside_is n m p (q ∷ r) up d off e =
      let ps = q ∷ r in
      let sh = all_with_out code _ p ps e.share in
      let dn = d.short in
      -- p shares fewer bits than the set
      let lt : m < n = ⊎_elim (λ h. h) (λ le.
      let em = e.short in
      let fewer : (x : P) → first w m (code x) ≡ e.front → first w n (code x) ≡ first w n (code p) = λ x s. first_fewer w m n (code x) (code p) le (omega arith) (s ∙ sym sh.0) in
      absurd (both_ways (agrees code w n ps p) off (agrees_all code w n (first w n (code p)) ps p (All-weaker _ _ fewer ps sh.1) refl)))
      (cases_lt m n) in
      -- so the points of the set have the same bit m
      let same : AllByRecursion (λ x. bit_at w m (code x) ≡ bit_at w m (code q)) ps =
      All-weaker _ _ (λ x s. ap (λ y. y % 2) (first_fewer w n (suc m) (code x) (code q) lt (omega arith) (s ∙ sym d.share.0))) ps d.share in
      let bq = bit_at w m (code q) in
      -- and p has the other one
      let ne : bit_at w m (code p) ≡ bq → ⊥ = λ s.
      let all : AllByRecursion (λ x. bit_at w m (code x) ≡ bq) (with_point code p ps) = all_with code _ p ps s same in
      let none : (c : ℕ) → (bq ≡ c → ⊥) → length (half code w m c (with_point code p ps)) ≡ 0 = λ c nc. ap length (half_none code w m c (with_point code p ps) (All-weaker _ _ (λ x t z. nc (sym t ∙ z)) (with_point code p ps) all)) in
      elim (bit_cases w m (code q)) [
        | inl z ↦ let k = none 1 (λ t. omega (arith, z, t)) in let h = e.high in omega arith
        | inr z ↦ let k = none 0 (λ t. omega (arith, z, t)) in let h = e.low in omega arith
      ] in
      record {
        with_it = λ c s. half_with code w m c p ps s up ∙ ap (with_point code p) (half_none code w m c ps (All-weaker _ _ (λ x t z. ne (s ∙ sym z ∙ t)) ps same));
        old = λ c nc lo. half_past code w m c p ps nc ∙ half_whole code w m c ps (All-weaker _ _ (λ x t. t ∙ other m (code p) (code q) c nc lo ne) ps same);
      }
    where
      other : (m x y c : ℕ) → (bit_at w m x ≡ c → ⊥) → c < 2 → (bit_at w m x ≡ bit_at w m y → ⊥) → bit_at w m y ≡ c
      other m x y zero nc lo ne = let one = not_one w m x nc in not_zero w m y (λ e. ne (one ∙ sym e))
      other m x y (suc zero) nc lo ne = let z = not_zero w m x nc in not_one w m y (λ e. ne (z ∙ sym e))
      other m x y (suc (suc c)) nc lo ne = absurd (omega arith)

module _ {P : Type 0} (code : P → ℕ) (w b : ℕ) (room : 1 ≤ b) (p : P) (f g : ℕ) where
  -- a put keeps the halving rule
  pub grows_halved : (ps : List P) {t u : Laid P} {new : List ℕ} → Grows code w b p f g t u new → Halved code w b ps (shape t) → Rising code ps → Absent code p ps → Halved code w b (with_point code p ps) (shape u)
  grows_halved ps (fits_in lt) (one_page a c) up out = let l = length_with code p ps in one_page (omega arith) (omega arith)
  grows_halved ps (splits {n = n} full d) (one_page a c) up out =
      let l = length_with code p ps in
      let up' = rising_with code p ps up out in
      let part = depth_parted code w n (with_point code p ps) (omega arith) up' d in
      let sum = parted_count code w n (with_point code p ps) up' part in
      let lo = part.low in
      let hi = part.high in
      halves (omega arith) d (one_page lo (omega arith)) (one_page hi (omega arith))
  grows_halved ps (above_low {q} {n} {m} {l} {h} off d bit) (halves c e x y) up out =
      let whole : Halved code w b ps (shape (directory_at q n l h)) = halves c e x y in
      let all : below_it (directory_at q n l h) ≡ ps = halved_points code w b room ps (shape (directory_at q n l h)) whole up in
      let len = length_with code p ps in
      let d' : Depth code w m (with_point code p ps) = subst (λ s. Depth code w m (with_point code p s)) all d in
      let bs = beside_is code w n m p ps up (depth_parted code w n ps (omega arith) up e) (subst (λ s. agrees code w n s p ≡ false) all off) (depth_parted code w m (with_point code p ps) (omega arith) (rising_with code p ps up out) d') in
      halves (omega arith) d'
      (subst (λ s. Halved code w b s (shape (directory_at q n l h))) (sym (bs.old 0 (λ z. omega (arith, bit, z)) (omega arith))) whole)
      (subst (λ s. Halved code w b s (leaf (p ∷ []))) (sym (bs.with_it 1 bit)) (one_page (omega arith) room))
  grows_halved ps (above_high {q} {n} {m} {l} {h} off d bit) (halves c e x y) up out =
      let whole : Halved code w b ps (shape (directory_at q n l h)) = halves c e x y in
      let all : below_it (directory_at q n l h) ≡ ps = halved_points code w b room ps (shape (directory_at q n l h)) whole up in
      let len = length_with code p ps in
      let d' : Depth code w m (with_point code p ps) = subst (λ s. Depth code w m (with_point code p s)) all d in
      let bs = beside_is code w n m p ps up (depth_parted code w n ps (omega arith) up e) (subst (λ s. agrees code w n s p ≡ false) all off) (depth_parted code w m (with_point code p ps) (omega arith) (rising_with code p ps up out) d') in
      halves (omega arith) d'
      (subst (λ s. Halved code w b s (leaf (p ∷ []))) (sym (bs.with_it 0 bit)) (one_page (omega arith) room))
      (subst (λ s. Halved code w b s (shape (directory_at q n l h))) (sym (bs.old 1 (λ z. omega (arith, bit, z)) (omega arith))) whole)
  grows_halved ps (into_low {q} {n} {l} {h} {m} ok bit gr) (halves c e x y) up out =
      let all : below_it (directory_at q n l h) ≡ ps = halved_points code w b room ps (shape (directory_at q n l h)) (halves c e x y) up in
      let len = length_with code p ps in
      let part = parted_with code w n p ps up (depth_parted code w n ps (omega arith) up e) (subst (λ s. agrees code w n s p ≡ true) all ok) in
      let low = grows_halved (half code w n 0 ps) gr x (half_rising code w n 0 ps up) (half_all code w _ n 0 ps out) in
      halves (omega arith) (parted_depth code w n (with_point code p ps) part)
      (subst (λ s. Halved code w b s (shape m)) (sym (half_with code w n 0 p ps bit up)) low)
      (subst (λ s. Halved code w b s (shape h)) (sym (half_past code w n 1 p ps (λ z. omega (arith, bit, z)))) y)
  grows_halved ps (into_high {q} {n} {l} {h} {m} ok bit gr) (halves c e x y) up out =
      let all : below_it (directory_at q n l h) ≡ ps = halved_points code w b room ps (shape (directory_at q n l h)) (halves c e x y) up in
      let len = length_with code p ps in
      let part = parted_with code w n p ps up (depth_parted code w n ps (omega arith) up e) (subst (λ s. agrees code w n s p ≡ true) all ok) in
      let high = grows_halved (half code w n 1 ps) gr y (half_rising code w n 1 ps up) (half_all code w _ n 1 ps out) in
      halves (omega arith) (parted_depth code w n (with_point code p ps) part)
      (subst (λ s. Halved code w b s (shape l)) (sym (half_past code w n 0 p ps (λ z. omega (arith, bit, z)))) x)
      (subst (λ s. Halved code w b s (shape m)) (sym (half_with code w n 1 p ps bit up)) high)

  -- the points of the new tree
  pub grows_points : (ps : List P) {t u : Laid P} {new : List ℕ} → Grows code w b p f g t u new → Halved code w b ps (shape t) → Rising code ps → Absent code p ps → below_it u ≡ with_point code p (below_it t)
  grows_points ps {t} {u} gr whole up out =
      halved_points code w b room (with_point code p ps) (shape u) (grows_halved ps gr whole up out) (rising_with code p ps up out) ∙ ap (with_point code p) (sym (halved_points code w b room ps (shape t) whole up))

  -- a put can always be made
  pub grows_some : (ps : List P) (t : Laid P) → Halved code w b ps (shape t) → Rising code ps → AllByRecursion (λ q. code q < 2 ^ w) ps → Absent code p ps → code p < 2 ^ w → (u : Laid P) × (new : List ℕ) × Grows code w b p f g t u new
  grows_some ps (data_at q _) (one_page a c) up fits out fit =
      ⊎_elim
      (λ lt. (_, _, fits_in lt))
      (λ ge.
      let l = length_with code p ps in
      let d = depth_some code w (with_point code p ps) (omega arith) (rising_with code p ps up out) (all_with code _ p ps fit fits) in
      (_, _, splits {n = d.0} ge d.1))
      (cases_lt (length ps) b)
  grows_some ps (directory_at q n l h) (halves c e x y) up fits out fit =
      let t = directory_at q n l h in
      let all : below_it t ≡ ps = halved_points code w b room ps (shape t) (halves c e x y) up in
      elim (cases_Bool (agrees code w n (below_it t) p)) [
        | inl ok ↦ elim (bit_cases w n (code p)) [
          | inl z ↦ let r = grows_some (half code w n 0 ps) l x (half_rising code w n 0 ps up) (half_all code w _ n 0 ps fits) (half_all code w _ n 0 ps out) fit in (directory_at q n r.0 h, r.1, into_low ok z r.2)
          | inr z ↦ let r = grows_some (half code w n 1 ps) h y (half_rising code w n 1 ps up) (half_all code w _ n 1 ps fits) (half_all code w _ n 1 ps out) fit in (directory_at q n l r.0, r.1, into_high ok z r.2)
        ]
        | inr off ↦
            let len = length_with code p ps in
            let d = depth_some code w (with_point code p ps) (omega arith) (rising_with code p ps up out) (all_with code _ p ps fit fits) in
            let d' : Depth code w d.0 (with_point code p (below_it t)) = subst (λ s. Depth code w d.0 (with_point code p s)) (sym all) d.1 in
            elim (bit_cases w d.0 (code p)) [
              | inl z ↦ (directory_at f d.0 (data_at g (p ∷ [])) t, f ∷ (g ∷ []), above_high off d' z)
              | inr z ↦ (directory_at f d.0 t (data_at g (p ∷ [])), f ∷ (g ∷ []), above_low off d' z)
            ]
      ]

-- ---- the pages
module _ {P : Type 0} (code : P → ℕ) (w b : ℕ) (p : P) (f g : ℕ) where
  -- no new page, or exactly f and g
  pub grows_new : {t u : Laid P} {new : List ℕ} → Grows code w b p f g t u new → (new ≡ []) ⊎ (new ≡ f ∷ (g ∷ []))
  grows_new (fits_in lt) = inl refl
  grows_new (splits full d) = inr refl
  grows_new (above_low off d bit) = inr refl
  grows_new (above_high off d bit) = inr refl
  grows_new (into_low ok bit gr) = grows_new gr
  grows_new (into_high ok bit gr) = grows_new gr

  -- the old pages and the new ones, each as often as before
  pub grows_times : (x : ℕ) {t u : Laid P} {new : List ℕ} → Grows code w b p f g t u new → times x (numbers u) ≡ times x (numbers t) + times x new
  grows_times x (fits_in lt) = omega arith
  grows_times x (splits full d) = omega arith
  grows_times x (above_low {q} {n} {m} {l} {h} off d bit) = let c = times_append x (numbers (directory_at q n l h)) (g ∷ []) in omega arith
  grows_times x (above_high off d bit) = omega arith
  grows_times x (into_low {q} {n} {l} {h} {m} ok bit gr) =
      let i = grows_times x gr in let c = times_append x (numbers l) (numbers h) in let e = times_append x (numbers m) (numbers h) in omega arith
  grows_times x (into_high {q} {n} {l} {h} {m} ok bit gr) =
      let i = grows_times x gr in let c = times_append x (numbers l) (numbers h) in let e = times_append x (numbers l) (numbers m) in omega arith

  pub grows_count : {t u : Laid P} {new : List ℕ} → Grows code w b p f g t u new → length (numbers u) ≡ length (numbers t) + length new
  grows_count (fits_in lt) = omega arith
  grows_count (splits full d) = omega arith
  grows_count (above_low {q} {n} {m} {l} {h} off d bit) = let c = length-append (numbers (directory_at q n l h)) (g ∷ []) in omega arith
  grows_count (above_high off d bit) = omega arith
  grows_count (into_low {q} {n} {l} {h} {m} ok bit gr) =
      let i = grows_count gr in let c = length-append (numbers l) (numbers h) in let e = length-append (numbers m) (numbers h) in omega arith
  grows_count (into_high {q} {n} {l} {h} {m} ok bit gr) =
      let i = grows_count gr in let c = length-append (numbers l) (numbers h) in let e = length-append (numbers l) (numbers m) in omega arith

-- ---- which pages differ
module _ {P : Type 0} (code : P → ℕ) (w : ℕ) (p : P) where
  pub way_low : (q n : ℕ) (l h : Laid P) → agrees code w n (below_it (directory_at q n l h)) p ≡ true → bit_at w n (code p) ≡ 0 → way code w (directory_at q n l h) p ≡ q ∷ way code w l p
  way_low q n l h ok z = cond-true _ _ _ ok ∙ cond-true _ _ _ (eq-eqb _ _ z)

  pub way_high : (q n : ℕ) (l h : Laid P) → agrees code w n (below_it (directory_at q n l h)) p ≡ true → bit_at w n (code p) ≡ 1 → way code w (directory_at q n l h) p ≡ q ∷ way code w h p
  way_high q n l h ok z = cond-true _ _ _ ok ∙ cond-false _ _ _ (ne_eqb (bit_at w n (code p)) 0 (λ e. omega (arith, z, e)))

  pub way_off : (q n : ℕ) (l h : Laid P) → agrees code w n (below_it (directory_at q n l h)) p ≡ false → way code w (directory_at q n l h) p ≡ q ∷ []
  way_off q n l h off = cond-false _ _ _ off

module _ {P : Type 0} (k : Kind P) (p : P) (f g : ℕ) (A : ℕ → Type 0) (B : Part → Type 0) where
  -- a page of the new tree is new, on the way, or a page of the old tree with the same bytes:
  -- so where A holds of the new pages and the way, and B of the parts of the old tree, one of them holds of each part of the new one
  pub grows_parts : {t u : Laid P} {new : List ℕ} → Grows (code_of k) (wide k) k.capacity p f g t u new → AllByRecursion A new → AllByRecursion A (way (code_of k) (wide k) t p) → AllByRecursion B (parts k t) → AllByRecursion (λ x. A x.at ⊎ B x) (parts k u)
  grows_parts (fits_in lt) a v o = (inl v.0, tt)
  grows_parts (splits full d) a v o = (inl a.0, (inl v.0, (inl a.1.0, tt)))
  grows_parts (above_low {q} {n} {m} {l} {h} off d bit) a v o = (inl a.0, All-append _ (parts k (directory_at q n l h)) _ (All-weaker B (λ x. A x.at ⊎ B x) (λ x y. inr y) (parts k (directory_at q n l h)) o) (inl a.1.0, tt))
  grows_parts (above_high {q} {n} {m} {l} {h} off d bit) a v o = (inl a.0, (inl a.1.0, All-weaker B (λ x. A x.at ⊎ B x) (λ x y. inr y) (parts k (directory_at q n l h)) o))
  grows_parts (into_low {q} {n} {l} {h} {m} ok bit gr) a v o =
      let v' : AllByRecursion A (q ∷ way (code_of k) (wide k) l p) = subst (AllByRecursion A) (way_low (code_of k) (wide k) p q n l h ok bit) v in
      (inl v'.0, All-append _ (parts k m) (parts k h) (grows_parts gr a v'.1 (all_front B (parts k l) (parts k h) o.1)) (All-weaker B (λ x. A x.at ⊎ B x) (λ x y. inr y) (parts k h) (all_back B (parts k l) (parts k h) o.1)))
  grows_parts (into_high {q} {n} {l} {h} {m} ok bit gr) a v o =
      let v' : AllByRecursion A (q ∷ way (code_of k) (wide k) h p) = subst (AllByRecursion A) (way_high (code_of k) (wide k) p q n l h ok bit) v in
      (inl v'.0, All-append _ (parts k l) (parts k m) (All-weaker B (λ x. A x.at ⊎ B x) (λ x y. inr y) (parts k l) (all_front B (parts k l) (parts k h) o.1)) (grows_parts gr a v'.1 (all_back B (parts k l) (parts k h) o.1)))
