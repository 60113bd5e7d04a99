-- A take keeps the halving rule.
use Rattle.std.proofs.Common.{◌≡◌, ℕ, suc, ◌+◌, ◌≤◌, true, ◌⊎◌, List, [], ◌∷◌, ◌++◌, length, Some, None, Option, sym, refl, ap, ◌∙◌, subst, ap₂, inl, inr, ⊎_elim, arith, length-append}
use Rattle.std.specs.List.{AllByRecursion}
use Rattle.std.proofs.lemmas.Bool.{cases_lt, eq-eqb, ne_eqb, cond-true, cond-false}
use Rattle.std.proofs.ByRecursion.{All-weaker, All-append, all_kept_by}
use Rattle.std.proofs.lemmas.List.{nil_from_length, append-nil}
use Rattle.zorder.specs.Code.{bit_at}
use Rattle.zorder.specs.Halves.{half, Rising}
use Rattle.zorder.proofs.Halving.{halves_join}
use Rattle.kinds.specs.Kind.{Kind, wide, code_of}
use Rattle.tree.specs.Sets.{live, without_point}
use Rattle.tree.specs.Tree.{leaf, Halved, one_page, halves}
use Rattle.page.specs.Form.{times}
use Rattle.tree.specs.Laid.{Laid, data_at, directory_at, number, numbers, shape, below_it, agrees, way, beside_in, root_numbers}
use Rattle.tree.specs.Lawful.{Part, parts, root_parts}
use Rattle.growth.specs.Shrinks.{Shrinks, emptied, fewer, low_gone, high_gone, merged_low, merged_high, less_low, less_high}
use Rattle.tree.proofs.Halves.{rising_kept, length_without, half_rising, half_loses, half_keeps, half_live, bit_cases, Parted, depth_parted, parted_depth, parted_count}
use Rattle.tree.proofs.Trees.{halved_points, halved_some}
use Rattle.tree.proofs.Counts.{times_append}
use Rattle.tree.proofs.Standings.{all_front, all_back}
use Rattle.tree.proofs.Laws.{agrees_all, live_shares}
use Rattle.growth.proofs.Puts.{way_low, way_high}

module _ {P : Type 0} (code : P → ℕ) (w : ℕ) (p : P) where
  without_rising : (ps : List P) → Rising code ps → Rising code (without_point code p ps)
  without_rising ps up = rising_kept code _ ps up

  -- what is left is what is left of the halves
  pub left_join : (n : ℕ) (ps : List P) → Rising code ps → Parted code w n ps → without_point code p (half code w n 0 ps) ++ without_point code p (half code w n 1 ps) ≡ without_point code p ps
  left_join n ps up d =
      ap₂ (λ (x y : List P). x ++ y) (sym (half_loses code w n 0 p ps)) (sym (half_loses code w n 1 p ps)) ∙
      halves_join code w n d.front d.short (without_point code p ps) (without_rising ps up) (all_kept_by _ _ ps d.share)

  pub left_low : (n : ℕ) (ps : List P) → Rising code ps → Parted code w n ps → bit_at w n (code p) ≡ 0 → without_point code p (half code w n 0 ps) ++ half code w n 1 ps ≡ without_point code p ps
  left_low n ps up d z = ap (λ s. without_point code p (half code w n 0 ps) ++ s) (sym (half_keeps code w n 1 p ps (λ e. omega (arith, z, e))) ∙ half_loses code w n 1 p ps) ∙ left_join n ps up d

  pub left_high : (n : ℕ) (ps : List P) → Rising code ps → Parted code w n ps → bit_at w n (code p) ≡ 1 → half code w n 0 ps ++ without_point code p (half code w n 1 ps) ≡ without_point code p ps
  left_high n ps up d z = ap (λ s. s ++ without_point code p (half code w n 1 ps)) (sym (half_keeps code w n 0 p ps (λ e. omega (arith, z, e))) ∙ half_loses code w n 0 p ps) ∙ left_join n ps up d

-- what is left is the tree of a set; nothing is left of an empty set
module _ {P : Type 0} (code : P → ℕ) (w b : ℕ) where
  abbrev pub Left : Option (Laid P) → List P → Type 0
  Left None ps = ps ≡ []
  Left (Some t) ps = Halved code w b ps (shape t)

module _ {P : Type 0} (code : P → ℕ) (w b : ℕ) (room : 1 ≤ b) (p : P) where
  -- a take keeps the halving rule
  pub shrinks_halved : (ps : List P) {t : Laid P} {u : Option (Laid P)} {freed : List ℕ} → Shrinks code w b p t u freed → Halved code w b ps (shape t) → Rising code ps → live code p ps ≡ true → Left code w b u (without_point code p ps)
  shrinks_halved ps (emptied e) (one_page a c) up on = e
  shrinks_halved ps (fewer some) (one_page a c) up on = let l = length_without code p ps up on in one_page some (omega arith)
  shrinks_halved ps (low_gone {q} {n} {l} {h} z sh) (halves c d x y) up on =
      let part = depth_parted code w n ps (omega arith) up d in
      let gone = shrinks_halved (half code w n 0 ps) sh x (half_rising code w n 0 ps up) (half_live code w n 0 p ps z ∙ on) in
      subst (λ s. Halved code w b s (shape h)) (sym (ap (λ s. s ++ half code w n 1 ps) gone) ∙ left_low code w p n ps up part z) y
  shrinks_halved ps (high_gone {q} {n} {l} {h} z sh) (halves c d x y) up on =
      let part = depth_parted code w n ps (omega arith) up d in
      let gone = shrinks_halved (half code w n 1 ps) sh y (half_rising code w n 1 ps up) (half_live code w n 1 p ps z ∙ on) in
      let nil : half code w n 0 ps ++ [] ≡ half code w n 0 ps = append-nil (half code w n 0 ps) in
      subst (λ s. Halved code w b s (shape l)) (sym nil ∙ sym (ap (λ s. half code w n 0 ps ++ s) gone) ∙ left_high code w p n ps up part z) x
  shrinks_halved ps (merged_low {q} {n} z some small) (halves c d (one_page x x') (one_page y y')) up on =
      let part = depth_parted code w n ps (omega arith) up d in
      let l = length-append (without_point code p (half code w n 0 ps)) (half code w n 1 ps) in
      subst (λ s. Halved code w b s (leaf (without_point code p (half code w n 0 ps) ++ half code w n 1 ps))) (left_low code w p n ps up part z) (one_page (omega arith) small)
  shrinks_halved ps (merged_high {q} {n} z some small) (halves c d (one_page x x') (one_page y y')) up on =
      let part = depth_parted code w n ps (omega arith) up d in
      let l = length-append (half code w n 0 ps) (without_point code p (half code w n 1 ps)) in
      subst (λ s. Halved code w b s (leaf (half code w n 0 ps ++ without_point code p (half code w n 1 ps)))) (left_high code w p n ps up part z) (one_page (omega arith) small)
  shrinks_halved ps (less_low {q} {n} {l} {h} {m} z sh big) (halves c d x y) up on =
      let part = depth_parted code w n ps (omega arith) up d in
      let upl = half_rising code w n 0 ps up in
      let x' = shrinks_halved (half code w n 0 ps) sh x upl (half_live code w n 0 p ps z ∙ on) in
      let el = halved_points code w b room (without_point code p (half code w n 0 ps)) (shape m) x' (without_rising code w p (half code w n 0 ps) upl) in
      let eh = halved_points code w b room (half code w n 1 ps) (shape h) y (half_rising code w n 1 ps up) in
      let len = ap length (ap₂ (λ (s t : List P). s ++ t) el eh ∙ left_low code w p n ps up part z) in
      let kl = half_loses code w n 0 p ps in
      let kh = half_keeps code w n 1 p ps (λ e. omega (arith, z, e)) in
      let lo = halved_some code w b x' in
      let left : Parted code w n (without_point code p ps) = record { short = part.short; front = part.front; share = all_kept_by _ _ ps part.share; low = subst (λ s. 1 ≤ length s) (sym kl) lo; high = subst (λ s. 1 ≤ length s) (sym kh) part.high } in
      halves (omega arith) (parted_depth code w n (without_point code p ps) left) (subst (λ s. Halved code w b s (shape m)) (sym kl) x') (subst (λ s. Halved code w b s (shape h)) (sym kh) y)
  shrinks_halved ps (less_high {q} {n} {l} {h} {m} z sh big) (halves c d x y) up on =
      let part = depth_parted code w n ps (omega arith) up d in
      let uph = half_rising code w n 1 ps up in
      let y' = shrinks_halved (half code w n 1 ps) sh y uph (half_live code w n 1 p ps z ∙ on) in
      let eh = halved_points code w b room (without_point code p (half code w n 1 ps)) (shape m) y' (without_rising code w p (half code w n 1 ps) uph) in
      let el = halved_points code w b room (half code w n 0 ps) (shape l) x (half_rising code w n 0 ps up) in
      let len = ap length (ap₂ (λ (s t : List P). s ++ t) el eh ∙ left_high code w p n ps up part z) in
      let kh = half_loses code w n 1 p ps in
      let kl = half_keeps code w n 0 p ps (λ e. omega (arith, z, e)) in
      let hi = halved_some code w b y' in
      let left : Parted code w n (without_point code p ps) = record { short = part.short; front = part.front; share = all_kept_by _ _ ps part.share; low = subst (λ s. 1 ≤ length s) (sym kl) part.low; high = subst (λ s. 1 ≤ length s) (sym kh) hi } in
      halves (omega arith) (parted_depth code w n (without_point code p ps) left) (subst (λ s. Halved code w b s (shape l)) (sym kl) x) (subst (λ s. Halved code w b s (shape m)) (sym kh) y')

  -- ---- a take can always be made
  abbrev pub Shrunk : Laid P → Type 0
  Shrunk t = (u : Option (Laid P)) × (freed : List ℕ) × Shrinks code w b p t u freed

  small_leaf : (ps : List P) (t : Laid P) → Halved code w b ps (shape t) → length ps ≤ b → (q : ℕ) × (t ≡ data_at q ps)
  small_leaf ps (data_at q _) (one_page a c) le = (q, refl)
  small_leaf ps (directory_at q n l h) (halves c d x y) le = absurd (omega arith)

  step_low : (ps : List P) (q n : ℕ) (l h : Laid P) (u : Option (Laid P)) (freed : List ℕ) → Shrinks code w b p l u freed → Halved code w b ps (shape (directory_at q n l h)) → Rising code ps → live code p ps ≡ true → bit_at w n (code p) ≡ 0 → Shrunk (directory_at q n l h)
  step_low ps q n l h None freed sh whole up on z = (Some h, q ∷ freed, low_gone z sh)
  step_low ps q n l h (Some m) freed sh (halves c d x y) up on z =
      ⊎_elim
      (λ big. (Some (directory_at q n m h), freed, less_low z sh big))
      (λ le.
      let part = depth_parted code w n ps (omega arith) up d in
      let upl = half_rising code w n 0 ps up in
      let x' = shrinks_halved (half code w n 0 ps) sh x upl (half_live code w n 0 p ps z ∙ on) in
      let el = halved_points code w b room (without_point code p (half code w n 0 ps)) (shape m) x' (without_rising code w p (half code w n 0 ps) upl) in
      let eh = halved_points code w b room (half code w n 1 ps) (shape h) y (half_rising code w n 1 ps up) in
      let len = ap length (ap₂ (λ (s t : List P). s ++ t) el eh ∙ left_low code w p n ps up part z) in
      let less = length_without code p ps up on in
      let sum = parted_count code w n ps up part in
      let lo = part.low in
      let hi = part.high in
      let (r, er) = small_leaf (half code w n 0 ps) l x (omega arith) in
      let (s, es) = small_leaf (half code w n 1 ps) h y (omega arith) in
      let fit : length (without_point code p (half code w n 0 ps) ++ half code w n 1 ps) ≤ b = let e = ap length (ap₂ (λ (s t : List P). s ++ t) el eh) in omega arith in
      subst (λ a. Shrunk (directory_at q n a h)) (sym er) (subst (λ a. Shrunk (directory_at q n (data_at r (half code w n 0 ps)) a)) (sym es)
      (Some (data_at r (without_point code p (half code w n 0 ps) ++ half code w n 1 ps)), q ∷ (s ∷ []), merged_low z (halved_some code w b x') fit)))
      (cases_lt b (length (below_it m ++ below_it h)))

  step_high : (ps : List P) (q n : ℕ) (l h : Laid P) (u : Option (Laid P)) (freed : List ℕ) → Shrinks code w b p h u freed → Halved code w b ps (shape (directory_at q n l h)) → Rising code ps → live code p ps ≡ true → bit_at w n (code p) ≡ 1 → Shrunk (directory_at q n l h)
  step_high ps q n l h None freed sh whole up on z = (Some l, q ∷ freed, high_gone z sh)
  step_high ps q n l h (Some m) freed sh (halves c d x y) up on z =
      ⊎_elim
      (λ big. (Some (directory_at q n l m), freed, less_high z sh big))
      (λ le.
      let part = depth_parted code w n ps (omega arith) up d in
      let uph = half_rising code w n 1 ps up in
      let y' = shrinks_halved (half code w n 1 ps) sh y uph (half_live code w n 1 p ps z ∙ on) in
      let eh = halved_points code w b room (without_point code p (half code w n 1 ps)) (shape m) y' (without_rising code w p (half code w n 1 ps) uph) in
      let el = halved_points code w b room (half code w n 0 ps) (shape l) x (half_rising code w n 0 ps up) in
      let len = ap length (ap₂ (λ (s t : List P). s ++ t) el eh ∙ left_high code w p n ps up part z) in
      let less = length_without code p ps up on in
      let sum = parted_count code w n ps up part in
      let lo = part.low in
      let hi = part.high in
      let (r, er) = small_leaf (half code w n 0 ps) l x (omega arith) in
      let (s, es) = small_leaf (half code w n 1 ps) h y (omega arith) in
      let fit : length (half code w n 0 ps ++ without_point code p (half code w n 1 ps)) ≤ b = let e = ap length (ap₂ (λ (s t : List P). s ++ t) el eh) in omega arith in
      subst (λ a. Shrunk (directory_at q n a h)) (sym er) (subst (λ a. Shrunk (directory_at q n (data_at r (half code w n 0 ps)) a)) (sym es)
      (Some (data_at s (half code w n 0 ps ++ without_point code p (half code w n 1 ps))), q ∷ (r ∷ []), merged_high z (halved_some code w b y') fit)))
      (cases_lt b (length (below_it l ++ below_it m)))

  pub shrinks_some : (ps : List P) (t : Laid P) → Halved code w b ps (shape t) → Rising code ps → live code p ps ≡ true → Shrunk t
  shrinks_some ps (data_at q _) (one_page a c) up on =
      ⊎_elim
      (λ some. (Some (data_at q (without_point code p ps)), [], fewer some))
      (λ none. (None, q ∷ [], emptied (nil_from_length (without_point code p ps) (omega arith))))
      (cases_lt 0 (length (without_point code p ps)))
  shrinks_some ps (directory_at q n l h) (halves c d x y) up on =
      elim (bit_cases w n (code p)) [
        | inl z ↦ let r = shrinks_some (half code w n 0 ps) l x (half_rising code w n 0 ps up) (half_live code w n 0 p ps z ∙ on) in step_low ps q n l h r.0 r.1 r.2 (halves c d x y) up on z
        | inr z ↦ let r = shrinks_some (half code w n 1 ps) h y (half_rising code w n 1 ps up) (half_live code w n 1 p ps z ∙ on) in step_high ps q n l h r.0 r.1 r.2 (halves c d x y) up on z
      ]

-- ---- the pages
module _ {P : Type 0} (code : P → ℕ) (w b : ℕ) (p : P) where
  -- each page of the tree is a page of what is left, or free
  pub shrinks_times : (x : ℕ) {t : Laid P} {u : Option (Laid P)} {freed : List ℕ} → Shrinks code w b p t u freed → times x (numbers t) ≡ times x (root_numbers u) + times x freed
  shrinks_times x (emptied e) = omega arith
  shrinks_times x (fewer some) = omega arith
  shrinks_times x (low_gone {q} {n} {l} {h} z sh) = let i = shrinks_times x sh in let c = times_append x (numbers l) (numbers h) in omega arith
  shrinks_times x (high_gone {q} {n} {l} {h} z sh) = let i = shrinks_times x sh in let c = times_append x (numbers l) (numbers h) in omega arith
  shrinks_times x (merged_low z some small) = omega arith
  shrinks_times x (merged_high z some small) = omega arith
  shrinks_times x (less_low {q} {n} {l} {h} {m} z sh big) = let i = shrinks_times x sh in let c = times_append x (numbers l) (numbers h) in let d = times_append x (numbers m) (numbers h) in omega arith
  shrinks_times x (less_high {q} {n} {l} {h} {m} z sh big) = let i = shrinks_times x sh in let c = times_append x (numbers l) (numbers h) in let d = times_append x (numbers l) (numbers m) in omega arith

  -- so many pages become free: one where a data page is emptied, else none or two
  abbrev pub Freed : Option (Laid P) → List ℕ → Type 0
  Freed None freed = length freed ≡ 1
  Freed (Some t) freed = (length freed ≡ 0) ⊎ (length freed ≡ 2)

  pub shrinks_freed : {t : Laid P} {u : Option (Laid P)} {freed : List ℕ} → Shrinks code w b p t u freed → Freed u freed
  shrinks_freed (emptied e) = refl
  shrinks_freed (fewer some) = inl refl
  shrinks_freed (low_gone z sh) = inr (ap suc (shrinks_freed sh))
  shrinks_freed (high_gone z sh) = inr (ap suc (shrinks_freed sh))
  shrinks_freed (merged_low z some small) = inr refl
  shrinks_freed (merged_high z some small) = inr refl
  shrinks_freed (less_low z sh big) = shrinks_freed sh
  shrinks_freed (less_high z sh big) = shrinks_freed sh

-- ---- which pages differ
module _ {P : Type 0} (code : P → ℕ) (w : ℕ) (p : P) where
  pub beside_low : (last : List ℕ) (q n : ℕ) (l h : Laid P) → agrees code w n (below_it (directory_at q n l h)) p ≡ true → bit_at w n (code p) ≡ 0 → beside_in code w last (directory_at q n l h) p ≡ beside_in code w (number h ∷ []) l p
  beside_low last q n l h ok z = cond-true _ _ _ ok ∙ cond-true _ _ _ (eq-eqb _ _ z)

  pub beside_high : (last : List ℕ) (q n : ℕ) (l h : Laid P) → agrees code w n (below_it (directory_at q n l h)) p ≡ true → bit_at w n (code p) ≡ 1 → beside_in code w last (directory_at q n l h) p ≡ beside_in code w (number l ∷ []) h p
  beside_high last q n l h ok z = cond-true _ _ _ ok ∙ cond-false _ _ _ (ne_eqb (bit_at w n (code p)) 0 (λ e. omega (arith, z, e)))

module _ {P : Type 0} (k : Kind P) (room : 1 ≤ k.capacity) (p : P) (A : ℕ → Type 0) (B : Part → Type 0) where
  abbrev Either : Part → Type 0
  Either x = A x.at ⊎ B x

  olds : (xs : List Part) → AllByRecursion B xs → AllByRecursion Either xs
  olds xs all = All-weaker B Either (λ x y. inr y) xs all

  goes : (ps : List P) (q n : ℕ) (l h : Laid P) → Halved (code_of k) (wide k) k.capacity ps (shape (directory_at q n l h)) → Rising (code_of k) ps → live (code_of k) p ps ≡ true → agrees (code_of k) (wide k) n (below_it (directory_at q n l h)) p ≡ true
  goes ps q n l h (halves c d x y) up on =
      let part = depth_parted (code_of k) (wide k) n ps (omega arith) up d in
      subst (λ s. agrees (code_of k) (wide k) n s p ≡ true) (sym (halved_points (code_of k) (wide k) k.capacity room ps (shape (directory_at q n l h)) (halves c d x y) up)) (agrees_all (code_of k) (wide k) n part.front ps p part.share (live_shares (code_of k) (wide k) n part.front ps p part.share on))

  -- what is left of the tree has pages of the way, and pages of the tree with the same bytes; a page that becomes free is on the way or beside its last
  pub shrinks_parts : (ps : List P) {t : Laid P} {u : Option (Laid P)} {freed : List ℕ} (last : List ℕ) → Shrinks (code_of k) (wide k) k.capacity p t u freed → Halved (code_of k) (wide k) k.capacity ps (shape t) → Rising (code_of k) ps → live (code_of k) p ps ≡ true
      → AllByRecursion A (way (code_of k) (wide k) t p) → AllByRecursion A (beside_in (code_of k) (wide k) last t p) → AllByRecursion B (parts k t) → AllByRecursion Either (root_parts k u) × AllByRecursion A freed
  shrinks_parts ps last (emptied e) (one_page a c) up on v s o = (tt, v)
  shrinks_parts ps last (fewer some) (one_page a c) up on v s o = ((inl v.0, tt), tt)
  shrinks_parts ps last (low_gone {q} {n} {l} {h} z sh) (halves c d x y) up on v s o =
      let ok = goes ps q n l h (halves c d x y) up on in
      let v' = subst (AllByRecursion A) (way_low (code_of k) (wide k) p q n l h ok z) v in
      let s' = subst (AllByRecursion A) (beside_low (code_of k) (wide k) p last q n l h ok z) s in
      let r = shrinks_parts (half (code_of k) (wide k) n 0 ps) (number h ∷ []) sh x (half_rising (code_of k) (wide k) n 0 ps up) (half_live (code_of k) (wide k) n 0 p ps z ∙ on) v'.1 s' (all_front B (parts k l) (parts k h) o.1) in
      (olds (parts k h) (all_back B (parts k l) (parts k h) o.1), (v'.0, r.1))
  shrinks_parts ps last (high_gone {q} {n} {l} {h} z sh) (halves c d x y) up on v s o =
      let ok = goes ps q n l h (halves c d x y) up on in
      let v' = subst (AllByRecursion A) (way_high (code_of k) (wide k) p q n l h ok z) v in
      let s' = subst (AllByRecursion A) (beside_high (code_of k) (wide k) p last q n l h ok z) s in
      let r = shrinks_parts (half (code_of k) (wide k) n 1 ps) (number l ∷ []) sh y (half_rising (code_of k) (wide k) n 1 ps up) (half_live (code_of k) (wide k) n 1 p ps z ∙ on) v'.1 s' (all_back B (parts k l) (parts k h) o.1) in
      (olds (parts k l) (all_front B (parts k l) (parts k h) o.1), (v'.0, r.1))
  shrinks_parts ps last (merged_low {q = q} {n = n} {r = r} {s = e} {ls = ls} {hs = hs} z some small) (halves c d x y) up on v s o =
      let ok = goes ps q n (data_at r ls) (data_at e hs) (halves c d x y) up on in
      let v' = subst (AllByRecursion A) (way_low (code_of k) (wide k) p q n (data_at r ls) (data_at e hs) ok z) v in
      let s' = subst (AllByRecursion A) (beside_low (code_of k) (wide k) p last q n (data_at r ls) (data_at e hs) ok z) s in
      ((inl v'.1.0, tt), (v'.0, s'))
  shrinks_parts ps last (merged_high {q = q} {n = n} {r = r} {s = e} {ls = ls} {hs = hs} z some small) (halves c d x y) up on v s o =
      let ok = goes ps q n (data_at r ls) (data_at e hs) (halves c d x y) up on in
      let v' = subst (AllByRecursion A) (way_high (code_of k) (wide k) p q n (data_at r ls) (data_at e hs) ok z) v in
      let s' = subst (AllByRecursion A) (beside_high (code_of k) (wide k) p last q n (data_at r ls) (data_at e hs) ok z) s in
      ((inl v'.1.0, tt), (v'.0, s'))
  shrinks_parts ps last (less_low {q} {n} {l} {h} {m} z sh big) (halves c d x y) up on v s o =
      let ok = goes ps q n l h (halves c d x y) up on in
      let v' = subst (AllByRecursion A) (way_low (code_of k) (wide k) p q n l h ok z) v in
      let s' = subst (AllByRecursion A) (beside_low (code_of k) (wide k) p last q n l h ok z) s in
      let r = shrinks_parts (half (code_of k) (wide k) n 0 ps) (number h ∷ []) sh x (half_rising (code_of k) (wide k) n 0 ps up) (half_live (code_of k) (wide k) n 0 p ps z ∙ on) v'.1 s' (all_front B (parts k l) (parts k h) o.1) in
      ((inl v'.0, All-append Either (parts k m) (parts k h) r.0 (olds (parts k h) (all_back B (parts k l) (parts k h) o.1))), r.1)
  shrinks_parts ps last (less_high {q} {n} {l} {h} {m} z sh big) (halves c d x y) up on v s o =
      let ok = goes ps q n l h (halves c d x y) up on in
      let v' = subst (AllByRecursion A) (way_high (code_of k) (wide k) p q n l h ok z) v in
      let s' = subst (AllByRecursion A) (beside_high (code_of k) (wide k) p last q n l h ok z) s in
      let r = shrinks_parts (half (code_of k) (wide k) n 1 ps) (number l ∷ []) sh y (half_rising (code_of k) (wide k) n 1 ps up) (half_live (code_of k) (wide k) n 1 p ps z ∙ on) v'.1 s' (all_back B (parts k l) (parts k h) o.1) in
      ((inl v'.0, All-append Either (parts k l) (parts k m) (olds (parts k l) (all_front B (parts k l) (parts k h) o.1)) r.0), r.1)
