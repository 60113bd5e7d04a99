-- The parts of a data page, taken off one after another.
use Rattle.std.proofs.Common.{◌≡◌, ℕ, zero, suc, ◌+◌, ◌-◌, ◌*◌, ◌<◌, ◌≤◌, List, [], ◌∷◌, ◌++◌, length, take, drop, replicate, sym, ap, ◌∙◌, mul-le-mul_right, suc-mul, add-mul, one-mul, arith, length-append, length-drop}
use Rattle.std.specs.List.{flat_map, AllByRecursion}
use Rattle.std.proofs.lemmas.List.{take_at, take_all, drop_at, length-replicate}
use Rattle.zorder.specs.Code.{Axis}
use Rattle.kinds.specs.Bytes.{form, size, Wide}
use Rattle.kinds.specs.Kind.{Kind, Sound}
use Rattle.page.specs.Form.{Point, data_view}
use Rattle.page.specs.Fields.{Reads}
use Rattle.page.proofs.Runs.{body_is, forms, joined_length, drop_plus}

-- the part that comes off what is left at place i, and what is left then
pub part_is : (xs : List ℕ) (i s : ℕ) (rest x rest' : List ℕ) → rest ≡ drop (i * s) xs → rest ≡ x ++ rest' → length x ≡ s → (x ≡ take s (drop (i * s) xs)) × (rest' ≡ drop ((i + 1) * s) xs)
part_is xs i s rest x rest' at cut l =
    let e : x ++ rest' ≡ drop (i * s) xs = sym cut ∙ at in
    let n : i * s + s ≡ (i + 1) * s = sym (add-mul i 1 s ∙ ap (λ m. i * s + m) (one-mul s)) in
    (sym (take_at x rest' s l) ∙ ap (take s) e, sym (drop_at x rest' s l) ∙ ap (drop s) e ∙ sym (drop_plus (i * s) s xs) ∙ ap (λ m. drop m xs) n)

module _ {P : Type 0} (k : Kind P) (laws : Sound k) where
  -- a point has a byte at least
  pub some_size : 1 ≤ size k.axes
  some_size = by k.axes laws.axes_count.0 laws.some_bits laws.wide_bytes
    where
      by : (axs : List Axis) → 1 ≤ length axs → AllByRecursion (λ a. 1 ≤ a.bits) axs → AllByRecursion Wide axs → 1 ≤ size axs
      by [] n b w = absurd (omega arith)
      by (a ∷ axs) n b w = let x = b.0 in let y = w.0.0 in omega arith

  module _ (bs : List ℕ) (ps : List Point) (r : Reads k bs (data_view ps)) where
    body_length : (length ps * size k.axes ≤ length (drop 2 bs)) × (length (drop 2 bs) ≤ 62)
    body_length =
        let F = flat_map (form k.axes) ps in
        let j = joined_length (form k.axes) (size k.axes) ps (forms k bs ps r.fields.on_axes) in
        let b = ap length (body_is k bs ps r) in
        let n : ℕ = 64 - length (k.data_kind ∷ (length ps ∷ F)) in
        let a = length-append F (replicate n 0) in
        let z : length {A = ℕ} (replicate n 0) ≡ n = length-replicate n 0 in
        let f = laws.data_fits in
        let m : length ps * size k.axes ≤ k.capacity * size k.axes = mul-le-mul_right (size k.axes) r.fields.fit in
        (omega arith, omega arith)

    -- before the first part
    pub all_left : take 62 (drop 2 bs) ≡ drop (0 * size k.axes) (drop 2 bs)
    all_left = let l = body_length.1 in let e : 0 ≡ 0 * size k.axes = omega arith in take_all 62 (drop 2 bs) (omega arith) ∙ ap (λ n. drop n (drop 2 bs)) e

    -- parts come until all points have
    pub all_came : (i n c : ℕ) (rest : List ℕ) → rest ≡ drop (i * size k.axes) (drop 2 bs) → i + n ≡ length ps → c ≡ size k.axes → (0 < n → length rest < c) → length ps ≤ i
    all_came i zero c rest at e same h = omega arith
    all_came i (suc n) c rest at e same h =
        let lt = h (omega arith) in
        let l = ap length at ∙ length-drop (i * size k.axes) (drop 2 bs) in
        let b = body_length.0 in
        let m : suc i * size k.axes ≤ length ps * size k.axes = mul-le-mul_right (size k.axes) (omega arith) in
        let q = suc-mul i (size k.axes) in
        absurd (omega arith)
