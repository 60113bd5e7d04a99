use Rattle.std.proofs.Common.{rules, ◌≡◌, Bool, true, false, Some, None, Option, ℕ, zero, suc, ◌+◌, ◌*◌, ◌<◌, List, [], ◌∷◌, ◌++◌, length, get_or, take, drop, sym, refl, ap, ◌∙◌, subst, arith, length-append}
use Rattle.std.specs.Prelude.{MatchBool, is_some}
use Rattle.std.specs.List.{flat_map, AllByRecursion, AllWithin, HoldsAt, range_with_len}
use Rattle.std.proofs.ByRecursion.{All-append}
use Rattle.std.proofs.lemmas.Iterator.{cases_from_all, YieldsList-from_range}
use Rattle.std.proofs.lemmas.List.FromFn.{length-range_with_len, get_or-range_with_len}
use borrow.Author.Tests.{tests}
use Rattle.zorder.specs.Code.{OnAxes}
use Rattle.kinds.specs.Kind.{Kind}
use Rattle.kinds.specs.Bytes.{form, size}
use Rattle.page.specs.Causes.{DataCause, no_points, too_many, point_off, data_cause, OffAxes, place_bytes}
use Rattle.page.specs.Form.{Point}
use Rattle.page.specs.Checks.{PointRead, DataRead}
use Rattle.page.proofs.Runs.{more_points}
use Rattle.page.proofs.Faults.{refused, data_end}
use Rattle.page.proofs.data_page.data_fields.Goals as goal
use Rattle.page.proofs.data_page.data_fields.Goals.{then-count-lt1-via-then-count-lt1, then-count-lt1-via-else-count-lt1+then-count-CAPACITY}

pub returns-then-count-lt1 : goal.returns-then-count-lt1
returns-then-count-lt1 g c =
    let k = g.K.PointKind.kind in
    let bs = c.args.bytes.now in
    let wrong : DataCause k bs = elim c.then-count-lt1.branch [
      | then-count-lt1-via-then-count-lt1 w ↦ no_points (omega (arith, c.from-count.ensures, w.if-count-lt1.true))
      | then-count-lt1-via-else-count-lt1+then-count-CAPACITY w ↦ too_many (omega (arith, c.from-count.ensures, w.if-count-CAPACITY.true, w.CAPACITY.ensures, g.met.K.PointKind.constants.1))
    ] in
    refused k g.met.K.PointKind.sound bs (data_cause c.requires wrong)

module _ {P : Type 0} (k : Kind P) (bs : List ℕ) where
  -- a point stands at place i, or none does
  abbrev Stands : ℕ → Type 0
  Stands i = (p : P) × PointRead k (place_bytes k bs i) (Some p)

  abbrev Told : Bool → ℕ → Type 0
  Told b i = (r : Option P) × PointRead k (place_bytes k bs i) r × (is_some r ≡ b)

  stands : (i : ℕ) → Told true i → Stands i
  stands i (Some p, h, e) = (p, h)
  stands i (None, h, e) = let w : ◌≡◌ {A = ℕ} 0 1 = cc in absurd (omega arith)

  off : (i : ℕ) → Told false i → OffAxes k (place_bytes k bs i)
  off i (Some p, h, e) = let w : ◌≡◌ {A = ℕ} 0 1 = cc in absurd (omega arith)
  off i (None, h, e) = h

  abbrev Tells : ℕ → Bool → Type 0
  Tells m r = MatchBool r (AllWithin (Told true) (range_with_len 0 m) 0 (length (range_with_len 0 m))) ((i : ℕ) × (i < length (range_with_len 0 m)) × HoldsAt (Told false) (range_with_len 0 m) i)

  all_stand : (n m : ℕ) (r : Bool) → m ≡ n → r ≡ true → Tells m r → (i : ℕ) → i < n → Stands i
  all_stand n m true e is t i lt =
      let l = length-range_with_len 0 m in
      let at : get_or (range_with_len 0 m) i 0 ≡ i = omega (arith, get_or-range_with_len 0 m i 0 (omega arith)) in
      stands i (subst (Told true) at (t i 0 (omega arith) (omega arith)))
  all_stand n m false e is t i lt = let w : ◌≡◌ {A = ℕ} 0 1 = cc in absurd (omega arith)

  one_off : (n m : ℕ) (r : Bool) → m ≡ n → r ≡ false → Tells m r → (i : ℕ) × (i < n) × OffAxes k (place_bytes k bs i)
  one_off n m false e is t =
      let l = length-range_with_len 0 m in
      let (i, lt, o) = t in
      let at : get_or (range_with_len 0 m) i 0 ≡ i = omega (arith, get_or-range_with_len 0 m i 0 (omega arith)) in
      (i, omega arith, off i (subst (Told false) at (o 0)))
  one_off n m true e is t = let w : ◌≡◌ {A = ℕ} 0 1 = cc in absurd (omega arith)

  -- the first n points
  points : (n : ℕ) → ((i : ℕ) → i < n → Stands i) → (ps : List Point) × (length ps ≡ n) × AllByRecursion (OnAxes k.axes) ps × (flat_map (form k.axes) ps ≡ take (n * size k.axes) (drop 2 bs))
  points zero h = ([], refl, tt, (let e : 0 ≡ zero * size k.axes = omega arith in ap (λ m. take m (drop 2 bs)) e))
  points (suc n) h =
      let (ps, l, on, j) = points n (λ i lt. h i (omega arith)) in
      let (p, e) = h n (omega arith) in
      let m = length-append ps (k.coords p ∷ []) in
      let s : n + 1 ≡ suc n = omega arith in
      (ps ++ (k.coords p ∷ []), omega (arith, m, l), All-append _ ps (k.coords p ∷ []) on (e.0, tt), more_points k bs ps (k.coords p) n j e.1 ∙ ap (λ x. take (x * size k.axes) (drop 2 bs)) s)

pub returns-then-all : goal.returns-then-all
returns-then-all g c =
    let k = g.K.PointKind.kind in
    let bs = c.args.bytes.now in
    let n = get_or bs 1 0 in
    let t = cases_from_all _ _ _ (Told k bs true) (Told k bs false) c.all.ensures.ran (YieldsList-from_range 0 c.from-count.result c.from-count.result refl (omega arith)) (λ x q h. search (rules, tests)) (λ x q h. search (rules, tests)) in
    let (ps, l, on, j) = points k bs n (all_stand k bs n c.from-count.result c.all.result c.from-count.ensures c.if-all.true t) in
    data_end k g.met.K.PointKind.sound bs ps c.SIZE.result c.zeros.result c.told-bytes c.requires l (omega (arith, c.from-count.ensures, c.if-count-lt1.false)) (omega (arith, c.from-count.ensures, c.if-count-CAPACITY.false, c.CAPACITY.ensures, g.met.K.PointKind.constants.1)) on
    j (c.SIZE.ensures ∙ g.met.K.PointKind.constants.2) (rw c.from-count.ensures at c.zeros.ensures)

-- a place whose bytes are no point's
pub returns-else-all : goal.returns-else-all
returns-else-all g c =
    let k = g.K.PointKind.kind in
    let bs = c.args.bytes.now in
    let t = cases_from_all _ _ _ (Told k bs true) (Told k bs false) c.all.ensures.ran (YieldsList-from_range 0 c.from-count.result c.from-count.result refl (omega arith)) (λ x q h. search (rules, tests)) (λ x q h. search (rules, tests)) in
    let (i, lt, o) = one_off k bs (get_or bs 1 0) c.from-count.result c.all.result c.from-count.ensures c.if-all.false t in
    subst (DataRead k bs) (sym c.if-all.false) (refused k g.met.K.PointKind.sound bs (data_cause c.requires (point_off i lt o)))
