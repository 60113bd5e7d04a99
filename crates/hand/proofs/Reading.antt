-- The points of a data page.
use Rattle.std.proofs.Common.{◌≡◌, Some, None, Ok, Result, ℕ, ◌+◌, ◌<◌, ◌≤◌, List, [], ◌∷◌, ◌++◌, map, length, get_or, take, Err, sym, refl, ap, ◌∙◌, subst, arith}
use Rattle.std.specs.List.{AllByRecursion}
use Rattle.std.proofs.lemmas.List.{length-map, length-take-le, map-append, take_all, take_more}
use Rattle.std.specs.Result.{result_ok}
use Rattle.zorder.proofs.Corners.{all_unmap}
use Rattle.zorder.specs.Code.{OnAxes}
use Rattle.kinds.specs.Kind.{Kind, Sound, On}
use Rattle.page.specs.declared.fault.PageFault.{PageFault}
use Rattle.page.specs.declared.fault.PageFault.TheVariants as fault
use Rattle.page.specs.Form.{Point, data_view, encode, times}
use Rattle.page.specs.Fields.{Reads}
use Rattle.page.specs.Checks.{Checked}
use Rattle.page.proofs.Views.{one_same}

module _ {P : Type 0} (k : Kind P) (s : Sound k) (bs : List ℕ) where
  data_there : (xs : List Point) → Reads k bs (data_view xs) → 1 ≤ times (get_or bs 0 0) (k.data_kind ∷ [])
  unfolding encode
  data_there xs r = let a = one_same (get_or bs 0 0) k.data_kind (ap (λ x. get_or x 0 0) r.bytes_are) in omega arith

  -- a data page is read
  pub never_refused : {X : Type 0} (xs : List Point) (q : ℕ) (good : X → Type 0) (f : PageFault) → Reads k bs (data_view xs) → Checked k {X = X} q (k.data_kind ∷ []) bs good (Err f) → ⊥
  never_refused xs q good (fault.Store x) r c = c
  never_refused xs q good (fault.Kind x) r c = let a = data_there xs r in let b = c.1 in omega arith
  never_refused xs q good (fault.Field x) r c = c.2 _ r

  -- one point more was read
  pub more_read : (ps new : List P) (p : P) (xs : List Point) (i : ℕ) → map k.coords ps ≡ take i xs → i < length xs → k.coords p ≡ get_or xs i [] → new ≡ ps ++ p ∷ [] → map k.coords new ≡ take (i + 1) xs
  more_read ps new p xs i e lt at n =
      ap (map k.coords) n ∙ map-append k.coords ps (p ∷ []) ∙ ap (λ ys. ys ++ k.coords p ∷ []) e ∙ ap (λ y. take i xs ++ y ∷ []) at ∙ sym (take_more xs i [] lt)

  pub read_count : (ps : List P) (xs : List Point) (i : ℕ) → map k.coords ps ≡ take i xs → i ≤ length xs → length ps ≡ i
  read_count ps xs i e le = sym (length-map ps k.coords) ∙ ap length e ∙ length-take-le i xs le

  pub all_read : (ps : List P) (xs : List Point) (i : ℕ) → map k.coords ps ≡ take i xs → length xs ≤ i → map k.coords ps ≡ xs
  all_read ps xs i e le = e ∙ take_all i xs le

  -- points with the same coordinates are the same
  pub same_points : (ps qs : List P) → map k.coords ps ≡ map k.coords qs → ps ≡ qs
  same_points [] [] e = refl
  same_points [] (q ∷ qs) e = let z : ◌≡◌ {A = ℕ} 0 1 = cc in absurd (omega arith)
  same_points (p ∷ ps) [] e = let z : ◌≡◌ {A = ℕ} 0 1 = cc in absurd (omega arith)
  same_points (p ∷ ps) (q ∷ qs) e =
      let a : k.coords p ≡ k.coords q = cc in
      let b : map k.coords ps ≡ map k.coords qs = cc in
      ap (λ x. x ∷ ps) (s.one_point p q a) ∙ ap (λ xs. q ∷ xs) (same_points ps qs b)

  -- the points of a data page: 1 to b, on their axes
  pub sane_points : (ps : List P) (xs : List Point) → map k.coords ps ≡ xs → Reads k bs (data_view xs) → (1 ≤ length ps) × (length ps ≤ k.capacity) × AllByRecursion (On k) ps
  sane_points ps xs e r =
      let n : length ps ≡ length xs = sym (length-map ps k.coords) ∙ ap length e in
      let a = r.fields.some in
      let b = r.fields.fit in
      (omega arith, omega arith, all_unmap (OnAxes k.axes) k.coords ps (subst (AllByRecursion (OnAxes k.axes)) (sym e) r.fields.on_axes))

-- a result that was turned into an option
pub came : {X E : Type 0} (r : Result X E) (x : X) → Some x ≡ result_ok r → r ≡ Ok x
came (Ok y) x h = cc
came (Err e) x h = let z : ◌≡◌ {A = ℕ} 0 1 = cc in absurd (omega arith)

pub gone : {X E : Type 0} (r : Result X E) → None ≡ result_ok r → (e : E) × (r ≡ Err e)
gone (Ok y) h = let z : ◌≡◌ {A = ℕ} 0 1 = cc in absurd (omega arith)
gone (Err e) h = (e, refl)
