-- The points of a data page, one after another.
use Rattle.std.proofs.Common.{◌≡◌, ℕ, ◌+◌, ◌^◌, ◌<◌, cond, List, [], ◌∷◌, ◌++◌, map, length, get_or, take, drop, Some, sym, ap, ◌∙◌, subst, append_assoc, append-nil, arith, length-append, take-append-drop}
use Rattle.std.proofs.lemmas.List.Elements.{filter-append, filter_more}
use Rattle.std.proofs.ByRecursion.{All-get_or}
use Rattle.std.proofs.lemmas.List.{get_or-map}
use Rattle.zorder.specs.Code.{OnAxes}
use Rattle.zorder.specs.Sharing.{Inside}
use Rattle.kinds.specs.Kind.{Kind, Sound, On}
use Rattle.page.specs.Form.{Point, data_view}
use Rattle.page.specs.Fields.{Reads}
use Rattle.page.specs.Checks.{IsData, PointAt}
use Rattle.page.proofs.Writing.{length_coords}
use Rattle.tree.specs.Book.{windowed}
use Rattle.query.specs.declared.window.Window.{Window}
use Rattle.query.specs.Windows.{Whole}
use Rattle.scan.proofs.Windows.{in_window, one_in, one_out}

module _ {P : Type 0} (k : Kind P) (s : Sound k) where
  -- a point of a page is on its axes
  pub point_on : (bs : List ℕ) (i : ℕ) (p : P) → IsData k bs → ((ps : List Point) → Reads k bs (data_view ps) → PointAt k ps i (Some p)) → On k p
  point_on bs i p d at =
      let h = at d.0 d.1 in
      subst (OnAxes k.axes) (sym h.1) (All-get_or (OnAxes k.axes) d.0 i [] h.0 d.1.fields.on_axes)

  -- it is the point at the place
  pub point_here : (points : List P) (i : ℕ) (p : P) → PointAt k (map k.coords points) i (Some p) → (i < length points) × (p ≡ get_or points i p)
  point_here points i p at =
      let n = length_coords k points in
      let lt : i < length points = let a = at.0 in omega arith in
      (lt, s.one_point p (get_or points i p) (at.1 ∙ get_or-map k.coords points i p [] lt))

  module _ (w : Window P) (whole : Whole k w) (points : List P) (i : ℕ) (p : P) (lt : i < length points) (is : p ≡ get_or points i p) where
    met_so_far : List P
    met_so_far = windowed k w.low w.high (take i points)

    step : windowed k w.low w.high (take (i + 1) points) ≡ windowed k w.low w.high (take i points) ++ cond (in_window k w whole p) (p ∷ []) []
    step = filter_more (in_window k w whole) points i p lt ∙ ap (λ q. windowed k w.low w.high (take i points) ++ cond (in_window k w whole q) (q ∷ []) []) (sym is)

    pub step_in : Inside (k.coords w.low) (k.coords w.high) (k.coords p) → (xs : List P)
        → (xs ++ windowed k w.low w.high (take i points)) ++ p ∷ [] ≡ xs ++ windowed k w.low w.high (take (i + 1) points)
    step_in inside xs = append_assoc xs (windowed k w.low w.high (take i points)) (p ∷ []) ∙ ap (λ ys. xs ++ ys) (sym (step ∙ ap (λ ys. windowed k w.low w.high (take i points) ++ ys) (one_in k w whole p inside)))

    pub step_out : On k p → (Inside (k.coords w.low) (k.coords w.high) (k.coords p) → ⊥) → (xs : List P)
        → xs ++ windowed k w.low w.high (take i points) ≡ xs ++ windowed k w.low w.high (take (i + 1) points)
    step_out on outside xs = ap (λ ys. xs ++ ys) (sym (step ∙ ap (λ ys. windowed k w.low w.high (take i points) ++ ys) (one_out k w whole p on outside) ∙ append-nil (windowed k w.low w.high (take i points))))

    pub step_few : Inside (k.coords w.low) (k.coords w.high) (k.coords p) → (xs : List P) → length (xs ++ windowed k w.low w.high points) < 2 ^ 32 → length ((xs ++ windowed k w.low w.high (take i points)) ++ p ∷ []) < 2 ^ 32
    step_few inside xs few =
        let f = windowed k w.low w.high in
        let a = ap length (step_in inside xs) in
        let b = length-append xs (f (take (i + 1) points)) in
        let c = length-append xs (f points) in
        let d = ap length (sym (filter-append (in_window k w whole) (take (i + 1) points) (drop (i + 1) points)) ∙ ap f (take-append-drop (i + 1) points)) in
        let e = length-append (f (take (i + 1) points)) (f (drop (i + 1) points)) in
        omega arith
