-- One pass over the points of a data page.
use Rattle.std.proofs.Common.{◌≡◌, ℕ, ◌+◌, ◌-◌, ◌*◌, ◌<◌, ◌≤◌, List, [], ◌∷◌, length, get_or, take, drop, Some, None, Option, sym, ap, ◌∙◌, subst, arith}
use Rattle.std.specs.Int.{int_min, int_max}
use Rattle.std.specs.List.{AllByRecursion}
use Rattle.std.proofs.lemmas.List.{drop_more, drop_all}
use Rattle.std.proofs.ByRecursion.{All-weaker, All-get_or}
use Rattle.zorder.specs.Sharing.{on_each, corner}
use Rattle.zorder.specs.Halves.{Rising}
use Rattle.zorder.specs.Code.{OnAxes, code}
use Rattle.kinds.specs.Bytes.{form, size}
use Rattle.kinds.specs.Kind.{Kind, Sound}
use Rattle.page.specs.Form.{Point}
use Rattle.page.specs.Checks.{low_of, high_of, PointRead, PointAt}
use Rattle.page.specs.Form.{data_view}
use Rattle.page.specs.Fields.{Reads}
use Rattle.page.proofs.Parts.{same_corner}
use Rattle.page.proofs.Runs.{point_part}

module _ {P : Type 0} (k : Kind P) (ps : List Point) where
  -- codes rise on from one
  abbrev pub After : ℕ → List Point → Type 0
  After c xs = AllByRecursion (λ x. c < code k.axes x) xs × Rising (code k.axes) xs

  -- after i points: what is left decides the rest
  pub record Scan (i : ℕ) (lo hi : Point) (last : ℕ) : Type 0 where
    pub lows : low_of ps ≡ corner int_min lo (drop i ps)
    pub highs : high_of ps ≡ corner int_max hi (drop i ps)
    pub to : Rising (code k.axes) ps → After last (drop i ps)
    pub from : After last (drop i ps) → Rising (code k.axes) ps

  module _ (i : ℕ) (lo hi q : Point) (last c : ℕ) (lt : i < length ps) (at : get_or ps i [] ≡ q) (ce : c ≡ code k.axes q) (s : Scan i lo hi last) where
    next : drop i ps ≡ q ∷ drop (i + 1) ps
    next = drop_more ps i [] lt ∙ ap (λ x. x ∷ drop (i + 1) ps) at

    -- a code that does not rise
    pub scan_stops : c ≤ last → Rising (code k.axes) ps → ⊥
    scan_stops le r = let a = subst (After last) next (s.to r) in let b = a.0.0 in omega (arith, b, ce)

    pub scan_more : last < c → (lo' hi' : Point) → lo' ≡ on_each int_min lo q → hi' ≡ on_each int_max hi q → Scan (i + 1) lo' hi' c
    scan_more gt lo' hi' el eh = record {
      lows = s.lows ∙ ap (corner int_min lo) next ∙ ap (λ x. corner int_min x (drop (i + 1) ps)) (sym el);
      highs = s.highs ∙ ap (corner int_max hi) next ∙ ap (λ x. corner int_max x (drop (i + 1) ps)) (sym eh);
      to = λ r. let a = subst (After last) next (s.to r) in (subst (λ x. AllByRecursion (λ y. x < code k.axes y) (drop (i + 1) ps)) (sym ce) a.1.0, a.1.1);
      from = λ a. s.from (subst (After last) (sym next) (((omega (arith, gt, ce)), All-weaker _ _ (λ y h. omega (arith, gt, h)) (drop (i + 1) ps) a.0), (subst (λ x. AllByRecursion (λ y. x < code k.axes y) (drop (i + 1) ps)) ce a.0, a.1)));
    }

  pub scan_end : (i : ℕ) (lo hi : Point) (last : ℕ) → length ps ≤ i → Scan i lo hi last → (low_of ps ≡ lo) × (high_of ps ≡ hi) × Rising (code k.axes) ps
  scan_end i lo hi last le s =
      let d = drop_all i ps le in
      (s.lows ∙ ap (corner int_min lo) d, s.highs ∙ ap (corner int_max hi) d, s.from (subst (After last) (sym d) (tt, tt)))

pub scan_one : {P : Type 0} (k : Kind P) (ps : List Point) (p : Point) (c : ℕ) → 1 ≤ length ps → get_or ps 0 [] ≡ p → c ≡ code k.axes p → Scan k ps 1 p p c
scan_one k [] p c some at ce = absurd (omega arith)
scan_one k (x ∷ xs) p c some at ce = record {
  lows = ap (λ y. corner int_min y xs) at;
  highs = ap (λ y. corner int_max y xs) at;
  to = λ r. (subst (λ y. AllByRecursion (λ z. y < code k.axes z) xs) (ap (code k.axes) at ∙ sym ce) r.0, r.1);
  from = λ a. (subst (λ y. AllByRecursion (λ z. y < code k.axes z) xs) (ce ∙ ap (code k.axes) (sym at)) a.0, a.1);
}

-- the point that was read is the point that stands there
pub read_is : {P : Type 0} (k : Kind P) → Sound k → (bs : List ℕ) (qs : List Point) (i : ℕ) (p : Point) (x : List ℕ) → Reads k bs (data_view qs) → i < length qs → OnAxes k.axes p → form k.axes p ≡ x
    → x ≡ take (size k.axes) (drop (i * size k.axes) (drop 2 bs)) → get_or qs i [] ≡ p
read_is k laws bs qs i p x r lt on e cut =
    same_corner k bs laws (get_or qs i []) p _ (All-get_or (OnAxes k.axes) qs i [] lt r.fields.on_axes) on (point_part k bs qs i r lt) (e ∙ cut)

-- a point stands there, so its bytes are read
pub some_read : {P : Type 0} (k : Kind P) (bs : List ℕ) (qs : List Point) (i : ℕ) (x : List ℕ) → Reads k bs (data_view qs) → i < length qs → x ≡ take (size k.axes) (drop (i * size k.axes) (drop 2 bs))
    → OnAxes k.axes (get_or qs i []) × (form k.axes (get_or qs i []) ≡ x)
some_read k bs qs i x r lt cut = (All-get_or (OnAxes k.axes) qs i [] lt r.fields.on_axes, point_part k bs qs i r lt ∙ sym cut)

pub cut_first : (bs : List ℕ) (r s : ℕ) → r ≡ s → take ((2 + r) - 2) (drop 2 bs) ≡ take s (drop (0 * s) (drop 2 bs))
cut_first bs r s e =
    let a : (2 + r) - 2 ≡ s = omega arith in
    let b : 0 * s ≡ 0 = omega arith in
    ap (λ n. take n (drop 2 bs)) a ∙ ap (λ n. take s (drop n (drop 2 bs))) (sym b)

-- what is read at a place is the point at that place
pub place_read : {P : Type 0} (k : Kind P) → Sound k → (bs : List ℕ) (qs : List Point) (i : ℕ) (x : List ℕ) (r : Option P) → Reads k bs (data_view qs) → i < length qs
    → x ≡ take (size k.axes) (drop (i * size k.axes) (drop 2 bs)) → PointRead k x r → PointAt k qs i r
place_read k laws bs qs i x (Some p) rd lt cut e = (lt, sym (read_is k laws bs qs i (k.coords p) x rd lt e.0 e.1 cut))
place_read k laws bs qs i x None rd lt cut e = let s = some_read k bs qs i x rd lt cut in absurd (e (get_or qs i []) s.0 s.1)
