-- Each set of points that is not empty has one tree.
use Rattle.std.proofs.Common.{◌≡◌, ℕ, zero, suc, ◌-◌, ◌^◌, ◌<◌, ◌≤◌, List, [], ◌∷◌, ◌++◌, map, length, sym, refl, ◌∙◌, subst, ap₂, ⊎_elim, arith}
use lib.Bits.{bit_xor}
use lib.Count.{count_leading_zeros}
use Rattle.std.specs.List.{AllByRecursion}
use Rattle.std.proofs.lemmas.Bool.{cases_lt}
use Rattle.std.proofs.ByRecursion.{All-weaker, All-map}
use Rattle.zorder.specs.Code.{first, bit_at}
use Rattle.zorder.specs.Halves.{half, Rising}
use Rattle.zorder.proofs.Corners.{all_and}
use Rattle.zorder.proofs.Shared.{between, shares_zeros}
use Rattle.zorder.proofs.Halving.{common_one}
use Rattle.tree.specs.Tree.{Tree, leaf, node, points, Depth, Halved, one_page, halves, data_pages, directory_pages}
use Rattle.tree.proofs.Halves.{all_unmap, half_rising, half_all, depth_parted, parted_join, parted_count}

-- one data page more than directory pages
pub data_more : {P : Type 0} (t : Tree P) → data_pages t ≡ suc (directory_pages t)
data_more (leaf ps) = refl
data_more (node n l h) = let a = data_more l in let b = data_more h in omega arith

module _ {P : Type 0} (code : P → ℕ) (w : ℕ) where
  pub depth_one : (m n : ℕ) (ps : List P) → Depth code w m ps → Depth code w n ps → m ≡ n
  depth_one m n [] d e = absurd d
  depth_one m n (p ∷ ps) d e = common_one w m n (code p) (map code ps) d e

  -- the last of a point and more
  last : P → List P → P
  last p [] = p
  last p (q ∷ qs) = last q qs

  last_above : (p : P) (ps : List P) → Rising code (p ∷ ps) → AllByRecursion (λ q. code q ≤ code (last p ps)) (p ∷ ps)
  unfolding last
  last_above p [] up = (omega arith, tt)
  last_above p (q ∷ qs) up = let r = last_above q qs up.1 in let m = r.0 in let n = up.0.0 in (omega arith, r)

  last_in : (A : P → Type 0) (p : P) (ps : List P) → AllByRecursion A (p ∷ ps) → A (last p ps)
  unfolding last
  last_in A p [] all = all.0
  last_in A p (q ∷ qs) all = last_in A q qs all.1

  -- the codes of a set share some number of first bits
  pub depth_some : (ps : List P) → 2 ≤ length ps → Rising code ps → AllByRecursion (λ q. code q < 2 ^ w) ps → (n : ℕ) × Depth code w n ps
  unfolding last
  depth_some [] two up fits = absurd (omega arith)
  depth_some (p ∷ []) two up fits = absurd (omega arith)
  depth_some (p ∷ q ∷ r) two up fits =
      let z = last q r in
      let s = shares_zeros w (code p) (code z) fits.0 (last_in (λ x. code x < 2 ^ w) p (q ∷ r) fits) in
      let n = count_leading_zeros w (bit_xor (code p) (code z)) in
      let near : AllByRecursion (λ x. first w n (code p) ≡ first w n (code x)) (q ∷ r) = All-weaker _ _ (λ x h. let a = h.0 in let b = h.1 in sym (between (w - n) (code p) (code x) (code z) (omega arith) b s.agree)) (q ∷ r) (all_and _ _ (q ∷ r) up.0 (last_above q r up.1)) in (
        n,
        record {
          within = s.within;
          agree = All-map _ code (q ∷ r) near;
          differ = λ lt same. s.differ lt (last_in (λ x. bit_at w n (code p) ≡ bit_at w n (code x)) q r (all_unmap _ code (q ∷ r) same));
        },
      )

module _ {P : Type 0} (code : P → ℕ) (w b : ℕ) where
  -- ---- at most one tree
  pub halved_one : (ps : List P) (t u : Tree P) → Halved code w b ps t → Halved code w b ps u → t ≡ u
  halved_one ps (leaf _) (leaf _) (one_page a c) (one_page d e) = refl
  halved_one ps (leaf _) (node _ _ _) (one_page a c) (halves d e f g) = absurd (omega arith)
  halved_one ps (node _ _ _) (leaf _) (halves d e f g) (one_page a c) = absurd (omega arith)
  halved_one ps (node n l h) (node m i j) (halves c d e f) (halves c' d' e' f') =
      let s : n ≡ m = depth_one code w n m ps d d' in
      let x : l ≡ i = halved_one (half code w n 0 ps) l i e (subst (λ y. Halved code w b (half code w y 0 ps) i) (sym s) e') in
      let y : h ≡ j = halved_one (half code w n 1 ps) h j f (subst (λ y. Halved code w b (half code w y 1 ps) j) (sym s) f') in
      cc

  pub halved_some : {ps : List P} {t : Tree P} → Halved code w b ps t → 1 ≤ length ps
  halved_some (one_page a c) = a
  halved_some (halves c d l h) = omega arith

  module _ (room : 1 ≤ b) where
    -- ---- at least one tree
    exists : (turns : ℕ) (ps : List P) → length ps ≤ turns → 1 ≤ length ps → Rising code ps → AllByRecursion (λ q. code q < 2 ^ w) ps → (t : Tree P) × Halved code w b ps t
    exists zero ps le some up fits = absurd (omega arith)
    exists (suc turns) ps le some up fits =
        ⊎_elim
        (λ big.
        let (n, d) = depth_some code w ps (omega arith) up fits in
        let part = depth_parted code w n ps (omega arith) up d in
        let sum = parted_count code w n ps up part in
        let a = part.low in
        let c = part.high in
        let l = exists turns (half code w n 0 ps) (omega arith) a (half_rising code w n 0 ps up) (half_all code w _ n 0 ps fits) in
        let h = exists turns (half code w n 1 ps) (omega arith) c (half_rising code w n 1 ps up) (half_all code w _ n 1 ps fits) in
        (node n l.0 h.0, halves big d l.1 h.1))
        (λ small. (leaf ps, one_page some small))
        (cases_lt b (length ps))

    pub halved_exists : (ps : List P) → 1 ≤ length ps → Rising code ps → AllByRecursion (λ q. code q < 2 ^ w) ps → (t : Tree P) × Halved code w b ps t
    halved_exists ps some up fits = exists (length ps) ps (omega arith) some up fits

    -- ---- the points of the tree are the set
    pub halved_points : (ps : List P) (t : Tree P) → Halved code w b ps t → Rising code ps → points t ≡ ps
    halved_points ps (leaf _) (one_page a c) up = refl
    halved_points ps (node n l h) (halves c d e f) up =
        let part = depth_parted code w n ps (omega arith) up d in
        ap₂ (λ (x y : List P). x ++ y) (halved_points (half code w n 0 ps) l e (half_rising code w n 0 ps up)) (halved_points (half code w n 1 ps) h f (half_rising code w n 1 ps up)) ∙ parted_join code w n ps up part
