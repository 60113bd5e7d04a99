-- The laws of trees and lawful cards, proved.
use Rattle.std.proofs.Common.{◌≡◌, ℕ, suc, ◌+◌, ◌-◌, ◌/◌, ◌^◌, ◌<◌, ◌≤◌, Bool, true, false, not, eqb, ◌⊎◌, List, [], ◌∷◌, map, length, Some, None, filter, Option, sym, refl, ap, ◌∙◌, subst, ap₂, inl, inr, ⊎_elim, arith, length-append}
use native.Mathlib.Nat.{div-eq_of_lt}
use Rattle.std.specs.List.{ContainsAt as Has, AllByRecursion}
use Rattle.std.proofs.lemmas.Bool.{cases_Bool, both_ways, eq-eqb, ne_eqb, eqb-true, eqb-false, and_from, and_left, cond-true, cond-false, cond_both, not_from_true, not_from_false}
use Rattle.std.proofs.ByRecursion.{All-weaker, All-map, all-has, all_has_itself, has_append_left, has_append_right, has_push, all_kept_by, kept_by_passes}
use Rattle.zorder.specs.Code.{first, bit_at}
use Rattle.zorder.specs.Halves.{half}
use Rattle.zorder.proofs.Corners.{code_lt, one_point_law, all_and}
use Rattle.zorder.proofs.Halving.{common_one, common_most}
use Rattle.zorder.proofs.Shared.{bit_next}
use Rattle.kinds.specs.Kind.{Kind, Sound, On, Whether, wide, code_of, low_corner, high_corner}
use Rattle.kinds.proofs.Telling.{corner_depth}
use Rattle.page.specs.Form.{Summary, head_view}
use Rattle.page.specs.Fields.{Reads}
use Rattle.page.proofs.Views.{one_view_law}
use Rattle.tree.specs.Sets.{IsSet, live, with_point}
use Rattle.tree.specs.Tree.{Tree, Depth, TreeOf, OptionalTreeOf, count_pages}
use Rattle.tree.specs.Laid.{Laid, data_at, directory_at, number, shape, below_it, root_shape, root_numbers, agrees, way, way_end}
use Rattle.tree.specs.Lawful.{Card, page, entry, root_entry, front}
use Rattle.tree.specs.Standing.{view_of, Standing}
use Rattle.tree.specs.Laws.{OneTreeLaw, PointsLaw, PageLaw, CountLaw, DepthLaw, OneSetLaw, WholeCardLaw, WayLaw, ShortWayLaw, SetLaw}
use Rattle.tree.proofs.Halves.{half_live, half_all, Parted, not_one, absent_from, all_with, all_with_out, rising_with, rising_kept}
use Rattle.tree.proofs.Trees.{data_more, halved_one, halved_exists, halved_some, halved_points}
use Rattle.tree.proofs.Standings.{leaf_inv, node_inv, set_half, parted, few_points, laid_pages, points_are, standing_low, standing_high, standing_reads, root_standing, head_reads, whole}

module _ {P : Type 0} (k : Kind P) (s : Sound k) where
  pub fits : (ps : List P) → AllByRecursion (On k) ps → AllByRecursion (λ q. code_of k q < 2 ^ wide k) ps
  fits ps on = All-weaker _ _ (λ q o. code_lt k.axes s.narrow (k.coords q) o) ps on

-- ---- one tree

none_of : {P : Type 0} (k : Kind P) (set : List P) (u : Option (Tree P)) → set ≡ [] → OptionalTreeOf k set u → u ≡ None
none_of k set None e h = refl
none_of k set (Some t) e h = let a = halved_some (code_of k) (wide k) k.capacity h in let b = ap length e in absurd (omega arith)

pub one_tree_law : (P : Type 0) → OneTreeLaw P
one_tree_law P k s [] set = (None, refl, λ u h. none_of k [] u refl h)
one_tree_law P k s (p ∷ ps) set =
    let r = halved_exists (code_of k) (wide k) k.capacity s.room (p ∷ ps) (omega arith) set.rising (fits k s (p ∷ ps) set.on) in
    (Some r.0, r.1, λ u h. same u h r.0 r.1)
  where
    same : (u : Option (Tree P)) → OptionalTreeOf k (p ∷ ps) u → (t : Tree P) → TreeOf k (p ∷ ps) t → u ≡ Some t
    same None h t g = let z = ap length h in absurd (omega arith)
    same (Some u) h t g = ap Some (halved_one (code_of k) (wide k) k.capacity (p ∷ ps) u t h g)

pub points_law : (P : Type 0) → PointsLaw P
points_law P k s set t i h = halved_points (code_of k) (wide k) k.capacity s.room set t h i.rising

pub page_law : (P : Type 0) → PageLaw P
page_law P t = data_more t

pub depth_law : (P : Type 0) → DepthLaw P
depth_law P k s [] n l h i hv = absurd (let m = (node_inv k hv).0 in omega arith)
depth_law P k s (p ∷ ps) n l h i hv =
    let d = (node_inv k hv).1 in
    common_one (wide k) n _ (code_of k p) (map (code_of k) ps) d (corner_depth k s (low_corner k (p ∷ ps)) (high_corner k (p ∷ ps)) p ps i.on refl refl)

-- ---- a card is lawful for at most one set

module _ {P : Type 0} (k : Kind P) (s : Sound k) where
  coords_same : (ps qs : List P) → map k.coords ps ≡ map k.coords qs → ps ≡ qs
  coords_same [] [] e = refl
  coords_same [] (q ∷ qs) e = let z : ◌≡◌ {A = ℕ} 0 1 = cc in absurd (omega arith)
  coords_same (p ∷ ps) [] e = let z : ◌≡◌ {A = ℕ} 0 1 = cc in absurd (omega arith)
  coords_same (p ∷ ps) (q ∷ qs) e =
      let a : k.coords p ≡ k.coords q = cc in
      let b : map k.coords ps ≡ map k.coords qs = cc in
      ap₂ (λ (x : P) (xs : List P). x ∷ xs) (s.one_point p q a) (coords_same ps qs b)

  laid_one : (card : Card) (t u : Laid P) (ps qs : List P) → Standing k card ps t → Standing k card qs u → number t ≡ number u → t ≡ u
  laid_one card (data_at q xs) (data_at r ys) ps qs st su e =
      let v = one_view_law P k s _ _ _ (standing_reads k s card ps (data_at q xs) st) (subst (λ n. Reads k (page card n) (view_of k (data_at r ys))) (sym e) (standing_reads k s card qs (data_at r ys) su)) in
      let c : map k.coords xs ≡ map k.coords ys = cc in
      ap₂ (λ (n : ℕ) (zs : List P). data_at n zs) e (coords_same xs ys c)
  laid_one card (data_at q xs) (directory_at r m i j) ps qs st su e =
      let v = one_view_law P k s _ _ _ (standing_reads k s card ps (data_at q xs) st) (subst (λ n. Reads k (page card n) (view_of k (directory_at r m i j))) (sym e) (standing_reads k s card qs (directory_at r m i j) su)) in
      let z : ◌≡◌ {A = ℕ} 0 1 = cc in absurd (omega arith)
  laid_one card (directory_at q n l h) (data_at r ys) ps qs st su e =
      let v = one_view_law P k s _ _ _ (standing_reads k s card ps (directory_at q n l h) st) (subst (λ x. Reads k (page card x) (view_of k (data_at r ys))) (sym e) (standing_reads k s card qs (data_at r ys) su)) in
      let z : ◌≡◌ {A = ℕ} 0 1 = cc in absurd (omega arith)
  laid_one card (directory_at q n l h) (directory_at r m i j) ps qs st su e =
      let v = one_view_law P k s _ _ _ (standing_reads k s card ps (directory_at q n l h) st) (subst (λ x. Reads k (page card x) (view_of k (directory_at r m i j))) (sym e) (standing_reads k s card qs (directory_at r m i j) su)) in
      let a : n ≡ m = cc in
      let b : entry k l ≡ entry k i = cc in
      let c : entry k h ≡ entry k j = cc in
      let x : l ≡ i = laid_one card l i (half (code_of k) (wide k) n 0 ps) (half (code_of k) (wide k) m 0 qs) (standing_low k s card ps q n l h st) (standing_low k s card qs r m i j su) (ap (λ y. y.page) b) in
      let y : h ≡ j = laid_one card h j (half (code_of k) (wide k) n 1 ps) (half (code_of k) (wide k) m 1 qs) (standing_high k s card ps q n l h st) (standing_high k s card qs r m i j su) (ap (λ y. y.page) c) in
      cc

pub one_set_law : (P : Type 0) → OneSetLaw P
one_set_law P k s card a b u v = by u.root v.root refl refl
  where
    heads : head_view (front u.chain) (length u.chain) (root_entry k u.root) ≡ head_view (front v.chain) (length v.chain) (root_entry k v.root)
    heads = one_view_law P k s (page card 0) _ _ (head_reads k s card a u) (head_reads k s card b v)

    by : (x y : Option (Laid P)) → u.root ≡ x → v.root ≡ y → a ≡ b
    by None None e f = subst (λ r. OptionalTreeOf k a (root_shape r)) e u.is_tree ∙ sym (subst (λ r. OptionalTreeOf k b (root_shape r)) f v.is_tree)
    by None (Some t) e f = let h = heads in let z : ◌≡◌ {A = ℕ} 0 1 = cc in absurd (omega arith)
    by (Some t) None e f = let h = heads in let z : ◌≡◌ {A = ℕ} 0 1 = cc in absurd (omega arith)
    by (Some t) (Some r) e f =
        let h = heads in
        let m : entry k t ≡ entry k r = same_entry t r (ap (root_entry k) (sym e) ∙ roots ∙ ap (root_entry k) f) in
        let st = root_standing k s card a u t e in
        let sr = root_standing k s card b v r f in
        let same = laid_one k s card t r a b st sr (ap (λ y. y.page) m) in
        sym (points_are k s card a t st) ∙ ap below_it same ∙ points_are k s card b r sr
      where
        roots : root_entry k u.root ≡ root_entry k v.root
        roots = let h = heads in cc

        same_entry : (t r : Laid P) → ◌≡◌ {A = Option Summary} (Some (entry k t)) (Some (entry k r)) → entry k t ≡ entry k r
        same_entry t r e = cc

-- ---- pages

pub count_law : (P : Type 0) → CountLaw P
count_law P k s set t h i = few_points k s set t h i

root_count : {P : Type 0} (root : Option (Laid P)) → count_pages (root_shape root) ≡ length (root_numbers root)
root_count None = refl
root_count (Some t) = laid_pages t

pub whole_card_law : (P : Type 0) → WholeCardLaw P
whole_card_law P k s card set w =
    let a = root_count w.root in
    let b = length-append (root_numbers w.root) w.chain in
    let c = whole k s card set w in omega arith

-- ---- the way of a point

module _ {P : Type 0} (code : P → ℕ) (w : ℕ) where
  -- a point that shares the first bits of all
  pub agrees_all : (n v : ℕ) (ps : List P) (p : P) → AllByRecursion (λ q. first w n (code q) ≡ v) ps → first w n (code p) ≡ v → agrees code w n ps p ≡ true
  agrees_all n v [] p all e = refl
  agrees_all n v (q ∷ qs) p all e = and_from _ _ (eq-eqb _ _ (all.0 ∙ sym e)) (agrees_all n v qs p all.1 e)

  -- one that does not
  pub agrees_none : (n v : ℕ) (ps : List P) (p : P) → 1 ≤ length ps → AllByRecursion (λ q. first w n (code q) ≡ v) ps → (first w n (code p) ≡ v → ⊥) → agrees code w n ps p ≡ false
  agrees_none n v [] p some all ne = absurd (omega arith)
  agrees_none n v (q ∷ qs) p some all ne = and_left _ _ (ne_eqb _ _ (λ e. ne (sym e ∙ all.0)))

  -- a live point shares what all share
  pub live_shares : (n v : ℕ) (ps : List P) (p : P) → AllByRecursion (λ q. first w n (code q) ≡ v) ps → live code p ps ≡ true → first w n (code p) ≡ v
  live_shares n v [] p all on = absurd (both_ways false refl on)
  live_shares n v (q ∷ qs) p all on =
      ⊎_elim
      (λ e. ap (first w n) (eqb-true (code p) (code q) e) ∙ all.0)
      (λ e. live_shares n v qs p all.1 (sym (cond-false _ _ _ e) ∙ on))
      (cases_Bool (eqb (code p) (code q)))

  pub live_not : (n v : ℕ) (ps : List P) (p : P) → AllByRecursion (λ q. first w n (code q) ≡ v) ps → agrees code w n ps p ≡ false → live code p ps ≡ false
  live_not n v ps p all off =
      ⊎_elim
      (λ on. absurd (both_ways _ off (agrees_all n v ps p all (live_shares n v ps p all on))))
      (λ no. no)
      (cases_Bool (live code p ps))

pub way_law : (P : Type 0) → WayLaw P
way_law P k s set t p i hv = by t set i hv
  where
    by : (t : Laid P) (set : List P) → IsSet k set → TreeOf k set (shape t) → live (code_of k) p set ≡ live (code_of k) p (way_end (code_of k) (wide k) t p)
    by (data_at q ps) set i hv = ap (live (code_of k) p) (leaf_inv k hv).0
    by (directory_at q n l h) set i hv =
        let v = node_inv k hv in
        let d = parted k s n set i v.0 v.1 in
        let all : below_it (directory_at q n l h) ≡ set = halved_points (code_of k) (wide k) k.capacity s.room set (shape (directory_at q n l h)) hv i.rising in
        cond_both (agrees (code_of k) (wide k) n (below_it (directory_at q n l h)) p) _ _ (λ x. live (code_of k) p set ≡ live (code_of k) p x)
        (λ yes. cond_both (eqb (bit_at (wide k) n (code_of k p)) 0) _ _ (λ x. live (code_of k) p set ≡ live (code_of k) p x)
        (λ z. sym (half_live (code_of k) (wide k) n 0 p set (eqb-true _ _ z)) ∙ by l (half (code_of k) (wide k) n 0 set) (set_half k s n 0 set i) v.2)
        (λ z. sym (half_live (code_of k) (wide k) n 1 p set (not_one (wide k) n (code_of k p) (eqb-false _ _ z))) ∙ by h (half (code_of k) (wide k) n 1 set) (set_half k s n 1 set i) v.3))
        (λ no. live_not (code_of k) (wide k) n d.front set p d.share (sym (ap (λ x. agrees (code_of k) (wide k) n x p) all) ∙ no))

module _ {P : Type 0} (code : P → ℕ) (w : ℕ) where
  same_next : (n v c : ℕ) (q : P) (qs : List P) → n < w → AllByRecursion (λ x. (first w n (code x) ≡ v) × (bit_at w n (code x) ≡ c)) (q ∷ qs) → AllByRecursion (λ x. first w (suc n) (code x) ≡ first w (suc n) (code q)) (q ∷ qs)
  same_next n v c q qs lt h = All-weaker _ _ (λ x e. bit_next w n (code x) (code q) lt (e.0 ∙ sym h.0.0) (e.1 ∙ sym h.0.1)) (q ∷ qs) h

  next_front : (n v c : ℕ) (qs : List P) → n < w → AllByRecursion (λ x. (first w n (code x) ≡ v) × (bit_at w n (code x) ≡ c)) qs → (u : ℕ) × AllByRecursion (λ x. first w (suc n) (code x) ≡ u) qs
  next_front n v c [] lt h = (0, tt)
  next_front n v c (q ∷ qs) lt h = (first w (suc n) (code q), same_next n v c q qs lt h)

  -- the codes of a half share one bit more
  pub half_shares : (n c : ℕ) (ps : List P) → Parted code w n ps → (u : ℕ) × AllByRecursion (λ x. first w (suc n) (code x) ≡ u) (half code w n c ps)
  half_shares n c ps d =
      next_front n d.front c (half code w n c ps) d.short
      (all_and _ _ (half code w n c ps) (half_all code w _ n c ps d.share) (All-weaker _ _ (λ x e. eqb-true _ _ e) (half code w n c ps) (kept_by_passes (λ x. eqb (bit_at w n (code x)) c) ps)))

  -- the depth is at least the number of bits that are known to be shared
  pub depth_least : (n above v : ℕ) (ps : List P) → Depth code w n ps → above ≤ w → AllByRecursion (λ x. first w above (code x) ≡ v) ps → above ≤ n
  depth_least n above v [] d le h = absurd d
  depth_least n above v (p ∷ ps) d le h = common_most w n above (code p) (map code ps) d le (All-map _ code ps (All-weaker _ _ (λ x e. h.0 ∙ sym e) ps h.1))

-- all codes share no bits
pub no_bits : (w c : ℕ) → c < 2 ^ w → first w 0 c ≡ 0
no_bits w c lt = let e : w - 0 ≡ w = omega arith in ap (λ i. c / 2 ^ i) e ∙ div-eq_of_lt lt

pub short_way_law : (P : Type 0) → ShortWayLaw P
short_way_law P k s set t p i hv = let h = by t set 0 (0, All-weaker _ _ (λ x lt. no_bits (wide k) (code_of k x) lt) set (fits k s set i.on)) i hv (omega arith) in omega arith
  where
    by : (t : Laid P) (set : List P) (above : ℕ) → (v : ℕ) × AllByRecursion (λ x. first (wide k) above (code_of k x) ≡ v) set → IsSet k set → TreeOf k set (shape t) → above ≤ wide k
        → length (way (code_of k) (wide k) t p) + above ≤ suc (wide k)
    by (data_at q ps) set above h i hv le = omega arith
    by (directory_at q n l r) set above h i hv le =
        let v = node_inv k hv in
        let d = parted k s n set i v.0 v.1 in
        let a = depth_least (code_of k) (wide k) n above h.0 set v.1 le h.1 in
        let b = d.short in
        cond_both (agrees (code_of k) (wide k) n (below_it (directory_at q n l r)) p) _ _ (λ x. length x + above ≤ suc (wide k))
        (λ yes. cond_both (eqb (bit_at (wide k) n (code_of k p)) 0) _ _ (λ x. length x + above ≤ suc (wide k))
        (λ z. let m = by l (half (code_of k) (wide k) n 0 set) (suc n) (half_shares (code_of k) (wide k) n 0 set d) (set_half k s n 0 set i) v.2 (omega arith) in omega arith)
        (λ z. let m = by r (half (code_of k) (wide k) n 1 set) (suc n) (half_shares (code_of k) (wide k) n 1 set d) (set_half k s n 1 set i) v.3 (omega arith) in omega arith))
        (λ no. omega arith)

-- ---- sets

has_here : {X : Type 0} (y : X) (zs : List X) → Has (y ∷ zs) y
has_here y zs = has_append_left (y ∷ []) zs y (has_push [] y)

has_there : {X : Type 0} (y : X) (zs : List X) (x : X) → Has zs x → Has (y ∷ zs) x
has_there y zs x h = has_append_right (y ∷ []) zs x h

kept_has : {X : Type 0} (t : X → Bool) (xs : List X) → AllByRecursion (λ x. t x ≡ true → Has (filter t xs) x) xs
kept_has t [] = tt
kept_has t (y ∷ ys) =
    ⊎_elim
    (λ e. let m : filter t (y ∷ ys) ≡ y ∷ filter t ys = cond-true _ _ _ e in
    subst (λ l. AllByRecursion (λ x. t x ≡ true → Has l x) (y ∷ ys)) (sym m) ((λ _. has_here y (filter t ys)), All-weaker _ _ (λ x h f. has_there y (filter t ys) x (h f)) ys (kept_has t ys)))
    (λ e. let m : filter t (y ∷ ys) ≡ filter t ys = cond-false _ _ _ e in
    subst (λ l. AllByRecursion (λ x. t x ≡ true → Has l x) (y ∷ ys)) (sym m) ((λ f. absurd (both_ways _ e f)), kept_has t ys))
    (cases_Bool (t y))

pub set_law : (P : Type 0) → SetLaw P
set_law P k s set p i on = record {
  live_is = member set i.on;
  with_set = λ off. record { rising = rising_with (code_of k) p set i.rising (absent_from (code_of k) p set off); on = all_with (code_of k) (On k) p set on i.on };
  with_new = (all_with_out (code_of k) (Has W) p set (all_has_itself W)).0;
  with_old = λ q h. all-has (Has W) set q (all_with_out (code_of k) (Has W) p set (all_has_itself W)).1 h;
  with_only = λ q h. all-has (λ x. Has set x ⊎ (x ≡ p)) W q (all_with (code_of k) (λ x. Has set x ⊎ (x ≡ p)) p set (inr refl) (All-weaker _ _ (λ x m. inl m) set (all_has_itself set))) h;
  without_set = record { rising = rising_kept (code_of k) T set i.rising; on = all_kept_by T (On k) set i.on };
  without_old = λ q h ne. all-has (λ x. T x ≡ true → Has (filter T set) x) set q (kept_has T set) h (passes q (all-has (On k) set q i.on h) ne);
  without_only = λ q h. (all-has (Has set) (filter T set) q (all_kept_by T (Has set) set (all_has_itself set)) h, λ e. both_ways _ (fails q e) (all-has (λ x. T x ≡ true) (filter T set) q (kept_by_passes T set) h));
}
  where
    W : List P
    W = with_point (code_of k) p set

    T : P → Bool
    T q = not (eqb (code_of k p) (code_of k q))

    same : (q : P) → On k q → code_of k p ≡ code_of k q → q ≡ p
    same q oq e = s.one_point q p (one_point_law k.axes s.narrow (k.coords q) (k.coords p) oq on (sym e))

    passes : (q : P) → On k q → (q ≡ p → ⊥) → not (eqb (code_of k p) (code_of k q)) ≡ true
    passes q oq ne = not_from_false _ (ne_eqb _ _ (λ e. ne (same q oq e)))

    fails : (q : P) → q ≡ p → not (eqb (code_of k p) (code_of k q)) ≡ false
    fails q e = not_from_true _ (eq-eqb _ _ (ap (code_of k) (sym e)))

    member : (qs : List P) → AllByRecursion (On k) qs → Whether (live (code_of k) p qs) (Has qs p)
    member qs all =
        ⊎_elim
        (λ on. subst (λ b. Whether b (Has qs p)) (sym on) (found qs all on))
        (λ off. subst (λ b. Whether b (Has qs p)) (sym off) (λ h. all-has (λ q. code_of k p ≡ code_of k q → ⊥) qs p (absent_from (code_of k) p qs off) h refl))
        (cases_Bool (live (code_of k) p qs))
      where
        found : (qs : List P) → AllByRecursion (On k) qs → live (code_of k) p qs ≡ true → Has qs p
        found [] all on = absurd (both_ways false refl on)
        found (q ∷ qs) all on =
            ⊎_elim
            (λ e. subst (Has (q ∷ qs)) (same q all.0 (eqb-true _ _ e)) (has_here q qs))
            (λ e. has_there q qs p (found qs all.1 (sym (cond-false _ _ _ e) ∙ on)))
            (cases_Bool (eqb (code_of k p) (code_of k q)))
