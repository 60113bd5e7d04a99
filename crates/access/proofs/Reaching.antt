-- From the page that was read to the tree, and down to the half of the next bit.
use Rattle.std.proofs.Common.{◌≡◌, ℕ, suc, ◌+◌, ◌<◌, ◌≤◌, true, false, ◌⊎◌, List, length, sym, refl, ap, ◌∙◌, subst, inl, inr, arith}
use Rattle.std.specs.List.{AllByRecursion}
use Rattle.std.proofs.ByRecursion.{All-weaker}
use Rattle.zorder.specs.Code.{code, first}
use Rattle.zorder.specs.Halves.{half}
use Rattle.kinds.specs.Kind.{Kind, Sound, wide, code_of, low_corner, high_corner}
use Rattle.page.specs.Form.{Summary, directory_view}
use Rattle.page.specs.Fields.{Reads}
use Rattle.page.specs.Checks.{IsData}
use Rattle.page.proofs.Views.{one_view_law}
use Rattle.tree.specs.Laid.{Laid, data_at, directory_at, below_it, agrees}
use Rattle.tree.specs.Lawful.{Card, page, entry}
use Rattle.tree.specs.Standing.{view_of, Standing}
use Rattle.tree.proofs.Halves.{Parted}
use Rattle.tree.proofs.Standings.{node_inv, parted, points_are, some_points, standing_low, standing_high, standing_reads, standing_there, corner_front}
use Rattle.tree.proofs.Laws.{agrees_all, agrees_none, half_shares, depth_least, no_bits, fits}
use Rattle.access.specs.Reached.{chosen, Reached}

module _ {P : Type 0} (k : Kind P) (s : Sound k) (card : Card) where
  -- the root is reached, with no bits shared yet
  pub root_reached : (ps : List P) (e : Summary) (t : Laid P) → Standing k card ps t → e ≡ entry k t → Reached k card ps e 0 t
  root_reached ps e t st at = record {
    stands = st;
    at = at;
    front = 0;
    share = All-weaker _ _ (λ x lt. no_bits (wide k) (code_of k x) lt) ps (fits k s ps st.is_set.on);
  }

  module _ (ps : List P) (e : Summary) (above : ℕ) (t : Laid P) (w : Reached k card ps e above t) where
    pub reached_points : below_it t ≡ ps
    reached_points = points_are k s card ps t w.stands

    pub reached_count : e.count ≡ length ps
    reached_count = ap (λ x. x.count) w.at ∙ ap length reached_points

    pub reached_low : e.low ≡ low_corner k ps
    reached_low = ap (λ x. x.low) w.at ∙ ap (low_corner k) reached_points

    pub reached_high : e.high ≡ high_corner k ps
    reached_high = ap (λ x. x.high) w.at ∙ ap (high_corner k) reached_points

    pub reached_there : e.page < length card
    reached_there = subst (λ q. q < length card) (sym (ap (λ x. x.page) w.at)) (standing_there k s card ps t w.stands)

    -- the bytes that were read are those of the part's first page
    pub reached_reads : (bs : List ℕ) → bs ≡ page card e.page → Reads k bs (view_of k t)
    reached_reads bs is = subst (λ x. Reads k x (view_of k t)) (sym (is ∙ ap (λ x. page card x.page) w.at)) (standing_reads k s card ps t w.stands)

  -- ---- what the page is

  pub record Leafed (t : Laid P) : Type 0 where
    pub q : ℕ
    pub xs : List P
    pub is : t ≡ data_at q xs

  pub leafed : (t : Laid P) (bs : List ℕ) → Reads k bs (view_of k t) → IsData k bs → Leafed t
  leafed (data_at q xs) bs rd is = record { q = q; xs = xs; is = refl }
  leafed (directory_at q n l h) bs rd is =
      let v = one_view_law P k s bs _ _ is.1 rd in
      let z : ◌≡◌ {A = ℕ} 0 1 = cc in absurd (omega arith)

  pub record Forked (n : ℕ) (low high : Summary) (t : Laid P) : Type 0 where
    pub q : ℕ
    pub l : Laid P
    pub h : Laid P
    pub is : t ≡ directory_at q n l h
    pub low_is : low ≡ entry k l
    pub high_is : high ≡ entry k h

  pub forked : (t : Laid P) (bs : List ℕ) (n : ℕ) (low high : Summary) → Reads k bs (view_of k t) → Reads k bs (directory_view n low high) → Forked n low high t
  forked (data_at q xs) bs n low high rd d =
      let v = one_view_law P k s bs _ _ d rd in
      let z : ◌≡◌ {A = ℕ} 0 1 = cc in absurd (omega arith)
  forked (directory_at q m l h) bs n low high rd d =
      let v = one_view_law P k s bs _ _ d rd in
      let a : m ≡ n = cc in
      let b : low ≡ entry k l = cc in
      let c : high ≡ entry k h = cc in
      record { q = q; l = l; h = h; is = ap (λ i. directory_at q i l h) a; low_is = b; high_is = c }

  -- ---- a directory page

  module _ (ps : List P) (e : Summary) (above q n : ℕ) (l h : Laid P) (w : Reached k card ps e above (directory_at q n l h)) where
    pub reached_parted : Parted (code_of k) (wide k) n ps
    reached_parted = let i = node_inv k w.stands.halved in parted k s n ps w.stands.is_set i.0 i.1

    -- the depth rises
    pub deep : above ≤ wide k → above ≤ n
    deep le = depth_least (code_of k) (wide k) n above w.front ps (node_inv k w.stands.halved).1 le w.share

    pub low_front : first (wide k) n (code k.axes e.low) ≡ reached_parted.front
    low_front =
        let d = reached_parted in
        let lt = d.short in
        ap (λ z. first (wide k) n (code k.axes z)) (reached_low ps e above (directory_at q n l h) w) ∙
        corner_front k s n d.front ps (omega arith) (some_points k s card ps (directory_at q n l h) w.stands) w.stands.is_set.on d.share

    -- the low corner tells whether a point shares the first bits
    pub agrees_if : (p : P) → first (wide k) n (code k.axes e.low) ≡ first (wide k) n (code_of k p) → agrees (code_of k) (wide k) n (below_it (directory_at q n l h)) p ≡ true
    agrees_if p same =
        let d = reached_parted in
        subst (λ a. agrees (code_of k) (wide k) n a p ≡ true) (sym (reached_points ps e above (directory_at q n l h) w))
        (agrees_all (code_of k) (wide k) n d.front ps p d.share (sym same ∙ low_front))

    pub agrees_not : (p : P) → (first (wide k) n (code k.axes e.low) ≡ first (wide k) n (code_of k p) → ⊥) → agrees (code_of k) (wide k) n (below_it (directory_at q n l h)) p ≡ false
    agrees_not p ne =
        let d = reached_parted in
        subst (λ a. agrees (code_of k) (wide k) n a p ≡ false) (sym (reached_points ps e above (directory_at q n l h) w))
        (agrees_none (code_of k) (wide k) n d.front ps p (some_points k s card ps (directory_at q n l h) w.stands) d.share (λ same. ne (low_front ∙ sym same)))

    half_next : (c : ℕ) → (u : ℕ) × AllByRecursion (λ x. first (wide k) (n + 1) (code_of k x) ≡ u) (half (code_of k) (wide k) n c ps)
    half_next c =
        let r = half_shares (code_of k) (wide k) n c ps reached_parted in
        let m : suc n ≡ n + 1 = omega arith in
        (r.0, subst (λ i. AllByRecursion (λ x. first (wide k) i (code_of k x) ≡ r.0) (half (code_of k) (wide k) n c ps)) m r.1)

    -- ---- the half of a bit is reached
    pub down : (b : ℕ) → (b ≡ 0) ⊎ (b ≡ 1) → Reached k card (half (code_of k) (wide k) n b ps) (chosen b (entry k l) (entry k h)) (n + 1) (chosen b l h)
    down b (inl z) = subst (λ b. Reached k card (half (code_of k) (wide k) n b ps) (chosen b (entry k l) (entry k h)) (n + 1) (chosen b l h)) (sym z)
        (record { stands = standing_low k s card ps q n l h w.stands; at = refl; front = (half_next 0).0; share = (half_next 0).1 })
    down b (inr z) = subst (λ b. Reached k card (half (code_of k) (wide k) n b ps) (chosen b (entry k l) (entry k h)) (n + 1) (chosen b l h)) (sym z)
        (record { stands = standing_high k s card ps q n l h w.stands; at = refl; front = (half_next 1).0; share = (half_next 1).1 })

  -- ---- both halves of a directory page that was read

  module _ (ps : List P) (e : Summary) (above : ℕ) (t : Laid P) (w : Reached k card ps e above t) (n : ℕ) (low high : Summary) (f : Forked n low high t) where
    pub forked_here : Reached k card ps e above (directory_at f.q n f.l f.h)
    forked_here = subst (λ u. Reached k card ps e above u) f.is w

    pub forked_deep : above ≤ wide k → above ≤ n
    forked_deep le = deep ps e above f.q n f.l f.h forked_here le

    pub forked_short : n + 1 ≤ wide k
    forked_short = let lt = (reached_parted ps e above f.q n f.l f.h forked_here).short in omega arith

    pub forked_low : Reached k card (half (code_of k) (wide k) n 0 ps) low (n + 1) f.l
    forked_low = subst (λ x. Reached k card (half (code_of k) (wide k) n 0 ps) x (n + 1) f.l) (sym f.low_is) (down ps e above f.q n f.l f.h forked_here 0 (inl refl))

    pub forked_high : Reached k card (half (code_of k) (wide k) n 1 ps) high (n + 1) f.h
    forked_high = subst (λ x. Reached k card (half (code_of k) (wide k) n 1 ps) x (n + 1) f.h) (sym f.high_is) (down ps e above f.q n f.l f.h forked_here 1 (inr refl))

-- an equal card
pub reached_on : {P : Type 0} (k : Kind P) {card after : Card} {ps : List P} {e : Summary} {above : ℕ} {t : Laid P} → after ≡ card → Reached k card ps e above t → Reached k after ps e above t
reached_on k {card} {after} {ps} {e} {above} {t} same w = subst (λ x. Reached k x ps e above t) (sym same) w
