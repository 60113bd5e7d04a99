-- The way of a point on a card that shows the tree of a set.
use Rattle.std.proofs.Common.{◌≡◌, ℕ, suc, ◌+◌, ◌<◌, ◌≤◌, Bool, true, false, List, [], ◌∷◌, map, length, Some, None, sym, refl, ap, ◌∙◌, subst, ⊎_elim, arith}
use Rattle.std.specs.List.{ContainsAt as Has, AllByRecursion}
use Rattle.std.proofs.lemmas.Bool.{cases_Bool}
use Rattle.std.proofs.ByRecursion.{All-weaker, All-map, all-has, all_has_itself}
use Rattle.zorder.specs.Code.{code, first, bit_at}
use Rattle.zorder.specs.Halves.{half, Rising}
use Rattle.zorder.proofs.Corners.{all_unmap}
use Rattle.zorder.proofs.Halving.{first_fewer}
use Rattle.kinds.specs.Kind.{Kind, Sound, On, Whether, wide, code_of, low_corner}
use Rattle.page.specs.declared.directory_page.Fork.{Fork}
use Rattle.page.specs.Form.{Point, data_view}
use Rattle.page.specs.Fields.{Reads}
use Rattle.page.specs.Checks.{IsData, DirectoryRead, Held}
use Rattle.tree.specs.Sets.{IsSet, live}
use Rattle.tree.specs.Laid.{Laid, data_at, directory_at, number}
use Rattle.tree.specs.Lawful.{Card, page}
use Rattle.tree.specs.Standing.{view_of, Standing}
use Rattle.tree.proofs.Halves.{Parted, half_live, half_all}
use Rattle.tree.proofs.Standings.{leaf_inv, node_inv, parted, points_are, standing_low, standing_high, standing_reads, standing_there, corner_front}
use Rattle.tree.proofs.Laws.{set_law, live_shares, half_shares, depth_least, no_bits, fits}
use Rattle.access.proofs.Nodes.{SameFork, fork_is, no_fork, no_data}
use Rattle.lookup.specs.Asking.{Leads}

module _ {P : Type 0} (k : Kind P) (s : Sound k) (card : Card) where
  -- the tree of qs begins at a page, all its codes share as many bits as turns were taken, and p is among ps exactly if it is among qs
  pub record Turn (p : P) (ps : List P) (at turn : ℕ) : Type 0 where
    pub qs : List P
    pub tree : Laid P
    pub stands : Standing k card qs tree
    pub here : number tree ≡ at
    pub same : live (code_of k) p ps ≡ live (code_of k) p qs
    pub few : turn ≤ wide k
    pub front : ℕ
    pub share : AllByRecursion (λ q. first (wide k) turn (code_of k q) ≡ front) qs

  pub first_turn : (p : P) (ps : List P) (t : Laid P) (at : ℕ) → Standing k card ps t → number t ≡ at → Turn p ps at 0
  first_turn p ps t at st e = record {
    qs = ps;
    tree = t;
    stands = st;
    here = e;
    same = refl;
    few = omega arith;
    front = 0;
    share = All-weaker _ _ (λ x lt. no_bits (wide k) (code_of k x) lt) ps (fits k s ps st.is_set.on);
  }

  module _ (p : P) (ps : List P) (at turn : ℕ) (w : Turn p ps at turn) where
    pub turn_there : at < length card
    turn_there = subst (λ q. q < length card) w.here (standing_there k s card w.qs w.tree w.stands)

    pub turn_reads : Reads k (page card at) (view_of k w.tree)
    turn_reads = subst (λ q. Reads k (page card q) (view_of k w.tree)) w.here (standing_reads k s card w.qs w.tree w.stands)

    -- the bytes that were read are those of the page
    pub turn_bytes : (now : Card) (bs : List ℕ) → now ≡ card → bs ≡ page now at → Reads k bs (view_of k w.tree)
    turn_bytes now bs same e = subst (λ x. Reads k x (view_of k w.tree)) (sym (e ∙ ap (λ c. page c at) same)) turn_reads

    -- the page is there, and shows the tree
    pub turn_stands : (now : Card) → now ≡ card → (at < length now) × Reads k (page now at) (view_of k w.tree)
    turn_stands now same = (subst (λ c. at < length c) (sym same) turn_there, subst (λ c. Reads k (page c at) (view_of k w.tree)) (sym same) turn_reads)

    -- there are no more turns than bits
    pub turn_last : suc (wide k) ≤ turn → ⊥
    turn_last le = let f = w.few in omega arith

  -- ---- a data page

  rising_coords : (qs : List P) → Rising (code_of k) qs → Rising (code k.axes) (map k.coords qs)
  rising_coords [] r = tt
  rising_coords (q ∷ qs) r = (All-map _ k.coords qs r.0, rising_coords qs r.1)

  has_coords : (qs : List P) (p : P) → Has qs p → Has (map k.coords qs) (k.coords p)
  has_coords qs p h = all-has (λ x. Has (map k.coords qs) (k.coords x)) qs p (all_unmap (Has (map k.coords qs)) k.coords qs (all_has_itself (map k.coords qs))) h

  coords_has : (qs : List P) (p : P) → Has (map k.coords qs) (k.coords p) → Has qs p
  coords_has qs p h =
      all-has (λ z. z ≡ k.coords p → Has qs p) (map k.coords qs) (k.coords p)
      (All-map (λ z. z ≡ k.coords p → Has qs p) k.coords qs (All-weaker _ _ (λ x m e. subst (Has qs) (s.one_point x p e) m) qs (all_has_itself qs))) h refl

  held_live : (qs : List P) (p : P) (r : Bool) → IsSet k qs → On k p → Whether r (Has (map k.coords qs) (k.coords p)) → r ≡ live (code_of k) p qs
  held_live qs p r i on h = by r (live (code_of k) p qs) h (set_law P k s qs p i on).live_is
    where
      by : (r b : Bool) → Whether r (Has (map k.coords qs) (k.coords p)) → Whether b (Has qs p) → r ≡ b
      by true true h m = refl
      by true false h m = absurd (m (coords_has qs p h))
      by false true h m = absurd (h (has_coords qs p m))
      by false false h m = refl

  pub data_answer : (qs : List P) (t : Laid P) (p : P) (bs : List ℕ) (r : Bool) → Standing k card qs t → On k p → Reads k bs (view_of k t) → IsData k bs → ((ps : List Point) → Reads k bs (data_view ps) → Held k ps p r) → r ≡ live (code_of k) p qs
  data_answer qs (data_at q xs) p bs r st on rd is held =
      let e = (leaf_inv k st.halved).0 in
      let i = subst (IsSet k) e st.is_set in
      held_live xs p r i on (held (map k.coords xs) rd (rising_coords xs i.rising)) ∙ ap (live (code_of k) p) (sym e)
  data_answer qs (directory_at q n l h) p bs r st on rd is held = no_data k s bs q n l h is rd

  -- ---- a directory page

  -- the first bits that all points share, as the corner on the page tells them
  fork_front : (x : Fork P) (qs : List P) (q n : ℕ) (l h : Laid P) → Standing k card qs (directory_at q n l h) → SameFork k s x n l h → (d : Parted (code_of k) (wide k) n qs) → first (wide k) n (code_of k x.low.low) ≡ d.front
  fork_front x qs q n l h st f d =
      let sl = standing_low k s card qs q n l h st in
      let e = points_are k s card (half (code_of k) (wide k) n 0 qs) l sl in
      let lt = d.short in
      ap (λ z. first (wide k) n (code k.axes z)) (ap (λ y. y.low) f.low ∙ ap (low_corner k) e)
      ∙ corner_front k s n d.front (half (code_of k) (wide k) n 0 qs) (omega arith) d.low sl.is_set.on (half_all (code_of k) (wide k) _ n 0 qs d.share)

  -- a point that does not share the first bits is not there
  pub leads_none : (qs : List P) (t : Laid P) (p : P) (x : Fork P) (bs : List ℕ) → Standing k card qs t → Reads k bs (view_of k t) → DirectoryRead k bs (Some x) → Leads k x p None → live (code_of k) p qs ≡ false
  leads_none qs (data_at q xs) p x bs st rd d off = no_fork k s x bs q xs d rd
  leads_none qs (directory_at q n l h) p x bs st rd d not_shared =
      let i = node_inv k st.halved in
      let part = parted k s n qs st.is_set i.0 i.1 in
      let f = fork_is k s x bs q n l h d rd in
      let e = fork_front x qs q n l h st f part in
      ⊎_elim
      (λ on. absurd (not_shared (subst (λ m. first (wide k) m (code_of k x.low.low) ≡ first (wide k) m (code_of k p)) (sym f.depth) (e ∙ sym (live_shares (code_of k) (wide k) n part.front qs p part.share on)))))
      (λ off. off)
      (cases_Bool (live (code_of k) p qs))

  -- the way goes on to the half of the next bit
  pub leads_on : (p : P) (ps : List P) (at turn next : ℕ) (x : Fork P) (bs : List ℕ) (w : Turn p ps at turn) → Reads k bs (view_of k w.tree) → DirectoryRead k bs (Some x) → Leads k x p (Some next) → Turn p ps next (turn + 1)
  leads_on p ps at turn next x bs w rd d leads = by w.tree w.stands rd
    where
      half_turn : (n c : ℕ) (u : Laid P) → Parted (code_of k) (wide k) n w.qs → turn ≤ n → bit_at (wide k) n (code_of k p) ≡ c → Standing k card (half (code_of k) (wide k) n c w.qs) u → next ≡ number u → Turn p ps next (turn + 1)
      half_turn n c u part le b st e =
          let sh = half_shares (code_of k) (wide k) n c w.qs part in
          let lt = part.short in
          let share = fewer (half (code_of k) (wide k) n c w.qs) n sh.0 (omega arith) lt sh.1 in
          record {
            qs = half (code_of k) (wide k) n c w.qs;
            tree = u;
            stands = st;
            here = sym e;
            same = w.same ∙ sym (half_live (code_of k) (wide k) n c p w.qs b);
            few = omega arith;
            front = share.0;
            share = share.1;
          }
        where
          fewer : (xs : List P) (n v : ℕ) → turn + 1 ≤ suc n → n < wide k → AllByRecursion (λ q. first (wide k) (suc n) (code_of k q) ≡ v) xs → (u : ℕ) × AllByRecursion (λ q. first (wide k) (turn + 1) (code_of k q) ≡ u) xs
          fewer [] n v a b h = (0, tt)
          fewer (q ∷ xs) n v a b h = (first (wide k) (turn + 1) (code_of k q), All-weaker _ _ (λ x e. first_fewer (wide k) (suc n) (turn + 1) (code_of k x) (code_of k q) a b (e ∙ sym h.0)) (q ∷ xs) h)

      by : (t : Laid P) → Standing k card w.qs t → Reads k bs (view_of k t) → Turn p ps next (turn + 1)
      by (data_at q xs) st rd = no_fork k s x bs q xs d rd
      by (directory_at q n l h) st rd =
          let i = node_inv k st.halved in
          let part = parted k s n w.qs st.is_set i.0 i.1 in
          let f = fork_is k s x bs q n l h d rd in
          let le = depth_least (code_of k) (wide k) n turn w.front w.qs i.1 w.few w.share in
          ⊎_elim
          (λ z. half_turn n 0 l part le (subst (λ m. bit_at (wide k) m (code_of k p) ≡ 0) f.depth z.0) (standing_low k s card w.qs q n l h st) (z.1 ∙ ap (λ y. y.page) f.low))
          (λ z. half_turn n 1 h part le (subst (λ m. bit_at (wide k) m (code_of k p) ≡ 1) f.depth z.0) (standing_high k s card w.qs q n l h st) (z.1 ∙ ap (λ y. y.page) f.high))
          leads.1
