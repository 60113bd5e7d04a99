-- The way up from a half that has grown, or that was refused.
use Rattle.std.proofs.Common.{◌≡◌, ℕ, ◌+◌, ◌<◌, ◌≤◌, true, false, ◌⊎◌, List, [], ◌∷◌, ◌++◌, length, set, Some, None, Ok, Err, Option, sym, refl, ap, ◌∙◌, subst, inl, inr, ⊎_elim, arith}
use Rattle.std.proofs.lemmas.List.{get_or-set_same, get_or-set_other}
use Rattle.std.proofs.ByRecursion.{All-append}
use Rattle.refusal.specs.declared.Refusal.{Refusal}
use Rattle.zorder.specs.Code.{bit_at}
use Rattle.zorder.specs.Halves.{half}
use Rattle.kinds.specs.Kind.{Kind, Sound, code_of, wide}
use Rattle.page.specs.Form.{Summary, directory_view, encode, times}
use Rattle.page.specs.Checks.{summary}
use Rattle.tree.specs.Sets.{live}
use Rattle.tree.specs.Laid.{Laid, directory_at, number, numbers, below_it, agrees, way}
use Rattle.tree.specs.Lawful.{Card, page, parts, entry, Shows, KeptBut}
use Rattle.tree.proofs.Counts.{times_append}
use Rattle.tree.proofs.Halves.{absent_from, half_live, bit_cases, parted_count}
use Rattle.tree.proofs.Standings.{all_front, all_back, some_points}
use Rattle.growth.specs.Grows.{Grows, into_low, into_high}
use Rattle.access.specs.Reached.{chosen, Reached}
use Rattle.growth.proofs.Puts.{grows_points, grows_times, way_low, way_high}
use Rattle.growth.proofs.Kept.{times_at, set_kept, kept_then, shows_kept, way_times}
use Rattle.access.proofs.Reaching.{reached_there, reached_points, reached_parted, down}
use Rattle.put.specs.declared.insert.Grown.{Grown}
use Rattle.put.specs.declared.spare.Spare.{Spare}
use Rattle.put.specs.Spares.{spares}
use Rattle.put.specs.Growing.{widened, Growing, Uses, PutEnd, taken, full, grew}
use Rattle.put.proofs.Widening.{widened_entry}

-- new pages are among those at hand
pub uses_spare : (o used : Option Spare) (f g : ℕ) (new : List ℕ) → Uses o used f g new → (i : ℕ) → times i new ≤ times i (spares o)
uses_spare o None f g new u i = rw u (omega arith)
uses_spare o (Some x) f g new u i = rw (u.0, u.3, u.1, u.2) (omega arith)

module _ {P : Type 0} (k : Kind P) where
  abbrev C : P → ℕ
  C = code_of k

  abbrev W : ℕ
  W = wide k

  abbrev B : ℕ
  B = k.capacity

  -- A part has grown on the card `mid`, and then page q is written: the part and another one stand, and only new pages and the way differ.
  module _ (card mid : Card) (q : ℕ) (bytes : List ℕ) (p : P) (sub other u : Laid P) (new : List ℕ) (qin : q < length card)
      (count : (i : ℕ) → times i new + (times i (q ∷ []) + (times i (numbers sub) + times i (numbers other))) ≤ 1)
      (more : (i : ℕ) → times i (numbers u) ≡ times i (numbers sub) + times i new)
      (kept : KeptBut (new ++ way C W sub p) card mid) where
    elsewhere : (i : ℕ) → 1 ≤ times i new + (times i (numbers sub) + times i (numbers other)) → page (set mid q bytes) i ≡ page mid i
    elsewhere i le = get_or-set_other mid q i bytes [] (λ e. let m = times_at i q e in let c = count i in omega arith)

    frame_here : page (set mid q bytes) q ≡ bytes
    frame_here = get_or-set_same mid q bytes [] (let b = kept.same_size in omega arith)

    frame_grown : Shows k mid u → Shows k (set mid q bytes) u
    frame_grown shows = shows_kept k mid (set mid q bytes) u (λ i le. elsewhere i (let a = more i in omega arith)) shows

    frame_other : Shows k card other → Shows k (set mid q bytes) other
    frame_other shows =
        shows_kept k card (set mid q bytes) other
        (λ i le. elsewhere i (omega arith) ∙ kept.kept i (let a = count i in let b = times_append i new (way C W sub p) in let c = way_times k i p sub in omega arith)) shows

    frame_kept : KeptBut (new ++ (q ∷ way C W sub p)) card (set mid q bytes)
    frame_kept =
        kept_then (new ++ way C W sub p) (q ∷ []) (new ++ (q ∷ way C W sub p)) kept (set_kept mid q bytes)
        (λ i e. let a = times_append i new (way C W sub p) in let b = times_append i new (q ∷ way C W sub p) in (omega arith, omega arith))

module _ {P : Type 0} (k : Kind P) (s : Sound k) (card : Card) (ps : List P) (e : Summary) (spare : Option Spare) (above q n : ℕ) (l h : Laid P) (w : Growing k card ps e spare above (directory_at q n l h)) where
  abbrev t : Laid P
  t = directory_at q n l h

  chosen_times : (b i : ℕ) → (b ≡ 0) ⊎ (b ≡ 1) → times i (numbers (chosen b l h)) ≤ times i (numbers l ++ numbers h)
  chosen_times b i (inl z) = rw z (let a = times_append i (numbers l) (numbers h) in omega arith)
  chosen_times b i (inr z) = rw z (let a = times_append i (numbers l) (numbers h) in omega arith)

  half_length : (b : ℕ) → (b ≡ 0) ⊎ (b ≡ 1) → length (half (code_of k) (wide k) n b ps) ≤ length ps
  half_length b (inl z) = rw z (let a = parted_count (code_of k) (wide k) n ps w.reached.stands.is_set.rising (reached_parted k s card ps e above q n l h w.reached) in omega arith)
  half_length b (inr z) = rw z (let a = parted_count (code_of k) (wide k) n ps w.reached.stands.is_set.rising (reached_parted k s card ps e above q n l h w.reached) in omega arith)

  -- down to the half of a bit
  pub growing_down : (b : ℕ) (sub : Summary) → (b ≡ 0) ⊎ (b ≡ 1) → sub ≡ chosen b (entry k l) (entry k h) → Growing k card (half (code_of k) (wide k) n b ps) sub spare (n + 1) (chosen b l h)
  growing_down b sub two is = record {
    reached = subst (λ x. Reached k card (half (code_of k) (wide k) n b ps) x (n + 1) (chosen b l h)) (sym is) (down k s card ps e above q n l h w.reached b two);
    few = let a = w.few in let c = half_length b two in omega arith;
    once = λ i. let o = w.once i in let a = times_append i (spares spare) (numbers (chosen b l h)) in let c = times_append i (spares spare) (numbers t) in let d = chosen_times b i two in omega arith;
  }

  module _ (p : P) (ok : agrees (code_of k) (wide k) n (below_it t) p ≡ true) where
    -- ---- a refusal
    abbrev RefusedUp : ℕ → Type 0
    RefusedUp b = (x : Refusal) (mid : Card) → bit_at (wide k) n (code_of k p) ≡ b → PutEnd k card (half (code_of k) (wide k) n b ps) p spare (chosen b l h) (Err x) mid → PutEnd k card ps p spare t (Err x) mid

    refused_low : RefusedUp 0
    refused_low x mid z (taken on) = taken (sym (half_live (code_of k) (wide k) n 0 p ps z) ∙ on)
    refused_low x mid z (full f g new gr none) = full f g (sym (half_live (code_of k) (wide k) n 0 p ps z) ∙ new) (into_low ok z gr) none

    refused_high : RefusedUp 1
    refused_high x mid z (taken on) = taken (sym (half_live (code_of k) (wide k) n 1 p ps z) ∙ on)
    refused_high x mid z (full f g new gr none) = full f g (sym (half_live (code_of k) (wide k) n 1 p ps z) ∙ new) (into_high ok z gr) none

    pub refused_up : (b : ℕ) → (b ≡ 0) ⊎ (b ≡ 1) → RefusedUp b
    refused_up b (inl z) = subst RefusedUp (sym z) refused_low
    refused_up b (inr z) = subst RefusedUp (sym z) refused_high

    -- ---- a tree that has grown
    module _ (r : Grown P) (entry_is : summary k r.entry ≡ widened k e.page p e) where
      abbrev at : e.page ≡ q
      at = ap (λ x. x.page) w.reached.at

      qin : q < length card
      qin = subst (λ i. i < length card) at (reached_there k s card ps e above t w.reached)

      entry_for : (f g : ℕ) (u : Laid P) (new : List ℕ) → Grows (code_of k) (wide k) k.capacity p f g t u new → live (code_of k) p ps ≡ false → number u ≡ q → summary k r.entry ≡ entry k u
      entry_for f g u new gr fresh nu =
          let whole = grows_points (code_of k) (wide k) k.capacity s.room p f g ps gr w.reached.stands.halved w.reached.stands.is_set.rising (absent_from (code_of k) p ps fresh) in
          let c = some_points k s card ps t w.reached.stands in
          let len = ap length (reached_points k s card ps e above t w.reached) in
          entry_is ∙ ap (λ i. widened k i p e) (at ∙ sym nu) ∙ ap (widened k (number u) p) w.reached.at ∙ widened_entry k p t u (omega arith) whole

      counts : (f g : ℕ) (new : List ℕ) (used : Option Spare) → Uses spare used f g new → (i : ℕ) → times i new + (times i (q ∷ []) + (times i (numbers l) + times i (numbers h))) ≤ 1
      counts f g new used u i = let o = w.once i in let a = uses_spare spare used f g new u i in let b = times_append i (spares spare) (numbers t) in let c = times_append i (numbers l) (numbers h) in omega arith

      abbrev fork_bytes : ℕ → Grown P → List ℕ
      fork_bytes b v = encode k (directory_view n (chosen b (summary k v.entry) (chosen b (entry k h) (entry k l))) (chosen b (chosen b (entry k h) (entry k l)) (summary k v.entry)))

      abbrev GrownUp : ℕ → Type 0
      GrownUp b = (v : Grown P) (mid : Card) → r.used ≡ v.used → bit_at (wide k) n (code_of k p) ≡ b → PutEnd k card (half (code_of k) (wide k) n b ps) p spare (chosen b l h) (Ok v) mid
          → PutEnd k card ps p spare t (Ok r) (set mid q (fork_bytes b v))

      grown_low : GrownUp 0
      grown_low v mid used z (grew f g {u} {new} fresh gr uses is shows kept) =
          let bytes = fork_bytes 0 v in
          let fresh' = sym (half_live (code_of k) (wide k) n 0 p ps z) ∙ fresh in
          let gr' : Grows (code_of k) (wide k) k.capacity p f g t (directory_at q n u h) new = into_low ok z gr in
          let count = counts f g new v.used uses in
          let more = λ (i : ℕ). grows_times (code_of k) (wide k) k.capacity p f g i gr in
          grew f g fresh' gr' (subst (λ x. Uses spare x f g new) (sym used) uses) (entry_for f g (directory_at q n u h) new gr' fresh' refl) (
            frame_here k card mid q bytes p l h u new qin count more kept ∙ ap (λ a. encode k (directory_view n a (entry k h))) is,
            All-append _ (parts k u) (parts k h) (frame_grown k card mid q bytes p l h u new qin count more kept shows) (frame_other k card mid q bytes p l h u new qin count more kept (all_back _ (parts k l) (parts k h) w.reached.stands.shows.1)),
          )
          (subst (λ a. KeptBut (new ++ a) card (set mid q bytes)) (sym (way_low (code_of k) (wide k) p q n l h ok z)) (frame_kept k card mid q bytes p l h u new qin count more kept))

      grown_high : GrownUp 1
      grown_high v mid used z (grew f g {u} {new} fresh gr uses is shows kept) =
          let bytes = fork_bytes 1 v in
          let fresh' = sym (half_live (code_of k) (wide k) n 1 p ps z) ∙ fresh in
          let gr' : Grows (code_of k) (wide k) k.capacity p f g t (directory_at q n l u) new = into_high ok z gr in
          let count : (i : ℕ) → times i new + (times i (q ∷ []) + (times i (numbers h) + times i (numbers l))) ≤ 1 = λ i. let c = counts f g new v.used uses i in omega arith in
          let more = λ (i : ℕ). grows_times (code_of k) (wide k) k.capacity p f g i gr in
          grew f g fresh' gr' (subst (λ x. Uses spare x f g new) (sym used) uses) (entry_for f g (directory_at q n l u) new gr' fresh' refl) (
            frame_here k card mid q bytes p h l u new qin count more kept ∙ ap (λ a. encode k (directory_view n (entry k l) a)) is,
            All-append _ (parts k l) (parts k u) (frame_other k card mid q bytes p h l u new qin count more kept (all_front _ (parts k l) (parts k h) w.reached.stands.shows.1)) (frame_grown k card mid q bytes p h l u new qin count more kept shows),
          )
          (subst (λ a. KeptBut (new ++ a) card (set mid q bytes)) (sym (way_high (code_of k) (wide k) p q n l h ok z)) (frame_kept k card mid q bytes p h l u new qin count more kept))

      pub grown_up : (b : ℕ) (v : Grown P) (mid after : Card) (other : Summary) → bit_at (wide k) n (code_of k p) ≡ b → r.used ≡ v.used → other ≡ chosen b (entry k h) (entry k l)
          → after ≡ set mid e.page (encode k (directory_view n (chosen b (summary k v.entry) other) (chosen b other (summary k v.entry))))
          → PutEnd k card (half (code_of k) (wide k) n b ps) p spare (chosen b l h) (Ok v) mid → PutEnd k card ps p spare t (Ok r) after
      grown_up b v mid after other bit used o is ended =
          subst (PutEnd k card ps p spare t (Ok r))
          (sym (is ∙ ap (λ i. set mid i (encode k (directory_view n (chosen b (summary k v.entry) other) (chosen b other (summary k v.entry))))) at ∙ ap (λ x. set mid q (encode k (directory_view n (chosen b (summary k v.entry) x) (chosen b x (summary k v.entry))))) o))
          (by (⊎_elim (λ z. inl (sym bit ∙ z)) (λ z. inr (sym bit ∙ z)) (bit_cases (wide k) n (code_of k p))) v mid used bit ended)
        where
          by : (b ≡ 0) ⊎ (b ≡ 1) → GrownUp b
          by (inl z) = subst GrownUp (sym z) grown_low
          by (inr z) = subst GrownUp (sym z) grown_high
