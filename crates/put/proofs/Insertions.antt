-- A put into a part of the tree, exit by exit: from what was read to how it ends.
use Rattle.std.proofs.Common.{◌≡◌, ℕ, suc, ◌+◌, ◌%◌, ◌<◌, ◌≤◌, true, false, ◌⊎◌, List, map, length, set, Some, None, Ok, Err, Option, Result, sym, refl, ap, ◌∙◌, subst, inl, inr, ⊎_elim, arith}
use Rattle.refusal.specs.declared.Refusal.{Refusal}
use Rattle.refusal.specs.declared.Refusal.TheVariants.{Full}
use Rattle.zorder.specs.Code.{code, first, bit_at}
use Rattle.zorder.specs.Sharing.{Shares}
use Rattle.zorder.specs.Halves.{half}
use Rattle.zorder.proofs.Halving.{first_fewer}
use Rattle.kinds.specs.Kind.{Kind, Sound, code_of, wide}
use Rattle.page.specs.Form.{Summary, data_view, directory_view, encode}
use Rattle.page.specs.Fields.{Reads}
use Rattle.page.specs.Checks.{summary, IsData}
use Rattle.tree.specs.Laid.{Laid, data_at, directory_at, below_it, agrees}
use Rattle.tree.specs.Lawful.{Card, page, entry}
use Rattle.tree.specs.Standing.{view_of}
use Rattle.tree.proofs.Halves.{bit_cases}
use Rattle.access.specs.Reached.{chosen}
use Rattle.access.proofs.Reaching.{reached_count, reached_there, reached_reads, leafed, Forked, forked, reached_parted, deep, agrees_if, agrees_not}
use Rattle.put.specs.declared.insert.Grown.{Grown}
use Rattle.put.specs.declared.spare.Spare.{Spare}
use Rattle.put.specs.Growing.{widened, card_beside, Growing, PutEnd}
use Rattle.put.proofs.Besides.{beside_full, beside}
use Rattle.put.proofs.Ups.{growing_down, refused_up, grown_up}

-- two codes that share fewer than n first bits do not agree on n
shares_less : (w m n c d : ℕ) → Shares w m c d → m < n → n ≤ w → first w n c ≡ first w n d → ⊥
shares_less w m n c d sh lt le e = sh.differ (omega arith) (ap (λ y. y % 2) (first_fewer w n (suc m) c d lt le e))

module _ {P : Type 0} (k : Kind P) (s : Sound k) (card now : Card) (same : now ≡ card) (ps : List P) (e : Summary) (spare : Option Spare) (above : ℕ) (t : Laid P) (w : Growing k card ps e spare above t) where
  abbrev C : P → ℕ
  C = code_of k

  abbrev W : ℕ
  W = wide k

  -- reads change no page
  pub moved : (u : Laid P) (p : P) (r : Result (Grown P) Refusal) (after : Card) → t ≡ u → (Growing k now ps e spare above u → PutEnd k now ps p spare u r after) → PutEnd k card ps p spare t r after
  moved u p r after is f =
      subst (λ (x : Card). PutEnd k x ps p spare t r after) same
      (subst (λ y. PutEnd k now ps p spare y r after) (sym is) (f (subst (Growing k now ps e spare above) is (subst (λ (x : Card). Growing k x ps e spare above t) (sym same) w))))

  -- the number of points is not the greatest that an entry can say
  pub count_fits : e.count ≡ 4294967295 → ⊥
  count_fits m = let a = reached_count k s card ps e above t w.reached in let b = w.few in omega arith

  pub there : e.page < length card
  there = reached_there k s card ps e above t w.reached

  pub reads : (bs : List ℕ) → bs ≡ page card e.page → Reads k bs (view_of k t)
  reads bs is = reached_reads k s card ps e above t w.reached bs is

  -- ---- a data page
  module _ (bs : List ℕ) (read : bs ≡ page card e.page) (is_data : IsData k bs) where
    pub some_points : ((xs : List P) → Reads k bs (data_view (map k.coords xs)) → ⊥) → ⊥
    some_points none = let d = leafed k s card t bs (reads bs read) is_data in none d.xs (subst (λ x. Reads k bs (view_of k x)) d.is (reads bs read))

    pub points_are : (pts : List P) → ((xs : List P) → Reads k bs (data_view (map k.coords xs)) → pts ≡ xs) → (q : ℕ) × (t ≡ data_at q pts)
    points_are pts tells =
        let d = leafed k s card t bs (reads bs read) is_data in
        (d.q, d.is ∙ ap (data_at d.q) (sym (tells d.xs (subst (λ x. Reads k bs (view_of k x)) d.is (reads bs read)))))

  -- ---- a directory page
  module _ (bs : List ℕ) (n : ℕ) (low high : Summary) (read : bs ≡ page card e.page) (is_fork : Reads k bs (directory_view n low high)) where
    abbrev f : Forked k s card n low high t
    f = forked k s card t bs n low high (reads bs read) is_fork

    abbrev fork : Laid P
    fork = directory_at f.q n f.l f.h

    pub not_shallow : above ≤ W → n < above → ⊥
    not_shallow le lt =
        let w' = subst (Growing k card ps e spare above) f.is w in
        let m = deep k s card ps e above f.q n f.l f.h w'.reached le in
        omega arith

    module _ (p : P) (m : ℕ) (sh : Shares W m (code k.axes e.low) (C p)) where
      apart : m < n → Growing k now ps e spare above fork → agrees C W n (below_it fork) p ≡ false
      apart lt v =
          let d = (reached_parted k s now ps e above f.q n f.l f.h v.reached).short in
          agrees_not k s now ps e above f.q n f.l f.h v.reached p (shares_less W m n _ _ sh lt (omega arith))

      -- the first bits are not shared
      pub apart_full : m < n → spare ≡ None → PutEnd k card ps p spare t (Err Full) now
      apart_full lt none = moved fork p (Err Full) now f.is (λ v. beside_full k s now ps e spare above f.q n f.l f.h v p m sh lt (apart lt v) none)

      pub apart_put : (x : Spare) (r : Grown P) (after : Card) → m < n → spare ≡ Some x → x.fork < length now → x.leaf < length now → summary k r.entry ≡ widened k x.fork p e → r.used ≡ Some x
          → after ≡ card_beside k now x m p e
          → PutEnd k card ps p spare t (Ok r) after
      apart_put x r after lt has fin gin is used written =
          moved fork p (Ok r) after f.is (λ v. beside k s now ps e spare above f.q n f.l f.h v p m sh lt (apart lt v) x has fin gin r is used (bit_at W m (C p)) after refl written)

      -- the first bits are shared: on to the half of the next bit
      module _ (ge : n ≤ m) (b : ℕ) (bit : b ≡ bit_at W n (C p)) where
        two : (b ≡ 0) ⊎ (b ≡ 1)
        two = ⊎_elim (λ z. inl (bit ∙ z)) (λ z. inr (bit ∙ z)) (bit_cases W n (C p))

        ok : Growing k now ps e spare above fork → agrees C W n (below_it fork) p ≡ true
        ok v = agrees_if k s now ps e above f.q n f.l f.h v.reached p (first_fewer W m n _ _ ge sh.within sh.agree)

        abbrev Ended : Result (Grown P) Refusal → Card → Summary → Type 0
        Ended r mid sub = (qs : List P) (u : Laid P) → Growing k now qs sub spare (n + 1) u → PutEnd k now qs p spare u r mid

        from_half : (r : Result (Grown P) Refusal) (mid : Card) (sub : Summary) → sub ≡ chosen b low high → Ended r mid sub → Growing k now ps e spare above fork → PutEnd k now (half C W n b ps) p spare (chosen b f.l f.h) r mid
        from_half r mid sub is ended v =
            ended (half C W n b ps) (chosen b f.l f.h)
            (growing_down k s now ps e spare above f.q n f.l f.h v b sub two (is ∙ ap (λ x. chosen b x high) f.low_is ∙ ap (chosen b (entry k f.l)) f.high_is))

        pub half_refused : (x : Refusal) (mid : Card) (sub : Summary) → sub ≡ chosen b low high → Ended (Err x) mid sub → PutEnd k card ps p spare t (Err x) mid
        half_refused x mid sub is ended =
            moved fork p (Err x) mid f.is (λ v. refused_up k s now ps e spare above f.q n f.l f.h v p (ok v) b two x mid (sym bit) (from_half (Err x) mid sub is ended v))

        pub half_grown : (r g : Grown P) (mid after : Card) (sub other : Summary) → sub ≡ chosen b low high → other ≡ chosen b high low → summary k r.entry ≡ widened k e.page p e → r.used ≡ g.used
            → after ≡ set mid e.page (encode k (directory_view n (chosen b (summary k g.entry) other) (chosen b other (summary k g.entry)))) → Ended (Ok g) mid sub → PutEnd k card ps p spare t (Ok r) after
        half_grown r g mid after sub other is o entry_is used written ended =
            moved fork p (Ok r) after f.is (λ v. grown_up k s now ps e spare above f.q n f.l f.h v p (ok v) r entry_is b g mid after other (sym bit) used (o ∙ ap (λ x. chosen b x low) f.high_is ∙ ap (chosen b (entry k f.h)) f.low_is) written (from_half (Ok g) mid sub is ended v))
