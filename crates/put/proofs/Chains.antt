-- The free chain of a lawful card, as it is read.
use Rattle.std.proofs.Common.{◌≡◌, ℕ, ◌-◌, ◌<◌, ◌≤◌, List, [], ◌∷◌, length, get_or, Some, Ok, Err, ap, ◌∙◌, subst, arith}
use Rattle.std.specs.List.{AllByRecursion}
use Rattle.std.proofs.ByRecursion.{All-weaker}
use Rattle.kinds.specs.Kind.{Kind, Sound}
use Rattle.page.specs.declared.fault.PageFault.{PageFault}
use Rattle.page.specs.declared.fault.PageFault.TheVariants as fault
use Rattle.page.specs.Form.{free_view, encode, times}
use Rattle.page.specs.Fields.{Reads}
use Rattle.page.specs.Checks.{Checked}
use Rattle.page.proofs.Views.{one_view_law, one_same}
use Rattle.tree.specs.Laid.{root_numbers}
use Rattle.tree.specs.Lawful.{Card, page, front, Chained, Lawful}
use Rattle.tree.proofs.Standings.{all_back, all_within}
use Rattle.put.specs.Spares.{SpareOf}

module _ {P : Type 0} (k : Kind P) where
  free_kind : (bs : List ℕ) (next : ℕ) → Reads k bs (free_view next) → 1 ≤ times (get_or bs 0 0) (0 ∷ [])
  unfolding encode
  free_kind bs next r = let a = one_same (get_or bs 0 0) 0 (ap (λ x. get_or x 0 0) r.bytes_are) in omega arith

  -- a free page is read as one
  pub never_strange : {X : Type 0} (bs : List ℕ) (q next : ℕ) (good : X → Type 0) (f : PageFault) → Reads k bs (free_view next) → Checked k {X = X} q (0 ∷ []) bs good (Err f) → ⊥
  never_strange bs q next good (fault.Store e) r c = c
  never_strange bs q next good (fault.Kind e) r c = let a = free_kind bs next r in let b = c.1 in omega arith
  never_strange bs q next good (fault.Field e) r c = c.2 (free_view next) r

  module _ (s : Sound k) (card : Card) where
    -- a chain with a page: it leads to the rest
    pub record Link (first : ℕ) (qs : List ℕ) : Type 0 where
      pub rest : List ℕ
      pub is : qs ≡ first ∷ rest
      pub reads : Reads k (page card first) (free_view (front rest))
      pub chained : Chained k card rest
      pub fit : AllByRecursion (λ q. q < 65536) rest

    front_fits : (qs : List ℕ) → AllByRecursion (λ q. q < 65536) qs → front qs < 65536
    front_fits [] h = omega arith
    front_fits (q ∷ qs) h = h.0

    pub link : (first : ℕ) (qs : List ℕ) → Chained k card qs → AllByRecursion (λ q. q < 65536) qs → 1 ≤ length qs → front qs ≡ first → Link first qs
    link first [] c h some e = absurd (omega arith)
    link first (q ∷ qs) c h some e = record {
      rest = qs;
      is = ap (λ x. x ∷ qs) e;
      reads = subst (λ x. Reads k (page card x) (free_view (front qs))) e (record { fields = front_fits qs h.1; bytes_are = c.0 });
      chained = c.1;
      fit = h.1;
    }

    pub next_is : (first next : ℕ) (qs : List ℕ) (l : Link first qs) → Reads k (page card first) (free_view next) → front l.rest ≡ next
    next_is first next qs l r = let v = one_view_law P k s (page card first) _ _ l.reads r in cc

    module _ (set : List P) (w : Lawful k card set) where
      pub chain_fits : AllByRecursion (λ q. q < 65536) w.chain
      chain_fits = let n = w.size.1 in All-weaker _ _ (λ q lt. omega arith) w.chain (all_back _ (root_numbers w.root) w.chain (all_within k s card set w))

      -- the first page of the chain
      pub first_link : (first : ℕ) → 1 ≤ length w.chain → front w.chain ≡ first → Link first w.chain
      first_link first some e = link first w.chain w.chained chain_fits some e

      -- the second page
      pub second_link : (first leaf : ℕ) → 2 ≤ length w.chain → (l : Link first w.chain) → front l.rest ≡ leaf → Link leaf l.rest
      second_link first leaf two l e = link leaf l.rest l.chained l.fit (let a = ap length l.is in omega arith) e

      pub spare_of : (first free leaf rest : ℕ) (l : Link first w.chain) (m : Link leaf l.rest) → length w.chain ≡ free → front m.rest ≡ rest → SpareOf w.chain (Ok (Some (record { fork = first; leaf = leaf; rest = rest; left = free - 2 })))
      spare_of first free leaf rest l m n e = (m.rest, l.is ∙ ap (λ x. first ∷ x) m.is, e, let a = ap length l.is in let b = ap length m.is in omega arith)
