-- A take from a data page.
use Rattle.std.proofs.Common.{◌≡◌, ℕ, ◌<◌, ◌≤◌, true, not, eqb, List, [], map, length, set, Some, None, sym, refl, subst, arith}
use Rattle.std.proofs.lemmas.List.{get_or-set_same, nil_from_length}
use Rattle.std.proofs.lemmas.List.Filters.{length-filter_both}
use Rattle.kinds.specs.Kind.{Kind, code_of}
use Rattle.page.specs.declared.entry.Entry.{Entry}
use Rattle.page.specs.Form.{data_view, encode}
use Rattle.page.specs.Checks.{summary}
use Rattle.tree.specs.Sets.{live, without_point}
use Rattle.tree.specs.Laid.{data_at}
use Rattle.tree.specs.Lawful.{Card, entry}
use Rattle.growth.specs.Shrinks.{emptied, fewer}
use Rattle.growth.proofs.Kept.{set_kept}
use Rattle.take.specs.declared.taken.Taken.TheVariants.{Gone, Left}
use Rattle.take.specs.Shrinking.{Shrunk}

-- no more points are left than there were
pub few_left : {P : Type 0} (code : P → ℕ) (p : P) (ps : List P) → length (without_point code p ps) ≤ length ps
few_left code p ps = let a = length-filter_both (λ q. not (eqb (code p) (code q))) (λ q. not (not (eqb (code p) (code q)))) (λ q. refl) ps in omega arith

module _ {P : Type 0} (k : Kind P) (card : Card) (ps : List P) (p : P) (q : ℕ) where
  -- the last point is taken: nothing is written
  pub leaf_gone : live (code_of k) p ps ≡ true → length (without_point (code_of k) p ps) ≡ 0 → Shrunk k card ps p (data_at q ps) (Gone q) card
  leaf_gone on none = record {
    was_live = on;
    left = None;
    shrinks = emptied (nil_from_length (without_point (code_of k) p ps) none);
    leaves = tt;
    shows = tt;
    kept = record { same_size = refl; kept = λ r e. refl };
  }

  -- points are left, and the page has them
  pub leaf_left : (e : Entry P) (after : Card) → live (code_of k) p ps ≡ true → 1 ≤ length (without_point (code_of k) p ps) → q < length card → summary k e ≡ entry k (data_at q (without_point (code_of k) p ps))
      → after ≡ set card q (encode k (data_view (map k.coords (without_point (code_of k) p ps)))) → Shrunk k card ps p (data_at q ps) (Left e None) after
  leaf_left e after on some there is written =
      let bytes = encode k (data_view (map k.coords (without_point (code_of k) p ps))) in
      subst (Shrunk k card ps p (data_at q ps) (Left e None)) (sym written) (record {
        was_live = on;
        left = Some (data_at q (without_point (code_of k) p ps));
        shrinks = fewer some;
        leaves = is;
        shows = (get_or-set_same card q bytes [] there, tt);
        kept = set_kept card q bytes;
      })
