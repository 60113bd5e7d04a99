-- The steps of the loop that works out a corner.
use Rattle.std.proofs.Common.{◌≡◌, ℕ, ◌+◌, ◌<◌, ◌≤◌, List, ◌∷◌, map, length, get_or, drop, ℤ, sym, ap, ◌∙◌}
use Rattle.std.proofs.lemmas.List.{drop_more, drop_all}
use Rattle.zorder.specs.Sharing.{on_each, corner}

module _ {P : Type 0} (coords : P → List ℤ) (f : ℤ → ℤ → ℤ) (xs : List P) (i : ℕ) where
  pub corner_more : (old new : List ℤ) (x : P) → i < length xs → x ≡ get_or xs i x → new ≡ on_each f old (coords x)
      → corner f new (map coords (drop (i + 1) xs)) ≡ corner f old (map coords (drop i xs))
  corner_more old new x h e n =
      let d : drop i xs ≡ x ∷ drop (i + 1) xs = drop_more xs i x h ∙ ap (λ y. y ∷ drop (i + 1) xs) (sym e) in
      ap (λ p. corner f p (map coords (drop (i + 1) xs))) n ∙ sym (ap (λ ys. corner f old (map coords ys)) d)

  pub corner_end : (old : List ℤ) → length xs ≤ i → old ≡ corner f old (map coords (drop i xs))
  corner_end old h = sym (ap (λ ys. corner f old (map coords ys)) (drop_all i xs h))
