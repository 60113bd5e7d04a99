-- The worked example, by computation.
use Rattle.std.proofs.Common.{◌≡◌, ℕ, zero, suc, ◌+◌, ◌<◌, ◌≤◌, Bool, true, false, cond, ◌&&◌, ltb, leb, List, [], ◌∷◌, map, Some, sym, refl, subst, arith, lit≤}
use Rattle.std.specs.List.{range_with_len, AllByRecursion}
use Rattle.std.proofs.lemmas.Int.{ints}
use Rattle.std.proofs.ByRecursion.{All-weaker, All-map}
use Rattle.std.proofs.lemmas.Bool.{ltb-true}
use Rattle.zorder.specs.Code.{woven}
use Rattle.zorder.specs.Halves.{half, Rising}
use Rattle.kinds.specs.Kind.{On, wide, code_of}
use Rattle.kinds.specs.Lay.{lay_kind}
use Rattle.page.specs.Form.{times}
use Rattle.tree.specs.Sets.{IsSet}
use Rattle.tree.specs.Tree.{leaf, node, Depth, halves, one_page, TreeOf}
use Rattle.tree.specs.Example.{row, example_tree, Example}
use Rattle.tree.proofs.Counts.{past_range, one_other}

-- codes that rise from one to the next rise altogether
abbrev pub ascends : List ℕ → Bool
ascends [] = true
ascends (x ∷ []) = true
ascends (x ∷ (y ∷ ys)) = ltb x y && ascends (y ∷ ys)

module _ {X : Type 0} (code : X → ℕ) where
  above_all : (x : X) (xs : List X) → Rising code xs → (y : ℕ) → y < code x → AllByRecursion (λ z. code x < code z) xs → AllByRecursion (λ z. y < code z) (x ∷ xs)
  above_all x xs r y lt all = (lt, All-weaker _ _ (λ z h. omega arith) xs all)

  pub rises : (xs : List X) → ascends (map code xs) ≡ true → Rising code xs
  rises [] e = tt
  rises (x ∷ []) e = (tt, tt)
  rises (x ∷ (y ∷ ys)) e =
      let rest = rises (y ∷ ys) (second (ltb (code x) (code y)) (ascends (map code (y ∷ ys))) e) in
      let lt : code x < code y = ltb-true _ _ (first (ltb (code x) (code y)) (ascends (map code (y ∷ ys))) e) in
      (above_all y ys rest.1 (code x) lt rest.0, rest)
    where
      first : (a b : Bool) → a && b ≡ true → a ≡ true
      first true b e = refl
      first false b e = e

      second : (a b : Bool) → a && b ≡ true → b ≡ true
      second true b e = e
      second false true e = refl
      second false false e = e

below_all : (a n m : ℕ) → a + n ≤ m → AllByRecursion (λ c. c < m) (range_with_len a n)
below_all a zero m h = tt
below_all a (suc n) m h = (omega arith, below_all (a + 1) n m (omega arith))

on_row : (a n : ℕ) → a + n ≤ 65536 → AllByRecursion (On lay_kind) (row a n)
on_row a n h = All-map (On lay_kind) _ (range_with_len a n) (All-weaker _ _ (λ c lt. ((omega (arith, ints), omega (arith, ints)), ((omega (arith, ints), omega (arith, ints)), tt))) (range_with_len a n) (below_all a n 65536 h))

sixteen : IsSet lay_kind (row 0 16)
unfolding woven
sixteen = record { rising = rises (code_of lay_kind) (row 0 16) refl; on = on_row 0 16 (omega arith) }

depth : Depth (code_of lay_kind) (wide lay_kind) 24 (row 0 16)
unfolding woven
depth = record {
  within = lit≤ tt;
  agree = (refl, (refl, (refl, (refl, (refl, (refl, (refl, (refl, (refl, (refl, (refl, (refl, (refl, (refl, (refl, tt)))))))))))))));
  differ = λ lt all. let z : ◌≡◌ {A = ℕ} 0 1 = all.1.1.1.1.1.1.1.0 in omega arith;
}

low_half : half (code_of lay_kind) (wide lay_kind) 24 0 (row 0 16) ≡ row 0 8
unfolding woven
low_half = refl

high_half : half (code_of lay_kind) (wide lay_kind) 24 1 (row 0 16) ≡ row 8 8
unfolding woven
high_half = refl

the_tree : TreeOf lay_kind (row 0 16) (node 24 (leaf (row 0 8)) (leaf (row 8 8)))
the_tree =
    halves (lit≤ tt) depth
    (subst (λ ps. TreeOf lay_kind ps (leaf (row 0 8))) (sym low_half) (one_page (lit≤ tt) (lit≤ tt)))
    (subst (λ ps. TreeOf lay_kind ps (leaf (row 8 8))) (sym high_half) (one_page (lit≤ tt) (lit≤ tt)))

once : (q : ℕ) → times q (1 ∷ (2 ∷ (3 ∷ []))) ≡ cond (leb 1 q && ltb q 4) 1 0
once zero = refl
once (suc zero) = refl
once (suc (suc zero)) = refl
once (suc (suc (suc zero))) = refl
once (suc (suc (suc (suc q)))) =
    let n = suc (suc (suc (suc q))) in
    let a = one_other n 1 (λ e. omega arith) in
    let b = one_other n 2 (λ e. omega arith) in
    let c = one_other n 3 (λ e. omega arith) in
    let d = past_range n 4 (omega arith) in
    omega arith

pub example : Example
example = record {
  tree = the_tree;
  card = record {
    root = Some example_tree;
    chain = [];
    size = (lit≤ tt, lit≤ tt);
    is_set = sixteen;
    head = refl;
    is_tree = the_tree;
    shows = (refl, (refl, (refl, tt)));
    chained = tt;
    each_once = once;
  };
}
