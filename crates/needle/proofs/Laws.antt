-- Splitting and joining undo each other.
use Rattle.std.proofs.Common.{◌≡◌, ℕ, ◌<◌, ℤ, Ok, Err, sym, ap, ◌∙◌, subst, arith}
use Rattle.std.proofs.lemmas.Int.{ints}
use Rattle.needle.specs.Shogs.{OnShogs, joined, BackLaw, AgainLaw, GreatestLaw}

pub back : BackLaw
back shog n s (Ok z) j = ap Ok (j.0 ∙ s.1.back)
back shog n s (Err e) j = absurd (j.0 s.1.is_half (subst OnShogs (sym s.1.back) s.0))

-- two ways to split one number
one_whole : (a b : ℤ) (h k : ℕ) → joined a h ≡ joined b k → h < 2 → k < 2 → a ≡ b
one_whole a b h k e p q = omega (arith, ints)

one_half : (a b : ℤ) (h k : ℕ) → joined a h ≡ joined b k → h < 2 → k < 2 → h ≡ k
one_half a b h k e p q = omega (arith, ints)

pub again : AgainLaw
again w h z j (Ok n) s =
    let e : joined n.whole n.half ≡ joined w h = s.1.back ∙ j.0 in
    let a : n.whole ≡ w = one_whole n.whole w n.half h e s.1.is_half j.1 in
    let b : n.half ≡ h = one_half n.whole w n.half h e s.1.is_half j.1 in
    ap (λ x. Ok (record { whole = x; half = n.half })) a ∙ ap (λ x. Ok (record { whole = w; half = x })) b
again w h z j (Err e) s = absurd (s.0 j.2)

pub greatest : GreatestLaw
greatest shog n s other le = let h = s.1.next_above in omega (arith, ints)
