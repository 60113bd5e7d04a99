-- Laws of the pages on two boards.
use Rattle.std.proofs.Common.{◌≡◌, ℕ, suc, ◌+◌, ◌*◌, ◌/◌, ◌<◌, ◌≤◌, min, List, [], ◌∷◌, map, length, get_or, take, drop, set, sym, refl, ap, ◌∙◌, arith}
use borrow.Rule.Slice.PartMut.{put_mid}
use Rattle.std.specs.List.{range_with_len}
use Rattle.std.proofs.lemmas.Slice.{drop-put_mid}
use Rattle.std.proofs.lemmas.List.FromFn.{length-map-range_with_len, get_or-map-range_with_len}
use Rattle.store.specs.Calls.{Whole}
use Rattle.store.specs.Rows.{part}
use Rattle.store.specs.Twins.{weave, twin_count, twin_pages, twin_rest}
use Rattle.store.proofs.Rows.{length_part, put_same, put_other, length_put_part, made_set}

pub length_twins : (es os : List ℕ) → length (twin_pages es os) ≡ min (length es / 32) (length os / 32)
length_twins es os = length-map-range_with_len (λ i. weave (part 32 es i) (part 32 os i)) 0 (min (length es / 32) (length os / 32))

pub get_d_twins : (es os : List ℕ) (i : ℕ) → i < min (length es / 32) (length os / 32) → get_or (twin_pages es os) i [] ≡ weave (part 32 es i) (part 32 os i)
get_d_twins es os i h = get_or-map-range_with_len (λ i. weave (part 32 es i) (part 32 os i)) 0 (min (length es / 32) (length os / 32)) i i [] h (omega arith)

pub length_weave : (xs ys : List ℕ) → length xs ≡ length ys → length (weave xs ys) ≡ 2 * length xs
length_weave [] ys e = refl
length_weave (x ∷ xs) [] e = omega arith
length_weave (x ∷ xs) (y ∷ ys) e = omega (arith, length_weave xs ys (omega arith))

double_suc : (k : ℕ) → 2 * suc k ≡ suc (suc (2 * k))
double_suc k = omega arith

double_suc_one : (k : ℕ) → suc (suc (2 * k + 1)) ≡ 2 * suc k + 1
double_suc_one k = omega arith

-- a list that has the bytes of two lists in turn
pub woven : (b xs ys : List ℕ) → length xs ≡ length ys → length b ≡ 2 * length xs → ((k : ℕ) → k < length xs → (get_or b (2 * k) 0 ≡ get_or xs k 0) × (get_or b (2 * k + 1) 0 ≡ get_or ys k 0)) → b ≡ weave xs ys
woven [] [] ys e l f = refl
woven (p ∷ b) [] ys e l f = absurd (omega arith)
woven [] (x ∷ xs) ys e l f = absurd (omega arith)
woven (p ∷ b) (x ∷ xs) [] e l f = absurd (omega arith)
woven (p ∷ []) (x ∷ xs) (y ∷ ys) e l f = absurd (omega arith)
woven (p ∷ q ∷ b) (x ∷ xs) (y ∷ ys) e l f =
    let h : (p ≡ x) × (q ≡ y) = f 0 (omega arith) in
    let r : b ≡ weave xs ys = woven b xs ys (omega arith) (omega arith) (λ k lt.
    let g : (get_or (p ∷ q ∷ b) (suc (suc (2 * k))) 0 ≡ get_or xs k 0) × (get_or (p ∷ q ∷ b) (suc (suc (2 * k + 1))) 0 ≡ get_or ys k 0) =
    (ap (λ n. get_or (p ∷ q ∷ b) n 0) (sym (double_suc k)) ∙ (f (suc k) (omega arith)).0, ap (λ n. get_or (p ∷ q ∷ b) n 0) (double_suc_one k) ∙ (f (suc k) (omega arith)).1) in g) in
    let e1 = h.0 in let e2 = h.1 in cc

pub whole_twins : (es os : List ℕ) → Whole (twin_pages es os)
whole_twins es os k h =
    let l : k < min (length es / 32) (length os / 32) = omega (arith, length_twins es os) in
    let a : length (part 32 es k) ≡ 32 = length_part 32 es k (omega arith) in
    let b : length (part 32 os k) ≡ 32 = length_part 32 os k (omega arith) in
    ap length (get_d_twins es os k l) ∙ omega (arith, length_weave (part 32 es k) (part 32 os k) (omega arith))

pub twin_set : (es os e o b : List ℕ) (p : ℕ) → p < min (length es / 32) (length os / 32) → length e ≡ 32 → length o ≡ 32 → weave e o ≡ b → twin_pages (put_mid (32 * p) 32 es e) (put_mid (32 * p) 32 os o) ≡ set (twin_pages es os) p b
twin_set es os e o b p h le lo w =
    let es' = put_mid (32 * p) 32 es e in
    let os' = put_mid (32 * p) 32 os o in
    let le' : length es' ≡ length es = length_put_part 32 es e p (omega arith) le in
    let lo' : length os' ≡ length os = length_put_part 32 os o p (omega arith) lo in
    ap (λ n. map (λ i. weave (part 32 es' i) (part 32 os' i)) (range_with_len 0 (min (n / 32) (length os' / 32)))) le'
    ∙ ap (λ n. map (λ i. weave (part 32 es' i) (part 32 os' i)) (range_with_len 0 (min (length es / 32) (n / 32)))) lo'
    ∙ made_set (λ i. weave (part 32 es i) (part 32 os i)) (λ i. weave (part 32 es' i) (part 32 os' i)) (min (length es / 32) (length os / 32)) p b h
    (let x = put_same 32 es e p (omega arith) le in let y = put_same 32 os o p (omega arith) lo in cc)
    (λ i l ne. let x = put_other 32 es e p i (omega arith) (omega arith) le ne in let y = put_other 32 os o p i (omega arith) (omega arith) lo ne in cc)

-- what a read of two boards gives, as the code has it
pub twin_read : (es os ds dt : List ℕ) (n p : ℕ) → n ≡ 32 → ds ≡ es → dt ≡ os → p < min (length es / 32) (length os / 32) → weave (take n (drop (32 * p) ds)) (take n (drop (32 * p) dt)) ≡ get_or (twin_pages es os) p []
twin_read es os ds dt n p en ed et h = let g = get_d_twins es os p h in cc

-- what a write to two boards leaves, as the code has it
pub twin_written : (es os es' os' e o b : List ℕ) (p : ℕ) → es' ≡ put_mid (32 * p) 32 es e → os' ≡ put_mid (32 * p) 32 os o → p < min (length es / 32) (length os / 32) → length e ≡ 32 → length o ≡ 32 → weave e o ≡ b → twin_pages es' os' ≡ set (twin_pages es os) p b
twin_written es os es' os' e o b p x y h le lo w =
    ap (λ z. twin_pages z os') x ∙ ap (λ z. twin_pages (put_mid (32 * p) 32 es e) z) y ∙ twin_set es os e o b p h le lo w

-- the bytes past the first m halves of a board, after a write to one of these halves
board_rest : (n m p : ℕ) (xs xs' h : List ℕ) → n ≡ m → xs' ≡ put_mid (32 * p) 32 xs h → p < m → 32 * m ≤ length xs → length h ≡ 32 → drop (32 * n) xs' ≡ drop (32 * m) xs
board_rest n m p xs xs' h en x lt le lh =
    ap (λ k. drop (32 * k) xs') en ∙ ap (drop (32 * m)) x ∙ drop-put_mid (32 * p) 32 xs h (32 * m) (omega arith) (omega arith) lh

same_count : (es os es' os' : List ℕ) → length es' ≡ length es → length os' ≡ length os → twin_count es' os' ≡ twin_count es os
same_count es os es' os' a b = cc

both : (x y v w : List ℕ) → x ≡ v → y ≡ w → ◌≡◌ {A = List ℕ × List ℕ} (x, y) (v, w)
both x y v w a b = ap (λ z. (z, y)) a ∙ ap (λ z. (v, z)) b

-- what either board keeps past the last page's half, as the code has it
pub twin_rest_kept : (es os es' os' e o : List ℕ) (p : ℕ) → es' ≡ put_mid (32 * p) 32 es e → os' ≡ put_mid (32 * p) 32 os o → p < twin_count es os → length e ≡ 32 → length o ≡ 32 → twin_rest es' os' ≡ twin_rest es os
twin_rest_kept es os es' os' e o p x y h le lo =
    let n : twin_count es' os' ≡ twin_count es os =
    same_count es os es' os' (ap length x ∙ length_put_part 32 es e p (omega arith) le) (ap length y ∙ length_put_part 32 os o p (omega arith) lo) in
    both _ _ _ _ (board_rest _ _ p es es' e n x h (omega arith) le) (board_rest _ _ p os os' o n y h (omega arith) lo)
