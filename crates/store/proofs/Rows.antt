-- Laws of the pages in a row of bytes.
use Rattle.std.proofs.Common.{◌≡◌, ℕ, ◌+◌, ◌*◌, ◌/◌, ◌<◌, ◌≤◌, ◌≢◌, ◌⊎◌, List, [], ◌++◌, map, length, get_or, take, drop, set, sym, ap, ◌∙◌, inl, inr, ⊎_elim, mul-le-mul_left, mul-suc, arith, rules}
use borrow.Rule.Slice.PartMut.{put_mid}
use Rattle.std.specs.List.{range_with_len}
use Rattle.std.proofs.lemmas.List.{same_lists, places, length-set, get_or-set_same, get_or-set_other, get_or-take, get_or-drop, length-take, length-drop, length-take-le, take_at}
use Rattle.std.proofs.lemmas.Slice.{drop-put_mid}
use Rattle.std.proofs.lemmas.List.FromFn.{length-map-range_with_len, get_or-map-range_with_len}
use Rattle.std.proofs.lemmas.Bool.{cases_eq, cases_lt}
use Rattle.store.specs.Calls.{Whole}
use Rattle.store.specs.Rows.{part, row_pages, left_over}

pub length_rows : (xs : List ℕ) → length (row_pages xs) ≡ length xs / 64
length_rows xs = length-map-range_with_len (part 64 xs) 0 (length xs / 64)

pub get_d_rows : (xs : List ℕ) (i : ℕ) → i < length xs / 64 → get_or (row_pages xs) i [] ≡ part 64 xs i
get_d_rows xs i h = get_or-map-range_with_len (part 64 xs) 0 (length xs / 64) i i [] h (omega arith)

pub length_part : (n : ℕ) (xs : List ℕ) (i : ℕ) → n * i + n ≤ length xs → length (part n xs i) ≡ n
length_part n xs i h = let g : n ≤ length (drop (n * i) xs) = simp length-drop (omega arith) in length-take-le n (drop (n * i) xs) g

pub get_d_part : (n : ℕ) (xs : List ℕ) (i j d : ℕ) → j < n → get_or (part n xs i) j d ≡ get_or xs (n * i + j) d
get_d_part n xs i j d h = get_or-take n (drop (n * i) xs) j d h ∙ get_or-drop (n * i) xs j d

below : (n i p : ℕ) → i < p → n * i + n ≤ n * p
below n i p h = rw (← mul-suc n i) (mul-le-mul_left n h)

apart_by : (i p : ℕ) → i ≢ p → (i < p) ⊎ (p < i)
apart_by i p ne = ⊎_elim inl (λ le. inr (omega arith)) (cases_lt i p)

apart : (n i p j : ℕ) → i ≢ p → j < n → (n * i + j < n * p) ⊎ (n * p + n ≤ n * i + j)
apart n i p j ne h = ⊎_elim (λ a. inl (omega (arith, below n i p a))) (λ a. inr (omega (arith, below n p i a))) (apart_by i p ne)

-- part p of a row written over
pub put_same : (n : ℕ) (xs ys : List ℕ) (p : ℕ) → n * p + n ≤ length xs → length ys ≡ n → part n (put_mid (n * p) n xs ys) p ≡ ys
put_same n xs ys p h e = same_lists _ _ (search (rules, places)) (λ k d l. grind (arith, places))

pub put_other : (n : ℕ) (xs ys : List ℕ) (p i : ℕ) → n * p + n ≤ length xs → n * i + n ≤ length xs → length ys ≡ n → i ≢ p → part n (put_mid (n * p) n xs ys) i ≡ part n xs i
put_other n xs ys p i h k e ne =
    same_lists _ _ (search (rules, places)) (λ j d l. ⊎_elim (λ a. grind (arith, places)) (λ a. grind (arith, places)) (apart n i p j ne (omega (arith, simp length-take at l))))

pub length_put_part : (n : ℕ) (xs ys : List ℕ) (p : ℕ) → n * p + n ≤ length xs → length ys ≡ n → length (put_mid (n * p) n xs ys) ≡ length xs
length_put_part n xs ys p h e = search (rules, places)

-- a list made page by page, with one page changed
pub made_set : (f g : ℕ → List ℕ) (n p : ℕ) (b : List ℕ) → p < n → g p ≡ b → ((i : ℕ) → i < n → i ≢ p → g i ≡ f i) → map g (range_with_len 0 n) ≡ set (map f (range_with_len 0 n)) p b
made_set f g n p b h same other =
    let lf : length (map f (range_with_len 0 n)) ≡ n = length-map-range_with_len f 0 n in
    let lg : length (map g (range_with_len 0 n)) ≡ n = length-map-range_with_len g 0 n in
    same_lists _ _ (lg ∙ sym (length-set _ p b ∙ lf))
    (λ k d l.
    let kn : k < n = omega (arith, lg) in
    let pl : p < length (map f (range_with_len 0 n)) = omega (arith, lf) in
    get_or-map-range_with_len g 0 n k k d kn (omega arith) ∙
    ⊎_elim
    (λ (e : k ≡ p). ap g e ∙ same ∙ sym (rw e (get_or-set_same _ p b d pl)))
    (λ (ne : k ≢ p). other k kn ne ∙ sym (get_or-set_other _ p k b d ne ∙ get_or-map-range_with_len f 0 n k k d kn (omega arith)))
    (cases_eq k p))

-- what a vector holds after a write to its part p of w bytes
pub rewritten : (w p n k : ℕ) (its xs ds ys b : List ℕ) → length xs ≡ n → k ≡ w → ds ≡ xs → ys ≡ b → w * p + w ≤ n → length b ≡ w → take n (put_mid (w * p) k ds ys ++ drop (length (put_mid (w * p) k ds ys)) its) ≡ put_mid (w * p) w xs b
rewritten w p n k its xs ds ys b ln ek ed ey h lb =
    let e : put_mid (w * p) k ds ys ≡ put_mid (w * p) w xs b = cc in
    ap (λ zs. take n (zs ++ drop (length zs) its)) e ∙ take_at (put_mid (w * p) w xs b) (drop (length (put_mid (w * p) w xs b)) its) n (length_put_part w xs b p (omega arith) lb ∙ ln)

pub row_set : (xs b : List ℕ) (p : ℕ) → p < length xs / 64 → length b ≡ 64 → row_pages (put_mid (64 * p) 64 xs b) ≡ set (row_pages xs) p b
row_set xs b p h lb =
    let e : length (put_mid (64 * p) 64 xs b) ≡ length xs = length_put_part 64 xs b p (omega arith) lb in
    ap (λ n. map (part 64 (put_mid (64 * p) 64 xs b)) (range_with_len 0 (n / 64))) e
    ∙ made_set (part 64 xs) (part 64 (put_mid (64 * p) 64 xs b)) (length xs / 64) p b h (put_same 64 xs b p (omega arith) lb)
    (λ i l ne. put_other 64 xs b p i (omega arith) (omega arith) lb ne)

pub row_rest : (xs b : List ℕ) (p : ℕ) → p < length xs / 64 → length b ≡ 64 → left_over (put_mid (64 * p) 64 xs b) ≡ left_over xs
row_rest xs b p h lb =
    let e : length (put_mid (64 * p) 64 xs b) ≡ length xs = length_put_part 64 xs b p (omega arith) lb in
    ap (λ n. drop (64 * (n / 64)) (put_mid (64 * p) 64 xs b)) e ∙ drop-put_mid (64 * p) 64 xs b (64 * (length xs / 64)) (omega arith) (omega arith) lb

pub whole_rows : (xs : List ℕ) → Whole (row_pages xs)
whole_rows xs k h =
    let l : k < length xs / 64 = omega (arith, length_rows xs) in
    ap length (get_d_rows xs k l) ∙ length_part 64 xs k (omega arith)
