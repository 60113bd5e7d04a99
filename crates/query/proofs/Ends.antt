-- The corners of a query's window.
use Rattle.std.proofs.Common.{◌≡◌, ℕ, zero, suc, ◌+◌, ◌^◌, ◌<◌, ◌≤◌, List, [], ◌∷◌, ◌++◌, map, length, get_or, take, set, ℤ, pos, ◌≤ℤ◌, sym, refl, ap, ◌∙◌, add-one, arith, take_all, pow_pos}
use Rattle.std.proofs.lemmas.Int.{ints}
use Rattle.std.proofs.lemmas.List.FromFn.{fill_by_all}
use Rattle.std.proofs.lemmas.List.{take_more_set}
use Rattle.std.specs.List.{range_with_len}
use Rattle.zorder.specs.Code.{Axis, OnAxis, OnAxes}
use Rattle.zorder.specs.Sharing.{Under, Inside}
use Rattle.query.specs.declared.choice.Choice.{Choice}
use Rattle.query.specs.declared.choice.Choice.TheVariants.{Any, One, Range}
use Rattle.query.specs.Queries.{Chooses, Selects, Names, QueryOn, greatest, low_end, high_end}

-- a list is its elements
pub spelled : (n : ℕ) (zs : List ℤ) → length zs ≡ n → zs ≡ map (λ i. get_or zs i (pos 0)) (range_with_len 0 n)
spelled n zs e = fill_by_all (λ i. get_or zs i (pos 0)) zs n (pos 0) e (λ k h. refl)

-- the low and the high end of a choice on an axis
abbrev pub low_of : Axis → Choice → ℤ
low_of a c = low_end a.least c

abbrev pub high_of : Axis → Choice → ℤ
high_of a c = high_end (greatest a) c

-- an end for each axis and choice
abbrev pub ends : (Axis → Choice → ℤ) → List Axis → List Choice → List ℤ
ends f [] cs = []
ends f (a ∷ axs) [] = []
ends f (a ∷ axs) (c ∷ cs) = f a c ∷ ends f axs cs

pub ends_more : (f : Axis → Choice → ℤ) (axs : List Axis) (cs : List Choice) (i : ℕ) (a : Axis) (c : Choice) → i < length axs → i < length cs
    → ends f axs (take (suc i) cs) ≡ ends f axs (take i cs) ++ f (get_or axs i a) (get_or cs i c) ∷ []
ends_more f [] cs i a c h k = absurd (omega arith)
ends_more f (b ∷ axs) [] i a c h k = absurd (omega arith)
ends_more f (b ∷ axs) (d ∷ cs) zero a c h k = ap (λ zs. f b d ∷ zs) (none axs cs)
  where
    none : (axs : List Axis) (cs : List Choice) → ends f axs (take 0 cs) ≡ []
    none [] cs = refl
    none (x ∷ axs) [] = refl
    none (x ∷ axs) (y ∷ cs) = refl
ends_more f (b ∷ axs) (d ∷ cs) (suc i) a c h k = ap (λ zs. f b d ∷ zs) (ends_more f axs cs i a c (omega arith) (omega arith))

-- ---- the window holds exactly the points that the query selects

selected_one : (a : Axis) (c : Choice) (z : ℤ) → low_of a c ≤ℤ z → z ≤ℤ high_of a c → Chooses c z
selected_one a Any z h k = tt
selected_one a (One at) z h k = omega (arith, ints)
selected_one a (Range low high) z h k = (h, k)

inside_one : (a : Axis) (c : Choice) (z : ℤ) → OnAxis a z → Chooses c z → (low_of a c ≤ℤ z) × (z ≤ℤ high_of a c)
inside_one a Any z on h = (on.0, let k = on.1 in omega (arith, ints))
inside_one a (One at) z on h = (omega (arith, ints), omega (arith, ints))
inside_one a (Range low high) z on h = h

pub selected_all : (axs : List Axis) (cs : List Choice) (p : List ℤ) → length cs ≡ length axs → Under (ends low_of axs cs) p → Under p (ends high_of axs cs) → Selects cs p
selected_all [] [] [] e h k = tt
selected_all [] [] (z ∷ zs) e h k = absurd h
selected_all [] (c ∷ cs) p e h k = absurd (omega arith)
selected_all (a ∷ axs) [] p e h k = absurd (omega arith)
selected_all (a ∷ axs) (c ∷ cs) [] e h k = absurd h
selected_all (a ∷ axs) (c ∷ cs) (z ∷ zs) e h k = (selected_one a c z h.0 k.0, selected_all axs cs zs (omega arith) h.1 k.1)

pub inside_all : (axs : List Axis) (cs : List Choice) (p : List ℤ) → OnAxes axs p → Selects cs p → Inside (ends low_of axs cs) (ends high_of axs cs) p
inside_all [] [] [] on s = (tt, tt)
inside_all [] [] (z ∷ zs) on s = absurd on
inside_all [] (c ∷ cs) [] on s = absurd s
inside_all [] (c ∷ cs) (z ∷ zs) on s = absurd on
inside_all (a ∷ axs) [] [] on s = absurd on
inside_all (a ∷ axs) [] (z ∷ zs) on s = absurd s
inside_all (a ∷ axs) (c ∷ cs) [] on s = absurd on
inside_all (a ∷ axs) (c ∷ cs) (z ∷ zs) on s =
    let i = inside_one a c z on.0 s.0 in
    let r = inside_all axs cs zs on.1 s.1 in
    ((i.0, r.0), (i.1, r.1))

-- ---- the corners lie on the axes exactly if every coordinate that is named does

ends_on_one : (a : Axis) (c : Choice) → Names a c → OnAxis a (low_of a c) × OnAxis a (high_of a c)
ends_on_one a Any n = let p : 0 < 2 ^ a.bits = pow_pos a.bits in ((omega (arith, ints), omega (arith, ints)), (omega (arith, ints), omega (arith, ints)))
ends_on_one a (One at) n = (n, n)
ends_on_one a (Range low high) n = n

pub ends_on : (axs : List Axis) (cs : List Choice) → QueryOn axs cs → OnAxes axs (ends low_of axs cs) × OnAxes axs (ends high_of axs cs) × (length cs ≡ length axs)
ends_on [] [] q = (tt, tt, refl)
ends_on [] (c ∷ cs) q = absurd q
ends_on (a ∷ axs) [] q = absurd q
ends_on (a ∷ axs) (c ∷ cs) q =
    let o = ends_on_one a c q.0 in
    let r = ends_on axs cs q.1 in
    let e = r.2 in
    ((o.0, r.0), (o.1, r.1), omega arith)

named_one : (a : Axis) (c : Choice) → OnAxis a (low_of a c) → OnAxis a (high_of a c) → Names a c
named_one a Any l h = tt
named_one a (One at) l h = l
named_one a (Range low high) l h = (l, h)

pub named_all : (axs : List Axis) (cs : List Choice) → length cs ≤ length axs → OnAxes axs (ends low_of axs cs) → OnAxes axs (ends high_of axs cs) → QueryOn axs cs
named_all [] [] e l h = tt
named_all [] (c ∷ cs) e l h = absurd (omega arith)
named_all (a ∷ axs) [] e l h = absurd l
named_all (a ∷ axs) (c ∷ cs) e l h = (named_one a c l.0 h.0, named_all axs cs (omega arith) l.1 h.1)

-- ---- the loop over the axes

pub ends_step : (f : Axis → Choice → ℤ) (axs : List Axis) (cs : List Choice) (i : ℕ) (zs : List ℤ) (x z : ℤ) → i < length axs → i < length cs → i < length zs
    → take i zs ≡ ends f axs (take i cs) → x ≡ z → ((a : Axis) → z ≡ f (get_or axs i a) (get_or cs i Any)) → take (i + 1) (set zs i x) ≡ ends f axs (take (i + 1) cs)
ends_step f axs cs i zs x z ha hc hz e same is =
    let a : Axis = record { least = pos 0; bits = 0; bytes = 0 } in
    take_more_set zs i x hz
    ∙ ap (λ ys. ys ++ x ∷ []) e
    ∙ ap (λ y. ends f axs (take i cs) ++ y ∷ []) (same ∙ is a)
    ∙ sym (ends_more f axs cs i a Any ha hc)
    ∙ ap (λ n. ends f axs (take n cs)) (sym (add-one i))

pub ends_whole : (f : Axis → Choice → ℤ) (axs : List Axis) (cs : List Choice) (i : ℕ) (zs : List ℤ) → i ≡ length cs → take i zs ≡ ends f axs (take i cs) → take (length cs) zs ≡ ends f axs cs
ends_whole f axs cs i zs n e =
    let m : length cs ≡ i = omega arith in
    ap (λ j. take j zs) m ∙ e ∙ ap (ends f axs) (take_all i cs (omega arith))
