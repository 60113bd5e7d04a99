-- The laws of growing and shrinking trees, proved.
use Rattle.std.proofs.Common.{ℕ, ◌+◌, ◌≤◌, List, [], ◌∷◌, ◌++◌, length, Some, None, Option, refl, ap, ◌∙◌, inl, inr, arith}
use Rattle.std.specs.List.{ContainsAt as Has, AllByRecursion}
use Rattle.std.proofs.ByRecursion.{All-weaker, all_has_itself}
use Rattle.zorder.proofs.Corners.{code_lt}
use Rattle.kinds.specs.Kind.{Kind, wide, code_of}
use Rattle.page.specs.Form.{times}
use Rattle.tree.specs.Sets.{with_point}
use Rattle.tree.specs.Tree.{OptionalTreeOf, data_pages, directory_pages}
use Rattle.tree.specs.Laid.{Laid, shape, way, beside, root_shape}
use Rattle.tree.specs.Lawful.{parts}
use Rattle.tree.proofs.Counts.{one_same, times_append}
use Rattle.tree.proofs.Halves.{absent_from}
use Rattle.tree.proofs.Trees.{halved_one}
use Rattle.tree.proofs.Standings.{laid_pages}
use Rattle.tree.proofs.Laws.{fits}
use Rattle.growth.specs.Laws.{PutLaw, TakeLaw}
use Rattle.growth.proofs.Puts.{grows_some, grows_halved, grows_new, grows_times, grows_count, grows_parts}
use Rattle.growth.proofs.Takes.{shrinks_some, shrinks_halved, shrinks_times, shrinks_freed, shrinks_parts, Freed, Left}

-- each number of a list stands in it
pub all_there : (xs : List ℕ) → AllByRecursion (λ q. 1 ≤ times q xs) xs
all_there [] = tt
all_there (x ∷ xs) = (let e = one_same x x refl in omega arith, All-weaker _ _ (λ q h. omega arith) xs (all_there xs))

pub there_left : (xs ys : List ℕ) → AllByRecursion (λ q. 1 ≤ times q (xs ++ ys)) xs
there_left xs ys = All-weaker _ _ (λ q h. let a = times_append q xs ys in omega arith) xs (all_there xs)

pub there_right : (xs ys : List ℕ) → AllByRecursion (λ q. 1 ≤ times q (xs ++ ys)) ys
there_right xs ys = All-weaker _ _ (λ q h. let a = times_append q xs ys in omega arith) ys (all_there ys)

pub put_law : (P : Type 0) → PutLaw P
put_law P k s ps t p f g set whole on new =
    let C = code_of k in
    let W = wide k in
    let B = k.capacity in
    let out = absent_from C p ps new in
    let (u, n, gr) = grows_some C W B s.room p f g ps t whole set.rising (fits k s ps set.on) out (code_lt k.axes s.narrow (k.coords p) on) in
    let is = grows_halved C W B s.room p f g ps gr whole set.rising out in
    let v = way C W t p in
    record {
      made = u;
      new = n;
      grown = gr;
      is = is;
      none_or_both = grows_new C W B p f g gr;
      each = λ q. grows_times C W B p f g q gr;
      count = grows_count C W B p f g gr;
      pages = λ v h. ap (λ x. data_pages x + directory_pages x) (halved_one C W B (with_point C p ps) v (shape u) h is) ∙ laid_pages u ∙ grows_count C W B p f g gr;
      others = grows_parts k p f g (λ q. 1 ≤ times q (n ++ v)) (Has (parts k t)) gr (there_left n v) (there_right n v) (all_has_itself (parts k t));
    }

few : {P : Type 0} (code : P → ℕ) (w b : ℕ) (p : P) (u : Option (Laid P)) (freed : List ℕ) → Freed code w b p u freed → length freed ≤ 2
few code w b p None freed h = omega arith
few code w b p (Some t) freed (inl h) = omega arith
few code w b p (Some t) freed (inr h) = omega arith

left_tree : {P : Type 0} (k : Kind P) (ps : List P) (u : Option (Laid P)) → Left (code_of k) (wide k) k.capacity u ps → OptionalTreeOf k ps (root_shape u)
left_tree k ps None e = e
left_tree k ps (Some t) h = h

pub take_law : (P : Type 0) → TakeLaw P
take_law P k s ps t p set whole on =
    let C = code_of k in
    let W = wide k in
    let B = k.capacity in
    let (u, freed, sh) = shrinks_some C W B s.room p ps t whole set.rising on in
    let v = way C W t p in
    let z = beside C W t p in
    let r = shrinks_parts k s.room p (λ q. 1 ≤ times q (v ++ z)) (Has (parts k t)) ps [] sh whole set.rising on (there_left v z) (there_right v z) (all_has_itself (parts k t)) in
    record {
      made = u;
      freed = freed;
      shrunk = sh;
      is = left_tree k _ u (shrinks_halved C W B s.room p ps sh whole set.rising on);
      few = few C W B p u freed (shrinks_freed C W B p sh);
      each = λ q. shrinks_times C W B p q sh;
      others = r.0;
      freed_there = r.1;
    }
