use Rattle.std.proofs.Common.{◌≡◌, ℕ, ℤ, negsuc, refl, arith, lit<, lit≤}
use Rattle.std.proofs.lemmas.Int.{ints}
use Rattle.zorder.specs.Code.{woven}
use Rattle.needle.specs.Shogs.{OnShogs, Splits}
use Rattle.kinds.specs.Edges.{SplitsInto}
use Rattle.kinds.proofs.edges_stand.Goals as goal

only_one : (shog whole : ℤ) (half : ℕ) → Splits shog whole half → (w : ℤ) (h : ℕ) → Splits shog w h → (w ≡ whole) × (h ≡ half)
only_one shog whole half s w h t =
    let e = s.back in
    let f = t.back in
    let p = s.is_half in
    let q = t.is_half in
    (omega (arith, ints), omega (arith, ints))

into : (shog whole : ℤ) (half : ℕ) → OnShogs shog → Splits shog whole half → SplitsInto shog whole half
into shog whole half o s = record { on_axis = o; splits = s; only = only_one shog whole half s }

pub returns : goal.returns
unfolding woven
returns c = record {
  lowest = refl;
  minus_one = refl;
  zero_shog = refl;
  plus_one = refl;
  highest = refl;
  bar_zero = refl;
  one_shared = record { within = lit≤ tt; agree = refl; differ = λ lt e. let z : ◌≡◌ {A = ℕ} 0 1 = e in omega arith };
  split_minus_one = into (negsuc 0) (negsuc 0) 1 (omega (arith, ints), omega (arith, ints))
      (record { not_above = omega (arith, ints); next_above = omega (arith, ints); back = refl; is_half = lit< tt });
  split_least = into (negsuc 2047) (negsuc 1023) 0 (omega (arith, ints), omega (arith, ints))
      (record { not_above = omega (arith, ints); next_above = omega (arith, ints); back = refl; is_half = lit< tt });
}
