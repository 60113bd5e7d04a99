-- The steps of the loops that weave a code, at a point as the loops are given it.
use Rattle.std.proofs.Common.{◌≡◌, ℕ, ◌+◌, ◌-◌, ◌*◌, ◌/◌, ◌^◌, ◌<◌, ◌≤◌, List, [], ◌∷◌, length, get_or, drop, sym, ap, ◌∙◌, ap₂, refl, arith}
use lib.Bits.{bit_and}
use lib.ListN.{length-map}
use Rattle.std.proofs.lemmas.List.{get_or-map, drop_more, drop_all}
use Rattle.std.proofs.ByRecursion.{All-get_or}
use Rattle.std.specs.List.{AllByRecursion}
use Rattle.zorder.specs.Code.{digits, turns, after}
use Rattle.zorder.specs.Raising.{widths_of, values_of}
use Rattle.zorder.specs.declared.weave.Raised.{Raised}
use Rattle.zorder.proofs.Weaving as weaving

-- an axis has a width for each coordinate
pub same : (ps : List Raised) → length (widths_of ps) ≡ length (values_of ps)
same ps = rw (length-map, length-map) refl

abbrev pub blank : Raised
blank = record { width = 0; value = 0 }

-- the width at a place, and what is left of the widths from there on
pub width_at : (ps : List Raised) (i : ℕ) → i < length ps → get_or (widths_of ps) i 0 ≡ (get_or ps i blank).width
width_at ps i h = get_or-map (λ p. p.width) ps i blank 0 h

pub widths_left : (ps : List Raised) (i : ℕ) → i < length ps → drop i (widths_of ps) ≡ (get_or ps i blank).width ∷ drop (i + 1) (widths_of ps)
widths_left ps i h = drop_more (widths_of ps) i 0 (rw length-map h) ∙ ap (λ w. w ∷ drop (i + 1) (widths_of ps)) (width_at ps i h)

pub no_widths_left : (ps : List Raised) (i : ℕ) → length ps ≤ i → drop i (widths_of ps) ≡ []
no_widths_left ps i h = drop_all i (widths_of ps) (rw length-map h)

-- what bounds all widths bounds the one at a place
pub width_within : (n : ℕ) (ps : List Raised) (i : ℕ) → i < length ps → AllByRecursion (λ k. k ≤ n) (widths_of ps) → (get_or ps i blank).width ≤ n
width_within n ps i h all = let t = All-get_or (λ k. k ≤ n) (widths_of ps) i 0 (rw length-map h) all in omega (arith, width_at ps i h, t)

module _ (r : ℕ) (ps : List Raised) (i : ℕ) (h : i < length ps) where
  abbrev ks : List ℕ
  ks = widths_of ps

  abbrev vs : List ℕ
  vs = values_of ps

  long : i < length ks
  long = rw length-map h

  value_at : get_or vs i 0 ≡ (get_or ps i blank).value
  value_at = get_or-map (λ p. p.value) ps i blank 0 h

  bit_at : (b : ℕ) → b ≡ bit_and ((get_or ps i blank).value / 2 ^ ((get_or ps i blank).width - 1 - r)) 1 → b ≡ bit_and (get_or vs i 0 / 2 ^ (get_or ks i 0 - 1 - r)) 1
  bit_at b e = e ∙ ap₂ (λ (v k : ℕ). bit_and (v / 2 ^ (k - 1 - r)) 1) (sym value_at) (sym (width_at ps i h))

  pub skipped : (m : ℕ) → (get_or ps i blank).width ≤ r → digits m (turns (drop (i + 1) (after r ks)) (drop (i + 1) vs)) ≡ digits m (turns (drop i (after r ks)) (drop i vs))
  skipped m g = weaving.skipped r ks vs i long (same ps) m (rw (width_at ps i h) g)

  pub taken : (m b : ℕ) → r < (get_or ps i blank).width → b ≡ bit_and ((get_or ps i blank).value / 2 ^ ((get_or ps i blank).width - 1 - r)) 1
      → digits (m * 2 + b) (turns (drop (i + 1) (after r ks)) (drop (i + 1) vs)) ≡ digits m (turns (drop i (after r ks)) (drop i vs))
  taken m b g e =
      ap (λ n. digits (m * 2 + n) (turns (drop (i + 1) (after r ks)) (drop (i + 1) vs))) (bit_at b e) ∙ weaving.taken r ks vs i long (same ps) m (rw (width_at ps i h) g)

  -- the code with the next bit fits, where the whole does
  pub bit_fits : (m b whole : ℕ) → r < (get_or ps i blank).width → b ≡ bit_and ((get_or ps i blank).value / 2 ^ ((get_or ps i blank).width - 1 - r)) 1 → digits m (turns (drop i (after r ks)) (drop i vs)) ≡ whole → whole < 2 ^ 64
      → m * 2 + b < 2 ^ 64
  bit_fits m b whole g e w f =
      let t = weaving.bit_fits r ks vs i long (same ps) m whole (rw (width_at ps i h) g) w f in omega (arith, bit_at b e, t)

  -- no axis has more than 32 bits
  pub narrow_at : AllByRecursion (λ k. k ≤ 32) ks → (get_or ps i blank).width ≤ 32
  narrow_at n = width_within 32 ps i h n

pub turns_end : (r : ℕ) (ps : List Raised) (i m : ℕ) → length ps ≤ i → digits m (turns (drop i (after r (widths_of ps))) (drop i (values_of ps))) ≡ m
turns_end r ps i m h = weaving.turns_end r (widths_of ps) (values_of ps) i m (rw length-map h)
