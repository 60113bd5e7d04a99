-- Bytes written into a buffer, one after another.
use Rattle.std.proofs.Common.{◌≡◌, ℕ, ◌+◌, ◌-◌, ◌≤◌, List, ◌++◌, length, take, drop, sym, ap, ◌∙◌, append_assoc, arith, length-append, length-drop, length-take}
use borrow.Rule.Slice.PartMut.{put_mid}
use Rattle.std.proofs.lemmas.List.{take_at, drop_at, drop-drop}
use Rattle.outlines.specs.Records.{Wrote}

pub wrote_part : (at k : ℕ) (xs ys new : List ℕ) → k ≡ length new → ys ≡ new → at + k ≤ length xs → Wrote xs at new (put_mid at k xs ys)
wrote_part at k xs ys new l e room =
    record { room = omega arith; is = ap (λ z. take at xs ++ (z ++ drop k (drop at xs))) e ∙ ap (λ z. take at xs ++ (new ++ z)) (drop-drop k at xs ∙ ap (λ i. drop (at + i) xs) l) }

module _ (before new after : List ℕ) (at : ℕ) (w : Wrote before at new after) where
  front_long : length (take at before) ≡ at
  front_long = let r = w.room in let t = length-take at before in omega arith

  pub wrote_long : length after ≡ length before
  wrote_long =
      let a = ap length w.is in
      let b = length-append (take at before) (new ++ drop (at + length new) before) in
      let c = length-append new (drop (at + length new) before) in
      let d = length-drop (at + length new) before in
      let f = front_long in
      let r = w.room in
      omega arith

  -- as front, new bytes and the rest, put together the other way
  other : after ≡ (take at before ++ new) ++ drop (at + length new) before
  other = w.is ∙ sym (append_assoc (take at before) new (drop (at + length new) before))

  long : length (take at before ++ new) ≡ at + length new
  long = let a = length-append (take at before) new in let f = front_long in omega arith

  -- what stands past the new bytes
  pub wrote_past : (end : ℕ) → at + length new ≤ end → drop end after ≡ drop end before
  wrote_past end le =
      let n = end - (at + length new) in
      let e : (at + length new) + n ≡ end = omega arith in
      ap (λ i. drop i after) (sym e)
      ∙ sym (drop-drop n (at + length new) after)
      ∙ ap (drop n) (ap (drop (at + length new)) other ∙ drop_at (take at before ++ new) (drop (at + length new) before) (at + length new) long)
      ∙ drop-drop n (at + length new) before
      ∙ ap (λ i. drop i before) e

  -- two in a row are one
  pub wrote_then : (next : ℕ) (more last : List ℕ) → next ≡ at + length new → Wrote after next more last → Wrote before at (new ++ more) last
  wrote_then next more last e v =
      let l = length-append new more in
      let g = wrote_long in
      let r = v.room in
      let t : take next after ≡ take at before ++ new = ap (take next) other ∙ take_at (take at before ++ new) (drop (at + length new) before) next (long ∙ sym e) in
      let p : drop (next + length more) after ≡ drop (at + length (new ++ more)) before = wrote_past (next + length more) (omega arith) ∙ ap (λ i. drop i before) (let q : next + length more ≡ at + length (new ++ more) = omega arith in q) in
      record {
        room = omega arith;
        is = v.is ∙ ap (λ z. z ++ (more ++ drop (next + length more) after)) t ∙ ap (λ z. (take at before ++ new) ++ (more ++ z)) p
            ∙ append_assoc (take at before) new (more ++ drop (at + length (new ++ more)) before) ∙ ap (λ z. take at before ++ z) (sym (append_assoc new more (drop (at + length (new ++ more)) before)));
      }
