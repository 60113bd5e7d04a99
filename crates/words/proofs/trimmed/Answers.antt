use Rattle.std.proofs.Common.{◌≡◌, ℕ, zero, suc, ◌≤◌, List, [], ◌∷◌, length, take, drop, sym, refl, ap, ◌∙◌, subst, arith, length-drop, string_bytes, rules}
use Rattle.std.specs.Str.{IsUtf8, IsTrimStart, IsTrimEnd, trim_start, trim_end}
use Rattle.std.specs.String.{string_len}
use Rattle.std.proofs.lemmas.Str.{IsCharBoundary-from_take, IsUtf8-string_bytes}
use Rattle.words.proofs.trimmed.Goals as goal

-- where the length stays, nothing comes off the front
none_off : (n : ℕ) (bs : List ℕ) → length bs ≤ length (drop n bs) → drop n bs ≡ bs
none_off zero bs le = refl
none_off (suc n) [] le = refl
none_off (suc n) (b ∷ bs) le = let l = length-drop n bs in absurd (omega arith)

-- what is left of a text with no blanks before it when its end is cut off
left : (bs front r : List ℕ) → IsTrimStart bs front → length bs ≤ length front → IsTrimEnd front r → take (length r) bs ≡ r
left bs front r start long end =
    let same = start.1 ∙ none_off start.0 bs (omega (arith, long, ap length start.1)) in
    ap (take (length r)) (sym same) ∙ ap (λ n. take n front) end.4 ∙ sym end.1

pub truncate-requires : goal.truncate-requires
truncate-requires c le =
    let bs = string_bytes c.args.whole in
    let long : string_len c.args.whole ≡ length bs = search rules in
    let start = subst (λ s. IsTrimStart s c.trim_start-front.result.now) c.as_str.ensures.value c.trim_start-front.ensures.value in
    let is = left bs _ _ start (omega (arith, c.if-front-len.false, c.len.ensures, long)) c.trim_end-end.ensures.value in
    let b = IsCharBoundary-from_take bs (length c.trim_end-end.result.now) (IsUtf8-string_bytes c.args.whole) (omega (arith, le, long)) (subst IsUtf8 (sym is) c.trim_end-end.utf8) in
    (b.0, λ some. b.1)

pub returns : goal.returns
returns c =
    let bs = string_bytes c.args.whole in
    let long : string_len c.args.whole ≡ length bs = search rules in
    let start = subst (λ s. IsTrimStart s c.trim_start-front.result.now) c.as_str.ensures.value c.trim_start-front.ensures.value in
    let is = left bs _ _ start (omega (arith, c.if-front-len.false, c.len.ensures, long)) c.trim_end-end.ensures.value in
    c.truncate.ensures.bytes ∙ is ∙ c.trim_end-end.ensures.trim ∙ ap trim_end (c.trim_start-front.ensures.trim ∙ ap trim_start c.as_str.ensures.value)
