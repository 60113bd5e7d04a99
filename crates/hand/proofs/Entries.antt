-- The entry of a data page with the points in the hand.
use Rattle.std.proofs.Common.{◌≡◌, ℕ, List, length, ap, ◌∙◌}
use Rattle.kinds.specs.Kind.{Kind, low_corner, high_corner}
use Rattle.page.specs.declared.entry.Entry.{Entry}
use Rattle.page.specs.Form.{Point, Summary}
use Rattle.page.specs.Checks.{summary}
use Rattle.tree.specs.Laid.{data_at}
use Rattle.tree.specs.Lawful.{entry}

-- an entry is its four parts
pub same_summary : {q q' n n' : ℕ} {l l' h h' : Point} → q ≡ q' → n ≡ n' → l ≡ l' → h ≡ h' → ◌≡◌ {A = Summary} (record { page = q; count = n; low = l; high = h }) (record { page = q'; count = n'; low = l'; high = h' })
same_summary {q} {q'} {n} {n'} {l} {l'} {h} {h'} a b c d =
    let F : ℕ → ℕ → Point → Point → Summary = λ q n l h. record { page = q; count = n; low = l; high = h } in
    ap (λ x. F x n l h) a ∙ ap (λ x. F q' x l h) b ∙ ap (λ x. F q' n' x h) c ∙ ap (λ x. F q' n' l' x) d

-- what `entry` ensures makes the entry of the data page
pub entry_of : {P : Type 0} (k : Kind P) (e : Entry P) (q : ℕ) (xs ys : List P) → xs ≡ ys → e.page ≡ q → e.count ≡ length xs → k.coords e.low ≡ low_corner k xs → k.coords e.high ≡ high_corner k xs
    → summary k e ≡ entry k (data_at q ys)
entry_of k e q xs ys is a b c d = same_summary a (b ∙ ap length is) (c ∙ ap (low_corner k) is) (d ∙ ap (high_corner k) is)
