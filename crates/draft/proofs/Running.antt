-- Runs, grown call by call.
use Rattle.std.proofs.Common.{◌≡◌, ℕ, List, [], ◌∷◌, ◌++◌, length, subst}
use Rattle.kinds.specs.Kind.{Kind}
use Rattle.tree.specs.Lawful.{Card, Lawful}
use Rattle.draft.specs.declared.calls.Call.{Call}
use Rattle.draft.specs.declared.calls.Reply.{Reply}
use Rattle.draft.specs.Runs.{Step, Run, rests, goes, Runs}

module _ {P : Type 0} (k : Kind P) (total : ℕ) where
  -- the last card is lawful for the book's last set
  pub run_ends : {first last : Card} {later : List Card} {set final : List P} {cs : List (Call P)} {rs : List (Reply P)} → Run k total first later set cs rs last final → (length last ≡ total) × Lawful k last final
  run_ends (rests n l) = (n, l)
  run_ends (goes s r) = run_ends r

  run_more : {first last after : Card} {later : List Card} {set final next : List P} {cs : List (Call P)} {rs : List (Reply P)} {c : Call P} {r : Reply P}
      → Run k total first later set cs rs last final → Step k total last final c r after next → Run k total first (later ++ after ∷ []) set (cs ++ c ∷ []) (rs ++ r ∷ []) after next
  run_more (rests n l) s = goes s (rests s.is_whole s.is_lawful)
  run_more (goes t r) s = goes t (run_more r s)

  pub runs_start : (card : Card) (set : List P) → length card ≡ total → Lawful k card set → Runs k total card set [] [] card
  runs_start card set n l = record { later = []; final = set; run = rests n l }

  -- one more call
  pub runs_more : {first last after : Card} {set : List P} {cs : List (Call P)} {rs : List (Reply P)} {c : Call P} {r : Reply P}
      → Runs k total first set cs rs last → ((now : List P) → Lawful k last now → (next : List P) × Step k (length last) last now c r after next) → Runs k total first set (cs ++ c ∷ []) (rs ++ r ∷ []) after
  runs_more {first} {last} {after} {set} {cs} {rs} {c} {r} v f =
      let e = run_ends v.run in
      let s = f v.final e.1 in
      record { later = v.later ++ after ∷ []; final = s.0; run = run_more v.run (subst (λ n. Step k n last v.final c r after s.0) e.0 s.1) }
