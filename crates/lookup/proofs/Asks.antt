-- What ask answers on a lawful card.
use Rattle.std.proofs.Common.{◌≡◌, Bool, false, List, [], length, Ok, Err, Result, sym, ap, subst, inr, arith}
use Rattle.refusal.specs.declared.Refusal.{Refusal}
use Rattle.refusal.specs.Numbers.{numbered}
use Rattle.kinds.specs.Kind.{Kind, Sound, On, code_of}
use Rattle.tree.specs.Sets.{live}
use Rattle.tree.specs.Lawful.{Card, Lawful}
use Rattle.tree.specs.Book.{Asks, ask_done}
use Rattle.tree.proofs.Laws.{set_law}
use Rattle.lookup.specs.Asking.{AskAny, FoundOr9}

module _ {P : Type 0} (k : Kind P) (s : Sound k) (card : Card) (set : List P) (w : Lawful k card set) where
  pub ask_none : (p : P) → On k p → set ≡ [] → Asks k (length card) set p (Ok false)
  ask_none p on e = ask_done on (λ h. let a = h.1 in let b = ap length e in omega arith)

  pub ask_found : (p : P) (r : Result Bool Refusal) → On k p → r ≡ Ok (live (code_of k) p set) → Asks k (length card) set p (numbered r)
  ask_found p r on e = subst (λ x. Asks k (length card) set p (numbered x)) (sym e) (ask_done on (set_law P k s set p w.is_set on).live_is)

pub ask_any : {P : Type 0} (k : Kind P) (p : P) (r : Result Bool Refusal) → On k p → FoundOr9 r → AskAny k p r
ask_any k p (Ok b) on f = on
ask_any k p (Err e) on f = inr (on, f)
