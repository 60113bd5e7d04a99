-- A call's step from what its own method promises.
use Rattle.std.proofs.Common.{◌≡◌, ℕ, List, length, drop, Ok, Err, vec_items, vec_len, Result, Vec, sym, refl, ap, ◌∙◌, subst, arith, take_all}
use lib.Seq.{take-append-le}
use Rattle.std.specs.Vec.{with_items}
use Rattle.std.specs.declared.alloc.Global.{Global}
use Rattle.refusal.specs.declared.Refusal.{Refusal}
use Rattle.kinds.specs.Kind.{Kind, code_of}
use Rattle.tree.specs.Sets.{with_point, without_point}
use Rattle.tree.specs.Lawful.{Card, Lawful}
use Rattle.tree.specs.Book.{InWindow, ListsFrom, Outlines}
use Rattle.refusal.specs.Numbers.{numbered}
use Rattle.query.specs.declared.window.Window.{Window}
use Rattle.scan.specs.Answers.{WindowAny}
use Rattle.scan.specs.Listing.{ListBuffer, ListAny}
use Rattle.outlines.specs.Outlining.{OutlineAny}
use Rattle.put.specs.Putting.{PutStep}
use Rattle.take.specs.Taking.{TakeStep}
use Rattle.draft.specs.declared.calls.Call.{Call}
use Rattle.draft.specs.declared.calls.Call.TheVariants as call
use Rattle.draft.specs.declared.calls.Reply.{Reply}
use Rattle.draft.specs.declared.calls.Reply.TheVariants as reply
use Rattle.draft.specs.Runs.{Agrees, put_agrees, take_agrees, Moves, put_adds, put_stays, take_removes, take_stays, put_changes, take_changes, no_change, Step, list_agrees, outline_agrees, Answered, list_answered, outline_answered}

module _ {P : Type 0} (k : Kind P) (before after : Card) (set : List P) (was : Lawful k before set) where
  -- a call with its next set
  abbrev pub Stepped : Call P → Reply P → Type 0
  Stepped c r = (next : List P) × Step k (length before) before set c r after next

  pub put_steps : (p : P) (r : Result Unit Refusal) → ((w : Lawful k before set) → PutStep k before set w p r after) → Stepped (call.Put p) (reply.Put r)
  put_steps p (Ok u) f =
      let d = (f was).leaves in (
        with_point (code_of k) p set,
        record {
          was_whole = refl;
          is_whole = d.kept.same_size;
          was_lawful = was;
          agrees = put_agrees (f was).answers;
          moves = put_adds (f was).answers;
          is_lawful = d.lawful;
          changes = λ w. let e = (f w).leaves in put_changes e.used e.few e.free e.kept;
        },
      )
  put_steps p (Err x) f =
      let same = (f was).leaves in (
        set,
        record {
          was_whole = refl;
          is_whole = ap length same;
          was_lawful = was;
          agrees = put_agrees (f was).answers;
          moves = put_stays (f was).answers;
          is_lawful = subst (λ c. Lawful k c set) (sym same) was;
          changes = λ w. no_change same;
        },
      )

  pub take_steps : (p : P) (r : Result Unit Refusal) → ((w : Lawful k before set) → TakeStep k before set w p r after) → Stepped (call.Take p) (reply.Take r)
  take_steps p (Ok u) f =
      let d = (f was).leaves in (
        without_point (code_of k) p set,
        record {
          was_whole = refl;
          is_whole = d.kept.same_size;
          was_lawful = was;
          agrees = take_agrees (f was).answers;
          moves = take_removes (f was).answers;
          is_lawful = d.lawful;
          changes = λ w. take_changes (f w).leaves.kept;
        },
      )
  take_steps p (Err x) f =
      let same = (f was).leaves in (
        set,
        record {
          was_whole = refl;
          is_whole = ap length same;
          was_lawful = was;
          agrees = take_agrees (f was).answers;
          moves = take_stays (f was).answers;
          is_lawful = subst (λ c. Lawful k c set) (sym same) was;
          changes = λ w. no_change same;
        },
      )

  -- a call that changes no page
  pub stays : (c : Call P) (r : Reply P) → after ≡ before → Agrees k (length before) set c r → Moves k (length before) set c set → Stepped c r
  stays c r same a m = (
    set,
    record {
      was_whole = refl;
      is_whole = ap length same;
      was_lawful = was;
      agrees = a;
      moves = m;
      is_lawful = subst (λ c. Lawful k c set) (sym same) was;
      changes = λ w. no_change same;
    },
  )

-- what a Vec holds after its slice was written
pub refilled_items : {X Z : Type 0} (v : Vec X Z) (ws : List X) → length ws ≡ vec_len v → vec_items (with_items v ws) ≡ ws
refilled_items v ws e = rw (sym e) (take-append-le (length ws) ws (drop (length ws) v.items) (omega arith) ∙ take_all (length ws) ws (omega arith))

pub slice_long : {X Z : Type 0} (v : Vec X Z) (slice ws : List X) → slice ≡ vec_items v → length ws ≡ length slice → length ws ≡ vec_len v
slice_long v slice ws f h = h ∙ ap length f ∙ sym v.ok.0

module _ {P : Type 0} (k : Kind P) where
  -- ---- list and outline write into the buffer that the call carries

  module _ (w : Window P) (skip : ℕ) (v : Vec P Global) (slice ws : List P) (given : slice ≡ vec_items v) (same : length ws ≡ length slice) (r : Result (ℕ × ℕ) Refusal) where
    list_back : vec_items (with_items v ws) ≡ ws
    list_back = refilled_items v ws (slice_long v slice ws given same)

    pub list_agree : (total : ℕ) (set : List P) → InWindow k total set w.low w.high (ListsFrom skip (length slice)) (numbered r) × ListBuffer k set w.low w.high skip slice ws r → Agrees k total set (call.List w skip v) (reply.List r (with_items v ws))
    list_agree total set h =
        list_agrees (subst (λ x. InWindow k total set w.low w.high (ListsFrom skip (length x)) (numbered r)) given h.0)
        (subst (λ x. ListBuffer k set w.low w.high skip x (vec_items (with_items v ws)) r) given (subst (λ y. ListBuffer k set w.low w.high skip slice y r) (sym list_back) h.1))

    pub list_answer : (before after : Card) → WindowAny k w (λ x. Unit {0}) r × ListAny k w skip slice ws r → after ≡ before → Answered k before after (call.List w skip v) (reply.List r (with_items v ws))
    list_answer before after h kept =
        list_answered h.0 (subst (λ x. ListAny k w skip x (vec_items (with_items v ws)) r) given (subst (λ y. ListAny k w skip slice y r) (sym list_back) h.1)) (ap length list_back ∙ same ∙ ap length given) kept

  module _ (v : Vec ℕ Global) (slice ws : List ℕ) (given : slice ≡ vec_items v) (same : length ws ≡ length slice) (r : Result ℕ Refusal) where
    outline_back : vec_items (with_items v ws) ≡ ws
    outline_back = refilled_items v ws (slice_long v slice ws given same)

    pub outline_agree : (total : ℕ) (set : List P) → Outlines k total set slice (numbered r) ws → Agrees k total set (call.Outline v) (reply.Outline r (with_items v ws))
    outline_agree total set h = outline_agrees (subst (λ x. Outlines k total set x (numbered r) (vec_items (with_items v ws))) given (subst (λ y. Outlines k total set slice (numbered r) y) (sym outline_back) h))

    pub outline_answer : (before after : Card) → OutlineAny slice ws r → after ≡ before → Answered k before after (call.Outline v) (reply.Outline r (with_items v ws))
    outline_answer before after h kept =
        outline_answered (subst (λ x. OutlineAny x (vec_items (with_items v ws)) r) given (subst (λ y. OutlineAny slice y r) (sym outline_back) h)) (ap length outline_back ∙ same ∙ ap length given) kept
