-- One call on a card, and whole runs of calls, beside the plain book.
use Rattle.std.specs.Prelude.{◌≡◌, ℕ, ◌<◌, ◌≤◌, Bool, ◌⊎◌, List, [], ◌∷◌, ◌++◌, length, Ok, Err, vec_items, Option, Result, Vec, ◌≢◌}
use Rattle.std.specs.List.{ContainsAt as Has, AllByRecursion}
use Rattle.std.specs.declared.alloc.Global.{Global}
use Rattle.refusal.specs.declared.Refusal.{Refusal}
use Rattle.refusal.specs.Numbers.{number, numbered}
use Rattle.zorder.specs.Sharing.{Inside}
use Rattle.kinds.specs.Kind.{Kind, Sound, On, code_of}
use Rattle.page.specs.Form.{times}
use Rattle.tree.specs.Sets.{with_point, without_point}
use Rattle.tree.specs.Laid.{root_shape, root_way, root_beside}
use Rattle.tree.specs.Lawful.{Card, Lawful, KeptBut, begun_card}
use Rattle.tree.specs.Book.{Puts, Takes, Asks, InWindow, PicksFrom, ListsFrom, CountsFrom, Outlines, windowed}
use Rattle.lookup.specs.declared.counts.Tally.{Tally}
use Rattle.lookup.specs.Asking.{AskAny}
use Rattle.lookup.specs.Tallying.{TallySays, TallyAny}
use Rattle.query.specs.declared.window.Window.{Window}
use Rattle.scan.specs.Answers.{WindowAny, InIt}
use Rattle.scan.specs.Listing.{ListBuffer, ListAny}
use Rattle.put.specs.Putting.{PutAny}
use Rattle.take.specs.Taking.{TakeAny}
use Rattle.outlines.specs.Outlining.{OutlineAny}
use Rattle.draft.specs.declared.calls.Call.{Call}
use Rattle.draft.specs.declared.calls.Call.TheVariants as call
use Rattle.draft.specs.declared.calls.Reply.{Reply}
use Rattle.draft.specs.declared.calls.Reply.TheVariants as reply
use Rattle.draft.specs.declared.calls.Halt.{Halt}
use Rattle.draft.specs.declared.calls.Halt.TheVariants.{Room, Refused}

module _ {P : Type 0} (k : Kind P) where
  -- ---- the plain book: a set of points and the number of pages

  module _ (total : ℕ) (set : List P) where
    -- The reply to a call is the book's, and so is the buffer that comes back. The book never answers 9.
    pub data Agrees : Call P → Reply P → Type 0 where
      put_agrees : {p : P} {r : Result Unit Refusal} → Puts k total set p (numbered r) → Agrees (call.Put p) (reply.Put r)
      take_agrees : {p : P} {r : Result Unit Refusal} → Takes k total set p (numbered r) → Agrees (call.Take p) (reply.Take r)
      ask_agrees : {p : P} {r : Result Bool Refusal} → Asks k total set p (numbered r) → Agrees (call.Ask p) (reply.Ask r)
      pick_agrees : {w : Window P} {r : Result (Option P) Refusal} → InWindow k total set w.low w.high PicksFrom (numbered r) → Agrees (call.Pick w) (reply.Pick r)
      list_agrees : {w : Window P} {skip : ℕ} {before after : Vec P Global} {r : Result (ℕ × ℕ) Refusal} → InWindow k total set w.low w.high (ListsFrom skip (length (vec_items before))) (numbered r)
          → ListBuffer k set w.low w.high skip (vec_items before) (vec_items after) r → Agrees (call.List w skip before) (reply.List r after)
      count_agrees : {w : Window P} {r : Result ℕ Refusal} → InWindow k total set w.low w.high CountsFrom (numbered r) → Agrees (call.Count w) (reply.Count r)
      tally_agrees : {r : Result Tally Refusal} → TallySays k total set r → Agrees call.Tally (reply.Tally r)
      outline_agrees : {before after : Vec ℕ Global} {r : Result ℕ Refusal} → Outlines k total set (vec_items before) (numbered r) (vec_items after) → Agrees (call.Outline before) (reply.Outline r after)

    -- The book's next set, from the call's arguments alone: an accepted put adds the point, an accepted take removes it, refused calls and the others keep the set.
    pub data Moves : Call P → List P → Type 0 where
      put_adds : {p : P} → Puts k total set p (Ok tt) → Moves (call.Put p) (with_point (code_of k) p set)
      put_stays : {p : P} {n : ℕ} → Puts k total set p (Err n) → Moves (call.Put p) set
      take_removes : {p : P} → Takes k total set p (Ok tt) → Moves (call.Take p) (without_point (code_of k) p set)
      take_stays : {p : P} {n : ℕ} → Takes k total set p (Err n) → Moves (call.Take p) set
      ask_stays : {p : P} → Moves (call.Ask p) set
      pick_stays : {w : Window P} → Moves (call.Pick w) set
      list_stays : {w : Window P} {skip : ℕ} {buffer : Vec P Global} → Moves (call.List w skip buffer) set
      count_stays : {w : Window P} → Moves (call.Count w) set
      tally_stays : Moves call.Tally set
      outline_stays : {buffer : Vec ℕ Global} → Moves (call.Outline buffer) set

  -- ---- the pages that a call may change

  -- An accepted put: the head, the point's way and at most two free pages. An accepted take: the head, the way and the page beside its last. Nothing else changes a page.
  pub data Changes {before : Card} {set : List P} (w : Lawful k before set) (after : Card) : Call P → Reply P → Type 0 where
    put_changes : {p : P} (used : List ℕ) → length used ≤ 2 → ((q : ℕ) → times q used ≤ times q w.chain) → KeptBut (0 ∷ (root_way k w.root p ++ used)) before after → Changes w after (call.Put p) (reply.Put (Ok tt))
    take_changes : {p : P} → KeptBut (0 ∷ (root_way k w.root p ++ root_beside k w.root p)) before after → Changes w after (call.Take p) (reply.Take (Ok tt))
    no_change : {c : Call P} {r : Reply P} → after ≡ before → Changes w after c r

  -- One call on a lawful card of `total` pages: the reply is the book's, the card is then lawful for the book's next set, and only the pages that the call may change differ.
  pub record Step (total : ℕ) (before : Card) (set : List P) (c : Call P) (r : Reply P) (after : Card) (next : List P) : Type 0 where
    pub was_whole : length before ≡ total
    pub is_whole : length after ≡ total
    pub was_lawful : Lawful k before set
    pub agrees : Agrees total set c r
    pub moves : Moves total set c next
    pub is_lawful : Lawful k after next
    pub changes : (w : Lawful k before set) → Changes w after c r

  -- A call on any card: the reply is of the call's own kind and one of its listed answers; a refusal keeps pages and buffers, but 9 leaves the buffer of list and outline open.
  pub data Answered (before after : Card) : Call P → Reply P → Type 0 where
    put_answered : {p : P} {r : Result Unit Refusal} → PutAny k p before after r → Answered before after (call.Put p) (reply.Put r)
    take_answered : {p : P} {r : Result Unit Refusal} → TakeAny k p before after r → Answered before after (call.Take p) (reply.Take r)
    ask_answered : {p : P} {r : Result Bool Refusal} → AskAny k p r → after ≡ before → Answered before after (call.Ask p) (reply.Ask r)
    pick_answered : {w : Window P} {r : Result (Option P) Refusal} → WindowAny k w (InIt k w.low w.high) r → after ≡ before → Answered before after (call.Pick w) (reply.Pick r)
    list_answered : {w : Window P} {skip : ℕ} {given back : Vec P Global} {r : Result (ℕ × ℕ) Refusal} → WindowAny k w (λ x. Unit {0}) r → ListAny k w skip (vec_items given) (vec_items back) r → length (vec_items back) ≡ length (vec_items given) → after ≡ before
        → Answered before after (call.List w skip given) (reply.List r back)
    count_answered : {w : Window P} {r : Result ℕ Refusal} → WindowAny k w (λ n. Unit {0}) r → after ≡ before → Answered before after (call.Count w) (reply.Count r)
    tally_answered : {r : Result Tally Refusal} → TallyAny r → after ≡ before → Answered before after call.Tally (reply.Tally r)
    outline_answered : {given back : Vec ℕ Global} {r : Result ℕ Refusal} → OutlineAny (vec_items given) (vec_items back) r → length (vec_items back) ≡ length (vec_items given) → after ≡ before → Answered before after (call.Outline given) (reply.Outline r back)

  -- ---- whole runs

  -- A run of calls: from a card that is lawful for a set, the cards after each call, the replies, the last card and the book's last set.
  pub data Run (total : ℕ) : Card → List Card → List P → List (Call P) → List (Reply P) → Card → List P → Type 0 where
    rests : {card : Card} {set : List P} → length card ≡ total → Lawful k card set → Run total card [] set [] [] card set
    goes : {before after last : Card} {later : List Card} {set next final : List P} {c : Call P} {r : Reply P} {cs : List (Call P)} {rs : List (Reply P)}
        → Step total before set c r after next → Run total after later next cs rs last final → Run total before (after ∷ later) set (c ∷ cs) (r ∷ rs) last final

  -- Some cards, one after each call, and the book's last set, make a run from a card and a set to a last card.
  pub record Runs (total : ℕ) (first : Card) (set : List P) (cs : List (Call P)) (rs : List (Reply P)) (last : Card) : Type 0 where
    pub later : List Card
    pub final : List P
    pub run : Run total first later set cs rs last final

  -- The whole promise: a run from the fresh card and the empty book.
  abbrev pub WholeRun : ℕ → List (Call P) → List (Reply P) → Card → Type 0
  WholeRun total cs rs last = Runs total (begun_card k total) [] cs rs last

-- Why a run was not made: too little room for the replies, or else, with room enough, no card of 2 to 65,535 pages (1).
abbrev pub Halted : ℕ → ℕ → ℕ → Halt → Type 0
Halted total room calls Room = room < calls
Halted total room calls (Refused why) = (calls ≤ room) × (number why ≡ 1) × ((total < 2) ⊎ (65535 < total))

-- ---- what a mill asks of a run

module _ (P : Type 0) where
  -- no call takes the point; no call puts it
  abbrev pub NeverTaken : P → List (Call P) → Type 0
  NeverTaken p cs = AllByRecursion (λ c. c ≢ call.Take p) cs

  abbrev pub NeverPut : P → List (Call P) → Type 0
  NeverPut p cs = AllByRecursion (λ c. c ≢ call.Put p) cs

  -- A point that was put and is not taken afterwards is in the book at the end, and is listed in every window that holds it.
  abbrev pub KeptLaw : Type 0
  KeptLaw = (k : Kind P) → Sound k → (total : ℕ) (first last : Card) (later : List Card) (set final : List P) (cs : List (Call P)) (rs : List (Reply P)) (p : P)
      → Run k total first later set (call.Put p ∷ cs) (reply.Put (Ok tt) ∷ rs) last final → NeverTaken p cs
      → Has final p × ((low high : P) → On k low → On k high → Inside (k.coords low) (k.coords high) (k.coords p) → Has (windowed k low high final) p)

  -- A point that was taken and is not put afterwards is not in the book at the end.
  abbrev pub GoneLaw : Type 0
  GoneLaw = (k : Kind P) → Sound k → (total : ℕ) (first last : Card) (later : List Card) (set final : List P) (cs : List (Call P)) (rs : List (Reply P)) (p : P)
      → Run k total first later set (call.Take p ∷ cs) (reply.Take (Ok tt) ∷ rs) last final → NeverPut p cs → Has final p → ⊥

  -- Runs that end with the same book end with the same tree, whatever their calls and their order.
  abbrev pub SameTreeLaw : Type 0
  SameTreeLaw = (k : Kind P) → Sound k → (one two : ℕ) (first last first' last' : Card) (later later' : List Card) (set set' final : List P) (cs cs' : List (Call P)) (rs rs' : List (Reply P))
      → Run k one first later set cs rs last final → Run k two first' later' set' cs' rs' last' final
      → (w : Lawful k last final) (v : Lawful k last' final) → root_shape w.root ≡ root_shape v.root
