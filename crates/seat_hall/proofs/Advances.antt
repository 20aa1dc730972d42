-- A commit that goes on with its actor, put together of its items.
use Rattle.std.proofs.Common.{◌≡◌, ℕ, ◌+◌, ◌-◌, ◌<◌, ◌≤◌, ◌==◌, Bool, true, false, List, [], ◌∷◌, ◌++◌, length, Option, Some, None, IfSome, IfNone, refl, sym, ap, ◌∙◌, subst, arith, append-nil, append_assoc}
use Rattle.std.specs.Prelude.{if◌then◌else◌, IsSomeAnd, slice_get}
use Rattle.std.proofs.lemmas.Bool.Decides.{nat_tests}
use Rattle.std.proofs.lemmas.Option.{IfSome_then}
use Rattle.std.proofs.lemmas.List.Elements.{filter-append}
use Rattle.event_rule.specs.Events.{actor_of}
use Rattle.event_rule.specs.declared.event.Event.{Event}
use Rattle.event_rule.specs.declared.event.Event.TheVariants.{Take}
use Rattle.actor_cell.specs.declared.cell.Cell.{Cell}
use Rattle.turn_log.specs.Knowing.{having_written}
use Rattle.turn_log.specs.Seats.{knows}
use Rattle.work_board.specs.declared.answers.Committed.{Committed}
use Rattle.seat_hall.specs.declared.item.Item.{Item}
use Rattle.seat_hall.specs.declared.item.Item.TheVariants.{Claimed, Entered}
use Rattle.seat_hall.specs.declared.task.SeatTask.{SeatTask}
use Rattle.seat_hall.specs.Advances.{Advances, ClaimedOn, Claims, GoesOn, IsNext, IsTakenUp, Reckons, Takes, TakesUp, Took, claiming, hall_by, taking}
use Rattle.seat_hall.specs.Answers.{Enters}
use Rattle.seat_hall.specs.Fair.{after_item, hall_of, start_of}
use Rattle.seat_hall.specs.Halls.{HallView, says}
use Rattle.seat_hall.specs.Log.{Logged, after, by, entry_cause, hall_from, items_by}
use Rattle.seat_hall.specs.Passes.{Calls, HasItsCell, IsAtHall, KeepsCells, KeepsOthers, StandsAt, Token, hall, out, seen}
use Rattle.seat_hall.proofs.Commits.{ended_cells, ended_out, entry_ends}
use Rattle.seat_hall.proofs.Entries.{stands}
use Rattle.seat_hall.proofs.Holding.{pass_or}
use Rattle.seat_hall.proofs.Items.{claim_cells, claim_out, claim_owns, entry_cells, entry_out}
use Rattle.seat_hall.proofs.Turns.{client_then, hall_then, own_still, read_cells, read_out}
use Rattle.seat_hall.proofs.Under.{at_again, reckons_then}

-- ---- from one token under the turn to the next

module _ (n a : ℕ) (s t : Token) (g : HallView) (r : Reckons n (knows s) g) where
  at_s : IsAtHall n s s g
  at_s = at_again n s g r

  -- the letter
  may_take : Takes n a true (hall_by (knows s)) → entry_cause g.logged None (Take a) ≡ None
  may_take takes = subst (λ (l : Logged). entry_cause l None (Take a) ≡ None) (sym r.shows) takes.1.may

  pub took_cells : (took : Bool) → Took n a took (knows s) (knows t) → KeepsCells n s t
  took_cells true took = entry_cells n s s g at_s (Take a) (may_take took.0) t took.1
  took_cells false took = read_cells n s s t g at_s took.1

  pub took_out : (took : Bool) → Took n a took (knows s) (knows t) → out n t ≡ out n s
  took_out true took = entry_out n s s g at_s (Take a) (may_take took.0) t took.1
  took_out false took = read_out n s s t g at_s took.1

  pub took_client : (took : Bool) → Took n a took (knows s) (knows t) → (knows t).client ≡ (knows s).client
  took_client true took = client_then n s s t g at_s (Entered n (Take a)) refl took.1
  took_client false took = ap (λ k. k.client) took.1

  pub took_turns : (took : Bool) → Took n a took (knows s) (knows t) → (knows t).turns ≡ (knows s).turns
  took_turns true took = ap (λ k. k.turns) took.1
  took_turns false took = ap (λ k. k.turns) took.1

  took_seen : (took : Bool) → Took n a took (knows s) (knows t) → seen t ≡ seen s ++ taking n a took
  took_seen true took = ap (λ k. k.seen) took.1
  took_seen false took = ap (λ k. k.seen) took.1 ∙ sym (append-nil (seen s))

  took_hall : (took : Bool) → Took n a took (knows s) (knows t) → hall_by (knows t) ≡ hall_from (hall_by (knows s)) (taking n a took)
  took_hall true took = sym (hall_then n s s t g at_s (Entered n (Take a)) refl took.1)
      ∙ ap (λ (l : Logged). after l (Entered n (Take a))) r.shows
  took_hall false took = ap hall_by took.1

  -- the claim
  granted : (task : SeatTask) → Claims a (Some task) (hall_by (knows s)) → Claims a (Some task) g.logged
  granted task claims = subst (Claims a (Some task)) (sym r.shows) claims

  pub claimed_cells : (next : Option SeatTask) → ClaimedOn n a next (knows s) (knows t) → KeepsCells n s t
  claimed_cells (Some task) claim = claim_cells n s s g at_s a (granted task claim.claims).0.0 t claim.wrote
  claimed_cells None claim = read_cells n s s t g at_s claim.wrote

  pub claimed_next : (next : Option SeatTask) → ClaimedOn n a next (knows s) (knows t) → (before : Token)
      → out n before ≡ out n s + 1 → IfSome next (IsNext n a before t)
  claimed_next (Some task) claim before less =
      let may = granted task claim.claims in
      let within = subst (λ (l : Logged). a < length l.claims) (sym r.shows) claim.within in record {
        owner = claim.claims.0.1.owner;
        may = claim_owns n s s g at_s a may.0.0 t claim.wrote within task may.0.1;
        fresh = claim.fresh;
        out_is = claim_out n s s g at_s a may.0.0 t claim.wrote within ∙ sym less;
      }
  claimed_next None claim before less = tt

  pub claimed_up : (next : Option SeatTask) → ClaimedOn n a next (knows s) (knows t) → (before : Token)
      → out n s ≡ out n before → IfSome next (IsTakenUp n a before t)
  claimed_up (Some task) claim before same =
      let may = granted task claim.claims in
      let within = subst (λ (l : Logged). a < length l.claims) (sym r.shows) claim.within in record {
        owner = claim.claims.0.1.owner;
        may = claim_owns n s s g at_s a may.0.0 t claim.wrote within task may.0.1;
        fresh = claim.fresh;
        more = claim_out n s s g at_s a may.0.0 t claim.wrote within ∙ ap (λ (k : ℕ). k + 1) same;
      }
  claimed_up None claim before same = tt

  pub claimed_none : (next : Option SeatTask) → ClaimedOn n a next (knows s) (knows t) → IfNone next (out n t ≡ out n s)
  claimed_none (Some task) claim = tt
  claimed_none None claim = read_out n s s t g at_s claim.wrote

  pub claimed_client : (next : Option SeatTask) → ClaimedOn n a next (knows s) (knows t) → (knows t).client ≡ (knows s).client
  claimed_client (Some task) claim = client_then n s s t g at_s (Claimed n a) refl claim.wrote
  claimed_client None claim = ap (λ k. k.client) claim.wrote

  pub claimed_turns : (next : Option SeatTask) → ClaimedOn n a next (knows s) (knows t) → (knows t).turns ≡ (knows s).turns
  claimed_turns (Some task) claim = ap (λ k. k.turns) claim.wrote
  claimed_turns None claim = ap (λ k. k.turns) claim.wrote

  claimed_seen : (next : Option SeatTask) → ClaimedOn n a next (knows s) (knows t) → seen t ≡ seen s ++ claiming n a next
  claimed_seen (Some task) claim = ap (λ k. k.seen) claim.wrote
  claimed_seen None claim = ap (λ k. k.seen) claim.wrote ∙ sym (append-nil (seen s))

-- ---- the whole call

-- what it tells
pub record WentOn (n a : ℕ) (old new : Token) (e : Event) (done : Committed) (next : Option SeatTask) : Type 0 where
  pub cells : KeepsOthers n a old new
  pub next_is : IfSome next (IsNext n a old new)
  pub left : IfNone next (out n old ≡ out n new + 1)
  pub client : (knows new).client ≡ (knows old).client
  pub calls : Advances n a e done next old new

-- all items after the first are the pass's own
own_one : (n : ℕ) (i : Item) (own : List Item) → by i ≡ n → items_by n own ≡ own → items_by n (i ∷ own) ≡ i ∷ own
own_one n i own is rest = ap (λ b. if b then i ∷ items_by n own else items_by n own) same ∙ ap (λ xs. i ∷ xs) rest
  where
    same : (by i == n) ≡ true
    same = grind (arith, nat_tests)

own_claiming : (n a : ℕ) (next : Option SeatTask) → items_by n (claiming n a next) ≡ claiming n a next
own_claiming n a (Some task) = own_one n (Claimed n a) [] refl refl
own_claiming n a None = refl

own_taking : (n a : ℕ) (took : Bool) (rest : List Item) → items_by n rest ≡ rest
    → items_by n (taking n a took ++ rest) ≡ taking n a took ++ rest
own_taking n a true rest is = own_one n (Entered n (Take a)) rest refl is
own_taking n a false rest is = is

module _ (n a : ℕ) (old mid s t new : Token) (h : HallView) (at : IsAtHall n old mid h) (e : Event) (c : Cell)
    (its : actor_of e ≡ Some a) (has : HasItsCell n a c old) (done : Committed) (enters : Enters (Some n) n e done h.logged)
    (wrote : knows s ≡ having_written after_item (Entered n e) (knows mid))
    (took : Bool) (takes : Took n a took (knows s) (knows t))
    (u : HallView) (reckons : Reckons n (knows t) u)
    (next : Option SeatTask) (claims : ClaimedOn n a next (knows t) (knows new)) where
  abbrev first : HallView
  first = says (after h.logged (Entered n e)) (Entered n e)

  reckons_first : Reckons n (knows s) first
  reckons_first = reckons_then n old mid s h at (Entered n e) refl wrote first (at.given, enters.may) refl

  all_cells : KeepsOthers n a old new
  all_cells b d apart has_it =
      claimed_cells n a t new u reckons next claims b d
      (took_cells n a s t first reckons_first took takes b d
      (ended_cells n a old mid h at e c its has (Entered n e) (entry_ends n a old mid h at e c its has done enters) s wrote b d apart has_it))

  less : out n old ≡ out n t + 1
  less = ended_out n a old mid h at e c its has (Entered n e) (entry_ends n a old mid h at e c its has done enters) s wrote
      ∙ ap (λ (k : ℕ). k + 1) (sym (took_out n a s t first reckons_first took takes))

  all_next : IfSome next (IsNext n a old new)
  all_next = claimed_next n a t new u reckons next claims old less

  all_left : IfNone next (out n old ≡ out n new + 1)
  all_left = cases next (claimed_none n a t new u reckons next claims)
    where
      cases : (next : Option SeatTask) → IfNone next (out n new ≡ out n t) → IfNone next (out n old ≡ out n new + 1)
      cases (Some task) none = tt
      cases None same = less ∙ ap (λ (k : ℕ). k + 1) (sym same)

  all_client : (knows new).client ≡ (knows old).client
  all_client = claimed_client n a t new u reckons next claims
      ∙ (took_client n a s t first reckons_first took takes ∙ client_then n old mid s h at (Entered n e) refl wrote)

  pub all_turns : (knows mid).turns ≡ (knows old).turns + 1 → (knows new).turns ≡ (knows old).turns + 1
  all_turns had = claimed_turns n a t new u reckons next claims
      ∙ (took_turns n a s t first reckons_first took takes ∙ (ap (λ k. k.turns) wrote ∙ had))

  abbrev own : List Item
  own = Entered n e ∷ taking n a took ++ claiming n a next

  saw_all : seen new ≡ seen mid ++ own
  saw_all = claimed_seen n a t new u reckons next claims
      ∙ (ap (λ xs. xs ++ claiming n a next) (took_seen n a s t first reckons_first took takes
      ∙ ap (λ xs. xs ++ taking n a took) (ap (λ k. k.seen) wrote))
      ∙ (append_assoc (seen mid ++ Entered n e ∷ []) (taking n a took) (claiming n a next)
      ∙ append_assoc (seen mid) (Entered n e ∷ []) (taking n a took ++ claiming n a next)))

  second : after h.logged (Entered n e) ≡ hall_by (knows s)
  second = hall_then n old mid s h at (Entered n e) refl wrote

  goes_on : GoesOn n a e done took next h.logged
  goes_on = record {
    enters = enters;
    takes = subst (Takes n a took) (sym second) takes.0;
    claims = subst (Claims a next) (took_hall n a s t first reckons_first took takes
        ∙ ap (λ (l : Logged). hall_from l (taking n a took)) (sym second)) claims.claims;
  }

  all_stands : StandsAt new done.place e
  all_stands =
      let start : Logged = start_of (knows old).client in
      let rest : List Item = taking n a took ++ claiming n a next in
      let place : done.place ≡ length (hall_from start (seen mid)).book = enters.entered.place ∙ ap (λ (l : Logged). length l.book) at.shows in
      let now : hall new (seen new) ≡ hall_from start (seen mid ++ own) =
      λ i. hall_from (start_of (all_client i)) (saw_all i) in
      ap (λ (l : Logged). slice_get l.book done.place) now
      ∙ (ap (slice_get (hall_from start (seen mid ++ own)).book) place ∙ stands start (seen mid) rest n e)

  all_calls : Advances n a e done next old new
  all_calls = record {
    took = took;
    calls = record {
      log = seen mid;
      whole = at.whole;
      now = saw_all;
      mine = ap (items_by n) saw_all ∙ (filter-append (λ i. by i == n) (seen mid) own
          ∙ ((λ i. own_still n old mid new h at i ++ own_one n (Entered n e) (taking n a took ++ claiming n a next) refl
          (own_taking n a took (claiming n a next) (own_claiming n a next)) i)));
      answers = subst (GoesOn n a e done took next) at.shows goes_on;
    };
    stands = all_stands;
  }

  pub went_on : WentOn n a old new e done next
  went_on = record {
    cells = all_cells;
    next_is = all_next;
    left = all_left;
    client = all_client;
    calls = all_calls;
  }

-- ---- the call that takes an actor up

pub record WentUp (n a : ℕ) (old new : Token) (took : Bool) (next : Option SeatTask) : Type 0 where
  pub cells : KeepsCells n old new
  pub next_is : IfSome next (IsTakenUp n a old new)
  pub none : IfNone next (out n new ≡ out n old)
  pub client : (knows new).client ≡ (knows old).client
  pub calls : Calls n old new (taking n a took ++ claiming n a next) (TakesUp n a took next)

module _ (n a : ℕ) (old mid s t new : Token) (h : HallView) (at : IsAtHall n old mid h) (still : knows s ≡ knows mid)
    (begins : Reckons n (knows s) h)
    (took : Bool) (takes : Took n a took (knows s) (knows t))
    (u : HallView) (reckons : Reckons n (knows t) u)
    (next : Option SeatTask) (claims : ClaimedOn n a next (knows t) (knows new)) where
  up_cells : KeepsCells n old new
  up_cells b d has =
      claimed_cells n a t new u reckons next claims b d
      (took_cells n a s t h begins took takes b d (read_cells n old mid s h at still b d has))

  up_out : out n t ≡ out n old
  up_out = took_out n a s t h begins took takes ∙ read_out n old mid s h at still

  up_none : IfNone next (out n new ≡ out n old)
  up_none = cases next (claimed_none n a t new u reckons next claims)
    where
      cases : (next : Option SeatTask) → IfNone next (out n new ≡ out n t) → IfNone next (out n new ≡ out n old)
      cases (Some task) none = tt
      cases None same = same ∙ up_out

  up_client : (knows new).client ≡ (knows old).client
  up_client = claimed_client n a t new u reckons next claims
      ∙ (took_client n a s t h begins took takes ∙ (ap (λ k. k.client) still ∙ at.client))

  pub up_turns : (knows mid).turns ≡ (knows old).turns + 1 → (knows new).turns ≡ (knows old).turns + 1
  up_turns had = claimed_turns n a t new u reckons next claims
      ∙ (took_turns n a s t h begins took takes ∙ (ap (λ k. k.turns) still ∙ had))

  abbrev up_own : List Item
  up_own = taking n a took ++ claiming n a next

  up_saw : seen new ≡ seen mid ++ up_own
  up_saw = claimed_seen n a t new u reckons next claims
      ∙ (ap (λ xs. xs ++ claiming n a next) (took_seen n a s t h begins took takes
      ∙ ap (λ k. k.seen ++ taking n a took) still)
      ∙ append_assoc (seen mid) (taking n a took) (claiming n a next))

  up_hall : hall_by (knows s) ≡ hall old (seen mid)
  up_hall = ap hall_by still ∙ (λ i. hall_of (at.client i) (seen mid))

  up_answers : TakesUp n a took next (hall old (seen mid))
  up_answers = record {
    takes = subst (Takes n a took) up_hall takes.0;
    claims = subst (Claims a next) (took_hall n a s t h begins took takes
        ∙ ap (λ (l : Logged). hall_from l (taking n a took)) up_hall) claims.claims;
  }

  pub went_up : WentUp n a old new took next
  went_up = record {
    cells = up_cells;
    next_is = claimed_up n a t new u reckons next claims old up_out;
    none = up_none;
    client = up_client;
    calls = record {
      log = seen mid;
      whole = at.whole;
      now = up_saw;
      mine = ap (items_by n) up_saw ∙ (filter-append (λ i. by i == n) (seen mid) up_own
          ∙ ((λ i. own_still n old mid new h at i
          ++ own_taking n a took (claiming n a next) (own_claiming n a next) i)));
      answers = up_answers;
    };
  }

-- ---- as a board tells it

-- the task is of this actor
pub task_of : (a : ℕ) (task : Option SeatTask) (was : SeatTask) → task ≡ Some was → IsSomeAnd task (λ t. actor_of t.taken.event ≡ Some a)
    → was.taken.cell.heap.owner ≡ a
task_of a task was is acts =
    ap (pass_or 0) (sym was.taken.its ∙ subst (λ o. IsSomeAnd o (λ t. actor_of t.taken.event ≡ Some a)) is acts)

pub next_actor : (n a : ℕ) (old new : Token) (next : Option SeatTask) (b : ℕ) → a ≡ b → IfSome next (IsNext n a old new)
    → IfSome next (λ task. actor_of task.taken.event ≡ Some b)
next_actor n a old new next b same is =
    IfSome_then next is (λ task its. task.taken.its ∙ ap Some (its.owner ∙ same))

pub next_one : (n a : ℕ) (old new : Token) (next : Option SeatTask) → IfSome next (IsNext n a old new)
    → IfSome next (λ _. out n new ≤ out n old - 1 + 1)
next_one n a old new next is = IfSome_then next is (λ task its. let same = its.out_is in omega arith)

pub taken_up_actor : (n a : ℕ) (old new : Token) (next : Option SeatTask) → IfSome next (IsTakenUp n a old new)
    → IfSome next (λ task. actor_of task.taken.event ≡ Some a)
taken_up_actor n a old new next is = IfSome_then next is (λ task its. task.taken.its ∙ ap Some its.owner)

pub taken_up_one : (n a : ℕ) (old new : Token) (next : Option SeatTask) → IfSome next (IsTakenUp n a old new)
    → IfSome next (λ _. out n new ≤ out n old + 1)
taken_up_one n a old new next is = IfSome_then next is (λ task its. let more = its.more in omega arith)

pub next_none : (next : Option SeatTask) (before after : ℕ) → IfNone next (before ≡ after + 1) → IfNone next (after ≡ before - 1)
next_none (Some task) before after none = tt
next_none None before after one = omega arith
