-- A go of the machine, by the part of its actor.
use Rattle.std.proofs.Common.{◌≡◌, ℕ, zero, suc, ◌+◌, ◌-◌, ◌==◌, true, false, cond, nat_lt, Option, Some, None, List, [], ◌∷◌, ◌++◌, length, set, refl, sym, ap, ◌∙◌, arith}
use Rattle.std.specs.Prelude.{option_map, if◌then◌else◌}
use Rattle.std.specs.Option.{option_map_or}
use Rattle.std.proofs.lemmas.List.{append-nil, length-set}
use Rattle.event_rule.specs.Runs.{Goes, IsFull, NotEnabled}
use Rattle.orca_names.specs.Names.{owner_of}
use Rattle.orca_names.specs.declared.names.Thing.{Thing}
use Rattle.orca_names.specs.declared.names.Thing.TheVariants.{Actor, Obj}
use Rattle.orca_names.specs.declared.names.Value.{Value}
use Rattle.std.specs.FinMap as m
use Rattle.orca_names.specs.declared.options.Options.{Options}
use Rattle.orca_names.specs.declared.trace.Trace.{Trace}
use Rattle.orca_names.specs.declared.trace.Trace.TheVariants.{Deep, Roots}
use Rattle.orca_names.specs.declared.limits.TheConstants.{ACTORS_LIMIT}
use Rattle.turn_rules.specs.declared.act.Act.{Act}
use Rattle.turn_rules.specs.declared.act.Act.TheVariants as act
use Rattle.turn_rules.specs.declared.act.Frame.{Frame}
use Rattle.turn_rules.specs.Segment.{Stop}
use Rattle.plain_rules.specs.Machine.{stopped_at}
use Rattle.letter_kinds.specs.Letters.{Letter, App, Inc}
use Rattle.letter_kinds.specs.Counting.{Amount, Loaded, mint_all, mint_one, raise, send, send_one, set_held, set_own, spend, to_mint}
use Rattle.letter_kinds.specs.Holdings.{Holdings, Row, entry_row, with_made}
use Rattle.machine_rules.specs.Actors.{Seat, push_letter, seat}
use Rattle.machine_rules.specs.Cell.{Cell, fresh_cell, listed_objects, row_by_roots}
use Rattle.machine_rules.specs.Go.{done_by, cell_after_turn, lacking_from, load_from, needed, needing, post_or_mint, rows_from, to_need, turn_in, turn_of_cell}
use Rattle.machine_rules.specs.State.{State}
use Rattle.actor_cell.specs.Moves.{Move}
use Rattle.actor_cell.specs.Cells.{settled}
use Rattle.actor_cell.specs.Goes.{Gone, Turned, gone_by, gone_of, having_made, move_by, turned_in, turned_or_needs}
use Rattle.actor_cell.specs.Goes as goes
use Rattle.actor_cell.specs.Laws.{GoesByParts, after_go}

-- ---- the next serial

next_set_own : (f : ℕ → ℕ) (x : Thing) (h : Holdings) → (set_own f x h).next ≡ h.next
unfolding set_own
next_set_own f (Actor a) h = refl
next_set_own f (Obj n) h = refl

next_set_held : (f : ℕ → ℕ) (x : Thing) (row : Option Row) (h : Holdings) → (set_held f x row h).next ≡ h.next
unfolding set_held
next_set_held f x row h = refl

next-send_one : (me : ℕ) (e : Loaded) (h : Holdings) → (send_one me e h).next ≡ h.next
next-send_one me e h = elim (owner_of e.0 == me) as (λ b. (cond b (raise 1 e.0 h) (spend 1 e.0 h)).next ≡ h.next) [
  | true ↦ next_set_own (λ n. n + 1) e.0 h
  | false ↦ next_set_held (λ n. n - 1) e.0 (entry_row (m.get h.foreign e.0)) h
]

pub next-send : (me : ℕ) (load : List Loaded) (h : Holdings) → (send me load h).next ≡ h.next
unfolding send
next-send me [] h = refl
next-send me (e ∷ load) h = next-send me load (send_one me e h) ∙ next-send_one me e h

pub next-mint_all : (things : List Amount) (h : Holdings) → (mint_all things h).next ≡ h.next
unfolding mint_all
next-mint_all [] h = refl
next-mint_all (e ∷ things) h = next-mint_all things (mint_one e h) ∙ next_set_held (λ n. n + e.1) e.0 (entry_row (m.get h.foreign e.0)) h

-- ---- one turn

pub set_twice : {A : Type 0} (xs : List A) (a : ℕ) (x y : A) → set (set xs a x) a y ≡ set xs a y
set_twice [] a x y = refl
set_twice (z ∷ xs) zero x y = refl
set_twice (z ∷ xs) (suc a) x y = ap (λ ys. z ∷ ys) (set_twice xs a x y)

module _ (trace : Trace) (s : State) (a : ℕ) (c : Cell) (mail : List Letter) (frame : Frame) (stop : Stop) where
  abbrev options : Options
  options = record s.options { trace = trace }

  abbrev n : ℕ
  n = length stop.turn.made

  abbrev h : Holdings
  h = with_made stop.turn.made c.holdings

  more : (next : ℕ) → next ≡ c.holdings.next + n → n ≡ next - c.holdings.next
  more next is = omega arith

  abbrev kept : Cell
  kept = cell_after_turn stop (Some (stopped_at frame stop)) c.dirty c

  -- what is left of the turn where the actor does this
  abbrev with_move : Move → Turned
  with_move move = record { turn = stop.turn; place = stop.place; act = move }

  -- what a letter carries is no matter of fields and frame
  rows_kept : (t : Trace) (args : List Value) → rows_from t a kept args ≡ rows_from t a (having_made stop.turn.made c) args
  unfolding row_by_roots listed_objects
  rows_kept Deep args = refl
  rows_kept Roots args = refl

  posted : (to behaviour : ℕ) (args : List Value) (load rows lacked : List Loaded)
      → Goes (post_or_mint s a c kept mail stop to behaviour args load rows lacked)
      ≡ after_go s a c mail (gone_by a c frame (with_move (goes.letter_or_mint s.options.weight to behaviour args load rows lacked)))
  posted to behaviour args load rows [] = λ i. Goes (record s {
    actors = push_letter to (App behaviour args load rows) (set s.actors a (seat (record kept { holdings = send a load h }) mail));
    notes = sym (append-nil s.notes) i;
    objects = s.objects + more (send a load h).next (next-send a load h) i;
  })
  posted to behaviour args load rows (e ∷ lacked) =
      let things = to_mint s.options.weight (owner_of e.0) (e ∷ lacked) in
      let none : s.objects ≡ s.objects + ((mint_all things c.holdings).next - c.holdings.next) = (let z = next-mint_all things c.holdings in omega arith) in
      λ i. Goes (record s {
        actors = push_letter (owner_of e.0) (Inc things) (set s.actors a (seat (record c { holdings = mint_all things c.holdings }) mail));
        notes = sym (append-nil s.notes) i;
        objects = none i;
      })

  abbrev newcomer : ℕ → Option Seat
  newcomer kind = seat (fresh_cell s.options.weight s.program kind) []

  acts : (does : Act) → done_by trace s a c mail (stopped_at frame stop) stop does ≡ after_go s a c mail (gone_by a c frame (with_move (move_by options a (having_made stop.turn.made c) does)))
  acts act.End = λ i. Goes (record s {
    actors = set s.actors a (seat (cell_after_turn stop None true c) mail);
    notes = sym (append-nil s.notes) i;
    objects = s.objects + more (c.holdings.next + n) refl i;
  })
  acts (act.Print value) = λ i. Goes (record s {
    actors = set s.actors a (seat kept mail);
    notes = sym (append-nil s.notes) i;
    prints = s.prints ++ value ∷ [];
    objects = s.objects + more (c.holdings.next + n) refl i;
  })
  acts (act.New kind register) =
      let before = set s.actors a (seat kept mail) in
      let long : length s.actors ≡ length before = sym (length-set s.actors a (seat kept mail)) in
      λ i. if nat_lt (long i) ACTORS_LIMIT then Goes (record s {
        actors = sym (set_twice s.actors a (seat kept mail) (seat (settled s.options.weight register (long i) kept) mail)) i ++ newcomer kind ∷ [];
        notes = sym (append-nil s.notes) i;
        objects = s.objects + more (c.holdings.next + n) refl i;
      }) else IsFull
  acts (act.Post to behaviour args) =
      posted to behaviour args (load_from trace a h args) (rows_from trace a kept args) (lacking_from trace a h args)
      ∙ ap (λ rows. after_go s a c mail (gone_by a c frame (with_move (goes.letter_or_mint s.options.weight to behaviour args (load_from trace a h args) rows (lacking_from trace a h args))))) (rows_kept trace args)

  minted : (x : Thing) → needing s a c mail (Some x) NotEnabled
      ≡ after_go s a c mail (gone_by a c frame (turned_or_needs options a c frame (Some x) stop))
  minted x =
      let things = to_need s.options.weight a c.holdings x in
      let none : s.objects ≡ s.objects + ((mint_all things c.holdings).next - c.holdings.next) = (let z = next-mint_all things c.holdings in omega arith) in
      λ i. Goes (record s {
        actors = push_letter (owner_of x) (Inc things) (set s.actors a (seat (record c { holdings = mint_all things c.holdings }) mail));
        notes = sym (append-nil s.notes) i;
        objects = none i;
      })

  pub turned : (first : Option Thing) → needing s a c mail first (done_by trace s a c mail (stopped_at frame stop) stop stop.act)
      ≡ after_go s a c mail (gone_by a c frame (turned_or_needs options a c frame first stop))
  turned None = acts stop.act
  turned (Some x) = minted x

pub gone : GoesByParts
gone trace s a c mail = by_frame c.frame
  where
    by_frame : (o : Option Frame) → option_map_or (turn_in trace s a c mail) o NotEnabled
        ≡ option_map_or (after_go s a c mail) (option_map (λ f. gone_by a c f (turned_in (record s.options { trace = trace }) s.program a c f)) o) NotEnabled
    by_frame None = refl
    by_frame (Some f) = turned trace s a c mail f (turn_of_cell trace s.program a c f) (needed trace s.program a c f)
