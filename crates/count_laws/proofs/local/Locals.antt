-- A fact that speaks of one actor alone, and is kept as `Local` says, holds of every actor after every event.
use Rattle.std.proofs.Common.{◌≡◌, ◌≢◌, ℕ, ◌<◌, true, false, Some, None, List, [], ◌∷◌, length, set, refl, ap, sym, ◌∙◌, subst}
use Rattle.orca_names.specs.Names.{owner_of}
use Rattle.orca_names.specs.declared.names.Thing.{Thing}
use Rattle.orca_names.specs.declared.names.Thing.TheVariants.{Actor}
use Rattle.behaviour_code.specs.declared.code.Program.{Program}
use Rattle.turn_rules.specs.declared.act.Frame.{Frame}
use Rattle.event_rule.specs.declared.event.Event.{Event}
use Rattle.letter_kinds.specs.Letters.{Letter, App, Inc, Dec, Confirm}
use Rattle.letter_kinds.specs.Counting.{by_owner, gain, given_back, mint_all, send, sweep, to_mint, Amount}
use Rattle.letter_kinds.specs.Detector.{closed_set}
use Rattle.letter_kinds.specs.Sums.{amount_of}
use Rattle.machine_rules.specs.Actors.{Actors, Seat, seat, seat_at, push_letter, Every}
use Rattle.machine_rules.specs.Cell.{Cell, fresh_cell}
use Rattle.machine_rules.specs.Collect.{is_marked, without_unused}
use Rattle.machine_rules.specs.Detect.{ask_all}
use Rattle.machine_rules.specs.Go.{load_from, make, rows_from, to_need, turn_of_cell, cell_after_turn, mint}
use Rattle.event_rule.specs.Runs.{Goes}
use Rattle.machine_rules.specs.Next.{next, next_by}
use Rattle.orca_names.specs.declared.trace.Trace.{Trace}
use Rattle.machine_rules.specs.Options.{Options}
use Rattle.plain_rules.specs.Machine.{with_name}
use Rattle.machine_rules.specs.State.{State, first_state}
use Rattle.machine_rules.specs.Take.{cell_after}
use Rattle.count_laws.proofs.events.Every.{every_set, every_push, every_decs, every_more}
use Rattle.count_laws.proofs.knowledge.Lacking.{to_mint_theirs, to_need_lacks}
use Rattle.count_laws.proofs.events.Reap.{every_reap}
use Rattle.count_laws.proofs.local.Local.{Local}
use Rattle.machine_rules.proofs.Present.{present_below}
use Rattle.machine_rules.specs.Rules.{IsStep, IsGoing, takes, cell_kept, cell_kept_in, ends, later_frame, prints, makes, posts, mints, gets, collects, leaves, blocks, hears, scans, reaps}
use Rattle.machine_rules.proofs.Stepping.{is_step}
use Rattle.machine_rules.proofs.Guards.{collector}

module _ (trace : Trace) (Q : ℕ → Cell → List Letter → Type 0) (local : Local trace Q) where
  every_here : (s : Actors) (a : ℕ) (o : Seat) (c : Cell) (mail : List Letter) → seat_at s a ≡ Some o → Q a c mail → Every Q s → Every Q (set s a (seat c mail))
  every_here s a o c mail at new h = every_set Q s a c mail (present_below s a o at) new h

  pub every_letter : (s : Actors) (b : ℕ) (l : Letter) → Every Q s → Every Q (push_letter b l s)
  every_letter s b l h = every_push Q l (local.letter l) s b h

  every_asked : (members : List ℕ) (token : ℕ) (s : Actors) → Every Q s → Every Q (ask_all members token s)
  every_asked [] token s h = h
  every_asked (a ∷ members) token s h = every_asked members token _ (every_letter s a (Confirm token) h)

  -- ---- a turn

  module _ (a : ℕ) (c : Cell) (mail : List Letter) (f : Frame) (s : State) (going : IsGoing s a c mail f) where
    abbrev after : Cell
    after = cell_kept trace s a c f

    here : Every Q s.actors → Q a after mail
    here h = local.turn s.program a c mail f going.framed (h a c mail going.present)

    on_new : (kind register : ℕ) → Every Q s.actors
        → Every Q (make s.options.weight a (cell_kept_in trace s a c f (with_name (later_frame trace s a c f) register (length s.actors))) mail (fresh_cell s.options.weight s.program kind) s.actors)
    on_new kind register h =
        let n = length s.actors in
        let g = with_name (later_frame trace s a c f) register n in
        let maker = record after { frame = Some g; holdings = gain s.options.weight (Actor n) None after.holdings } in
        every_more Q (set s.actors a (seat maker mail)) (fresh_cell s.options.weight s.program kind) [] (local.fresh s.options.weight s.program _ kind)
        (every_here s.actors a _ maker mail going.present (local.make s.options.weight a n after mail (later_frame trace s a c f) g (present_below s.actors a _ going.present) refl (here h)) h)

    on_mint : (owner : ℕ) (things : List Amount) → ((x : Thing) → 0 < amount_of x things → (owner_of x ≢ a)) → Every Q s.actors → Every Q (mint a c mail owner things s.actors)
    on_mint owner things others h = every_letter _ owner (Inc things)
        (every_here s.actors a _ (record c { holdings = mint_all things c.holdings }) mail going.present
        (local.mint a c mail f things going.framed others (h a c mail going.present)) h)

  -- ---- all events

  every_step : (s : State) {e : Event} {t : State} → IsStep trace s e t → Every Q s.actors → Every Q t.actors
  every_step s (takes a c l mail at idle) h = every_here s.actors a _ (cell_after s.program a l c) mail at (local.take s.program a c l mail idle (h a c (l ∷ mail) at)) h
  every_step s (ends a c mail f stops) h =
      every_here s.actors a _ (cell_after_turn (turn_of_cell trace s.program a c f) None true c) mail stops.going.present (local.end s.program a c mail f stops.going.framed (h a c mail stops.going.present)) h
  every_step s (prints a c mail f v stops) h = every_here s.actors a _ (cell_kept trace s a c f) mail stops.going.present (here a c mail f s stops.going h) h
  every_step s (makes a c mail f kind register stops room) h = on_new a c mail f s stops.going kind register h
  every_step s (posts a c mail f to behaviour args stops lacked) h =
      let after = cell_kept trace s a c f in
      let load = load_from trace a after.holdings args in
      every_letter _ to (App behaviour args load (rows_from trace a after args))
      (every_here s.actors a _ (record after { holdings = send a load after.holdings }) mail stops.going.present (local.send a after mail (later_frame trace s a c f) load refl (here a c mail f s stops.going h)) h)
  every_step s (mints a c mail f to behaviour args y ys stops lacked) h =
      let h2 = (cell_kept trace s a c f).holdings in
      let w = s.options.weight in
      on_mint a c mail f s stops.going (owner_of y.0) (to_mint w (owner_of y.0) (y ∷ ys))
      (λ x some. (to_mint_theirs w a (owner_of y.0) h2 (load_from trace a h2 args) x (subst (λ q. 0 < amount_of x (to_mint w (owner_of y.0) q)) (sym lacked) some)).2) h
  every_step s (gets a c mail f x going need) h =
      on_mint a c mail f s going (owner_of x) (to_need s.options.weight a c.holdings x) (λ y some. (to_need_lacks s.options.weight a c.holdings x y some).0) h
  every_step s (collects a c mail at may) h =
      let z = collector c mail may in
      every_decs Q (λ things. local.letter (Dec things)) (by_owner (given_back (is_marked trace a c) (without_unused trace a c).holdings)) _
      (every_here s.actors a _ (record (without_unused trace a c) { holdings = sweep (is_marked trace a c) a (without_unused trace a c).holdings; dirty = false }) mail at (local.collect a c mail z.0 z.1 (h a c mail at)) h)
  every_step s (leaves a c mail at may) h = every_reap Q (λ things. local.letter (Dec things)) (a ∷ []) s.actors h
  every_step s (blocks a c mail at may) h = every_here s.actors a _ (record c { reported = true }) mail at (local.block a c mail may (h a c mail at)) h
  every_step s (hears note later is) h = h
  every_step s (scans is) h = every_asked (closed_set s.detector) _ s.actors h
  every_step s (reaps number token is) h = every_reap Q (λ things. local.letter (Dec things)) token.members s.actors h

  -- where the state has this mode
  pub every_next : (s t : State) (e : Event) → s.options.trace ≡ trace → next s e ≡ Goes t → Every Q s.actors → Every Q t.actors
  every_next s t e mode goes = every_step s (is_step trace s t e (sym (ap (λ q. next_by q s e) mode) ∙ goes))

  pub every_first : (program : Program) (options : Options) → Every Q (first_state program options).actors
  every_first program options = every_more Q [] _ _ (local.start program) (λ a c mail at. absurd (nowhere a c mail at))
    where
      nowhere : (a : ℕ) (c : Cell) (mail : List Letter) → seat_at [] a ≢ seat c mail
      nowhere a c mail at = cc
