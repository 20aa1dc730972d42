-- Each event is a step of the world that the detector's laws speak of.
use Rattle.std.proofs.Common.{◌≡◌, ◌⊎◌, ℕ, ◌<◌, Bool, true, false, if◌then◌else◌, Option, Some, None, is_some, List, [], ◌∷◌, ◌++◌, length, refl, ap, sym, subst, ◌∙◌, inl, inr, ⊎_elim, set}
use Rattle.std.specs.FinMap as m
use Rattle.std.specs.Ordering.{nat_cmp}
use Rattle.std.proofs.lemmas.Bool.{false≢true}
use Rattle.orca_names.specs.Names.{owner_of, thing_cmp}
use Rattle.orca_names.specs.declared.names.Thing.{Thing}
use Rattle.orca_names.specs.declared.names.Value.{Value}
use Rattle.reach_walk.specs.Reach.{thing_row}
use Rattle.event_rule.specs.declared.event.Event.{Event}
use Rattle.turn_rules.specs.Segment.{Stop}
use Rattle.turn_rules.specs.declared.act.Act.TheVariants.{Post}
use Rattle.turn_rules.specs.declared.act.Frame.{Frame}
use Rattle.letter_kinds.specs.Counting.{Loaded, to_mint}
use Rattle.letter_kinds.specs.Holdings.{Row}
use Rattle.letter_kinds.specs.Sums.{amount_of}
use Rattle.letter_kinds.specs.Letters.{Letter, App, Inc, Dec, Confirm}
use Rattle.letter_kinds.specs.declared.note.Note.TheVariants.{Unblock}
use Rattle.count_laws.proofs.events.EitherMode.{held_owner}
use Rattle.count_laws.proofs.agreement.FollowingGo.{load_known, target_known}
use Rattle.count_laws.proofs.knowledge.Lacking.{first_minted, to_mint_theirs}
use Rattle.count_laws.proofs.balance.Makes.{fresh_held}
use Rattle.count_laws.proofs.balance.Sweeping.{same_holdings, same_reported}
use Rattle.machine_rules.specs.Actors.{Actors, cell_of, letters_of, seat, seat_at}
use Rattle.count_laws.specs.Agreement.{people_of}
use Rattle.machine_rules.specs.Cell.{Cell, fresh_cell}
use Rattle.machine_rules.specs.Collect.{is_marked, without_unused}
use Rattle.count_laws.specs.Facts.{Facts, IsFirm}
use Rattle.machine_rules.specs.Go.{load_from, make, rows_from, turn_of_cell, cell_after_turn, lacking_from, mint, post}
use Rattle.event_rule.specs.Runs.{Goes}
use Rattle.machine_rules.specs.Next.{next}
use Rattle.orca_names.specs.declared.trace.Trace.{Trace}
use Rattle.plain_rules.specs.Machine.{PlainState, plain_row, with_name}
use Rattle.machine_rules.specs.State.{State}
use Rattle.detector_laws.proofs.Cells.{same_some}
use Rattle.detector_laws.proofs.Named.{numbered_is_open}
use Rattle.detector_laws.specs.Events.{Moves}
use Rattle.detector_laws.specs.Reports.{Told, Unreported, Reported, Contradictory, IsAsTold, told_of}
use Rattle.detector_laws.specs.Run.{IsStep, Hears, Scans, ReapsOne, LeavesOne, Blocks, TakesConfirm, MovesOne}
use Rattle.detector_laws.specs.World.{FactsHold}
use Rattle.machine_laws.proofs.Blocking.{block_is, can_block}
use Rattle.machine_laws.proofs.Collecting.{HoldsOwners, collect_moves}
use Rattle.machine_laws.proofs.Going.{make_moves, mint_moves, post_moves, turn_moves}
use Rattle.machine_laws.proofs.Needing.{need_moves}
use Rattle.machine_laws.proofs.Noted.{noted}
use Rattle.machine_laws.proofs.Reaping.{departs, reap_reaps}
use Rattle.machine_laws.proofs.Scanning.{scan_is}
use Rattle.machine_laws.proofs.Seen.{world, world_of}
use Rattle.machine_laws.proofs.Taking.{confirm_is, take_moves}
use Rattle.machine_rules.proofs.Guards.{may_report, acked_open, collector, leaver}
use Rattle.machine_rules.specs.Rules as rule
use Rattle.machine_rules.specs.Rules.{IsGoing, StopsAt, cell_kept, cell_kept_in, later_frame}
use Rattle.machine_rules.specs.Take.{cell_after, note_of, notes_after}
use Rattle.count_laws.proofs.agreement.Follows.{step_here}
use Rattle.count_laws.proofs.local.NoSelf.{held-with_made}

-- ---- who runs or is dirty has no report out

awake_if : (c : Cell) (a : ℕ) (told : Told) → IsAsTold (Some c) a told → (is_some c.frame ≡ true) ⊎ (c.dirty ≡ true) → c.reported ≡ false
awake_if c a Unreported h b = h
awake_if c a (Reported r) h b =
    let same : h.0.cell ≡ c = same_some h.0.here refl in
    ⊎_elim
    (λ f. absurd (false≢true (sym (ap is_some h.0.idle) ∙ (ap (λ (c : Cell). is_some c.frame) same ∙ f))))
    (λ f. absurd (false≢true (sym h.0.clean ∙ (ap (λ (c : Cell). c.dirty) same ∙ f))))
    b
awake_if c a Contradictory h b = absurd h

module _ (trace : Trace) (p : PlainState) (s : State) (beside : Facts trace p s) (facts : FactsHold (world s)) where
  -- the map of all rows
  abbrev all : Thing → Option Row
  all = thing_row (plain_row p.actors)

  firm_at : (a : ℕ) (c : Cell) (ls : List Letter) → seat_at s.actors a ≡ seat c ls → IsFirm c.holdings
  firm_at a c ls at = beside.counts.firm a c ls at

  owners_at : (a : ℕ) (c : Cell) (ls : List Letter) → seat_at s.actors a ≡ seat c ls → HoldsOwners a c
  owners_at a c ls at x h = held_owner trace all (people_of p.actors) s.actors beside.counts a c ls at x h

  awake : (a : ℕ) (c : Cell) (ls : List Letter) → seat_at s.actors a ≡ seat c ls → (is_some c.frame ≡ true) ⊎ (c.dirty ≡ true) → c.reported ≡ false
  awake a c ls at = awake_if c a (told_of a s.detector.kept s.notes) (subst (λ o. IsAsTold (cell_of o) a (told_of a s.detector.kept s.notes)) at (facts.reports.last a))

  abbrev StepsTo : State → Type 0
  StepsTo u = IsStep (world s) (world u)

  -- one that has no report out withdraws none
  unnoted : (a : ℕ) (c : Cell) (after : Actors) → c.reported ≡ false → Moves (world s) a (world_of after s.detector (noted a c s.notes)) → IsStep (world s) (world_of after s.detector s.notes)
  unnoted a c after up m = MovesOne (subst (λ (q : Bool). Moves (world s) a (world_of after s.detector (if q then s.notes ++ Unblock a ∷ [] else s.notes))) up m)

  -- ---- go

  module _ (a : ℕ) (c : Cell) (ls : List Letter) (f : Frame) (going : IsGoing s a c ls f) where
    abbrev stop : Stop
    stop = turn_of_cell trace s.program a c f

    abbrev after : Cell
    after = cell_kept trace s a c f

    running : is_some c.frame ≡ true
    running = ap is_some going.framed

    up : c.reported ≡ false
    up = awake a c ls going.present (inl running)

    turned_steps : (frame : Option Frame) (dirty : Bool) → IsStep (world s) (world_of (set s.actors a (seat (cell_after_turn stop frame dirty c) ls)) s.detector s.notes)
    turned_steps frame dirty = unnoted a c _ up (turn_moves s.actors s.detector s.notes a c ls going.present running up stop frame dirty)

    posts_steps : (to behaviour : ℕ) (args : List Value) → StopsAt trace s a c ls f (Post to behaviour args)
        → IsStep (world s) (world_of (post a after ls to behaviour args (load_from trace a after.holdings args) (rows_from trace a after args) s.actors) s.detector s.notes)
    posts_steps to behaviour args stops =
        unnoted a c _ up (post_moves s.actors s.detector s.notes a c ls going.present running up after refl (held-with_made stop.turn.made c.holdings) to behaviour args (load_from trace a after.holdings args) (rows_from trace a after args)
        (target_known trace p s beside a c ls going.present f going.framed stops.held to behaviour args stops.stop) (load_known trace p s beside a c ls going.present f going.framed stops.held to behaviour args stops.stop))

    mints_steps : (args : List Value) (e : Loaded) (es : List Loaded) → lacking_from trace a after.holdings args ≡ e ∷ es
        → IsStep (world s) (world_of (mint a c ls (owner_of e.0) (to_mint s.options.weight (owner_of e.0) (e ∷ es)) s.actors) s.detector s.notes)
    mints_steps args e es l =
        unnoted a c _ up (mint_moves s.actors s.detector s.notes a c ls going.present running up (owners_at a c ls going.present) (owner_of e.0) (to_mint s.options.weight (owner_of e.0) (e ∷ es))
        (λ x some.
        let theirs = to_mint_theirs s.options.weight a (owner_of e.0) after.holdings (load_from trace a after.holdings args) x (subst (λ q. 0 < amount_of x (to_mint s.options.weight (owner_of e.0) q)) (sym l) some) in
        subst (λ n. 0 < n) (held-with_made stop.turn.made c.holdings x) theirs.1)
        e.0 refl (first_minted s.options.weight beside.weight e es))

    makes_steps : (kind register : ℕ)
        → IsStep (world s) (world_of (make s.options.weight a (cell_kept_in trace s a c f (with_name (later_frame trace s a c f) register (length s.actors))) ls (fresh_cell s.options.weight s.program kind) s.actors) s.detector s.notes)
    makes_steps kind register =
        let fresh = fresh_cell s.options.weight s.program kind in
        unnoted a c _ up (make_moves s.actors s.detector s.notes a c ls going.present running up s.options.weight (cell_kept_in trace s a c f (with_name (later_frame trace s a c f) register (length s.actors))) refl (held-with_made stop.turn.made c.holdings)
        fresh refl (fresh_held s.options.weight fresh.holdings (refl, (λ k. m.get-empty nat_cmp k), (λ y. m.get-empty thing_cmp y))))

  -- ---- take

  takes_steps : (a : ℕ) (c : Cell) (l : Letter) (ls : List Letter) → seat_at s.actors a ≡ seat c (l ∷ ls)
      → StepsTo (record s { actors = set s.actors a (seat (cell_after s.program a l c) ls); notes = notes_after c.reported (note_of a l) s.notes })
  takes_steps a c (App h args load rows) ls at = MovesOne (take_moves s.program s.actors s.detector s.notes a c (App h args load rows) ls at refl)
  takes_steps a c (Inc es) ls at = MovesOne (take_moves s.program s.actors s.detector s.notes a c (Inc es) ls at refl)
  takes_steps a c (Dec es) ls at = MovesOne (take_moves s.program s.actors s.detector s.notes a c (Dec es) ls at refl)
  takes_steps a c (Confirm n) ls at = subst (IsStep (world s)) (sym (confirm_is s.program s.actors s.detector s.notes a c n ls at)) (TakesConfirm (ap letters_of at))

  -- ---- each rule

  rule_steps : {e : Event} {t : State} → rule.IsStep trace s e t → StepsTo t
  rule_steps (rule.takes a c l ls at idle) = takes_steps a c l ls at
  rule_steps (rule.ends a c ls f stops) = turned_steps a c ls f stops.going None true
  rule_steps (rule.prints a c ls f v stops) = turned_steps a c ls f stops.going (Some (later_frame trace s a c f)) c.dirty
  rule_steps (rule.makes a c ls f kind register stops room) = makes_steps a c ls f stops.going kind register
  rule_steps (rule.posts a c ls f to behaviour args stops lacked) = posts_steps a c ls f stops.going to behaviour args stops
  rule_steps (rule.mints a c ls f to behaviour args e es stops lacked) = mints_steps a c ls f stops.going args e es lacked
  rule_steps (rule.gets a c ls f x going need) =
      unnoted a c _ (up a c ls f going)
      (need_moves trace all (people_of p.actors) s.actors beside.counts s.detector s.notes a c ls going.present (up a c ls f going) s.options.weight beside.weight s.program f going.framed x need)
  rule_steps (rule.collects a c ls at may) =
      let dirty = (collector c ls may).1 in
      let quiet = awake a c ls at (inr dirty) in
      unnoted a c _ quiet (collect_moves (is_marked trace a c) s.actors s.detector s.notes a c (without_unused trace a c) ls at (same_holdings trace a c) (same_reported trace a c) dirty quiet (firm_at a c ls at) (owners_at a c ls at))
  rule_steps (rule.leaves a c ls at may) = LeavesOne (record {
    cell = c;
    here = ap cell_of at;
    unreported = (leaver c ls may).0.unreported;
    detector = refl;
    departs = departs s.actors s.detector s.detector s.notes (a ∷ []) trace all (people_of p.actors) beside.counts;
  })
  rule_steps (rule.blocks a c ls at may) =
      subst (IsStep (world s)) (sym (block_is s.actors a c ls at s.detector s.notes)) (Blocks (can_block s.actors a c ls at s.detector s.notes (may_report c ls may)))
  rule_steps (rule.hears note later is) = Hears is
  rule_steps (rule.scans is) = subst (IsStep (world s)) (sym (scan_is s.actors s.detector s.notes facts.rising facts.reports)) (Scans is)
  rule_steps (rule.reaps number token is) =
      let found = acked_open number s.detector token is in
      ReapsOne (reap_reaps s.actors s.detector s.notes token trace all (people_of p.actors) beside.counts (numbered_is_open s.detector number token found.0).0 found.1)

  pub next_steps : (t : State) (e : Event) → next s e ≡ Goes t → StepsTo t
  next_steps t e goes = rule_steps (step_here trace p s beside t e goes)
