-- What is reached by a run allows each event, and an event leads on.
use Rattle.std.proofs.Common.{◌≡◌, false, ◌<◌, ◌+◌, ℕ, List, [], ◌∷◌, ◌++◌, refl, sym, ap, subst, ◌∙◌, arith, length-append}
use Rattle.orca_names.specs.declared.limits.TheConstants.{BOOK_LIMIT}
use Rattle.orca_names.specs.declared.options.Options.{Options}
use Rattle.behaviour_code.specs.declared.code.Program.{Program}
use Rattle.event_rule.specs.Runs.{Goes, Leads}
use Rattle.event_rule.specs.declared.event.Event.{Event}
use Rattle.event_rule.specs.declared.event.Event.TheVariants.{Take, Go, Collect, Scan, Reap}
use Rattle.machine_rules.specs.Next.{next}
use Rattle.machine_rules.specs.State.{State}
use Rattle.actor_table.specs.Slots.{away_of, slot_at}
use Rattle.cell_laws.specs.Runs.{IsShortRun}
use Rattle.cell_laws.proofs.Cells.{cells_know_others_only}
use Rattle.cell_laws.proofs.Going.{runs_allow_goes}
use Rattle.cell_laws.proofs.Holding.{runs_hold_the_made_only}
use Rattle.cell_laws.proofs.Keeping.{runs_have_room, runs_have_serials}
use Rattle.cell_laws.proofs.Reaping.{the_acknowledged_are_done}
use Rattle.cell_laws.proofs.Taking.{runs_allow_takes}
use Rattle.orca_core.specs.Machine.{IsFaultOf, IsReached, IsSame, Machine, ReapsNoneAway}
use Rattle.orca_parts.specs.declared.insides.Core.{Core}
use Rattle.machine_rules.specs.Detect.{acked_token}
use Rattle.orca_parts.specs.Away.{is_out, next_without}
use Rattle.orca_parts.specs.Core.{IsAlike, KeepsCore, core_state}
use Rattle.orca_parts.specs.Faults.{IsFaultWith}
use Rattle.orca_parts.specs.Ready.{IsFaultIn}
use Rattle.orca_parts.specs.Parts.{state_of}
use Rattle.orca_parts.specs.Steps.{CanStep, ReapsAtHome}
use Rattle.orca_parts.specs.declared.parts.Parts.{Parts}
use Rattle.orca_parts.proofs.Giving.{seat_here}
use Rattle.actor_table.proofs.Changing.{away_read}
use Rattle.orca_parts.proofs.Prepared.{at_home}

-- ---- runs

pub leads_more : (book : List Event) (s t u : State) (e : Event) → Leads next s book t → next t e ≡ Goes u → Leads next s (book ++ e ∷ []) u
leads_more [] s t u e same goes = (u, subst (λ v. next v e ≡ Goes u) (sym same) goes, refl)
leads_more (f ∷ book) s t u e first goes = (first.0, first.1, leads_more book first.0 t u e first.2 goes)

-- what is alike has the same program and choices
alike_state : (m after : Core) → IsAlike m after → core_state after ≡ state_of m.code.now m.options after.parts
alike_state m after alike = λ i. state_of (alike.code i).now (alike.options i) after.parts

module _ (m : Core) (steps : ℕ) where
  abbrev program : Program
  program = m.code.now

  abbrev options : Options
  options = m.options

  abbrev parts : Parts
  parts = m.parts

  abbrev s : State
  s = core_state m

  abbrev machine : Machine
  machine = record { state = s; steps = steps; out = away_of parts.table.slots; blocks = parts.blocks; kept = parts }

  -- a machine that is seen as young is
  pub early_still : (seen : Machine) → machine ≡ seen → seen.steps < BOOK_LIMIT → steps < BOOK_LIMIT
  early_still seen is early = omega (arith, ap (λ (x : Machine). x.steps) is, early)

  pub same_state : (after : Core) → KeepsCore m after → core_state after ≡ s
  same_state after same = alike_state m after same.alike ∙ same.room.state program options

  -- where there is more room alone, it is reached still, and the same
  pub reached_still : (after : Core) → KeepsCore m after → IsReached s steps → IsReached (core_state after) steps
  reached_still after same = subst (λ t. IsReached t steps) (sym (same_state after same))

  pub same_still : (after : Core) → KeepsCore m after
      → IsSame machine (record { state = core_state after; steps = steps; out = away_of after.parts.table.slots; blocks = after.parts.blocks; kept = after.parts })
  same_still after same = record { state = same_state after same; steps = refl; out = same.room.away; blocks = same.room.blocks }

  -- whom a reap reaps is at home still
  pub reaps_still : (after : Core) → KeepsCore m after → (e : Event) → ReapsNoneAway e machine
      → ReapsNoneAway e (record { state = core_state after; steps = steps; out = away_of after.parts.table.slots; blocks = after.parts.blocks; kept = after.parts })
  reaps_still after same (Reap number) none = λ t a acked member.
      subst (λ away. is_out away a ≡ false) (sym same.room.away)
      (none t a (ap (λ (x : State). acked_token number x.detector) (sym (same_state after same)) ∙ acked) member)
  reaps_still after same e none = tt

  -- and an event is refused for the same
  pub fault_still : (seen : Machine) → machine ≡ seen → (after : Core) → KeepsCore m after → (e : Event)
      → IsFaultIn after e ≡ IsFaultOf seen e
  fault_still seen is after same e = λ i.
      IsFaultWith ((same.room.blocks ∙ ap (λ (x : Machine). x.blocks) is) i)
      ((ap (λ (x : State). x.objects) (same_state after same) ∙ ap (λ (x : Machine). x.state.objects) is) i)
      (next_without ((same.room.away ∙ ap (λ (x : Machine). x.out) is) i) ((same_state after same ∙ ap (λ (x : Machine). x.state) is) i) e) e

  pub reached_more : (after : Core) (e : Event) → IsAlike m after → IsReached s steps → steps < BOOK_LIMIT
      → next s e ≡ Goes (core_state after) → IsReached (core_state after) (steps + 1)
  reached_more after e alike reached early goes =
      let t = state_of program options after.parts in
      let is = alike_state m after alike in
      subst (λ x. IsReached x (steps + 1)) (sym is) (record {
        checked = reached.checked;
        heavy = reached.heavy;
        light = reached.light;
        book = reached.book ++ e ∷ [];
        run = leads_more reached.book _ s t e reached.run (goes ∙ ap Goes is);
        long = length-append reached.book (e ∷ []) ∙ ap (λ n. n + 1) reached.long;
        early = omega arith;
      })

  short : (reached : IsReached s steps) → IsShortRun program options reached.book s
  short reached = record { heavy = reached.heavy; light = reached.light; short = omega (arith, reached.long, reached.early); run = reached.run }

  -- what an event needs, every run gives
  pub can_step : IsReached s steps → steps < BOOK_LIMIT → (e : Event) → CanStep options program parts e
  can_step reached early (Take a) = λ c letter later at.
      let r = short reached in
      runs_allow_takes program options reached.book s r a c (letter ∷ later) at
  can_step reached early (Go a) =
      let r = short reached in (
        λ c mail at. record {
          can = λ frame framed. runs_allow_goes program options reached.book s r a c mail at frame framed;
          serials = runs_have_serials program options reached.book s r a c mail at reached.checked.good;
          unnamed = runs_hold_the_made_only program options reached.book s r a c mail at _ (omega arith);
        },
        (runs_have_room program options reached.book s r).objects reached.checked.good,
      )
  can_step reached early (Collect a) = λ c at owner.
      let r = short reached in
      cells_know_others_only program options reached.book s r c (slot_at parts.table.slots c.heap.owner).mail.letters
      (seat_here parts.table.slots c.heap.owner c (ap (λ b. (slot_at parts.table.slots b).place) owner ∙ at))
  can_step reached early Scan =
      let r = short reached in
      (runs_have_room program options reached.book s r).tokens (omega (arith, reached.long, early))
  can_step reached early e = tt

  -- whom a run can reap is present, so a cell that is not away is at home
  pub reaps_at_home : IsReached s steps → (e : Event) → ReapsNoneAway e machine → ReapsAtHome e parts
  reaps_at_home reached (Reap number) none = λ t acked b member.
      let done = the_acknowledged_are_done program options reached.heavy reached.book s reached.run number t acked b member in
      let x = at_home parts.table.slots b done.cell [] done.present (sym (away_read parts.table.slots b) ∙ none t b acked member) in
      record { cell = x.cell; home = x.home; so = tt }
  reaps_at_home reached e none = tt
