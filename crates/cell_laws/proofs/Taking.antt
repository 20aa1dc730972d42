-- An actor's counts allow the first of its letters.
use Rattle.std.proofs.Common.{◌≡◌, ℕ, ◌+◌, ◌≤◌, List, [], ◌∷◌, Option, ap, ◌∙◌, arith, subst}
use Rattle.std.proofs.lemmas.List.Sums.{sum_by-cons}
use Rattle.orca_names.specs.Names.{owner_of}
use Rattle.orca_names.specs.declared.names.Thing.{Thing}
use Rattle.orca_names.specs.declared.names.Value.{Value}
use Rattle.orca_names.specs.declared.trace.Trace.{Trace}
use Rattle.orca_names.specs.declared.trace.Trace.TheVariants.{Deep, Roots}
use Rattle.behaviour_code.specs.declared.code.Program.{Program}
use Rattle.event_rule.specs.declared.event.Event.{Event}
use Rattle.reach_walk.specs.Reach.{thing_row}
use Rattle.letter_kinds.specs.Counting.{Loaded}
use Rattle.letter_kinds.specs.Holdings.{Row, own_in}
use Rattle.letter_kinds.specs.Sums.{dec_of, inc_of, load_count}
use Rattle.letter_kinds.specs.Letters.{Letter, App, Confirm, Dec, Inc}
use Rattle.trace_send.proofs.Once.{once-received}
use Rattle.trace_send.specs.Can.{CanReceiveOne, IsOnce}
use Rattle.machine_rules.specs.Actors.{seat, seat_at}
use Rattle.machine_rules.specs.Cell.{Cell}
use Rattle.machine_rules.specs.Options.{Options}
use Rattle.machine_rules.specs.State.{State}
use Rattle.plain_rules.specs.Machine.{plain_row}
use Rattle.actor_cell.specs.Takes.{CanTake}
use Rattle.count_laws.proofs.balance.Safety.{safe_first}
use Rattle.count_laws.proofs.balance.SeatReads.{letter_App, letter_Dec, letter_Inc}
use Rattle.count_laws.specs.Facts.{IsSound}
use Rattle.count_laws.specs.Prefixes.{IsCoveredAt}
use Rattle.cell_laws.proofs.Allowing.{can_lower, can_raise, each_loaded}
use Rattle.cell_laws.proofs.Room.{facts, held_fits, own_fits}
use Rattle.cell_laws.specs.Runs.{IsShortRun}
use Rattle.cell_laws.specs.Takes.{CanTakeFirst, RunsAllowTakes}

-- the first letter loads each thing once
first_once : (trace : Trace) (all : Thing → Option Row) (a : ℕ) (c : Cell) (behaviour : ℕ) (args : List Value) (load rows : List Loaded) (later : List Letter)
    → IsSound trace all a c (App behaviour args load rows ∷ later) → IsOnce load
first_once Deep all a c behaviour args load rows later sound = sound.loads.0.once
first_once Roots all a c behaviour args load rows later sound = sound.letters.0.once

module _ (program : Program) (options : Options) (book : List Event) (t : State) (short : IsShortRun program options book t) (a : ℕ) (c : Cell) where
  -- what the first letter takes from a count is there
  enough : (letter : Letter) (later : List Letter) → seat_at t.actors a ≡ seat c (letter ∷ later) → (x : Thing) → owner_of x ≡ a
      → load_count x letter + dec_of x letter ≤ own_in c.holdings x + inc_of x letter
  enough letter later at x mine =
      safe_first options.trace x (own_in c.holdings x) letter later
      (subst (IsCoveredAt options.trace x) (ap (seat_at t.actors) mine ∙ at) ((facts program options book t short).1.beside.counts.prefixes x))

  allowed : (letter : Letter) (later : List Letter) → seat_at t.actors a ≡ seat c (letter ∷ later) → CanTake a letter c.holdings
  allowed (App behaviour args load rows) later at =
      let letter = App behaviour args load rows in
      let all = facts program options book t short in
      let heavy = short.heavy in
      once-received a load c.holdings
      (first_once options.trace (thing_row (plain_row all.0.actors)) a c behaviour args load rows later (all.1.beside.counts.sound a c (letter ∷ later) at))
      (each_loaded (λ e. CanReceiveOne a e c.holdings) load (λ e some. record {
        own = λ mine. let z = enough letter later at e.0 mine in let l = letter_App e.0 behaviour args load rows in omega (arith, l.0, l.1, l.2);
        held = λ other. let z = held_fits program options book t short a c (letter ∷ later) at e.0 in omega arith;
      }))
  allowed (Inc things) later at = can_raise a things c.holdings (λ x mine.
      let z = own_fits program options book t short a c (Inc things ∷ later) at x mine in
      omega (arith, sum_by-cons (inc_of x) (Inc things) later, (letter_Inc x things).0))
  allowed (Dec things) later at = can_lower a things c.holdings (λ x mine.
      let z = enough (Dec things) later at x mine in let l = letter_Dec x things in omega (arith, l.0, l.1, l.2))
  allowed (Confirm token) later at = tt

  allowed_first : (mail : List Letter) → seat_at t.actors a ≡ seat c mail → CanTakeFirst a mail c.holdings
  allowed_first [] at = tt
  allowed_first (letter ∷ later) at = allowed letter later at

pub runs_allow_takes : RunsAllowTakes
runs_allow_takes program options book t short a c mail at = allowed_first program options book t short a c mail at
