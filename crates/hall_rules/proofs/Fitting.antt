-- What was found of a cell is that of the cell which is the same, and may be done in its place.
use Rattle.std.proofs.Common.{◌≡◌, ℕ, List, [], Some, None, true, false, sym, ap, subst, ◌∙◌}
use Rattle.std.specs.Prelude.{IsSomeAnd}
use Rattle.orca_names.specs.declared.trace.Trace.{Trace}
use Rattle.orca_names.specs.declared.trace.Trace.TheVariants.{Deep, Roots}
use Rattle.behaviour_code.specs.declared.code.Program.{Program}
use Rattle.event_rule.specs.Events.{actor_of}
use Rattle.event_rule.specs.declared.event.Event.{Event}
use Rattle.letter_kinds.specs.Counting.{Amount}
use Rattle.machine_rules.specs.Cell as rules
use Rattle.machine_rules.specs.Collect.{is_in_use, is_marked}
use Rattle.object_heap.specs.Heap.{Heap}
use Rattle.foreign_table.specs.Table.{Table}
use Rattle.row_table.specs.Table.{KnownRows, as_held}
use Rattle.local_sweep.specs.Plan.{back_of, plan_of}
use Rattle.actor_cell.specs.declared.cell.Cell.{Cell}
use Rattle.actor_cell.specs.declared.found.Found.{Found}
use Rattle.actor_cell.specs.declared.found.Found.TheVariants.{Collects, Goes, Nothing}
use Rattle.actor_cell.specs.declared.sweeping.Sweep.{Sweep}
use Rattle.actor_cell.specs.Cells.{IsSame, as_cell}
use Rattle.actor_cell.specs.Founds.{IsFound}
use Rattle.actor_cell.specs.Goes.{IsTold}
use Rattle.actor_cell.specs.Moves.{act_in}
use Rattle.actor_table.specs.Slots.{home_in, home_of, slot_at}
use Rattle.orca_parts.specs.Founds.{IsFoundUntold}
use Rattle.orca_parts.specs.Parts.{options_of}
use Rattle.orca_core.specs.Machine.{Machine, IsFoundIn}

-- tables that the rules have so, with the room of others
abbrev heap_with : Heap → ℕ → rules.Cell → Heap
heap_with room a k = record room { owner = a; next = k.holdings.next; rows = k.holdings.rows }

abbrev held_with : Table → rules.Cell → Table
held_with room k = record room { entries = k.holdings.foreign }

abbrev known_with : KnownRows → rules.Cell → KnownRows
known_with room k = record room { rows = k.known }

-- what is found of a cell does not hang on its room
module _ (weight : ℕ) (program : Program) (c d : Cell) (same : IsSame c d) where
  alike : (Q : ℕ × rules.Cell → Type 0) → Q (d.heap.owner, as_cell d) → Q (c.heap.owner, as_cell c)
  alike Q = subst Q (λ i. (sym same.1 i, sym same.0 i))

  -- what is found, as `IsFound` has it, of an owner and of its cell as the rules have it
  abbrev unused : Trace → ℕ × rules.Cell → List (ℕ × List Amount)
  unused Deep x = []
  unused Roots x = back_of (is_in_use x.0 x.1) (heap_with c.heap x.0 x.1) (as_held (known_with c.known x.1))

  abbrev sweeps : Trace → ℕ × rules.Cell → Sweep
  sweeps trace x = record {
    plan = plan_of (is_marked trace x.0 x.1) (heap_with c.heap x.0 x.1) (held_with c.foreign x.1);
    unused = unused trace x;
  }

  abbrev finds : Trace → Found → ℕ × rules.Cell → Type 0
  finds trace (Goes turn turned) x = IsSomeAnd x.1.frame (IsTold (options_of weight trace) program x.0 x.1 turn turned.place (act_in turned))
  finds trace (Collects sweep) x = (x.1.frame ≡ None) × (x.1.dirty ≡ true) × (sweep ≡ sweeps trace x)
  finds trace Nothing x = (x.1.frame ≡ None) × (x.1.dirty ≡ false)

  found_same : (trace : Trace) (found : Found) → IsFound (options_of weight trace) program d found → IsFound (options_of weight trace) program c found
  found_same trace (Goes turn turned) is = alike (finds trace (Goes turn turned)) is
  found_same Deep (Collects sweep) is = alike (finds Deep (Collects sweep)) is
  found_same Roots (Collects sweep) is = alike (finds Roots (Collects sweep)) is
  found_same trace Nothing is = alike (finds trace Nothing) is

-- so where that cell is at home, it may be done
pub still_found : (m : Machine) (e : Event) (found : Found) (start : Cell) → actor_of e ≡ Some start.heap.owner
    → IsSomeAnd (home_of (slot_at m.kept.table.slots start.heap.owner)) (λ c. IsSame c start)
    → IsFoundUntold m.state.options m.state.program start found → IsFoundIn e found m
still_found m e found start its has is = λ a acts c at.
    let a_is : a ≡ start.heap.owner = (let z : Some a ≡ Some start.heap.owner = sym acts ∙ its in cc) in
    let there : home_of (slot_at m.kept.table.slots start.heap.owner) ≡ Some c =
    sym (ap (λ b. home_of (slot_at m.kept.table.slots b)) a_is) ∙ ap home_in at in
    let same : IsSame c start = subst (λ o. IsSomeAnd o (λ k. IsSame k start)) there has in
    (found_same m.state.options.weight m.state.program c start same m.state.options.trace found is.0, λ n row block told. absurd (is.1 n row block told))
