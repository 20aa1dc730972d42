-- What may be found of the cells of a machine that is young, and what an event keeps.
use Rattle.std.proofs.Common.{◌≡◌, ◌<◌, ◌≤◌, ◌+◌, ◌^◌, ℕ, List, Option, Some, None, Result, Ok, Err, sym, ap, subst, ◌∙◌, arith, lit<, lit≤}
use Rattle.std.specs.Prelude.{OnErr, OnOk}
use Rattle.orca_names.specs.declared.trace.Trace.{Trace}
use Rattle.behaviour_code.specs.WellFormed.{IsWellFormed}
use Rattle.behaviour_code.specs.declared.code.Program.{Program}
use Rattle.event_rule.specs.Runs.{Goes}
use Rattle.event_rule.specs.declared.event.Event.{Event}
use Rattle.letter_kinds.specs.Letters.{Letter}
use Rattle.machine_rules.specs.Actors.{Seat, cell_at, cell_of, seat, seat_at}
use Rattle.machine_rules.specs.Cell as rules
use Rattle.machine_rules.specs.Next.{next}
use Rattle.machine_rules.specs.Options.{Options}
use Rattle.machine_rules.specs.State.{State}
use Rattle.actor_cell.specs.Cells.{as_cell}
use Rattle.actor_cell.specs.Sweeps.{KnowsOthersOnly}
use Rattle.actor_cell.specs.declared.cell.Cell.{Cell}
use Rattle.cell_laws.specs.Limits.{IsOf}
use Rattle.cell_laws.specs.Runs.{IsShortRun}
use Rattle.cell_laws.proofs.Cells.{cells_know_others_only}
use Rattle.cell_laws.proofs.Keeping.{runs_have_serials, runs_keep_program}
use Rattle.orca_core.specs.Laws.{IsRunOf}
use Rattle.orca_core.specs.Machine.{IsSame, Machine, NoneIsAway, cell_here}
use Rattle.orca_parts.specs.Parts.{options_of}
use Rattle.orca_core.proofs.Listing.{here_at_home}
use Rattle.orca_core.proofs.Reached.{leads_more}

-- an actor with a cell has letters too
seat_with : (o : Option Seat) (k : rules.Cell) → cell_of o ≡ Some k → (mail : List Letter) × (o ≡ seat k mail)
seat_with None k is = absurd (cc)
seat_with (Some o) k is =
    let same : o.cell ≡ k = (let z : Some o.cell ≡ Some k = is in cc) in
    (o.mail, ap (λ c. seat c o.mail) same)

pub record CanFind (cell : Cell) : Type 0 where
  pub serials : cell.heap.next + 1024 < 2 ^ 64
  pub others : KnowsOthersOnly cell

module _ (m : Machine) (program : Program) (trace : Trace) (own : IsOf program (options_of 256 trace) m.state) where
  -- the cell of an actor can be evaluated
  pub can_find : (book : List Event) → IsRunOf m book → m.steps ≤ 1000 → IsWellFormed program → NoneIsAway m
      → (a : ℕ) (cell : Cell) → Some (as_cell cell) ≡ cell_here m a → cell.heap.owner ≡ a → CanFind cell
  can_find book run young good home a cell here owner =
      let there : cell_at m.state.actors a ≡ Some (as_cell cell) = here_at_home m a (home a) ∙ sym here in
      let at = subst (λ b. cell_at m.state.actors b ≡ Some (as_cell cell)) (sym owner) there in
      let z = seat_with (seat_at m.state.actors cell.heap.owner) (as_cell cell) at in
      let of_run : IsShortRun m.state.program m.state.options book m.state = record {
        heavy = subst (λ (o : Options). 0 < o.weight) (sym own.same_options) (lit< tt);
        light = subst (λ (o : Options). o.weight ≤ 65536) (sym own.same_options) (lit≤ tt);
        short = omega (arith, young, run.long);
        run = run.run;
      } in
      let well = subst IsWellFormed (sym own.same_program) good in
      record {
        serials = runs_have_serials m.state.program m.state.options book m.state of_run cell.heap.owner (as_cell cell) z.0 z.1 well;
        others = cells_know_others_only m.state.program m.state.options book m.state of_run cell z.0 z.1;
      }

  -- whether an event is done or refused, the program and the options stay
  pub kept_by : {A E : Type 0} (n : Machine) (book : List Event) (e : Event) (result : Result A E) → IsRunOf m book
      → OnOk result (next m.state e ≡ Goes n.state) → OnErr result (IsSame m n) → IsOf program (options_of 256 trace) n.state
  kept_by n book e (Ok x) run goes same =
      let kept = runs_keep_program m.state.program m.state.options _ n.state (leads_more book _ m.state n.state e run.run goes) in
      record { same_program = kept.same_program ∙ own.same_program; same_options = kept.same_options ∙ own.same_options }
  kept_by n book e (Err fault) run goes same = record {
    same_program = ap (λ (s : State). s.program) same.state ∙ own.same_program;
    same_options = ap (λ (s : State). s.options) same.state ∙ own.same_options;
  }
