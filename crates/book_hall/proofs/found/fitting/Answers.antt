use Rattle.std.proofs.Common.{◌≡◌, Some, ap, sym, subst, ◌∙◌}
use Rattle.std.specs.Prelude.{IsSomeAnd}
use Rattle.orca_names.specs.declared.options.Options.{Options}
use Rattle.behaviour_code.specs.declared.code.Program.{Program}
use Rattle.event_rule.specs.Events.{actor_of}
use Rattle.actor_cell.specs.Cells.{IsSame}
use Rattle.orca_parts.specs.Founds.{IsFoundUntold}
use Rattle.actor_table.specs.Slots.{home_of, slot_at}
use Rattle.hall_rules.proofs.Fitting.{still_found}
use Rattle.book_hall.proofs.found.fitting.Goals as goal

pub returns-then-has_cell : goal.returns-then-has_cell
returns-then-has_cell c = λ known is.
    let proposal = c.in_ok-proposal.proposal in
    let copy = proposal.copy in
    let m = c.args.orca.now in
    let own = c.requires.own proposal c.in_ok-proposal.was in
    let its : actor_of c.args.e.now ≡ Some copy.cell.heap.owner = ap actor_of (sym own.event) ∙ copy.its in
    let there : c.in_ok-actor_of.field-0 ≡ copy.cell.heap.owner =
    (let z : Some c.in_ok-actor_of.field-0 ≡ Some copy.cell.heap.owner = c.in_ok-actor_of.ensures ∙ its in cc) in
    still_found m c.args.e.now known.value copy.cell its
    (subst (λ a. IsSomeAnd (home_of (slot_at m.kept.table.slots a)) (λ k. IsSame k copy.cell)) there
    (c.has_cell.ensures.0 c.if-has_cell.true))
    (subst (λ (x : Options × Program). IsFoundUntold x.0 x.1 copy.cell known.value) (λ i. (own.options_is i, own.program_is i))
    (proposal.own known.value (c.boxed.ensures known is)))
