use Rattle.std.proofs.Common.{◌≡◌, None, Some, ap, sym, subst, ◌∙◌}
use Rattle.std.specs.Prelude.{if◌then◌else◌}
use Rattle.behaviour_code.specs.WellFormed.{IsWellFormed}
use Rattle.machine_rules.specs.Actors.{cell_at}
use Rattle.actor_cell.specs.Tells.{Tells}
use Rattle.orca_parts.proofs.Untold.{still_untold}
use Rattle.orca_core.proofs.Blockless.{none_told}
use Rattle.hall_rules.specs.Halls.{hall_state}
use Rattle.hall_rules.proofs.Firsts.{event_of_actor}
use Rattle.hall_rules.proofs.Keeping.{can_find}
use Rattle.book_hall.proofs.hall.Hall.copy_of.Goals as goal

pub invariant_of-result : goal.invariant_of-result
invariant_of-result c =
    let s = c.self.inside in
    let copy = c.in_ok-copy.field-0 in
    let owner : copy.heap.owner ≡ c.args.a = c.in_ok-copy.ensures.same.1 ∙ c.in-Some.ensures.owner in
    let there = c.in-Some.ensures.cell
    ∙ ap (λ b. if b then None else cell_at s.orca.state.actors c.args.a) (c.self.invariant.1 c.args.a) in
    let good = subst IsWellFormed c.program-program.ensures.value c.program-program.ensures.kept.good in
    let can = can_find s.code.now s.budget s.orca s.book c.self.invariant.0 good copy
    (ap (cell_at s.orca.state.actors) owner ∙ (sym there ∙ ap Some (sym c.in_ok-copy.ensures.same.0))) in
    let told = Tells c.in-Some.cell.now in
    record {
      its = event_of_actor (hall_state c.args.self.now) c.args.a c.args.event c.requires.event ∙ ap Some (sym owner);
      serials = can.serials;
      others = can.others;
      untold = still_untold told (Tells copy) (none_told s.orca.blocks told c.self.invariant.2 c.in-Some.ensures.blocks) c.in_ok-copy.ensures.told;
    }
