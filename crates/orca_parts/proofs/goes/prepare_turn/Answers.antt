use Rattle.std.proofs.Common.{◌≤◌, length, refl, rules, subst, sym, ap, ◌∙◌}
use Rattle.orca_names.specs.declared.limits.TheConstants.{BODY_LIMIT}
use Rattle.event_rule.specs.declared.event.Event.TheVariants.{Go}
use Rattle.actor_cell.specs.Moves.{act_in}
use Rattle.actor_cell.specs.Tells.{told_out}
use Rattle.actor_table.specs.Changes.{HasCell}
use Rattle.actor_table.specs.Slots.{slot_at}
use Rattle.orca_parts.specs.declared.parts.Parts.{Parts}
use Rattle.orca_parts.specs.Blocks.{HasBlocksFor}
use Rattle.orca_parts.specs.Goes.{IsFoundGo, MakesInLimit}
use Rattle.orca_parts.specs.Ready.{Prepares}
use Rattle.orca_parts.proofs.Lacking.{lacks_fault, makes_few}
use Rattle.orca_parts.proofs.Prepared.{placed_room, prepared_then}
use Rattle.orca_parts.proofs.Preparing.{refused_by}
use Rattle.orca_parts.proofs.goes.prepare_turn.Goals as goal

pub returns-in_err-reserve_placed : goal.returns-in_err-reserve_placed
returns-in_err-reserve_placed c =
    let core = c.args.m.now in
    let m = core.parts in
    let a = c.args.a in
    let placed = c.reserve_placed.new.parts.placed in
    record {
      prepares = subst (λ p. Prepares (Go a) core (record core { parts = p }) c.from_residual.result) (sym c.reserve_placed.ensures.same)
          (refused_by (Go a) core (record m { placed = placed }) (placed_room m placed) (record { turn = refl; turned = refl }) _ _ (search rules)
          (lacks_fault core a c.requires.found (makes_few core a (search rules)) _ c.in_err-reserve_placed.ensures.fault));
      sends = ap (λ (p : Parts). told_out p.turned) c.reserve_placed.ensures.same;
    }

pub reserve_turn-requires : goal.reserve_turn-requires
reserve_turn-requires c =
    let core = c.args.m.now in
    let same = sym c.reserve_placed.ensures.same in
    let limit : MakesInLimit core.parts = search rules in
    record {
      few = subst (λ (p : Parts). length p.turn.made ≤ BODY_LIMIT) same c.requires.few;
      found = subst (λ (p : Parts). HasCell (slot_at p.table.slots c.args.a) (IsFoundGo core.options core.code.now p.blocks c.args.a p.turn p.turned)) same c.requires.found;
      limit = subst MakesInLimit same limit;
      blocks = subst (λ (p : Parts). HasBlocksFor (act_in p.turned) p) same c.in_ok-reserve_placed.ensures.blocks;
      placed = c.in_ok-reserve_placed.ensures.room;
    }

pub returns : goal.returns
returns c =
    let core = c.args.m.now in
    let p = c.reserve_placed.new.parts in
    record {
      prepares = prepared_then (Go c.args.a) core c.reserve_turn.new.m p.placed c.reserve_turn.result
          (subst (λ (x : Parts). Prepares (Go c.args.a) (record core { parts = x }) c.reserve_turn.new.m c.reserve_turn.result) c.reserve_placed.ensures.same c.reserve_turn.ensures.prepares);
      sends = c.reserve_turn.ensures.sends ∙ ap (λ (x : Parts). told_out x.turned) c.reserve_placed.ensures.same;
    }
