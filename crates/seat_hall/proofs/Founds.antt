-- What was found of a cell may be done where the cell is at home again.
use Rattle.std.proofs.Common.{◌≡◌, ℕ, false, Option, Some, None, Bor, IfSome, sym, ap, subst, ◌∙◌}
use Rattle.std.specs.Prelude.{IsSomeAnd, if◌then◌else◌, option_map}
use Rattle.std.specs.Option.{option_copied, option_map_or}
use Rattle.event_rule.specs.Events.{actor_of}
use Rattle.event_rule.specs.declared.event.Event.{Event}
use Rattle.machine_rules.specs.Actors.{cell_at}
use Rattle.actor_cell.specs.declared.cell.Cell.{Cell}
use Rattle.actor_cell.specs.declared.found.Found.{Found}
use Rattle.actor_cell.specs.Cells.{IsSame, as_cell}
use Rattle.actor_table.specs.Slots.{home_of, slot_at}
use Rattle.orca_parts.specs.Away.{is_out, is_out_for}
use Rattle.orca_core.specs.Machine.{Machine, cell_here, IsFoundIn}
use Rattle.hall_rules.proofs.Fitting.{still_found}
use Rattle.seat_hall.specs.Answers.{IsFoundOf}

pub installable : (m : Machine) (e : Event) (found : Found) (a : ℕ) (here : Option (Bor Cell)) → actor_of e ≡ Some a
    → is_out_for m.out e ≡ false
    → IsFoundOf m.state.options m.state.program m.state.actors e found
    → option_map (λ c. as_cell c.now) here ≡ cell_here m a → IfSome here (λ c. c.now.heap.owner ≡ a)
    → option_copied here ≡ home_of (slot_at m.kept.table.slots a) → IsFoundIn e found m
installable m e found a here acts home of cell owner kept =
    still_found m e found of.cell of.its
    (subst (λ o. IsSomeAnd o (λ c. IsSame c of.cell)) (kept ∙ ap (λ x. home_of (slot_at m.kept.table.slots x)) there) (by here cell owner))
    of.is
  where
    there : a ≡ of.cell.heap.owner
    there = let z : Some a ≡ Some of.cell.heap.owner = sym acts ∙ of.its in cc

    at_home : cell_here m a ≡ Some (as_cell of.cell)
    at_home =
        ap (λ b. if b then None else cell_at m.state.actors a) (sym (ap (λ who. option_map_or (is_out m.out) who false) acts) ∙ home)
        ∙ (ap (cell_at m.state.actors) there ∙ of.there)

    by : (here : Option (Bor Cell)) → option_map (λ c. as_cell c.now) here ≡ cell_here m a
        → IfSome here (λ c. c.now.heap.owner ≡ a) → IsSomeAnd (option_copied here) (λ c. IsSame c of.cell)
    by None cell owner = absurd (let z : None ≡ Some (as_cell of.cell) = cell ∙ at_home in cc)
    by (Some c) cell owner = (
      (let z : Some (as_cell c.now) ≡ Some (as_cell of.cell) = cell ∙ at_home in cc),
      owner ∙ there,
    )
