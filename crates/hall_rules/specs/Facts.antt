-- What was found of a cell is a fact: there are not two ways for it to be so.
use Rattle.std.proofs.Common.{Option, None, Some}
use Rattle.std.specs.Prelude.{IsSomeAnd}
use Rattle.std.specs.Coded.{codes}
use Rattle.orca_names.specs.declared.options.Options.{Options}
use Rattle.behaviour_code.specs.declared.code.Program.{Program}
use Rattle.actor_cell.specs.declared.cell.Cell.{Cell}
use Rattle.actor_cell.specs.declared.found.Found.{Found}
use Rattle.actor_cell.specs.declared.found.Found.TheVariants.{Collects, Goes, Nothing}
use Rattle.turn_rules.specs.declared.act.Frame.{Frame}
use Rattle.actor_cell.specs.Cells.{as_cell}
use Rattle.actor_cell.specs.Founds.{IsFound}
use Rattle.orca_parts.specs.Founds.{IsFoundUntold}
use Rattle.actor_cell.specs.Goes.{IsTold}
use Rattle.actor_cell.specs.Moves.{act_in}
use Rattle.actor_table.specs.Codes.{coded_entries, coded_known, coded_own}

is_turn_prop : (options : Options) (program : Program) (c : Cell) (found : Found) → IsProp (IsFound options program c found)
is_turn_prop options program c (Goes turn turned) = by c.frame
  where
    by : (frame : Option Frame) → IsProp (IsSomeAnd frame
        (IsTold options program c.heap.owner (as_cell c) turn turned.place (act_in turned)))
    by None = Prim.hlevel (codes, coded_own, coded_entries, coded_known)
    by (Some frame) = Prim.hlevel (codes, coded_own, coded_entries, coded_known)
is_turn_prop options program c (Collects sweep) = Prim.hlevel (codes, coded_own, coded_entries, coded_known)
is_turn_prop options program c Nothing = Prim.hlevel (codes, coded_own, coded_entries, coded_known)

pub is_found_prop : (options : Options) (program : Program) (c : Cell) (found : Found) → IsProp (IsFoundUntold options program c found)
is_found_prop options program c found = Prim.hlevel (is_turn_prop)
