-- What an actor's next step of its own is found to be.
use Rattle.std.specs.Prelude.{◌≡◌, true, false, None, IsSomeAnd}
use Rattle.orca_names.specs.declared.options.Options.{Options}
use Rattle.behaviour_code.specs.declared.code.Program.{Program}
use Rattle.actor_cell.specs.declared.cell.Cell.{Cell}
use Rattle.actor_cell.specs.declared.found.Found.{Found}
use Rattle.actor_cell.specs.declared.found.Found.TheVariants.{Goes, Collects, Nothing}
use Rattle.actor_cell.specs.Cells.{as_cell}
use Rattle.actor_cell.specs.Goes.{IsTold}
use Rattle.actor_cell.specs.Moves.{act_in}
use Rattle.actor_cell.specs.Sweeps.{sweep_of}

-- its turn, exactly where it has a frame; its sweep, exactly where it has none and is dirty
abbrev pub IsFound : Options → Program → Cell → Found → Type 0
IsFound options program c (Goes turn turned) = IsSomeAnd c.frame
    (IsTold options program c.heap.owner (as_cell c) turn turned.place (act_in turned))
IsFound options program c (Collects sweep) =
    (c.frame ≡ None) × (c.dirty ≡ true) × (sweep ≡ sweep_of options.trace c)
IsFound options program c Nothing = (c.frame ≡ None) × (c.dirty ≡ false)
