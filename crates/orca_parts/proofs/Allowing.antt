-- What runs allow is allowed where it was prepared.
use Rattle.std.proofs.Common.{◌≡◌, ℕ, length, sym, ap, subst, ◌∙◌}
use Rattle.std.specs.Prelude.{IsSomeAnd}
use Rattle.std.specs.FinMap as map_of
use Rattle.std.proofs.lemmas.List.{length-map}
use Rattle.orca_names.specs.declared.names.Thing.TheVariants.{Actor}
use Rattle.orca_names.specs.declared.options.Options.{Options}
use Rattle.behaviour_code.specs.declared.code.Program.{Program}
use Rattle.machine_rules.specs.Actors.{seat}
use Rattle.actor_cell.specs.declared.cell.Cell.{Cell}
use Rattle.actor_cell.specs.Moves.{act_in}
use Rattle.actor_cell.specs.declared.turning.Turned.{Turned}
use Rattle.actor_cell.specs.Cells.{as_cell}
use Rattle.actor_cell.specs.Goes as goes
use Rattle.actor_cell.specs.Goes.{CanMove, turned_in}
use Rattle.actor_cell.proofs.Telling.{told_can}
use Rattle.actor_table.specs.declared.slot.Place.{Place}
use Rattle.actor_table.specs.declared.slot.Place.TheVariants.{Home}
use Rattle.actor_table.specs.Changes.{CanTakeHere, HasCell}
use Rattle.actor_table.specs.Slots.{actors_of, seat_of, slot_at}
use Rattle.orca_parts.specs.declared.parts.Parts.{Parts}
use Rattle.orca_parts.specs.Fits.{FitsTake}
use Rattle.orca_parts.specs.Goes.{CountsAllow, FitsGo}
use Rattle.orca_parts.specs.Steps.{AllowsGo, AllowsTake, TurnFits}
use Rattle.orca_parts.proofs.Giving.{seat_here}

same_cell : (place : Place) (c d : Cell) → place ≡ Home c → place ≡ Home d → c ≡ d
same_cell place c d one two = let z : Home c ≡ Home d = sym one ∙ two in cc

pub can_take : (a : ℕ) (m : Parts) → FitsTake a m → AllowsTake a (actors_of m.table.slots)
    → HasCell (slot_at m.table.slots a) (CanTakeHere a (slot_at m.table.slots a).mail)
can_take a m fits allow = record {
  cell = fits.cell;
  home = fits.home;
  so = record {
    letter = fits.letter;
    later = fits.later;
    first = fits.letters;
    idle = fits.idle;
    can = allow (as_cell fits.cell) fits.letter fits.later
        (seat_here m.table.slots a fits.cell fits.home ∙ ap (λ ls. seat (as_cell fits.cell) ls) fits.letters);
    room = fits.room;
  };
}

pub counts_allow : (options : Options) (program : Program) (a : ℕ) (found : Turned) (m : Parts)
    → FitsGo options program a found m → AllowsGo options program a (actors_of m.table.slots)
    → (c : Cell) → (slot_at m.table.slots a).place ≡ Home c → CountsAllow a (act_in found) m c
counts_allow options program a found m fits allow c home =
    subst (CountsAllow a (act_in found) m) (same_cell (slot_at m.table.slots a).place fits.cell c fits.home home) (record {
      can = told_can fits.frame (as_cell x) m.turn found.place a (as_cell x).holdings (act_in found)
          (subst (λ (t : goes.Turned). CanMove a (as_cell x).holdings t.turn t.act) fits.found_is
          (subst (λ o. IsSomeAnd o (λ frame. let t = turned_in options program a (as_cell x) frame in CanMove a (as_cell x).holdings t.turn t.act)) fits.framed (its.can fits.frame fits.framed)));
      serials = its.serials;
      unnamed = ap (λ n. map_of.get x.foreign.entries (Actor n)) (sym (length-map m.table.slots seat_of)) ∙ its.unnamed;
    })
  where
    x : Cell
    x = fits.cell

    its : TurnFits options program a (length (actors_of m.table.slots)) (as_cell fits.cell)
    its = allow (as_cell fits.cell) (slot_at m.table.slots a).mail.letters (seat_here m.table.slots a fits.cell fits.home)
