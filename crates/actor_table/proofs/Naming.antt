-- Who makes an actor can hold it with the weight.
use Rattle.std.proofs.Common.{◌≡◌, ◌+◌, ◌<◌, ◌≤◌, ℕ, Option, None, Some, IsSome, refl, sym, ap, subst, ◌∙◌, arith}
use Rattle.std.specs.FinMap as m
use Rattle.orca_names.specs.declared.names.Thing.TheVariants.{Actor}
use Rattle.turn_rules.specs.Segment.{Turn}
use Rattle.turn_rules.specs.declared.act.Frame.{Frame}
use Rattle.letter_kinds.specs.Holdings.{Entries, entry_count}
use Rattle.foreign_table.specs.Table.{Table, count_on}
use Rattle.ref_weights.specs.Limit.{count_limit}
use Rattle.machine_rules.specs.Cell as rules
use Rattle.actor_cell.specs.declared.cell.Cell.{Cell}
use Rattle.actor_cell.specs.Cells.{as_cell}
use Rattle.actor_cell.specs.Goes.{cell_by, out_of}
use Rattle.actor_cell.specs.Moves.{Move, New}
use Rattle.actor_table.specs.Changes.{CanGoOn}

-- who doesn't hold it can hold it with the weight
pub can_hold : (t : Table) (name weight : ℕ) → m.get t.entries (Actor name) ≡ None → weight ≤ 65536 → count_on t (Actor name) + weight < count_limit
can_hold t name weight none light = let zero = ap entry_count none in omega (arith, zero, light)

-- it has its frame still, and holds the same as before
pub can_name : (me weight name : ℕ) (turn : Turn) (place : ℕ) (act : Move) (c d : Cell) (kind register : ℕ) → act ≡ New kind register
    → CanGoOn me weight name turn act c → ((frame : Frame) → c.frame ≡ Some frame → as_cell d ≡ cell_by me (as_cell c) frame turn place act)
    → IsSome d.frame × (count_on d.foreign (Actor name) + weight < count_limit)
can_name me weight name turn place act c d kind register is can after = by c.frame refl can.running
  where
    by : (o : Option Frame) → c.frame ≡ o → IsSome o → IsSome d.frame × (count_on d.foreign (Actor name) + weight < count_limit)
    by (Some frame) at some =
        let same : as_cell d ≡ cell_by me (as_cell c) frame turn place (New kind register) = after frame at ∙ ap (cell_by me (as_cell c) frame turn place) is in
        let held : d.foreign.entries ≡ c.foreign.entries = ap (λ (y : rules.Cell). y.holdings.foreign) same in (
          subst IsSome (sym (ap (λ (y : rules.Cell). y.frame) same)) refl,
          subst (λ (es : Entries). entry_count (m.get es (Actor name)) + weight < count_limit) (sym held)
              (can.fits (subst (λ does. IsSome (out_of does).made) (sym is) refl)),
        )
    by None at some = cc
