use Rattle.std.proofs.Common.{◌≡◌, List, refl, subst, ℕ}
use Rattle.std.specs.List.Sorted.{IsStrictlySortedBy}
use Rattle.event_rule.specs.declared.event.Event.TheVariants.{Leave}
use Rattle.actor_cell.specs.declared.cell.Cell.{Cell}
use Rattle.actor_cell.specs.Cells.{as_cell}
use Rattle.actor_cell.specs.Outs.{left_behind}
use Rattle.actor_table.specs.Slots.{slot_at}
use Rattle.letter_kinds.specs.Counting.{Amount}
use Rattle.orca_parts.specs.Letters.{FitLetters}
use Rattle.orca_parts.specs.Touched.{receivers}
use Rattle.orca_parts.specs.declared.parts.Parts.{Parts}
use Rattle.orca_parts.proofs.Preparing.{acts_here, acts_still, only_room, prepared, still_lies}
use Rattle.orca_parts.proofs.leaves.prepare_leave.Goals as goal

pub give_back-requires : goal.give_back-requires
unfolding IsStrictlySortedBy
give_back-requires c = (tt, tt)

pub returns : goal.returns
returns c =
    let m = c.args.m.now in
    let slots = m.parts.table.slots in
    let parts : Parts = record m.parts { table = c.reserve_all.new.table; letters = c.in_ok-letters.letters } in
    let does = c.reserve_all.ensures.same in
    let returns = λ (x : Cell). c.in_ok-letters.letters.items ≡ left_behind c.args.a (as_cell x) in
    prepared (Leave c.args.a) m parts (only_room m.parts parts refl refl refl does.actors does.away refl does.told (still_lies slots parts.table.slots does.places) refl) (record { turn = refl; turned = refl })
    (record {
      acts = acts_still (Leave c.args.a) c.args.a slots parts.table.slots returns does.places does.letters
          (acts_here (Leave c.args.a) (slot_at slots c.args.a) c.in-Some.cell.now returns c.in-Some.ensures.cell c.in_ok-letters.ensures);
      fit = subst (λ (gs : List (ℕ × List Amount)). FitLetters (receivers gs) parts.table.slots) c.deref.ensures.value c.in_ok-reserve_all.ensures.ok;
    })
