use Rattle.std.proofs.Common.{drop}
use Rattle.machine_rules.specs.Detect.{ask_all}
use Rattle.actor_table.specs.Slots.{actors_of}
use Rattle.orca_parts.proofs.Pushed.{Pushes}
use Rattle.orca_parts.proofs.scans.ask_all.Given as goal

abbrev pub invariant-loop-member : goal.invariant-loop-member
invariant-loop-member l =
    let left = drop l.member-index l.members in
    Pushes left (ask_all left l.number) (ask_all l.members l.number (actors_of l.fn.table.slots)) l.fn.table.slots l.table.slots l.lowest
