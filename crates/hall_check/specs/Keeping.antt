-- The claim that a pass keeps.
use Rattle.std.specs.Prelude.{◌≡◌, Option, Some, None}
use Rattle.std.specs.Coded.{codes}
use Rattle.actor_table.specs.Codes.{coded_blocks, coded_entries, coded_known, coded_own, coded_own_blocks}
use Rattle.seat_hall.specs.declared.task.SeatTask.{SeatTask}
use Rattle.seat_hall.specs.Boards.{PassValue, out_of}
use Rattle.seat_hall.specs.Passes.{MayCommit}

-- it is the one claim of the pass that is out, and the pass may commit it
abbrev pub KeepsClaim : PassValue → Option SeatTask → Type 0
KeepsClaim p None = out_of p ≡ 0
KeepsClaim p (Some task) = (out_of p ≡ 1) × MayCommit p.number p.token task

-- there are not two ways for it to be so
pub keeps_claim_prop : (p : PassValue) (kept : Option SeatTask) → IsProp (KeepsClaim p kept)
keeps_claim_prop p None = Prim.hlevel codes
keeps_claim_prop p (Some task) =
    Prim.hlevel (codes, coded_own, coded_own_blocks, coded_entries, coded_known, coded_blocks)
