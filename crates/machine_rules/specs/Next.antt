-- The events of the machine that collects: what each leads to.
use Rattle.std.specs.Prelude.{◌≡◌, Bool, false, if◌then◌else◌, List, [], Option, None, Some}
use Rattle.std.specs.Option.{option_map_or}
use Rattle.event_rule.specs.Runs.{Step, NotEnabled}
use Rattle.event_rule.specs.declared.event.Event.{Event}
use Rattle.event_rule.specs.declared.event.Event.TheVariants.{Take, Go, Collect, Leave, Block, Hear, Scan, Reap}
use Rattle.letter_kinds.specs.Letters.{Letter}
use Rattle.machine_rules.specs.Actors.{Seat, seat_at}
use Rattle.machine_rules.specs.Block.{block}
use Rattle.machine_rules.specs.Cell.{Cell}
use Rattle.machine_rules.specs.Collect.{collect}
use Rattle.machine_rules.specs.Detect.{acked_token, hear, scan, reap}
use Rattle.machine_rules.specs.Go.{go}
use Rattle.machine_rules.specs.Guards.{may_block, may_collect, may_go, may_leave, may_take}
use Rattle.machine_rules.specs.Leave.{leave}
use Rattle.orca_names.specs.declared.trace.Trace.{Trace}
use Rattle.machine_rules.specs.State.{State}
use Rattle.machine_rules.specs.Take.{take}

-- an actor that is present, and may, acts
abbrev pub acting : (Cell → List Letter → Bool) → (Cell → List Letter → Step State) → Option Seat
    → Step State
acting may act None = NotEnabled
acting may act (Some o) = if may o.cell o.mail then act o.cell o.mail else NotEnabled

-- with this tracing
abbrev pub next_by : Trace → State → Event → Step State
next_by trace s (Take a) = acting may_take (take s a) (seat_at s.actors a)
next_by trace s (Go a) = acting may_go (go trace s a) (seat_at s.actors a)
next_by trace s (Collect a) = acting may_collect (collect trace s a) (seat_at s.actors a)
next_by trace s (Leave a) = acting may_leave (leave s a) (seat_at s.actors a)
next_by trace s (Block a) = acting may_block (block s a) (seat_at s.actors a)
next_by trace s Hear = hear s s.notes
next_by trace s Scan = if s.detector.news then scan s else NotEnabled
next_by trace s (Reap number) = option_map_or (reap s) (acked_token number s.detector) NotEnabled

abbrev pub next : State → Event → Step State
next s e = next_by s.options.trace s e

-- ---- an actor that has nothing to do

-- it has no frame, did nothing since it collected, and no letter waits for it
pub record IsAtRest (c : Cell) (mail : List Letter) : Type 0 where
  pub idle : c.frame ≡ None
  pub clean : c.dirty ≡ false
  pub empty : mail ≡ []
