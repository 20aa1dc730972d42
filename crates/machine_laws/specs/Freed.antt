-- What was freed in a run stays freed, and is never reached again.
use Rattle.std.specs.Prelude.{◌<◌, List, ◌++◌}
use Rattle.orca_names.specs.declared.names.Thing.{Thing}
use Rattle.behaviour_code.specs.declared.code.Program.{Program}
use Rattle.event_rule.specs.declared.event.Event.{Event}
use Rattle.machine_rules.specs.Left.{IsFreed, IsLeft, IsMade}
use Rattle.machine_rules.specs.Options.{Options}
use Rattle.plain_rules.specs.Machine.{PlainState}
use Rattle.plain_rules.specs.Reach.{IsReachable}
use Rattle.machine_rules.specs.Run.{IsPlainBeside, IsRun}
use Rattle.machine_rules.specs.State.{State}

-- what the events of the book freed is freed after the later ones too, and the machine that frees
-- nothing does not reach it then
pub record StaysFreed (program : Program) (options : Options) (book later : List Event)
    (t : State) : Type 0 where
  pub mid : State
  pub run : IsRun program options book mid
  -- the machine that frees nothing, beside the book and beside the whole run
  pub before : PlainState
  pub beside : IsPlainBeside program options book before
  pub after : PlainState
  pub beside_all : IsPlainBeside program options (book ++ later) after
  -- what is left was made; so what was left and is not left any more was freed
  pub made : (x : Thing) → IsLeft mid.actors x → IsMade before.actors x
  pub freed : (x : Thing) → IsFreed before.actors mid.actors x → IsFreed after.actors t.actors x
  pub unreached : (x : Thing) → IsFreed before.actors mid.actors x → ¬ IsReachable after x

-- so it is for each prefix of each run
abbrev pub FreedStaysFreed : Type 0
FreedStaysFreed =
    (program : Program) (options : Options) → 0 < options.weight
    → (book later : List Event) (t : State) → IsRun program options (book ++ later) t →
    StaysFreed program options book later t
