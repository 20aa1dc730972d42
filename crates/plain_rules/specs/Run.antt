-- The events of the machine that frees nothing.
use Rattle.event_rule.specs.declared.event.Event.{Event}
use Rattle.event_rule.specs.declared.event.Event.TheVariants.{Take, Go}
use Rattle.event_rule.specs.Runs.{Step, NotEnabled}
use Rattle.plain_rules.specs.Machine.{PlainState, plain_take, plain_go}

-- it takes and goes; the other events are none of its own
abbrev pub plain_next : PlainState → Event → Step PlainState
plain_next s (Take a) = plain_take s a
plain_next s (Go a) = plain_go s a
plain_next s _ = NotEnabled
