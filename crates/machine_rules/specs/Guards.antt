-- What an actor that is present may do, by its cell and the letters that wait for it.
use Rattle.std.specs.Prelude.{Bool, false, ◌&&◌, ◌||◌, ◌==◌, not, is_none, is_some, List}
use Rattle.plain_list.specs.Lists.{is_empty}
use Rattle.event_rule.specs.declared.event.Event.{Event}
use Rattle.event_rule.specs.declared.event.Event.TheVariants.{Take, Go, Collect, Leave, Block}
use Rattle.letter_kinds.specs.Letters.{Letter}
use Rattle.machine_rules.specs.Cell.{Cell}

-- no behaviour of it runs
abbrev pub is_idle : Cell → Bool
is_idle c = is_none c.frame

abbrev pub may_take : Cell → List Letter → Bool
may_take c mail = is_idle c && not (is_empty mail)

abbrev pub may_go : Cell → List Letter → Bool
may_go c mail = is_some c.frame

-- it did something since it collected
abbrev pub may_collect : Cell → List Letter → Bool
may_collect c mail = is_idle c && c.dirty

-- idle, with no letter, clean, not pinned, and not reported yet
abbrev pub may_block : Cell → List Letter → Bool
may_block c mail = is_idle c && (is_empty mail && not (c.dirty || (c.fields.pinned || c.reported)))

-- it might report, and nobody holds it
abbrev pub may_leave : Cell → List Letter → Bool
may_leave c mail = may_block c mail && (c.holdings.count == 0)

-- what it may do of itself; the detector's events are no actor's
abbrev pub may_do : Cell → List Letter → Event → Bool
may_do c mail (Take a) = may_take c mail
may_do c mail (Go a) = may_go c mail
may_do c mail (Collect a) = may_collect c mail
may_do c mail (Leave a) = may_leave c mail
may_do c mail (Block a) = may_block c mail
may_do c mail _ = false
