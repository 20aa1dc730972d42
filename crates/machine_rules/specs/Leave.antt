-- Leave: an actor that nobody holds goes by itself, with all that it owns.
use Rattle.std.specs.Prelude.{ℕ, List, [], ◌∷◌}
use Rattle.event_rule.specs.Runs.{Step, Goes}
use Rattle.letter_kinds.specs.Letters.{Letter}
use Rattle.machine_rules.specs.Cell.{Cell}
use Rattle.machine_rules.specs.Detect.{reap_members}
use Rattle.machine_rules.specs.State.{State}

-- it goes as the one member of a reaped set does
abbrev pub leave : State → ℕ → Cell → List Letter → Step State
leave s a c mail = Goes (record s { actors = reap_members (a ∷ []) s.actors })
