-- Lines that rise.
use Rattle.std.specs.Prelude.{ℕ, List}
use Rattle.std.specs.List.Sorted.{IsStrictlySortedBy}
use Rattle.orca_names.specs.Names.{thing_cmp}
use Rattle.orca_names.specs.declared.names.Thing.{Thing}
use Rattle.orca_names.specs.declared.reason.Reason.{Reason}
use Rattle.why_path.specs.Reasons.{things_in}

abbrev pub Rise : List Reason → Type 0
Rise reasons = IsStrictlySortedBy thing_cmp (things_in reasons)

-- a line by its thing
abbrev pub key_of : Reason → Thing × ℕ
key_of r = (r.thing, r.level)
