-- Values that lead no further than to what they name.
use Rattle.std.specs.Prelude.{◌≡◌, List, [], Option}
use Rattle.orca_names.specs.declared.names.ObjName.{ObjName}
use Rattle.orca_names.specs.declared.names.Thing.{Thing}
use Rattle.orca_names.specs.declared.names.Value.{Value}
use Rattle.reach_walk.specs.Reach.{named_by, row_edges}
pub use Rattle.thing_list.specs.Putting.{Puts}

-- the row of a thing names nothing, where it has one
abbrev pub LeadsNowhere : (ObjName → Option (List Value)) → Thing → Type 0
LeadsNowhere rows x = named_by (row_edges rows x) ≡ []
