-- Rows that are remembered by the names of their objects.
use Rattle.std.specs.Prelude.{◌==◌, ◌&&◌, Bool, if◌then◌else◌, List, Option, None, Some}
use Rattle.orca_names.specs.declared.names.ObjName.{ObjName}
use Rattle.orca_names.specs.declared.names.Value.{Value}
use Rattle.row_store.specs.declared.memory.Memory.{Memory, Nothing, Same', Known', Taken', Parted'}
use Rattle.row_store.specs.declared.remembered.Remembered.{Remembered}

-- whether two names are of one object
abbrev pub is_object : ObjName → ObjName → Bool
is_object n k = (n.owner == k.owner) && (n.serial == k.serial)

-- the row of an object
abbrev pub row_in : Memory → ObjName → Option (List Value)
row_in Nothing k = None
row_in (Same' s t other) k = row_in other k
row_in (Known' s t before n row) k = if is_object n k then Some row.value else row_in before k
row_in (Taken' s t before n u v other) k = if is_object n k then row_in other k else row_in before k
row_in (Parted' owner s t own u v others) k = if k.owner == owner then row_in own k else row_in others k

-- the row of an object, as it is remembered beside a list
abbrev pub remembered : Remembered → ObjName → Option (List Value)
remembered r n = row_in r.memory.value n
