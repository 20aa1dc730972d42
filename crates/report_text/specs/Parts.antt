-- The parts of a line: names of things, values, and amounts.
use Rattle.std.specs.Prelude.{ℕ, List, ◌++◌, codes}
use Rattle.std.specs.Fmt.{decimal}
use Rattle.orca_names.specs.declared.names.ObjName.{ObjName}
use Rattle.orca_names.specs.declared.names.Thing.{Thing}
use Rattle.orca_names.specs.declared.names.Thing.TheVariants as thing
use Rattle.orca_names.specs.declared.names.Value.{Value}
use Rattle.orca_names.specs.declared.names.Value.TheVariants as value

-- an actor by its number
abbrev pub actor_text : ℕ → List ℕ
actor_text a = codes "actor " ++ decimal a

-- an object by its owner and its serial
abbrev pub object_text : ObjName → List ℕ
object_text n = codes "object " ++ decimal n.owner ++ codes "." ++ decimal n.serial

-- a thing by its name
abbrev pub thing_text : Thing → List ℕ
thing_text (thing.Actor a) = actor_text a
thing_text (thing.Obj n) = object_text n

-- a value, as it is printed
abbrev pub value_text : Value → List ℕ
value_text value.Null = codes "null"
value_text (value.Num n) = decimal n
value_text (value.Actor a) = actor_text a
value_text (value.Obj n) = object_text n

-- a name and its number, each after a space
abbrev pub amount_text : List ℕ → ℕ → List ℕ
amount_text name n = codes " " ++ name ++ codes " " ++ decimal n
