-- Where things stand in a program.
use Rattle.std.specs.Prelude.{ℕ, List, [], ◌&&◌, ◌==◌, Bool, false, Option, bytes_eq, codes, find, option_map, position, slice_get}
use Rattle.std.specs.Option.{option_map_or}
use Rattle.behaviour_code.specs.Names.{text_of}
use Rattle.behaviour_code.specs.declared.code.Behaviour.{Behaviour}
use Rattle.behaviour_code.specs.declared.code.Kind.{Kind}
use Rattle.behaviour_code.specs.declared.code.Program.{Program}
use Rattle.behaviour_code.specs.declared.instr.Instr.{Instr}
use Rattle.behaviour_code.specs.declared.instr.Instr.TheVariants as I

-- the number of fields of a kind, 0 where there is no such kind
abbrev pub field_count : Program → ℕ → ℕ
field_count program kind = option_map_or (λ k. k.fields) (slice_get program.kinds kind) 0

-- the behaviours of a kind, none where there is no such kind
abbrev pub behaviours_of : Program → ℕ → List Behaviour
behaviours_of program kind = option_map_or (λ k. k.behaviours) (slice_get program.kinds kind) []

-- the instructions of a behaviour, none where there is no such behaviour
abbrev pub body_of : Program → ℕ → ℕ → List Instr
body_of program kind behaviour =
    option_map_or (λ b. b.body) (slice_get (behaviours_of program kind) behaviour) []

-- a kind of the name
abbrev pub is_kind : ℕ → Kind → Bool
is_kind name kind = kind.name == name

-- the place of the first kind of the name
abbrev pub kind_named : Program → ℕ → Option ℕ
kind_named program name = position (is_kind name) program.kinds

-- a behaviour `start` without parameters
abbrev pub is_start : List (List ℕ) → Behaviour → Bool
is_start texts b = bytes_eq (text_of texts b.name) (codes "start") && (b.parameters == 0)

-- the name of the first kind's behaviour `start` without parameters, with which a run begins
abbrev pub start_name : Program → Option ℕ
start_name program =
    option_map (λ b. b.name) (find (is_start program.names) (behaviours_of program 0))

-- a label of the name
abbrev pub is_label : ℕ → Instr → Bool
is_label name (I.Label l) = l == name
is_label name _ = false

-- a behaviour of the name that takes so many arguments
abbrev pub takes_call : ℕ → ℕ → Behaviour → Bool
takes_call name arguments b = (b.name == name) && (b.parameters == arguments)
