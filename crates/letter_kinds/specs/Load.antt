-- Loads: things with how their rows lie.
use Rattle.std.specs.Prelude.{ℕ, ◌≡◌, ◌-◌, ◌==◌, ◌&&◌, nat_le, if◌then◌else◌, List, Option, None, IsSome, map, refl, slice_get}
use Rattle.std.specs.List.{All}
use Rattle.std.specs.Option.{option_or}
use Rattle.std.specs.Coded.{Coded, code_by, coded×, coded_ℕ, coded_list, coded_option}
use Rattle.orca_names.specs.Codes.{coded_row, coded_thing}
use Rattle.orca_names.specs.declared.names.Thing.{Thing}
use Rattle.orca_names.specs.declared.names.Thing.TheVariants.{Actor, Obj}
use Rattle.orca_names.specs.declared.names.Value.{Value}
use Rattle.row_store.specs.Told.{Lying}

abbrev pub coded_lying : Coded Lying
coded_lying =
    code_by (Option (List Value) × Option ℕ) (coded× (coded_option coded_row) (coded_option coded_ℕ))
    (λ l. (l.row, l.block)) (λ p. record { row = p.0; block = p.1 }) (λ _. refl)

abbrev pub coded_load : Coded (List (Thing × Lying))
coded_load = coded_list (coded× coded_thing coded_lying)

-- a thing with its row
abbrev pub as_loaded : Thing × Lying → Thing × Option (List Value)
as_loaded e = (e.0, e.1.row)

-- things with their rows, wherever these lie
abbrev pub as_load : List (Thing × Lying) → List (Thing × Option (List Value))
as_load load = map as_loaded load

-- of each that lies in a block the row is known
abbrev pub AreKnown : List (Thing × Lying) → Type 0
AreKnown load = All (λ e. IsSome e.1.block → IsSome e.1.row) load

-- what an object of this owner gets of these, given from a serial on, one each; other things get none
abbrev pub given_to : {A : Type 0} → ℕ → ℕ → List A → Thing → Option A
given_to owner first given (Actor a) = None
given_to owner first given (Obj n) =
    if (n.owner == owner) && nat_le first n.serial then slice_get given (n.serial - first) else None

-- an object that gets one of these rows has it
abbrev pub HasGiven : ℕ → ℕ → List (List Value) → Thing × Lying → Type 0
HasGiven owner first rows e =
    IsSome (given_to owner first rows e.0) → e.1.row ≡ given_to owner first rows e.0

-- so it is of each that is loaded
abbrev pub HaveGiven : ℕ → ℕ → List (List Value) → List (Thing × Lying) → Type 0
HaveGiven owner first rows load = All (HasGiven owner first rows) load

-- such an object with its row, which lies in its block if it gets one
abbrev pub lies_from : ℕ → ℕ → List ℕ → Thing × Lying → Thing × Lying
lies_from owner first blocks e =
    (e.0, record { row = e.1.row; block = option_or (given_to owner first blocks e.0) e.1.block })
