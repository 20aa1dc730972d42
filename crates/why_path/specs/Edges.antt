-- By what a thing that is left leads to others.
use Rattle.std.specs.Prelude.{ℕ, suc, List, [], ◌∷◌, ◌++◌, Contains, Option, option_map}
use Rattle.std.specs.FinMap as m
use Rattle.std.specs.List.{find}
use Rattle.std.specs.Option.{option_map_or, option_to_list}
use Rattle.orca_names.specs.Names.{is_thing, thing_of}
use Rattle.orca_names.specs.declared.names.ObjName.{ObjName}
use Rattle.orca_names.specs.declared.names.Thing.{Thing}
use Rattle.orca_names.specs.declared.names.Thing.TheVariants.{Actor, Obj}
use Rattle.orca_names.specs.declared.names.Value.{Value}
use Rattle.orca_names.specs.declared.reason.Edge.{Edge}
use Rattle.orca_names.specs.declared.reason.Edge.TheVariants as edges
use Rattle.letter_kinds.specs.Holdings.{Row}
use Rattle.letter_kinds.specs.Letters.{Letter, App, Inc, Dec, Confirm}
use Rattle.machine_rules.specs.Actors.{Actors, Seat, seat_at}

-- an edge, and the thing to which it leads
abbrev pub Lead : Type 0
Lead = Edge × Thing

-- the thing that a value names, if it names one, by this edge
abbrev pub lead_of : Edge → Value → List Lead
lead_of edge v = option_to_list (option_map (λ x. (edge, x)) (thing_of v))

-- the things that these values name, each by the edge of its place; the first place is i
abbrev pub leads_from : (ℕ → Edge) → ℕ → List Value → List Lead
leads_from edge i [] = []
leads_from edge i (v ∷ values) = lead_of (edge i) v ++ leads_from edge (suc i) values

-- the arguments of an application letter; another letter has none
abbrev pub args_of : Letter → List Value
args_of (App behaviour args load rows) = args
args_of (Inc things) = []
args_of (Dec things) = []
args_of (Confirm token) = []

-- by the arguments of letters, the first of which is letter k
abbrev pub leads_of_letters : ℕ → List Letter → List Lead
leads_of_letters k [] = []
leads_of_letters k (letter ∷ mail) =
    leads_from (edges.Letter k) 0 (args_of letter) ++ leads_of_letters (suc k) mail

-- the registers of an actor that stands within a turn
abbrev pub registers_of : Seat → List Value
registers_of o = option_map_or (λ f. f.registers) o.cell.frame []

-- an actor leads on by its fields, its registers and its letters
abbrev pub leads_of_seat : Seat → List Lead
leads_of_seat o =
    leads_from edges.Field 0 o.cell.fields.values
    ++ (leads_from edges.Register 0 (registers_of o) ++ leads_of_letters 0 o.mail)

-- the row of an own object
abbrev pub row_at_seat : ObjName → Seat → Row
row_at_seat n o = option_map_or (λ e. e.0) (m.get o.cell.holdings.rows n.serial) []

-- the row of an object that is left, as its owner has it
abbrev pub row_left : Actors → ObjName → Row
row_left actors n = option_map_or (row_at_seat n) (seat_at actors n.owner) []

-- by its edges, in their order, a thing leads to these; an object leads to its owner last
unfoldable pub leads_of : Actors → Thing → List Lead
leads_of actors (Actor a) = option_map_or leads_of_seat (seat_at actors a) []
leads_of actors (Obj n) =
    leads_from edges.Place 0 (row_left actors n) ++ (edges.Owner, Actor n.owner) ∷ []

-- the edge leads from one thing to the other
abbrev pub LeadsBy : Actors → Thing → Edge → Thing → Type 0
LeadsBy actors t e x = Contains (leads_of actors t) (e, x)

abbrev pub LeadsTo : Actors → Thing → Thing → Type 0
LeadsTo actors t x = (e : Edge) × LeadsBy actors t e x

-- the first of these edges that leads to the thing
abbrev pub first_to : Thing → List Lead → Option Edge
first_to x leads = option_map (λ l. l.0) (find (λ l. is_thing l.1 x) leads)
