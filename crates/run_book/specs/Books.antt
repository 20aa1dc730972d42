-- A book as contracts see it, and its text.
use Rattle.std.specs.Prelude.{ℕ, List, [], ◌++◌, codes, ◌≤◌}
use Rattle.std.specs.Fmt.{decimal}
use Rattle.std.specs.List.{flat_map}
use Rattle.orca_names.specs.declared.options.Options.{Options}
use Rattle.orca_names.specs.declared.trace.Trace.{Trace}
use Rattle.orca_names.specs.declared.trace.Trace.TheVariants.{Deep, Roots}
use Rattle.event_rule.specs.declared.event.Event.{Event}
use Rattle.event_rule.specs.Events.{event_text}

-- the entries in their order, for how many more there is memory, and the weight and the tracing of
-- the run
pub record BookValue : Type 0 where
  pub entries : List Event
  pub spare : ℕ
  pub weight : ℕ
  pub trace : Trace

-- the weight and the tracing of the book
abbrev pub options_of_book : BookValue → Options
options_of_book book = record { weight = book.weight; trace = book.trace }

-- a weight that a run may have
abbrev pub IsWeight : ℕ → Type 0
IsWeight weight = (2 ≤ weight) × (weight ≤ 65536)

-- a word for root-only tracing, none for the other
abbrev pub trace_text : Trace → List ℕ
trace_text Deep = []
trace_text Roots = codes " roots"

-- the first line, without its line feed
abbrev pub first_line : ℕ → Trace → List ℕ
first_line weight trace = codes "book 2 " ++ decimal weight ++ trace_text trace

-- a line for an entry
abbrev pub entry_line : Event → List ℕ
entry_line e = event_text e ++ codes "\n"

-- the first line, then a line for each entry
abbrev pub book_text : BookValue → List ℕ
book_text b = first_line b.weight b.trace ++ codes "\n" ++ flat_map entry_line b.entries
