-- The reports of a run and of an audit.
use Rattle.std.specs.Prelude.{ℕ, Bool, List, [], ◌++◌, codes, if◌then◌else◌}
use Rattle.std.specs.Fmt.{decimal}
use Rattle.std.specs.declared.option.Option.{Option}
use Rattle.std.specs.Option.{option_map_or}
use Rattle.std.specs.List.{flat_map}
use Rattle.orca_names.specs.declared.names.Value.{Value}
use Rattle.orca_names.specs.declared.tally.Sums.{Sums}
use Rattle.run_book.specs.Books.{BookValue, book_text}
use Rattle.report_text.specs.declared.status.Status.{Status}
use Rattle.report_text.specs.declared.numbers.Numbers.{Numbers}
use Rattle.report_text.specs.Ends.{end_word}
use Rattle.report_text.specs.Parts.{amount_text, thing_text, value_text}

-- the line of a print
abbrev pub print_line : Value → List ℕ
print_line v = value_text v ++ codes "\n"

-- the line of what was made and is left
abbrev pub number_line : List ℕ → Numbers → List ℕ
number_line what n = what ++ amount_text (codes "made") n.made ++ amount_text (codes "left") n.left ++ codes "\n"

-- the line of a thing that is left, with its count and the four sums of the balance
abbrev pub count_line : Sums → List ℕ
count_line s =
    thing_text s.thing ++ amount_text (codes "count") s.count ++ amount_text (codes "inc") s.inc ++ amount_text (codes "dec") s.dec
    ++ amount_text (codes "held") s.held ++ amount_text (codes "letters") s.letters ++ codes "\n"

-- the prints, how the run ended, what was made and is left, and where they are asked for, the
-- counts and the book
abbrev pub report_of : Status → List Value → Numbers → Numbers → Option (List Sums)
    → Option BookValue → List ℕ
report_of status prints actors objects counts book =
    flat_map print_line prints
    ++ codes "--\n"
    ++ codes "end " ++ end_word status ++ codes "\n"
    ++ number_line (codes "actors") actors
    ++ number_line (codes "objects") objects
    ++ option_map_or (flat_map count_line) counts []
    ++ option_map_or book_text book []

-- the prints, that the book is a run, how many entries it has, whether an event is enabled at its
-- end, and what was made and is left
abbrev pub audit_report_of : Bool → List Value → ℕ → Numbers → Numbers → List ℕ
audit_report_of is_quiet prints entries actors objects =
    flat_map print_line prints
    ++ codes "--\nrun yes\n"
    ++ codes "entries " ++ decimal entries ++ codes "\n"
    ++ codes "end " ++ (if is_quiet then codes "quiet" else codes "open") ++ codes "\n"
    ++ number_line (codes "actors") actors
    ++ number_line (codes "objects") objects
