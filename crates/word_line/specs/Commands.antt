-- The command that the words are read by.
use Rattle.std.specs.Prelude.{List, [], ◌∷◌, true, codes, fold, Some}
use Rattle.clap.specs.Words.{App, Rule, Text, new_app, new_rule, with_rule, with_subcommand}
use Rattle.clap.specs.declared.builder.action.ArgAction.TheVariants.{Set, SetTrue}

-- an option with a value
abbrev pub option_rule : Text → Rule
option_rule name = record (new_rule name) { long = Some name; action = Some Set }

-- an option without a value
abbrev pub flag_rule : Text → Rule
flag_rule name = record (new_rule name) { long = Some name; action = Some SetTrue }

-- the word of `load` that stands by itself: how many nodes there are to be
abbrev pub count_rule : Rule
count_rule = record (new_rule (codes "count")) { action = Some Set; required = true }

-- the options of a run
abbrev pub run_rules : List Rule
run_rules =
    option_rule (codes "workers")
    ∷ option_rule (codes "budget")
    ∷ flag_rule (codes "counts")
    ∷ flag_rule (codes "book")
    ∷ option_rule (codes "weight")
    ∷ option_rule (codes "trace")
    ∷ option_rule (codes "rows")
    ∷ []

-- a command with the options of a run too
abbrev pub with_options : App → App
with_options a = fold with_rule a run_rules

-- the command without its subcommands: the program's own name is not among the words, and there is
-- no help
abbrev pub base_line : App
base_line = let a = new_app (codes "pony_cli") in
    record a {
      top = record a.top {
        no_binary_name = true;
        disable_help_flag = true;
        disable_help_subcommand = true;
      };
    }

-- `run` and its options
abbrev pub run_line : App
run_line = with_options (new_app (codes "run"))

-- `load`, its number and its options
abbrev pub load_line : App
load_line = with_options (with_rule (new_app (codes "load")) count_rule)

-- `audit`, which has no options
abbrev pub audit_line : App
audit_line = new_app (codes "audit")

-- `why` and its options
abbrev pub why_line : App
why_line =
    with_rule (with_rule (new_app (codes "why")) (option_rule (codes "budget")))
    (option_rule (codes "weight"))

-- a command with one more subcommand
abbrev pub with_line : App → App → App
with_line a line = with_subcommand a line.top

-- the whole command
unfoldable pub command_line : App
command_line = fold with_line base_line (run_line ∷ load_line ∷ audit_line ∷ why_line ∷ [])
