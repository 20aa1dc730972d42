-- The picture of a small run: an actor prints 7 and goes.
use Rattle.std.specs.Prelude.{◌≡◌, [], ◌∷◌, ◌++◌, codes}
use Rattle.orca_names.specs.declared.trace.Trace.TheVariants.{Deep}
use Rattle.behaviour_code.specs.declared.code.Program.{Program}
use Rattle.behaviour_code.specs.declared.instr.Instr.TheVariants as I
use Rattle.event_rule.specs.Runs.{Goes}
use Rattle.event_rule.specs.declared.event.Event.TheVariants.{Take}
use Rattle.machine_rules.specs.Next.{next}
use Rattle.machine_rules.specs.Options.{Options}
use Rattle.machine_rules.specs.State.{State, first_state}
use Rattle.picture_rules.specs.Parts.{state_lines}
use Rattle.picture_rules.specs.Pictures.{entry_lines, head_lines}
use Rattle.picture_rules.specs.Words.{text_of_lines}

-- the first actor prints 7
abbrev pub prints_seven : Program
prints_seven = record {
  kinds = record {
    name = 0;
    fields = 0;
    behaviours = record { name = 1; parameters = 0; body = I.Int 0 7 ∷ I.Print 0 ∷ [] } ∷ [];
  } ∷ [];
  names = codes "Main" ∷ codes "start" ∷ [];
}

abbrev pub usual : Options
usual = record { weight = 256; trace = Deep }

abbrev pub at_first : State
at_first = first_state prints_seven usual

-- the picture begins so
abbrev pub BeginsSo : Type 0
BeginsSo =
    text_of_lines (head_lines prints_seven usual ++ state_lines at_first)
    ≡ codes "picture 1\nweight 256\ntrace deep\n"
    ++ codes "text kind Main 0\ntext on start 0\ntext int r0 7\ntext print r0\ntext end\n"
    ++ codes "actor 0 0 0 0 0 0 0\nletter start\ndetector 0 0\n"

-- and so it goes on
abbrev pub GoesOnSo : Type 0
GoesOnSo = (t : State) → next at_first (Take 0) ≡ Goes t
    → text_of_lines (entry_lines (Take 0) at_first t)
    ≡ codes "entry take 0\nactor 0 0 0 1 0 0 0\nturn 0 0 - - - - - - - - - - - - - - - -\n"
