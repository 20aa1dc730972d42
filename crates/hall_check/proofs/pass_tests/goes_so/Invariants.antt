use Rattle.orca_names.specs.declared.trace.Trace.TheVariants.{Deep}
use Rattle.hall_check.proofs.pass_tests.goes_so.Given as goal

-- the hall is of this run
abbrev pub ghosts-go_so : goal.ghosts-go_so
ghosts-go_so g a = record { program = a.code.now; options = record { weight = 256; trace = Deep }; budget = a.budget }
