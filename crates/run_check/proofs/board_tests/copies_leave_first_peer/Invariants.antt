use Rattle.orca_names.specs.declared.trace.Trace.TheVariants.{Deep}
use Rattle.run_check.proofs.board_tests.copies_leave_first_peer.Given as goal

-- the hall is of this run
abbrev pub ghosts-copies_leave_first : goal.ghosts-copies_leave_first
ghosts-copies_leave_first g a = record { program = a.code.now; options = record { weight = 256; trace = Deep }; budget = 1000 }
