use Rattle.table_check.proofs.detector_tests.closed_in_a_row.Given as goal

abbrev pub ghosts-closed_count : goal.ghosts-closed_count
ghosts-closed_count a = record { name = a.blank.name; parts = a.blank.parts }
