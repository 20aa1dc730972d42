use Rattle.table_check.proofs.walk_tests.walks_once.Given as goal

abbrev pub ghosts-walk_both : goal.ghosts-walk_both
ghosts-walk_both a = record { name = a.blank.name; parts = a.blank.parts }
