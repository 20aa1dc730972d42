use Rattle.reach_walk.proofs.load.names_nothing.Given as goal

abbrev pub ghosts-names_nothing_counted : goal.ghosts-names_nothing_counted
ghosts-names_nothing_counted a = record { name = a.blank.name; parts = a.blank.parts }
