use Rattle.reach_walk.proofs.flat.find_flat.Given as goal

abbrev pub ghosts-find_flat_counted : goal.ghosts-find_flat_counted
ghosts-find_flat_counted g a = record { name = a.blank.name; parts = a.blank.parts }
