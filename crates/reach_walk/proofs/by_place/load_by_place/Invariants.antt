use Rattle.reach_walk.proofs.by_place.load_by_place.Given as goal

abbrev pub ghosts-load_counted : goal.ghosts-load_counted
ghosts-load_counted g a = record { name = a.blank.name; parts = a.blank.parts }
