use Rattle.reach_walk.proofs.by_place.mark_bits.Given as goal

abbrev pub ghosts-mark_bits_counted : goal.ghosts-mark_bits_counted
ghosts-mark_bits_counted g a = record { name = a.blank.name; parts = a.blank.parts }
