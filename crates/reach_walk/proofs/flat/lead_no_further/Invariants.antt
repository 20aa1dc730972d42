use Rattle.reach_walk.proofs.flat.lead_no_further.Given as goal

abbrev pub ghosts-lead_no_further_counted : goal.ghosts-lead_no_further_counted
ghosts-lead_no_further_counted g a = record { name = a.blank.name; parts = a.blank.parts }
