use Rattle.std.proofs.Common.{refl}
use Rattle.reach_walk.proofs.Meeting.{met_none}
use Rattle.reach_walk.proofs.met.Met.new.Goals as goal

pub returns-clause-met : goal.returns-clause-met
returns-clause-met g c = met_none (g.P.Places.place c.args.places.now) (g.P.Places.count c.args.places.now) _ c.in_ok-new.ensures refl c.new-2.ensures.items
