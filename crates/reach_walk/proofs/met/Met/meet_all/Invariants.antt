use Rattle.std.proofs.Common.{◌≡◌, ◌+◌, ◌++◌, List, length, take}
use Rattle.orca_names.specs.declared.names.Thing.{Thing}
use Rattle.reach_walk.specs.Met.{Grows, HasMet, met_by}
use Rattle.reach_walk.proofs.met.Met.meet_all.Given as goal

abbrev pub invariant-loop-value : goal.invariant-loop-value
invariant-loop-value g l = record {
  met : (things : List Thing) → HasMet (g.P.Places.place l.places) (g.P.Places.count l.places) l.fn.self things
      → HasMet (g.P.Places.place l.places) (g.P.Places.count l.places) l.self (things ++ met_by (take l.value-index l.values));
  queue : Grows l.fn.self.queue.items l.self.queue.items;
  steps : l.steps ≡ l.fn.steps + l.value-index;
  same : length l.self.noted.bits ≡ length l.fn.self.noted.bits;
}
