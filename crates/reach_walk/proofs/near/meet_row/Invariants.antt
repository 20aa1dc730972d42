use Rattle.std.proofs.Common.{◌≡◌, ◌+◌, ◌++◌, Contains, List, length, take}
use Rattle.orca_names.specs.declared.names.Thing.{Thing}
use Rattle.orca_names.specs.declared.names.Thing.TheVariants.{Actor}
use Rattle.reach_walk.specs.Met.{Grows, HasMet, met_by}
use Rattle.reach_walk.proofs.near.meet_row.Given as goal

abbrev pub invariant-loop-value : goal.invariant-loop-value
invariant-loop-value g l = record {
  met : (things : List Thing) → HasMet (g.R.Places.place l.rows) (g.R.Places.count l.rows) l.fn.met things → Contains things (Actor l.dense.owner)
      → HasMet (g.R.Places.place l.rows) (g.R.Places.count l.rows) l.met (things ++ met_by (take l.value-index l.values));
  queue : Grows l.fn.met.queue.items l.met.queue.items;
  steps : l.steps ≡ l.fn.steps + l.value-index;
  same : length l.met.noted.bits ≡ length l.fn.met.noted.bits;
}
