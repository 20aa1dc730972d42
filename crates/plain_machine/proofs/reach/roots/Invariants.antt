use Rattle.std.proofs.Common.{◌≡◌, ◌++◌, drop}
use Rattle.plain_rules.specs.Reach.{roots_from}
use Rattle.plain_machine.proofs.reach.roots.Given as goal

abbrev pub invariant-loop-place : goal.invariant-loop-place
invariant-loop-place l = l.roots.items ++ roots_from l.place (drop l.place l.actors) ≡ roots_from 0 l.actors
