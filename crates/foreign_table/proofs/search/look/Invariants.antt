use Rattle.std.proofs.Common.{◌-◌, length}
use Rattle.foreign_table.proofs.search.look.Given as goal

abbrev pub decreases-loop-place : goal.decreases-loop-place
decreases-loop-place l = length l.held - l.place
