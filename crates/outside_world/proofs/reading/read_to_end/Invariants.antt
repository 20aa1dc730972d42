use Rattle.std.proofs.Common.{◌≡◌, ◌≤◌, ◌-◌, false, vec_len}
use Rattle.std.specs.Io.KnownBytes.{Consumes}
use Rattle.outside_world.proofs.reading.read_to_end.Given as goal

abbrev pub invariant-loop-source : goal.invariant-loop-source
invariant-loop-source g l = record {
  front : Consumes (g.S.Source.left l.initial.source) (g.S.Source.left l.source) l.bytes.items;
  bounded : vec_len l.bytes ≤ l.most;
  well : g.S.Source.faults l.source ≡ g.S.Source.faults l.initial.source;
  goes_on : g.S.Source.ended l.source ≡ false;
}

abbrev pub decreases-loop-source : goal.decreases-loop-source
decreases-loop-source g l = l.most - vec_len l.bytes
