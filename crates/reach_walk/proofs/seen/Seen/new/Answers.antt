use Rattle.std.proofs.Common.{length, sym, ap, subst, arith}
use Rattle.std.specs.List.{IsDistinct}
use Rattle.orca_names.specs.Names.{is_thing}
use Rattle.reach_walk.proofs.Distinct.{IsDistinct-nil}
use Rattle.reach_walk.proofs.seen.Seen.new.Goals as goal

pub returns-clause-seen : goal.returns-clause-seen
returns-clause-seen c = record {
  once = subst (IsDistinct is_thing) (sym c.new.ensures) IsDistinct-nil;
  noted = omega (arith, ap length c.new.ensures);
  owner = λ a e. cc;
}
