use Rattle.std.proofs.Common.{rules}
use Rattle.std.proofs.lemmas.Slice.Eq.{slice_eq-Decides}
use Rattle.orca_names.specs.declared.names.Value.{Value}
use Rattle.orca_names.specs.contracts.names.ValuePartialEq.TheImpl.{eq-value}
use Rattle.foreign_table.proofs.table.same_values.Goals as goal

pub returns : goal.returns
returns c = slice_eq-Decides {A = Value} {E = eq-value.it} (λ a b. search rules) c.args.values.now c.args.others.now c.eq.result c.eq.ensures
