use Rattle.std.proofs.Common.{rules}
use Rattle.std.proofs.lemmas.Slice.Eq.{slice_eq-Decides}
use Rattle.foreign_table.specs.declared.search.Entry.{Entry}
use Rattle.foreign_table.specs.contracts.search.EntryPartialEq.TheImpl.{eq-value}
use Rattle.foreign_table.proofs.table.same_entries.Goals as goal

pub returns : goal.returns
returns c = slice_eq-Decides {A = Entry} {E = eq-value.it} (λ a b. search rules) c.args.held.now c.args.others.now c.eq.result c.eq.ensures
