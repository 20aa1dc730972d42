use Rattle.std.proofs.Common.{◌≡◌, ◌-◌, arith}
use Rattle.std.specs.Prelude.{vec_len, vec_capacity}
use Rattle.row_store.specs.Memory.{remembered}
use Rattle.foreign_table.specs.Table.{kept_in}
use Rattle.foreign_table.proofs.Entries.{no_entries, none_held}
use Rattle.foreign_table.proofs.Rows.{none_follow}
use Rattle.foreign_table.proofs.Seen.{no_kept, none_recalled}
use Rattle.foreign_table.proofs.table.ForeignTable.new.Goals as goal

pub invariant_of-result : goal.invariant_of-result
invariant_of-result c = (
  none_held c.new.result.items c.new.ensures.items,
  none_follow c.new.result.items c.new-2.result.items c.new.ensures.items c.new-2.ensures.items,
  none_recalled (remembered c.new-3.result) _ (no_entries c.new-2.result.items c.new.result.items c.new.ensures.items),
)

pub returns : goal.returns
returns c =
    let room : vec_capacity c.new.result - vec_len c.new.result ≡ 0 = omega arith in
    let values : vec_capacity c.new-2.result - vec_len c.new-2.result ≡ 0 = omega arith in
    no_kept (remembered c.new-3.result) _ _ (kept_in c.new-2.result.items c.new.result.items) (no_entries c.new-2.result.items c.new.result.items c.new.ensures.items) room values
