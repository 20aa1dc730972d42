use Rattle.std.proofs.Common.{◌+◌, None, ap, subst, sym, ◌∙◌}
use Rattle.foreign_table.specs.Table.{AllHere, Table, block_at}
use Rattle.foreign_table.proofs.Here.{entered_here}
use Rattle.cell_check.proofs.count_tests.hold_last.Goals as goal

pub returns-then-count-lt1000 : goal.returns-then-count-lt1000
returns-then-count-lt1000 c = λ here.
    let reserved : AllHere c.reserve.new.self = λ x. ap (λ (t : Table). block_at t.blocks x) c.reserve.ensures.same ∙ here x in
    subst AllHere (sym c.gain.ensures) (entered_here (λ n. n + 256) _ None c.reserve.new.self reserved)
