use Rattle.std.proofs.Common.{ap, refl, subst, sym}
use Rattle.object_heap.specs.Heap.{Heap}
use Rattle.foreign_table.specs.Table.{Table}
use Rattle.actor_cell.proofs.Tells.{tells_reserved}
use Rattle.actor_cell.specs.Tells.{AllIn}
use Rattle.actor_cell.proofs.cell.Cell.reserve_go.Goals as goal

pub returns-in_err-reserve-clause-told : goal.returns-in_err-reserve-clause-told
returns-in_err-reserve-clause-told c =
    let s = c.args.self.now in
    let same = c.reserve.ensures.same in
    tells_reserved s.heap c.reserve.new.self s.foreign s.foreign s.known s.known
    (ap (λ (h : Heap). h.owner) same) (ap (λ (h : Heap). h.rows) same) (ap (λ (h : Heap). h.blocks) same) refl refl refl refl

pub returns-clause-told : goal.returns-clause-told
returns-clause-told c =
    let s = c.args.self.now in
    let same = c.reserve.ensures.same in
    let held = c.reserve_entries.ensures.same in
    tells_reserved s.heap c.reserve.new.self s.foreign c.reserve_entries.new.foreign s.known s.known
    (ap (λ (h : Heap). h.owner) same) (ap (λ (h : Heap). h.rows) same) (ap (λ (h : Heap). h.blocks) same)
    (ap (λ (t : Table). t.entries) held) (ap (λ (t : Table). t.blocks) held) refl refl

pub returns-in_err-reserve-clause-lie : goal.returns-in_err-reserve-clause-lie
returns-in_err-reserve-clause-lie c = subst AllIn (sym c.reserve.ensures.same)

pub returns-clause-lie : goal.returns-clause-lie
returns-clause-lie c = subst AllIn (sym c.reserve.ensures.same)
