use Rattle.std.proofs.Common.{◌≡◌, ◌==◌, true, false, cond, sym, ap, subst, ◌∙◌}
use Rattle.row_store.specs.Lent.{IsLent}
use Rattle.object_heap.specs.Heap.{own_block, own_row}
use Rattle.foreign_table.specs.Table.{known_block, known_row}
use Rattle.known_rows.proofs.known.KnownRowsLentRows.row_of.Goals as goal

pub returns-then-eq : goal.returns-then-eq
returns-then-eq c =
    let heap = c.args.self.now.heap.now in
    let n = c.args.n in
    let own : true ≡ (n.owner == heap.owner) = sym c.if-eq.true ∙ c.eq.ensures ∙ ap (λ a. n.owner == a) c.owner.ensures in
    subst (λ b. IsLent (cond b (own_row heap n) (known_row c.args.self.now.foreign.now n)) (cond b (own_block heap n) (known_block c.args.self.now.foreign.now n)) c.row.result) own c.row.ensures

pub returns-else-eq : goal.returns-else-eq
returns-else-eq c =
    let heap = c.args.self.now.heap.now in
    let foreign = c.args.self.now.foreign.now in
    let n = c.args.n in
    let other : false ≡ (n.owner == heap.owner) = sym c.if-eq.false ∙ c.eq.ensures ∙ ap (λ a. n.owner == a) c.owner.ensures in
    subst (λ b. IsLent (cond b (own_row heap n) (known_row foreign n)) (cond b (own_block heap n) (known_block foreign n)) c.row-else-eq.result) other c.row-else-eq.ensures
