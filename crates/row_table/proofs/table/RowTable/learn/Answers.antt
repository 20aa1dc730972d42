use Rattle.std.proofs.Common.{◌≡◌, sym, ap, subst, ◌∙◌, arith}
use Rattle.row_store.specs.Memory.{remembered}
use Rattle.row_store.specs.Told.{told_block, told_row}
use Rattle.foreign_table.specs.Table.{Table}
use Rattle.row_table.specs.Table.{AreUncounted, IsUncounted, known_by, known_in, learnt}
use Rattle.row_table.proofs.Mapped.{again, known_again, not_counted, row_some, told}
use Rattle.row_table.proofs.table.RowTable.learn.Goals as goal

pub gain-requires-clause-fits : goal.gain-requires-clause-fits
gain-requires-clause-fits c =
    let before = c.deref_mut.result.now in
    let own : IsUncounted before = subst IsUncounted (sym c.deref_mut.ensures.value) (subst AreUncounted c.in-Some.is c.self.invariant) in
    let none = not_counted before.entries own c.args.thing in
    omega arith

pub invariant_of-self : goal.invariant_of-self
invariant_of-self c =
    let before = c.deref_mut.result.now in
    let own : IsUncounted before = subst IsUncounted (sym c.deref_mut.ensures.value) (subst AreUncounted c.in-Some.is c.self.invariant) in
    let row = told_row (remembered c.args.from.now) c.args.thing c.args.told.now in
    let block = told_block c.args.told.now in
    let some = row_some (remembered c.args.from.now) c.args.thing c.args.told.now (sym c.is_told.ensures ∙ c.if-not-is_told.false) c.requires.told in
    let is = c.gain.ensures ∙ told before own c.args.thing row block some in
    again c.gain.new.self.entries (learnt c.args.thing row block (known_by before)).rows (ap (λ (t : Table). t.entries) is)

pub returns : goal.returns
returns c =
    let before = c.deref_mut.result.now in
    let own : IsUncounted before = subst IsUncounted (sym c.deref_mut.ensures.value) (subst AreUncounted c.in-Some.is c.self.invariant) in
    let row = told_row (remembered c.args.from.now) c.args.thing c.args.told.now in
    let block = told_block c.args.told.now in
    let some = row_some (remembered c.args.from.now) c.args.thing c.args.told.now (sym c.is_told.ensures ∙ c.if-not-is_told.false) c.requires.told in
    let is = c.gain.ensures ∙ told before own c.args.thing row block some in
    let start : known_by before ≡ c.args.self.now = ap known_by c.deref_mut.ensures.value ∙ ap known_in (sym c.in-Some.is) ∙ c.self.view_is in
    ap known_by is ∙ known_again (learnt c.args.thing row block (known_by before)) ∙ ap (learnt c.args.thing row block) start
