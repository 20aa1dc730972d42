use Rattle.std.proofs.Common.{◌≤◌, sym, ap, ◌∙◌, subst}
use Rattle.std.specs.Prelude.{IsOk}
use Rattle.std.specs.Result.{OnOk}
use Rattle.row_store.specs.Memory.{remembered}
use Rattle.foreign_table.specs.Table.{count_unheld, kept_in, seen}
use Rattle.foreign_table.proofs.Unheld.{unheld-mapped}
use Rattle.foreign_table.proofs.table.ForeignTable.reserve_for.Goals as goal

pub returns-clause-room : goal.returns-clause-room
returns-clause-room c =
    let s = c.self.inside in
    let n = c.count_unheld-n.ensures s.values.items ∙ ap (λ es. count_unheld c.args.things.now (kept_in s.values.items es)) c.as_slice.ensures.value
    ∙ sym (unheld-mapped (seen (remembered s.memory)) (kept_in s.values.items s.held.items) c.args.things.now) ∙ ap (λ t. count_unheld c.args.things.now t.entries) c.self.view_is in
    subst (λ k. OnOk c.reserve.result (k ≤ c.reserve.new.self.spare)) n c.reserve.ensures.room

pub returns-clause-enough : goal.returns-clause-enough
returns-clause-enough c =
    let s = c.self.inside in
    let n = c.count_unheld-n.ensures s.values.items ∙ ap (λ es. count_unheld c.args.things.now (kept_in s.values.items es)) c.as_slice.ensures.value
    ∙ sym (unheld-mapped (seen (remembered s.memory)) (kept_in s.values.items s.held.items) c.args.things.now) ∙ ap (λ t. count_unheld c.args.things.now t.entries) c.self.view_is in
    subst (λ k. k ≤ c.args.self.now.spare → IsOk c.reserve.result) n c.reserve.ensures.enough
