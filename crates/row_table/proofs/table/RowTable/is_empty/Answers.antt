use Rattle.std.proofs.Common.{◌≡◌, sym, ap, subst, ◌∙◌}
use Rattle.std.proofs.lemmas.Bool.Decides.{Decides-eqb}
use Rattle.std.specs.FinMap as m
use Rattle.foreign_table.specs.Table.{Table}
use Rattle.row_table.specs.Table.{AreUncounted, IsUncounted, KnownRows, known_by, known_in}
use Rattle.row_table.proofs.Mapped.{knows_none, none_known}
use Rattle.row_table.proofs.table.RowTable.is_empty.Goals as goal

pub returns-in-Some-clause-rows : goal.returns-in-Some-clause-rows
returns-in-Some-clause-rows c =
    let held = c.deref.result.now in
    let own : IsUncounted held = subst IsUncounted (sym c.deref.ensures) (subst AreUncounted c.in-Some.is c.self.invariant) in
    let is : (known_by held).rows ≡ c.args.self.now.rows = ap (λ (t : Table). (known_by t).rows) c.deref.ensures ∙ ap (λ o. (known_in o).rows) (sym c.in-Some.is) ∙ ap (λ (k : KnownRows). k.rows) c.self.view_is in
    let none = Decides-eqb c.len.result 0 in
    (λ e. sym is ∙ knows_none held own (sym c.len.ensures.count ∙ none.0 e), λ e. none.1 (c.len.ensures.count ∙ none_known held own (is ∙ e)))

pub returns-in-Some-clause-blocks : goal.returns-in-Some-clause-blocks
returns-in-Some-clause-blocks c = λ e.
    let held = c.deref.result.now in
    let none = Decides-eqb c.len.result 0 in
    let is : (known_by held).blocks ≡ c.args.self.now.blocks = ap (λ (t : Table). (known_by t).blocks) c.deref.ensures ∙ ap (λ o. (known_in o).blocks) (sym c.in-Some.is) ∙ ap (λ (k : KnownRows). k.blocks) c.self.view_is in
    sym is ∙ m.empty_of_len held.blocks (sym c.len.ensures.blocks ∙ none.0 e)
