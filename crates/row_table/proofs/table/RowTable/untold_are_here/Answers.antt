use Rattle.std.proofs.Common.{◌≡◌, Some, sym, ap, subst, ◌∙◌}
use Rattle.std.specs.FinMap as m
use Rattle.orca_names.specs.declared.names.Thing.TheVariants.{Obj}
use Rattle.letter_kinds.specs.Telling.{TellsNothing}
use Rattle.foreign_table.specs.Table.{block_at}
use Rattle.foreign_table.proofs.Here.{none_here}
use Rattle.row_table.specs.Table.{AllKnownHere, KnownRows, known_by, known_in}
use Rattle.row_table.proofs.Mapped.{untold_here}
use Rattle.row_table.proofs.table.RowTable.untold_are_here.Goals as goal

pub returns-in-Some : goal.returns-in-Some
returns-in-Some c =
    let held = c.deref.result.now in
    let is : known_by held ≡ c.args.self.now = ap known_by c.deref.ensures ∙ ap known_in (sym c.in-Some.is) ∙ c.self.view_is in
    subst (λ (k : KnownRows). TellsNothing (λ n row block. (m.get k.rows (Obj n) ≡ Some row) × (block_at k.blocks (Obj n) ≡ Some block)) → AllKnownHere k) is
    (untold_here held c.untold_are_here.ensures)

pub returns-in-None : goal.returns-in-None
returns-in-None c = λ nothing. subst AllKnownHere (ap known_in (sym c.in-None.is) ∙ c.self.view_is) none_here
