use Rattle.std.proofs.Common.{refl, sym, subst}
use Rattle.row_store.specs.Lent.{IsLent}
use Rattle.row_store.specs.Told.{thing_block, thing_row}
use Rattle.row_store.specs.declared.lent.Lent.TheVariants.{Nothing}
use Rattle.known_rows.proofs.places.of_object.Goals as goal

pub returns-in-Actor-clause-row : goal.returns-in-Actor-clause-row
returns-in-Actor-clause-row c = λ its block lent.
    subst (λ x. IsLent (thing_row (λ _. its) x) (thing_block (λ _. block) x) Nothing) (sym c.in-Actor.is) (refl, refl)

pub returns-in-Obj-clause-row : goal.returns-in-Obj-clause-row
returns-in-Obj-clause-row c = λ its block lent.
    subst (λ x. IsLent (thing_row (λ _. its) x) (thing_block (λ _. block) x) c.args.row) (sym c.in-Obj.is) lent
