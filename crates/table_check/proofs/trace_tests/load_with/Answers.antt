use Rattle.std.proofs.Common.{◌++◌, ◌∷◌, [], sym, ap, subst, ◌∙◌}
use Rattle.row_store.specs.Memory.{remembered}
use Rattle.row_store.specs.Told.{lie_as}
use Rattle.letter_kinds.specs.Load.{AreKnown}
use Rattle.table_check.proofs.Loads.{one_known}
use Rattle.table_check.proofs.trace_tests.load_with.Goals as goal

pub with-requires : goal.with-requires
with-requires c =
    let rows = remembered c.args.memory in
    let thing = c.args.thing.now in
    let told = c.args.told.now in
    let is = c.in_ok-push.ensures.ok ∙ ap (λ items. items ++ (thing, told) ∷ []) c.new-items.ensures in
    subst (λ items. AreKnown (lie_as rows items)) (sym is) (one_known rows thing told c.requires)

pub returns : goal.returns
returns c =
    let rows = remembered c.args.memory in
    let thing = c.args.thing.now in
    let told = c.args.told.now in
    let is = c.in_ok-push.ensures.ok ∙ ap (λ items. items ++ (thing, told) ∷ []) c.new-items.ensures in
    c.with.ensures ∙ ap (lie_as rows) is
