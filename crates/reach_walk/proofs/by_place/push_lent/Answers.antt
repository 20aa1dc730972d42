use Rattle.std.proofs.Common.{◌++◌, ◌∷◌, [], ap, subst, sym, ◌∙◌}
use Rattle.std.proofs.lemmas.List.{map-append}
use Rattle.row_store.specs.Lent.{IsLent}
use Rattle.row_store.specs.Told.{lie_as, lies_as, thing_block, thing_row}
use Rattle.row_store.specs.declared.told.Told.TheVariants.{Nothing, Here, In}
use Rattle.reach_walk.proofs.by_place.push_lent.Goals as goal

pub push_with_row-requires-clause-row : goal.push_with_row-requires-clause-row
push_with_row-requires-clause-row c =
    let lent = c.requires.lent in
    let its = subst (IsLent lent.0 lent.1) c.in-Here.is lent.2 in
    (its.2, its.3)

pub returns-in-Nothing : goal.returns-in-Nothing
returns-in-Nothing c = λ rows blocks lent.
    let old = c.args.load.now.items in
    let x = c.args.thing in
    let lies = subst (IsLent (thing_row rows x) (thing_block blocks x)) c.in-Nothing.is lent in
    ap (lie_as rows) c.push_reserved.ensures.items ∙ map-append (lies_as rows) old ((x, Nothing) ∷ [])
    ∙ (λ j. lie_as rows old ++ (x, record { row = sym lies.0 j; block = sym lies.1 j }) ∷ [])

pub returns-in-Here : goal.returns-in-Here
returns-in-Here c = λ rows blocks lent.
    let old = c.args.load.now.items in
    let x = c.args.thing in
    let lies = subst (IsLent (thing_row rows x) (thing_block blocks x)) c.in-Here.is lent in
    ap (lie_as rows) c.push_with_row.ensures ∙ map-append (lies_as rows) old ((x, Here c.in-Here.values.now) ∷ [])
    ∙ (λ j. lie_as rows old ++ (x, record { row = sym lies.0 j; block = sym lies.1 j }) ∷ [])

pub returns-in-In : goal.returns-in-In
returns-in-In c = λ rows blocks lent.
    let old = c.args.load.now.items in
    let x = c.args.thing in
    let lies = subst (IsLent (thing_row rows x) (thing_block blocks x)) c.in-In.is lent in
    ap (lie_as rows) c.push_reserved-in-In.ensures.items ∙ map-append (lies_as rows) old ((x, In c.in-In.block) ∷ [])
    ∙ (λ j. lie_as rows old ++ (x, record { row = thing_row rows x; block = sym lies.1 j }) ∷ [])
