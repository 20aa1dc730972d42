use Rattle.std.proofs.Common.{◌≡◌, not, cond, slice_get, [], ◌∷◌, ◌++◌, Some, List, sym, ap, subst, ◌∙◌}
use Rattle.std.specs.Prelude.{option_map, OnOk}
use Rattle.std.specs.FinMap as m
use Rattle.std.proofs.lemmas.List.{append-nil}
use Rattle.std.proofs.lemmas.Option.{slice_get-map}
use Rattle.letter_kinds.specs.Counting.{Amount, by_owner}
use Rattle.local_sweep.proofs.plans.note_given.Goals as goal

pub returns-then-keeps_held : goal.returns-then-keeps_held
returns-then-keeps_held g c = λ e given is back.
    let foreign = g.K.Kept.held c.args.kept.now in
    let key = slice_get-map (λ x. x.0) (m.entries foreign.entries) c.args.j ∙ ap (option_map (λ x. x.0)) is in
    let on = sym (c.keeps_held.ensures e.0 key) ∙ c.if-keeps_held.true in
    let none : given ≡ given ++ [] = sym (append-nil given) in
    back ∙ ap by_owner none ∙ ap (λ b. by_owner (given ++ cond {A = List Amount} (not b) ((e.0, e.1.0) ∷ []) [])) (sym on)

pub returns : goal.returns
returns g c = λ e given is back.
    let foreign = g.K.Kept.held c.args.kept.now in
    let key = slice_get-map (λ x. x.0) (m.entries foreign.entries) c.args.j ∙ ap (option_map (λ x. x.0)) is in
    let on = sym (c.keeps_held.ensures e.0 key) ∙ c.if-keeps_held.false in
    let its = c.at-thing.ensures.entry in
    let both : Some e ≡ Some (c.at-thing.result.0, (c.at-thing.result.1, its.0)) = sym is ∙ ap (λ f. slice_get (m.entries f.entries) c.args.j) (sym c.foreign.ensures) ∙ its.1 in
    let same : e ≡ (c.at-thing.result.0, (c.at-thing.result.1, its.0)) = cc in
    let amount : (c.at-thing.result.0, c.at-thing.result.1) ≡ (e.0, e.1.0) = ap (λ x. (x.0, x.1.0)) (sym same) in
    let more = ap (λ x. x ∷ []) amount ∙ ap (λ b. cond {A = List Amount} (not b) ((e.0, e.1.0) ∷ []) []) (sym on) in
    subst (λ xs. OnOk c.push_amount.result (c.push_amount.new.back.items ≡ by_owner (given ++ xs))) more (c.push_amount.ensures given back)
