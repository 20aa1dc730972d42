use Rattle.std.proofs.Common.{◌≡◌, Some, slice_get, sym, ap, ◌∙◌}
use Rattle.std.specs.Prelude.{option_map}
use Rattle.std.specs.FinMap as m
use Rattle.std.proofs.lemmas.Option.{slice_get-map}
use Rattle.local_sweep.proofs.Gathered.{freed_where}
use Rattle.local_sweep.proofs.plans.is_gone.Goals as goal

pub returns : goal.returns
returns g c = λ e is.
    let heap = g.K.Kept.own c.args.kept.now in
    let own = c.at-count.result in
    let key : slice_get (m.keys heap.rows) c.args.i ≡ Some e.0 = slice_get-map (λ x. x.0) (m.entries heap.rows) c.args.i ∙ ap (option_map (λ x. x.0)) is in
    let its = c.at-count.ensures.entry in
    let both : Some e ≡ Some (own.0.serial, (its.0, own.2)) =
    sym is ∙ ap (λ h. slice_get (m.entries h.rows) c.args.i) (sym c.heap.ensures) ∙ its.1 in
    let same : e ≡ (own.0.serial, (its.0, own.2)) = cc in
    freed_where (g.K.Kept.marked c.args.kept.now) heap.owner e c.keeps_own.result (c.keeps_own.ensures e.0 key) (ap (λ x. x.1.1) same ∙ c.if-count-ne0.false)
