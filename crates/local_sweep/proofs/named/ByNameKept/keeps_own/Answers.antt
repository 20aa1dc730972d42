use Rattle.std.proofs.Common.{◌≡◌, Some, slice_get, sym, ap, ◌∙◌}
use Rattle.std.specs.Prelude.{option_map}
use Rattle.std.specs.FinMap as m
use Rattle.std.proofs.lemmas.Option.{slice_get-map}
use Rattle.orca_names.specs.declared.names.Thing.TheVariants.{Obj}
use Rattle.local_sweep.specs.Marked.{is_named}
use Rattle.local_sweep.specs.Plan.{object_named}
use Rattle.local_sweep.proofs.named.ByNameKept.keeps_own.Goals as goal

pub returns : goal.returns
returns c = λ serial is.
    let heap = c.args.self.now.rows.heap.now in
    let n = c.at-n.result.0 in
    let key : slice_get (m.keys heap.rows) c.args.i ≡ Some n.serial =
    slice_get-map (λ e. e.0) (m.entries heap.rows) c.args.i ∙ ap (option_map (λ e. e.0)) c.at-n.ensures.entry.1 in
    let both : Some n.serial ≡ Some serial = sym key ∙ is in
    let same : n.serial ≡ serial = cc in
    let name : n ≡ object_named heap.owner serial = λ t. record { owner = c.at-n.ensures.owner t; serial = same t } in
    c.is_named.ensures ∙ ap (λ o. is_named c.args.self.now.values.now (Obj o)) name
