use Rattle.std.proofs.Common.{◌≡◌, ℕ, ◌++◌, ◌∷◌, [], List, length, get_or, ap, ◌∙◌, arith}
use Rattle.std.proofs.Math.ListN.{set}
use Rattle.std.proofs.Math.Seq.{get_or-append_seam, set-append_seam}
use Rattle.orca_names.specs.declared.names.Thing.{Thing}
use Rattle.row_store.specs.declared.told.Told.{Told}
use Rattle.row_store.specs.declared.told.Told.TheVariants.{Here}
use Rattle.reach_walk.proofs.by_place.push_with_row.Goals as goal

pub returns-in-Here : goal.returns-in-Here
returns-in-Here c =
    let old : List (Thing × Told) = c.args.load.now.items in
    let new : Thing × Told = (c.args.thing, Here c.args.values.now) in
    let there = c.index_mut.result.now in
    let items = c.push_reserved.ensures.items in
    let end : c.len-at.result ≡ length old = omega arith in
    let thing : there.0 ≡ c.args.thing =
    ap (λ e. e.0) (c.index_mut.ensures.value ∙ ap (λ xs. get_or xs c.len-at.result there) items ∙ ap (λ (n : ℕ). get_or (old ++ (c.args.thing, Here c.from_args.result) ∷ []) n there) end
    ∙ get_or-append_seam old (c.args.thing, Here c.from_args.result) [] there) in
    (λ i. set c.push_reserved.new.self.items c.len-at.result (thing i, Here (c.set_values.ensures i)))
    ∙ ap (λ xs. set xs c.len-at.result new) items
    ∙ ap (λ (n : ℕ). set (old ++ (c.args.thing, Here c.from_args.result) ∷ []) n new) end
    ∙ set-append_seam old (c.args.thing, Here c.from_args.result) [] new
