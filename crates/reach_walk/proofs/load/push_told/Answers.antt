use Rattle.std.proofs.Common.{◌≡◌, ℕ, ◌++◌, ◌∷◌, [], List, length, get_or, ap, ◌∙◌, arith}
use Rattle.std.proofs.Math.ListN.{set}
use Rattle.std.proofs.Math.Seq.{get_or-append_seam, set-append_seam}
use Rattle.std.proofs.lemmas.List.{map-append}
use Rattle.orca_names.specs.declared.names.Thing.{Thing}
use Rattle.row_store.specs.Told.{lie_as, lies_as}
use Rattle.row_store.specs.declared.told.Told.{Told}
use Rattle.row_store.specs.declared.told.Told.TheVariants.{Nothing}
use Rattle.reach_walk.proofs.load.push_told.Goals as goal

pub returns-clause-load : goal.returns-clause-load
returns-clause-load g c =
    let its = g.R.RowReader.rows c.args.rows.now in
    let old : List (Thing × Told) = c.args.load.now.items in
    let thing = c.args.thing.now in
    let pushed : Thing × Told = (thing, Nothing) in
    let now : Thing × Told = (thing, c.tell.new.told) in
    let there = c.index_mut.result.now in
    let items = c.push_reserved.ensures.items in
    let end : c.len-at.result ≡ length old = omega arith in
    let same : there.0 ≡ thing =
    ap (λ e. e.0) (c.index_mut.ensures.value ∙ ap (λ xs. get_or xs c.len-at.result there) items ∙ ap (λ (n : ℕ). get_or (old ++ pushed ∷ []) n there) end
    ∙ get_or-append_seam old pushed [] there) in
    let list =
    (λ i. set c.push_reserved.new.self.items c.len-at.result (same i, c.tell.new.told))
    ∙ ap (λ xs. set xs c.len-at.result now) items
    ∙ ap (λ (n : ℕ). set (old ++ pushed ∷ []) n now) end
    ∙ set-append_seam old pushed [] now in
    ap (lie_as its) list ∙ map-append (lies_as its) old (now ∷ [])
    ∙ (λ i. lie_as its old ++ (thing, record { row = c.tell.ensures.row i; block = c.tell.ensures.block i }) ∷ [])
