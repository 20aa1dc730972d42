use Rattle.std.proofs.Common.{◌≡◌, ℕ, ◌<◌, [], ◌∷◌, ◌++◌, cond, length, map, take, get_or, sym, ap, ◌∙◌, arith}
use Rattle.std.specs.List.{filter}
use Rattle.std.specs.FinMap as m
use Rattle.std.proofs.Math.Seq.{take-length}
use Rattle.std.proofs.lemmas.Option.{slice_get-get_or}
use Rattle.orca_names.specs.declared.names.ObjName.{ObjName}
use Rattle.letter_kinds.specs.Holdings.{Row}
use Rattle.local_sweep.specs.Plan.{is_freed, object_named}
use Rattle.local_sweep.proofs.Gathered.{gathered}
use Rattle.local_sweep.proofs.plans.gather_freed.Goals as goal

pub loop-i-preserved : goal.loop-i-preserved
loop-i-preserved g c =
    let heap = g.K.Kept.own c.args.kept.now in
    let gone = is_freed (g.K.Kept.marked c.args.kept.now) heap.owner in
    let name : ℕ × (Row × ℕ) → ObjName = λ e. object_named heap.owner e.0 in
    let entries = m.entries heap.rows in
    let e = get_or entries c.loop-i.i (0, ([], 0)) in
    let inside : c.loop-i.i < length entries = omega (arith, c.loop-i-test.true, c.len-i-end.ensures.count, ap (λ h. m.len h.rows) c.heap.ensures, m.len-entries heap.rows) in
    let is = slice_get-get_or entries c.loop-i.i (0, ([], 0)) inside in
    c.in_ok-note_freed.ensures e is ∙ ap (λ xs. xs ++ cond (gone e) (name e ∷ []) []) c.loop-i.invariant ∙ sym (gathered name gone entries c.loop-i.i e is)

pub returns : goal.returns
returns g c =
    let heap = g.K.Kept.own c.args.kept.now in
    let gone = is_freed (g.K.Kept.marked c.args.kept.now) heap.owner in
    let entries = m.entries heap.rows in
    let all : c.loop-i.i ≡ length entries = omega (arith, c.loop-i-test.false, c.loop-i.auto.i-end, c.len-i-end.ensures.count, ap (λ h. m.len h.rows) c.heap.ensures, m.len-entries heap.rows) in
    c.loop-i.invariant ∙ ap (λ xs. map (λ e. object_named heap.owner e.0) (filter gone xs)) (ap (λ n. take n entries) all ∙ take-length entries)
