use Rattle.std.proofs.Common.{◌≡◌, ◌==◌, ◌++◌, ◌∷◌, ◌<◌, ℕ, [], Bool, cond, not, map, length, get_or, take, sym, ap, ◌∙◌, arith}
use Rattle.std.specs.List.{filter}
use Rattle.std.specs.FinMap as m
use Rattle.std.proofs.Math.Seq.{take-length}
use Rattle.std.proofs.lemmas.List.{append_assoc}
use Rattle.std.proofs.lemmas.Option.{slice_get-get_or}
use Rattle.letter_kinds.specs.Holdings.{Row}
use Rattle.local_sweep.proofs.Gathered.{gathered}
use Rattle.root_trace.specs.Own.{object_root}
use Rattle.root_trace.proofs.plans.roots_of.Goals as goal

abbrev counts : ℕ × (Row × ℕ) → Bool
counts e = not (e.1.1 == 0)

pub loop-i-preserved : goal.loop-i-preserved
loop-i-preserved c =
    let heap = c.args.heap.now in
    let root = object_root heap.owner in
    let entries = m.entries heap.rows in
    let i = c.loop-i.i in
    let e = get_or entries i (0, ([], 0)) in
    let inside : i < length entries = omega (arith, c.loop-i-test.true, c.len-i-end.ensures.count, m.len-entries heap.rows) in
    let is = slice_get-get_or entries i (0, ([], 0)) inside in
    let its = cond (counts e) (root e ∷ []) [] in
    let values = c.args.fields.now.values in
    let before = map root (filter counts (take i entries)) in
    c.in_ok-push_counted.ensures e is ∙ ap (λ roots. roots ++ its) c.loop-i.invariant
    ∙ append_assoc values before its ∙ ap (λ roots. values ++ roots) (sym (gathered root counts entries i e is))

pub returns : goal.returns
returns c =
    let heap = c.args.heap.now in
    let entries = m.entries heap.rows in
    let all : c.loop-i.i ≡ length entries = omega (arith, c.loop-i-test.false, c.loop-i.auto.i-end, c.len-i-end.ensures.count, m.len-entries heap.rows) in
    c.loop-i.invariant
    ∙ ap (λ xs. c.args.fields.now.values ++ map (object_root heap.owner) (filter counts xs)) (ap (λ n. take n entries) all ∙ take-length entries)
