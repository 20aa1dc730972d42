use Rattle.std.proofs.Common.{◌≡◌, ℕ, ◌<◌, [], ◌∷◌, ◌++◌, length, map, take, get_or, Some, refl, sym, ap, ◌∙◌, append_assoc, arith}
use Rattle.std.specs.FinMap as m
use Rattle.std.proofs.Math.Seq.{take-length}
use Rattle.std.proofs.lemmas.List.{map_more}
use Rattle.std.proofs.lemmas.Option.{slice_get-get_or}
use Rattle.orca_names.specs.declared.names.Thing.{Thing}
use Rattle.orca_names.specs.declared.names.ObjName.{ObjName}
use Rattle.orca_names.specs.declared.names.Thing.TheVariants.{Actor, Obj}
use Rattle.letter_kinds.specs.Holdings.{Row}
use Rattle.orca_core.proofs.left.push_things.Goals as goal

-- the object whose serial stands there
named_by : (n : ObjName) (owner : ℕ) (e f : ℕ × (Row × ℕ)) → n.owner ≡ owner → Some e ≡ Some f
    → f.0 ≡ n.serial → Obj n ≡ Obj (record { owner = owner; serial = e.0 })
named_by n owner e f mine same is =
    let serial : e.0 ≡ n.serial = ap (λ (x : ℕ × (Row × ℕ)). x.0) (joined e f same) ∙ is in
    (λ i. Obj (record { owner = mine i; serial = sym serial i }))
  where
    joined : (e f : ℕ × (Row × ℕ)) → Some e ≡ Some f → e ≡ f
    joined e f same = cc

pub loop-i-preserved : goal.loop-i-preserved
loop-i-preserved c =
    let heap = c.args.cell.now.heap in
    let object : ℕ × (Row × ℕ) → Thing = λ e. Obj (record { owner = heap.owner; serial = e.0 }) in
    let entries = m.entries heap.rows in
    let i = c.loop-i.i in
    let d : ℕ × (Row × ℕ) = (0, ([], 0)) in
    let count = c.len-i-end.ensures.count in
    let inside : i < length entries = omega (arith, c.loop-i-test.true, count, m.len-entries heap.rows) in
    let is = slice_get-get_or entries i d inside in
    let old = c.args.things.now.items ++ Actor heap.owner ∷ [] in
    let name = c.at-name.result.0 in
    let entry : ℕ × (Row × ℕ) = (name.serial, (c.at-name.ensures.entry.0, c.at-name.result.2)) in
    let at = sym is ∙ c.at-name.ensures.entry.1 in
    let same = named_by name heap.owner (get_or entries i d) entry c.at-name.ensures.owner at refl in
    c.in_ok-push-2.ensures.items ∙ ap (λ xs. xs ++ Obj name ∷ []) c.loop-i.invariant
    ∙ append_assoc old (map object (take i entries)) (Obj name ∷ [])
    ∙ ap (λ x. old ++ (map object (take i entries) ++ x ∷ [])) same
    ∙ ap (λ xs. old ++ xs) (sym (map_more object entries i d inside))

pub returns : goal.returns
returns c =
    let heap = c.args.cell.now.heap in
    let object : ℕ × (Row × ℕ) → Thing = λ e. Obj (record { owner = heap.owner; serial = e.0 }) in
    let entries = m.entries heap.rows in
    let i = c.loop-i.i in
    let count = c.len-i-end.ensures.count in
    let end = c.loop-i.auto.i-end in
    let all : i ≡ length entries = omega (arith, c.loop-i-test.false, end, count, m.len-entries heap.rows) in
    let things = c.args.things.now.items in
    c.loop-i.invariant
    ∙ ap (λ es. (things ++ Actor heap.owner ∷ []) ++ map object es) (ap (λ n. take n entries) all ∙ take-length entries)
    ∙ append_assoc things (Actor heap.owner ∷ []) (map object entries)
