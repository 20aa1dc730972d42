use Rattle.std.proofs.Common.{◌≡◌, ◌<◌, ◌≤◌, inl, inr, suc, Contains, get_or, refl, sym, ap, subst, ◌∙◌, arith}
use Rattle.std.specs.FinMap as m
use Rattle.std.proofs.lemmas.Bool.{cases_lt}
use Rattle.orca_names.specs.declared.names.Thing.TheVariants.{Actor, Obj}
use Rattle.orca_core.specs.Left.{things_of}
use Rattle.why_path.specs.Reasons.{things_in}
use Rattle.why_path.proofs.Answering.{not_all, not_so}
use Rattle.why_path.proofs.Listing.{cell_length, cell_listed, entry_thing}
use Rattle.why_path.proofs.holds.lists_cell.Goals as goal

pub returns-then-not-has_line : goal.returns-then-not-has_line
returns-then-not-has_line c =
    let cell = c.args.cell.now in
    not_all (Contains (things_in c.args.reasons.now)) (things_of cell) 0 (Actor cell.heap.owner) (omega arith) refl
    (λ there. not_so c.has_line.ensures c.if-not-has_line.true
    (subst (λ a. Contains (things_in c.args.reasons.now) (Actor a)) (sym c.owner.ensures) there))

pub loop-i-preserved : goal.loop-i-preserved
loop-i-preserved c = λ k d l.
    let cell = c.args.cell.now in
    let i = c.loop-i.i in
    elim (cases_lt k i) as (λ _. Contains (things_in c.args.reasons.now) (get_or (things_of cell) (suc k) d)) [
      | inl low ↦ c.loop-i.invariant k d low
      | inr high ↦
          let e : i ≡ k = omega arith in
          let is = entry_thing cell i c.at-name.result.0 c.at-name.ensures.entry.0 c.at-name.result.2 d
          c.at-name.ensures.entry.1 c.at-name.ensures.owner in
          subst (Contains (things_in c.args.reasons.now)) (is ∙ ap (λ j. get_or (things_of cell) (suc j) d) e)
          (c.has_line-in-loop-i.ensures.0 c.if-not-has_line-2.false)
    ]

pub returns-then-not-has_line-2 : goal.returns-then-not-has_line-2
returns-then-not-has_line-2 c =
    let cell = c.args.cell.now in
    let i = c.loop-i.i in
    let name = c.at-name.result.0 in
    let within : i < m.len cell.heap.rows = omega (arith, c.loop-i-test.true, c.len-i-end.ensures.count) in
    not_all (Contains (things_in c.args.reasons.now)) (things_of cell) (suc i) (Obj name) (cell_length cell i within)
    (entry_thing cell i name c.at-name.ensures.entry.0 c.at-name.result.2 (Obj name) c.at-name.ensures.entry.1 c.at-name.ensures.owner)
    (not_so c.has_line-in-loop-i.ensures c.if-not-has_line-2.true)

pub returns : goal.returns
returns c =
    let cell = c.args.cell.now in
    let whole : m.len cell.heap.rows ≤ c.loop-i.i = omega (arith, c.loop-i-test.false, c.len-i-end.ensures.count) in
    let first = subst (λ a. Contains (things_in c.args.reasons.now) (Actor a)) c.owner.ensures
    (c.has_line.ensures.0 c.if-not-has_line.false) in
    ((λ _. cell_listed (Contains (things_in c.args.reasons.now)) cell c.loop-i.i whole first c.loop-i.invariant), (λ _. refl))
