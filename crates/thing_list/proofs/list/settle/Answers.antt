use Rattle.std.proofs.Common.{◌≡◌, ◌-◌, Some, length, sym, ap, ◌∙◌, arith}
use Rattle.std.specs.Prelude.{slice_get}
use Rattle.thing_list.proofs.Settling.{settles_begin, settles_down, settled_down, settled_down_first}
use Rattle.std.specs.Ordering.{is_lt}
use Rattle.orca_names.specs.Names.{thing_cmp}
use Rattle.thing_list.proofs.list.settle.Goals as goal
use Rattle.thing_list.proofs.list.settle.Goals.{then-loop-i-test+else-is_lt, else-loop-i-test}

pub loop-i-init : goal.loop-i-init
loop-i-init c =
    let things = c.args.things.now in
    let last : slice_get things (length things - 1) ≡ Some c.in-Some.thing = sym c.last.ensures.value ∙ sym c.copied.ensures ∙ c.in-Some.is in
    settles_begin things c.in-Some.thing last

pub loop-i-preserved : goal.loop-i-preserved
loop-i-preserved c =
    settles_down _ c.in-Some.thing c.loop-i.things c.loop-i.i c.index-things-i.result c.index-things-i-in-loop-i.result c.loop-i-test.true
    c.loop-i.invariant c.index-things-i.is c.index-things-i-in-loop-i.is
    (ap (λ v. is_lt (thing_cmp c.in-Some.thing v)) c.index-things-i.is ∙ sym (ap is_lt c.cmp.ensures) ∙ sym c.is_lt.ensures ∙ c.if-is_lt.true)

pub returns-clause-settles : goal.returns-clause-settles
returns-clause-settles c = λ front x whole sorted fresh.
    let things = c.args.things.now in
    let last : slice_get things (length things - 1) ≡ Some c.in-Some.thing = sym c.last.ensures.value ∙ sym c.copied.ensures ∙ c.in-Some.is in
    elim c.loop-i-test.branch [
      | then-loop-i-test+else-is_lt w ↦ settled_down things front x c.in-Some.thing whole last c.loop-i.things c.loop-i.i c.loop-i.invariant sorted fresh w.index-things-i.result w.loop-i-test.true w.index-things-i.is
          (ap (λ v. is_lt (thing_cmp c.in-Some.thing v)) w.index-things-i.is ∙ sym (ap is_lt w.cmp.ensures) ∙ sym w.is_lt.ensures ∙ w.if-is_lt.false)
      | else-loop-i-test w ↦ settled_down_first things front x c.in-Some.thing whole last c.loop-i.things c.loop-i.i c.loop-i.invariant sorted fresh (omega (arith, w.loop-i-test.false))
    ]
