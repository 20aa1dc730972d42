use Rattle.std.proofs.Common.{sym, ap, ◌∙◌}
use Rattle.std.specs.Ordering.{is_lt}
use Rattle.thing_list.proofs.Puts.{behind_all}
use Rattle.thing_list.proofs.putting.comes_last.Goals as goal

pub returns-in-Some : goal.returns-in-Some
returns-in-Some c = λ less.
    let last = c.in-Some.last.now in
    behind_all c.args.things.now last c.args.thing.now c.requires (sym c.in-Some.ensures.value) (sym (c.is_lt.ensures ∙ ap is_lt c.cmp.ensures) ∙ less)
