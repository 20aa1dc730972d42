use Rattle.std.proofs.Common.{sym, ◌∙◌}
use Rattle.plain_machine.proofs.Indexing.{all_idle, first_of_index, first_is_not_none, first_comes_first}
use Rattle.plain_machine.proofs.first.first_event.Goals as goal

pub bounds-actors-a : goal.bounds-actors-a
bounds-actors-a c = (first_of_index c.args.ready.now c.args.actors.now c.in-Some.a c.requires (sym c.first.ensures ∙ c.in-Some.is)).within

pub returns-in-Some-clause-none : goal.returns-in-Some-clause-none
returns-in-Some-clause-none c =
    let actors = c.args.actors.now in
    let first = first_of_index c.args.ready.now actors c.in-Some.a c.requires (sym c.first.ensures ∙ c.in-Some.is) in
    first_is_not_none actors c.in-Some.a c.index-actors-a.result c.event_of.result first c.index-actors-a.is c.event_of.ensures

pub returns-in-Some-clause-some : goal.returns-in-Some-clause-some
returns-in-Some-clause-some c =
    let actors = c.args.actors.now in
    let first = first_of_index c.args.ready.now actors c.in-Some.a c.requires (sym c.first.ensures ∙ c.in-Some.is) in
    first_comes_first actors c.in-Some.a c.index-actors-a.result c.event_of.result first c.index-actors-a.is c.event_of.ensures

pub returns-in-None-clause-none : goal.returns-in-None-clause-none
returns-in-None-clause-none c = all_idle c.args.ready.now c.args.actors.now c.requires (sym c.first.ensures ∙ c.in-None.is)
