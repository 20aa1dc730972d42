use Rattle.std.proofs.Common.{◌∙◌, Some, ap, sym}
use Rattle.ready_set.proofs.Unchanged.{alike, set_what_is_there}
use Rattle.ready_set.proofs.set.ReadySet.put.Goals as goal

pub returns-else-contains-on : goal.returns-else-contains-on
returns-else-contains-on c = sym (set_what_is_there c.args.self.now c.args.a c.args.on (c.contains.ensures ∙ ap Some (alike c.contains.result c.args.on c.if-contains-on.false)))
