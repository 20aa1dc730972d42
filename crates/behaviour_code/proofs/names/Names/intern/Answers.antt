use Rattle.std.proofs.Common.{sym}
use Rattle.behaviour_code.proofs.Interning.{interned_found, interned_keys}
use Rattle.behaviour_code.proofs.names.Names.intern.Goals as goal

pub returns-clause-ok : goal.returns-clause-ok
returns-clause-ok c =
    interned_keys c.self.inside.texts.keys _ c.in_ok-owned.owned _ _ _ c.self.view_is c.in_ok-owned.ensures.ok c.in_ok-place.ensures.keys c.in_ok-place.ensures.index

pub returns-in-Some-clause-ok : goal.returns-in-Some-clause-ok
returns-in-Some-clause-ok c =
    interned_found c.self.inside.texts.keys c.in-Some.place c.args.text.now c.args.self.now c.self.view_is (sym c.in-Some.ensures.index)
