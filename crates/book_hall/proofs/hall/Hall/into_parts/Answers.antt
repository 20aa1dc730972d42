use Rattle.hall_rules.proofs.Keeping.{are_parts}
use Rattle.book_hall.proofs.hall.Hall.into_parts.Goals as goal

pub returns-clause-whole : goal.returns-clause-whole
returns-clause-whole c =
    let s = c.self.inside in
    are_parts s.code.now s.budget s.orca s.book c.self.invariant.0 c.self.invariant.1 s.claims s.stopped _ c.self.view_is
