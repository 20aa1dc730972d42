use Rattle.std.proofs.Common.{sym, subst}
use Rattle.letter_kinds.specs.Load.{AreKnown, HaveGiven}
use Rattle.letter_kinds.proofs.Lying.{known_lying}
use Rattle.letter_kinds.proofs.load.Load.lie_in.Goals as goal

pub invariant_of-self : goal.invariant_of-self
invariant_of-self c =
    subst AreKnown (sym c.lie_all.ensures)
    (known_lying c.args.owner c.args.first c.args.rows.now c.args.blocks.now _ c.requires.lengths
    (subst (HaveGiven c.args.owner c.args.first c.args.rows.now) (sym c.self.view_is) c.requires.rows) c.self.invariant)
