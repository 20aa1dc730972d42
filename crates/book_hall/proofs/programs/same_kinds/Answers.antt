use Rattle.std.proofs.lemmas.Slice.Eq.{slice_eq-Decides}
use Rattle.behaviour_code.specs.declared.code.Kind.{Kind}
use Rattle.behaviour_code.specs.contracts.code.KindPartialEq.TheImpl.{eq-value}
use Rattle.book_hall.proofs.Comparing.{kind_decide}
use Rattle.book_hall.proofs.programs.same_kinds.Goals as goal

pub returns : goal.returns
returns c = slice_eq-Decides {A = Kind} {E = eq-value.it} kind_decide c.args.one.now c.args.other.now c.eq.result c.eq.ensures
