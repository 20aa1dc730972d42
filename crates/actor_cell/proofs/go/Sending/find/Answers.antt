use Rattle.std.proofs.Common.{subst, sym}
use Rattle.letter_kinds.specs.Telling.{HoldsTold}
use Rattle.actor_cell.specs.Tells.{Tells}
use Rattle.actor_cell.proofs.go.Sending.find.Goals.{then-reaches_many+in_ok-done+else-done, else-reaches_many}
use Rattle.actor_cell.proofs.go.Sending.find.Goals as goal

pub find_few-requires : goal.find_few-requires
find_few-requires g c = elim c.if-reaches_many.branch [
  | then-reaches_many+in_ok-done+else-done w ↦
      rw w.words-is (record { stand = subst (λ known. HoldsTold known (Tells c.args.self.now.cell.now)) (sym w.find_many.ensures.words.known) c.requires.stand })
  | else-reaches_many w ↦ rw w.words-is (record { stand = c.requires.stand })
]

pub returns-then-done-clause-told : goal.returns-then-done-clause-told
returns-then-done-clause-told g c = c.in_ok-done.ensures.told c.if-done.true
