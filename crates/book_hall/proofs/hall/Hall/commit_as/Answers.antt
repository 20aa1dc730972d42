use Rattle.std.proofs.Common.{sym, subst}
use Rattle.book_hall.specs.Answers.{AnswersCommit}
use Rattle.book_hall.proofs.Entries.{commit_ends}
use Rattle.book_hall.proofs.hall.Hall.commit_as.Goals as goal

pub returns : goal.returns
returns c =
    subst (AnswersCommit c.args.self.now c.args.pass c.args.e c.enter_as-answer.result) (sym c.end_claim.ensures)
    (commit_ends c.args.self.now c.enter_as-answer.new.self c.args.pass c.args.e c.enter_as-answer.result c.enter_as-answer.ensures)
