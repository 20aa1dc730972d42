use Rattle.std.proofs.Common.{rules}
use Rattle.book_audit.specs.Verdicts.{IsRefuted}
use Rattle.picture_call.proofs.Answering.{refuted_answers}
use Rattle.picture_call.proofs.drawing.draw_book.Goals as goal

pub returns-in-Ok-Some : goal.returns-in-Ok-Some
returns-in-Ok-Some g c =
    let refuted : IsRefuted c.args.code.now c.args.book.now c.in-Ok-Some.place c.in-Ok-Some.cause = search rules in
    refuted_answers _ _ _ _ _ _ refuted c.tell.ensures
