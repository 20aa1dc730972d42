use Rattle.picture_call.proofs.Answering.{draw_begun, stopped_answers}
use Rattle.picture_call.proofs.drawing.draw_input.Goals as goal

pub returns-in-Ok-Audit : goal.returns-in-Ok-Audit
returns-in-Ok-Audit g c = draw_begun _ _ _ _ _ _ c.in-Ok-Audit.field-0-is c.in-Ok-Audit.ensures.ok c.draw_book-status.ensures

pub returns-in-Err : goal.returns-in-Err
returns-in-Err g c = stopped_answers _ _ _ c.in-Err.answer _ c.in-Err.ensures.stop c.stop.ensures
