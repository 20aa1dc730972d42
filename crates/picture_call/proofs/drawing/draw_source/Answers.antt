use Rattle.picture_call.proofs.Answering.{picture_caused}
use Rattle.picture_call.proofs.drawing.draw_source.Goals as goal

pub returns-clause-causes : goal.returns-clause-causes
returns-clause-causes g c = picture_caused _ _ _ _ c.draw_input.ensures
