use Rattle.picture_laws.proofs.One.{one_picture}
use Rattle.picture_laws.proofs.laws.a_book_has_one_picture.Goals as goal

pub returns : goal.returns
returns c = one_picture
