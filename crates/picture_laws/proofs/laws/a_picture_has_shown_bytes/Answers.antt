use Rattle.picture_laws.proofs.Alphabet.{shown}
use Rattle.picture_laws.proofs.laws.a_picture_has_shown_bytes.Goals as goal

pub returns : goal.returns
returns c = shown
