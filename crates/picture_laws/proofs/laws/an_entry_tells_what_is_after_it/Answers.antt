use Rattle.picture_laws.proofs.Telling.{notes_told, parts_told}
use Rattle.picture_laws.proofs.laws.an_entry_tells_what_is_after_it.Goals as goal

pub returns-clause-parts : goal.returns-clause-parts
returns-clause-parts c = parts_told

pub returns-clause-notes : goal.returns-clause-notes
returns-clause-notes c = notes_told
