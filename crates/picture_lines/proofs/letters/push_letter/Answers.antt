use Rattle.std.proofs.Common.{subst}
use Rattle.letter_kinds.specs.Telling.{TellsNothing, Told, all_brought, brought_in}
use Rattle.picture_lines.proofs.Untold.{brings_none}
use Rattle.picture_lines.proofs.letters.push_letter.Goals as goal

pub push_brought-requires : goal.push_brought-requires
push_brought-requires c =
    brings_none (record { load = c.in-App.load; rows = c.in-App.rows }) (subst (λ l. TellsNothing (Told (all_brought (brought_in l)))) c.in-App.is c.requires)
