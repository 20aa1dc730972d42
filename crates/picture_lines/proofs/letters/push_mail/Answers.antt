use Rattle.picture_rules.specs.Seats.{letter_lines}
use Rattle.picture_lines.proofs.Steps.{next_lines}
use Rattle.letter_kinds.specs.Telling.{brought_in}
use Rattle.picture_lines.proofs.Untold.{waits_untold}
use Rattle.picture_lines.proofs.letters.push_mail.Goals as goal

pub loop-i-preserved : goal.loop-i-preserved
loop-i-preserved c =
    next_lines (letter_lines c.args.names.now) c.args.mail.now.letters c.loop-i.i _ _ _ _ c.at.ensures.letter c.loop-i.invariant
    c.in_ok-push_letter.ensures

pub push_letter-requires : goal.push_letter-requires
push_letter-requires c = waits_untold c.args.mail.now.brought c.loop-i.i (brought_in c.at.result.now) c.requires c.at.ensures.brought
