use Rattle.letter_kinds.proofs.Scanned.{no_news}
use Rattle.letter_kinds.proofs.laws.a_scan_leaves_no_news.Goals as goal

pub returns : goal.returns
returns c = no_news
