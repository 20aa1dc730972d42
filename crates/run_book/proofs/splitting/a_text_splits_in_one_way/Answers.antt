use Rattle.run_book.proofs.Marks.{one_way}
use Rattle.run_book.proofs.splitting.a_text_splits_in_one_way.Goals as goal

pub returns : goal.returns
returns c = one_way
