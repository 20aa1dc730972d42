use Rattle.std.proofs.Common.{string_bytes}
use Rattle.book_picture.proofs.Runs.{all_told}
use Rattle.book_picture.proofs.drawing.push_all.Goals as goal

pub returns : goal.returns
returns c =
    all_told c.args.orca.now.state c.push_entries.new.orca.state c.args.book.now.entries c.quiet.result (string_bytes c.args.out.now) _ _ _
    c.in_ok-push_first.ensures c.in_ok-push_entries.ensures.told c.quiet.ensures c.in_ok-push_end.ensures
