use Rattle.std.proofs.Common.{subst, sym}
use Rattle.run_book.specs.Books.{options_of_book}
use Rattle.picture_rules.specs.Pictures.{IsPicture}
use Rattle.picture_call.specs.Drawing.{DrawAnswers}
use Rattle.picture_call.proofs.drawing.write_picture.Goals as goal

pub returns-in-Ok : goal.returns-in-Ok
returns-in-Ok g c =
    let run = c.requires.run in
    let is_picture = IsPicture c.args.code.now (options_of_book c.args.book.now) c.args.book.now.entries run.0 in
    let picture = subst is_picture (sym c.deref.ensures.value) (c.in-Ok.ensures run.0 run.1) in
    DrawAnswers.drawn c.deref.result.now (record { state = run.0; run = run.1; picture = picture }) c.write_text.ensures
