use Rattle.std.proofs.Common.{◌++◌, ap, subst, ◌∙◌, string_bytes}
use Rattle.machine_rules.specs.State.{first_state}
use Rattle.picture_rules.specs.Pictures.{head_lines}
use Rattle.picture_rules.specs.Words.{text_of_lines}
use Rattle.run_book.specs.Books.{options_of_book}
use Rattle.book_picture.specs.Entries.{TellsToTheEnd}
use Rattle.book_picture.proofs.Runs.{is_picture}
use Rattle.book_picture.proofs.drawing.draw.Goals as goal

pub returns : goal.returns
returns c t run =
    let program = c.args.code.now in
    let book = c.args.book.now in
    let head = c.in_ok-bytes.bytes.items in
    let rest = string_bytes c.push_run.new.out in
    is_picture program (options_of_book book) book.entries head rest c.extend_from_slice.new.self.items t run
    (c.in_ok-bytes.ensures
    ∙ (λ i. text_of_lines (head_lines (c.program.ensures.value i) (record { weight = c.weight.ensures.weight i; trace = c.trace.ensures i }))))
    (subst (λ old. TellsToTheEnd (first_state program (options_of_book book)) book.entries old rest) c.new-out.ensures.bytes c.in_ok-push_run.ensures)
    (c.in_ok-extend_from_slice.ensures.items ∙ ap (λ b. head ++ b) c.as_bytes.ensures.value)
