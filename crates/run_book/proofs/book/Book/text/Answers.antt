use Rattle.std.proofs.Common.{subst, ◌≤◌, length}
use Rattle.orca_names.specs.declared.limits.TheConstants.{BOOK_LIMIT}
use Rattle.run_book.specs.Books.{BookValue, book_text}
use Rattle.run_book.specs.Reading.{IsBookText}
use Rattle.run_book.proofs.FirstLine.{written}
use Rattle.run_book.proofs.book.Book.text.Goals as goal

pub returns-in_err-to_string-clause-form : goal.returns-in_err-to_string-clause-form
returns-in_err-to_string-clause-form c =
    let kept = c.self.invariant in
    subst (λ (b : BookValue). length b.entries ≤ BOOK_LIMIT →
    IsBookText (book_text b) b) c.self.view_is (written _ kept.0 kept.1)

pub returns-clause-form : goal.returns-clause-form
returns-clause-form c =
    let kept = c.self.invariant in
    subst (λ (b : BookValue). length b.entries ≤ BOOK_LIMIT →
    IsBookText (book_text b) b) c.self.view_is (written _ kept.0 kept.1)
