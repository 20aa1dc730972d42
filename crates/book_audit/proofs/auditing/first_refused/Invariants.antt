use Rattle.run_book.specs.Books.{options_of_book}
use Rattle.std.proofs.Common.{◌≡◌, [], take}
use Rattle.machine_rules.specs.Run.{IsRun}
use Rattle.orca_core.specs.Machine.{NoneIsAway}
use Rattle.book_audit.proofs.auditing.first_refused.Given as goal

abbrev pub invariant-loop-place : goal.invariant-loop-place
invariant-loop-place l = record {
  run : IsRun l.fn.orca.state.program (options_of_book l.book) (take l.place l.book.entries) l.orca.state;
  steps : l.orca.steps ≡ l.place;
  home : NoneIsAway l.orca;
  none : l.orca.blocks ≡ [];
}
