use Rattle.std.proofs.Common.{◌≡◌, [], drop, take, string_bytes}
use Rattle.machine_rules.specs.Run.{IsRun}
use Rattle.orca_core.specs.Machine.{NoneIsAway}
use Rattle.run_book.specs.Books.{options_of_book}
use Rattle.book_picture.specs.Entries.{CanFollow, TellsRun}
use Rattle.book_picture.proofs.drawing.push_entries.Given as goal

abbrev pub invariant-loop-place : goal.invariant-loop-place
invariant-loop-place l = record {
  told : TellsRun l.fn.orca.state (take l.place l.book.entries) l.orca.state (string_bytes l.fn.out) (string_bytes l.out);
  run : IsRun l.fn.orca.state.program (options_of_book l.book) (take l.place l.book.entries) l.orca.state;
  rest : CanFollow l.orca.state (drop l.place l.book.entries);
  steps : l.orca.steps ≡ l.place;
  home : NoneIsAway l.orca;
  none : l.orca.blocks ≡ [];
}
