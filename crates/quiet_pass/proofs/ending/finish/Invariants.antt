use Rattle.std.proofs.Common.{◌≡◌, ◌≤◌, ◌-◌, length}
use Rattle.row_blocks.specs.Blocks.{MayPutEach}
use Rattle.orca_core.specs.Laws.{IsRunOf}
use Rattle.orca_core.specs.Machine.{NoneIsAway, Stand}
use Rattle.quiet_pass.specs.Ends.{GoesOnTo}
use Rattle.quiet_pass.proofs.ending.finish.Given as goal

abbrev pub invariant-loop-e : goal.invariant-loop-e
invariant-loop-e g l = record {
  run : IsRunOf l.orca l.book.entries;
  program : l.orca.state.program ≡ l.fn.orca.state.program;
  options : l.orca.state.options ≡ l.fn.orca.state.options;
  within : length l.book.entries ≤ l.budget;
  book : (l.book.weight ≡ l.fn.book.weight) × (l.book.trace ≡ l.fn.book.trace);
  home : NoneIsAway l.orca;
  size : length l.orca.blocks ≡ length l.fn.orca.blocks;
  on : GoesOnTo l.fn.orca l.fn.book.entries l.orca l.book.entries;
  stand : Stand (g.W.RowWords.known l.words) l.orca;
  put : MayPutEach l.orca.blocks (g.W.RowWords.places l.words);
  places : g.W.RowWords.places l.words ≡ g.W.RowWords.places l.fn.words;
  beside : g.W.RowWords.beside l.words ≡ g.W.RowWords.beside l.fn.words;
}

abbrev pub decreases-loop-e : goal.decreases-loop-e
decreases-loop-e g l = l.budget - length l.book.entries
