use Rattle.row_laws.proofs.Books.{named_keeps_block}
use Rattle.row_laws.proofs.Keeping.{no_block_is_taken_early}
use Rattle.row_laws.proofs.laws.no_block_is_taken_early.Goals as goal

pub returns-clause-event : goal.returns-clause-event
returns-clause-event c = no_block_is_taken_early

pub returns-clause-run : goal.returns-clause-run
returns-clause-run c = named_keeps_block
