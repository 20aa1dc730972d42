use Rattle.machine_examples.proofs.OneWorker.{gets_by_roots, holds_by_roots, holds_deep, leaves_at_once, passes_on}
use Rattle.machine_examples.proofs.examples.one_worker_writes_these_books.Goals as goal

pub returns-clause-leaving : goal.returns-clause-leaving
returns-clause-leaving c = leaves_at_once

pub returns-clause-passing : goal.returns-clause-passing
returns-clause-passing c = passes_on

pub returns-clause-holding : goal.returns-clause-holding
returns-clause-holding c = holds_deep

pub returns-clause-holding_by_roots : goal.returns-clause-holding_by_roots
returns-clause-holding_by_roots c = holds_by_roots

pub returns-clause-getting_by_roots : goal.returns-clause-getting_by_roots
returns-clause-getting_by_roots c = gets_by_roots
