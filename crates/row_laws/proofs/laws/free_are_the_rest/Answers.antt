use Rattle.row_laws.proofs.Counting.{free_are_the_rest, lack_is_counted}
use Rattle.row_laws.proofs.laws.free_are_the_rest.Goals as goal

pub returns-clause-free : goal.returns-clause-free
returns-clause-free c = free_are_the_rest

pub returns-clause-lack : goal.returns-clause-lack
returns-clause-lack c = lack_is_counted
