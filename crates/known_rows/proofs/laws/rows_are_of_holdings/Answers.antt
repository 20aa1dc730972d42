use Rattle.known_rows.specs.Known.{row_known-row_of}
use Rattle.known_rows.proofs.laws.rows_are_of_holdings.Goals as goal

pub returns : goal.returns
returns c = row_known-row_of
