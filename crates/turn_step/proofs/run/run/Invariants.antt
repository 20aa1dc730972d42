use Rattle.std.proofs.Common.{length, ◌-◌, ◌≡◌, ◌+◌, ◌≤◌, drop, max, None}
use Rattle.turn_rules.specs.Segment.{Setting, gets_from, run_from}
use Rattle.turn_step.specs.Held.{first_needed}
use Rattle.turn_step.specs.Turns.{setting_of}
use Rattle.turn_step.proofs.run.run.Given as goal

abbrev pub invariant-loop-instr : goal.invariant-loop-instr
invariant-loop-instr g l =
    let p : Setting = setting_of l.setting (g.R.RowReader.rows l.fn.rows) in
    let held = g.H.HeldTest.held l.held in
    let end = max l.place (length l.body) in
    let at = end - length l.rest in
    record {
      within : length l.rest + l.place ≤ end;
      behind : l.rest ≡ drop at l.body;
      few : length l.turn.made + l.place ≤ length l.fn.turn.made + at;
      rest : run_from p l.rest None at l.turn ≡ run_from p (drop l.place l.body) None l.place l.fn.turn;
      gets : first_needed held (gets_from p l.rest None at l.turn) ≡ first_needed held (gets_from p (drop l.place l.body) None l.place l.fn.turn);
      rows : g.R.RowReader.rows l.rows ≡ g.R.RowReader.rows l.fn.rows;
      names : g.R.RowReader.all l.rows ≡ g.R.RowReader.all l.fn.rows;
      beside : g.R.RowReader.beside l.rows ≡ g.R.RowReader.beside l.fn.rows;
    }

abbrev pub decreases-loop-instr : goal.decreases-loop-instr
decreases-loop-instr g l = length l.rest
