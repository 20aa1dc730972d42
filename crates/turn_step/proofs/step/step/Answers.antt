use Rattle.std.proofs.Common.{rules}
use Rattle.turn_step.proofs.step.step.Goals as goal
use Rattle.turn_step.proofs.step.step.Goals.{in-Drop, in-Int, in-Own, in-Copy, in-Add, in-Sub, in-Mul, in-Less, in-Same, in-Row+in_ok-make_row-in-Row, in-Load, in-Store, in-Label, in-Pin, in-Unpin}

pub returns-in-JumpZero-clause-ok : goal.returns-in-JumpZero-clause-ok
returns-in-JumpZero-clause-ok g c =
    rw (c.in-JumpZero.is, ← c.value-in-JumpZero.ensures, ← c.number.ensures) (c.leap_if_zero.ensures c.args.turn.now)

pub returns-in-New-clause-ok : goal.returns-in-New-clause-ok
returns-in-New-clause-ok g c = rw (c.in-New.is) (c.new_actor.ensures c.args.turn.now)

pub returns-clause-ok : goal.returns-clause-ok
returns-clause-ok g c = elim c.match-instr.branch [
  | in-Drop w ↦ search rules
  | in-Int w ↦ search rules
  | in-Own w ↦ search rules
  | in-Copy w ↦ search rules
  | in-Add w ↦ search rules
  | in-Sub w ↦ search rules
  | in-Mul w ↦ search rules
  | in-Less w ↦ search rules
  | in-Same w ↦ search rules
  | in-Row+in_ok-make_row-in-Row w ↦ let made = w.in_ok-make_row-in-Row.ensures.ok (g.R.RowReader.rows c.args.rows.now) in search rules
  | in-Load w ↦ search rules
  | in-Store w ↦ search rules
  | in-Label w ↦ search rules
  | in-Pin w ↦ search rules
  | in-Unpin w ↦ search rules
]
