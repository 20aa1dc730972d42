use Rattle.std.proofs.Common.{◌≤◌, inl, inr, length, Contains, refl, arith}
use Rattle.std.proofs.lemmas.Bool.{cases_lt}
use Rattle.orca_names.specs.Names.{owner_of}
use Rattle.machine_rules.proofs.Present.{present_below}
use Rattle.count_laws.proofs.bounds.Bounding.{runs_make_few}
use Rattle.why_path.specs.Reasons.{things_in}
use Rattle.why_path.proofs.Answering.{not_so}
use Rattle.why_path.proofs.holds.lists_left.Goals as goal

pub overflow_cast-a : goal.overflow_cast-a
overflow_cast-a c =
    let s = c.args.orca.now.state in
    let run = c.keeps_the_reachable.ensures.run.run in
    let few : length s.actors ≤ 65536 =
    runs_make_few s.program s.options c.keeps_the_reachable.ensures.book s run in
    omega (arith, few, c.loop-a-test.true, c.made-a-end.ensures)

pub loop-a-preserved : goal.loop-a-preserved
loop-a-preserved c = λ x left l. elim (cases_lt (owner_of x) c.loop-a.a) as (λ _. Contains (things_in c.args.reasons.now) x) [
  | inl low ↦ c.loop-a.invariant x left low
  | inr high ↦ c.lists_of.ensures.0 c.if-not-lists_of.false x left (omega arith)
]

pub returns-then-not-lists_of : goal.returns-then-not-lists_of
returns-then-not-lists_of c = (
  λ e. cc,
  λ all. absurd (not_so c.lists_of.ensures c.if-not-lists_of.true (λ x left own. all x left)),
)

pub returns : goal.returns
returns c = (
  λ _ x left. c.loop-a.invariant x left
      (omega (arith, present_below c.args.orca.now.state.actors (owner_of x) left.seat left.present, c.loop-a-test.false, c.made-a-end.ensures)),
  λ _. refl,
)
