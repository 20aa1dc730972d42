use Rattle.std.proofs.Common.{arith, ℕ, List, ◌≤◌, length, min, sym, subst, ap, ◌∙◌}
use Rattle.seat_hall.proofs.Keeps.{few, may_look}
use Rattle.seat_hall.proofs.Turns.{at_hall}
use Rattle.seat_hall.proofs.pass.turn.Goals as goal

pub take_turn-requires : goal.take_turn-requires
take_turn-requires g c = let number = c.requires.seated.1.1 in record {
  own = c.requires.seated.0;
  idle = c.requires.seated.1.0;
  live = subst (λ (ns : List ℕ). 1 ≤ min 1 (length ns)) (sym number) (omega arith);
  few = few;
  look = may_look;
}

pub returns : goal.returns
returns g c = let told = c.take_turn.ensures in record {
  same = told.same;
  holds = record { own = told.same.0 ∙ c.requires.seated.0; turn = told.turn.0; empty = told.turn.1 };
  at = at_hall c.args.number c.args.seat.now c.take_turn.new.seat c.take_turn.result c.requires.seated.1.1 told.known told.learns;
  heard = ap (λ k. k.heard) told.known;
  turns = ap (λ k. k.turns) told.known;
}
