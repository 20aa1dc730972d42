use Rattle.std.proofs.Common.{◌≡◌, ◌<◌, ◌+◌, ◌∙◌, ap, arith, rules}
use Rattle.seat_hall.specs.Answers.{AllAreGiven}
use Rattle.seat_hall.specs.Log.{most_made}
use Rattle.seat_hall.proofs.Splits.{all_given, client_split, split_cells, split_out, splits_off}
use Rattle.seat_hall.proofs.Turns.{read_whole, reads}
use Rattle.seat_hall.proofs.seats.split.Goals as goal

pub returns-then-made-ge-MOST_PASSES-clause-stays : goal.returns-then-made-ge-MOST_PASSES-clause-stays
returns-then-made-ge-MOST_PASSES-clause-stays g c =
    read_whole c.args.log.now c.args.number c.args.seat.now c.turn-hall.new.seat c.give_back.new.seat c.turn-hall.result c.turn-hall.ensures
    c.give_back.ensures

pub returns-then-made-ge-MOST_PASSES-clause-passes : goal.returns-then-made-ge-MOST_PASSES-clause-passes
returns-then-made-ge-MOST_PASSES-clause-passes g c =
    let n = c.args.number in let old = c.args.seat.now in let mid = c.turn-hall.new.seat in
    let h = c.turn-hall.result in let at = c.turn-hall.ensures.at in
    reads n old mid c.give_back.new.seat h at c.give_back.ensures.knew AllAreGiven
    (all_given n old mid h at (let made : c.made.result ≡ h.logged.made = search rules in omega (arith, c.if-made-ge-MOST_PASSES.true, made)))

pub returns-clause-stays : goal.returns-clause-stays
returns-clause-stays g c =
    let n = c.args.number in let old = c.args.seat.now in let mid = c.turn-hall.new.seat in
    let h = c.turn-hall.result in let turn = c.turn-hall.ensures in
    let made : c.made.result ≡ h.logged.made = search rules in let next = c.give_number-next.result in
    let number : next ≡ h.logged.made + 1 = search rules in
    let room : h.logged.made < most_made = omega (arith, c.if-made-ge-MOST_PASSES.false, made) in
    let wrote = c.write_made.new.seat in let new = c.part.new.seat in
    let put = c.write_made.ensures in let passed = c.part.ensures.own in record {
      stays = record {
        same = (passed.same.0 ∙ (put.same.0 ∙ turn.same.0), passed.same.1 ∙ (put.same.1 ∙ turn.same.1));
        pass_is = passed.pass_is;
        client = client_split n next old mid new h turn.at room number wrote put.knew passed.knew;
        turns_had = ap (λ k. k.turns) passed.knew ∙ (ap (λ k. k.turns) put.knew ∙ turn.turns);
      };
      cells = split_cells n next old mid new h turn.at room number wrote put.knew passed.knew;
      out_is = split_out n next old mid new h turn.at room number wrote put.knew passed.knew;
    }

pub returns-clause-ok : goal.returns-clause-ok
returns-clause-ok g c =
    let n = c.args.number in let old = c.args.seat.now in let mid = c.turn-hall.new.seat in
    let h = c.turn-hall.result in let at = c.turn-hall.ensures.at in
    let made : c.made.result ≡ h.logged.made = search rules in let next = c.give_number-next.result in
    let number : next ≡ h.logged.made + 1 = search rules in
    let room : h.logged.made < most_made = omega (arith, c.if-made-ge-MOST_PASSES.false, made) in
    let wrote = c.write_made.new.seat in let new = c.part.new.seat in
    splits_off n next old mid new h at room number wrote c.write_made.ensures.knew c.part.ensures.own.knew
    c.part.result c.part.ensures.knew (c.part.ensures.other.0 ∙ (c.write_made.ensures.same.0 ∙ c.turn-hall.ensures.same.0))
    c.part.ensures.other.1
