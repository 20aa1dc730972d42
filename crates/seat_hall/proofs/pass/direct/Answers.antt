use Rattle.std.proofs.Common.{◌≡◌, None, refl, rules, subst}
use Rattle.seat_hall.specs.declared.item.Item.TheVariants.{Entered}
use Rattle.seat_hall.specs.Answers.{Enters, RefusesEntry}
use Rattle.seat_hall.specs.Passes.{GetsTurn}
use Rattle.seat_hall.proofs.Items.{entry_cells, entry_may, entry_out}
use Rattle.seat_hall.proofs.Turns.{may_leave, read_whole, reads, writes, wrote, wrote_stands, wrote_stays}
use Rattle.seat_hall.proofs.pass.direct.Goals as goal

pub write_back-requires-clause-may : goal.write_back-requires-clause-may
write_back-requires-clause-may g c =
    let n = c.args.number in let old = c.args.seat.now in let mid = c.turn-hall.new.seat in
    let h = c.deref_mut.result.now in let is : c.turn-hall.result ≡ h = search rules in
    let turn = subst (GetsTurn c.args.log.now n old mid) is c.turn-hall.ensures in
    may_leave n old mid mid h turn.at (Entered n c.args.e) refl c.enter.new.self
    (entry_may n old mid h turn.at c.args.e c.in-Ok.ensures.0.may) c.in-Ok.ensures.1

pub returns-in-Ok : goal.returns-in-Ok
returns-in-Ok g c =
    let n = c.args.number in let old = c.args.seat.now in let mid = c.turn-hall.new.seat in
    let h = c.deref_mut.result.now in let is : c.turn-hall.result ≡ h = search rules in
    let turn = subst (GetsTurn c.args.log.now n old mid) is c.turn-hall.ensures in
    let e = c.args.e in let new = c.write_back.new.seat in let i = Entered n e in let enters = c.in-Ok.ensures.0 in
    let wrote_it = wrote c.args.log.now n old mid new h turn i refl c.enter.new.self c.in-Ok.ensures.1 c.write_back.ensures in record {
      stays = record {
        stays = wrote_stays c.args.log.now n old mid new h turn i refl c.enter.new.self c.in-Ok.ensures.1 c.write_back.ensures;
        cells = entry_cells n old mid h turn.at e enters.may new wrote_it;
        out_is = entry_out n old mid h turn.at e enters.may new wrote_it;
      };
      ok = record {
        calls = writes n old mid new h turn.at i refl wrote_it (Enters None n e c.in-Ok.done) enters;
        stands = wrote_stands n old mid new h turn.at e wrote_it c.in-Ok.done.place enters.entered.place;
      };
      refused = tt;
    }

pub returns : goal.returns
returns g c =
    let n = c.args.number in let old = c.args.seat.now in let mid = c.turn-hall.new.seat in
    let h = c.deref_mut.result.now in let is : c.turn-hall.result ≡ h = search rules in
    let turn = subst (GetsTurn c.args.log.now n old mid) is c.turn-hall.ensures in let new = c.give_back.new.seat in record {
      stays = read_whole c.args.log.now n old mid new h turn c.give_back.ensures;
      ok = tt;
      refused = reads n old mid new h turn.at c.give_back.ensures.knew (RefusesEntry None c.args.e c.in-Err.refuse) c.in-Err.ensures.0;
    }
