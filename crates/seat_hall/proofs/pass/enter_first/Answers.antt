use Rattle.std.proofs.Common.{◌≡◌, None, refl, rules, subst}
use Rattle.seat_hall.specs.declared.item.Item.TheVariants.{Entered}
use Rattle.seat_hall.specs.Answers.{Enters, IsShort, RefusesFirst}
use Rattle.seat_hall.specs.Passes.{GetsTurn}
use Rattle.seat_hall.proofs.Items.{entry_cells, entry_may, entry_out}
use Rattle.seat_hall.proofs.Turns.{may_leave, read_whole, reads, writes, wrote, wrote_stands, wrote_stays}
use Rattle.seat_hall.proofs.pass.enter_first.Goals as goal

pub write_back-requires-clause-may : goal.write_back-requires-clause-may
write_back-requires-clause-may g c =
    let n = c.args.number in let old = c.args.seat.now in let mid = c.turn-hall.new.seat in
    let h = c.deref_mut.result.now in let is : c.turn-hall.result ≡ h = search rules in
    let turn = subst (GetsTurn c.args.log.now n old mid) is c.turn-hall.ensures in let e = c.in-Ok._e in
    may_leave n old mid mid h turn.at (Entered n e) refl c.enter_first.new.self
    (entry_may n old mid h turn.at e c.in-Ok.ensures.ok.may) c.in-Ok.ensures.entered

pub returns-in-Ok-clause-stays : goal.returns-in-Ok-clause-stays
returns-in-Ok-clause-stays g c =
    let n = c.args.number in let old = c.args.seat.now in let mid = c.turn-hall.new.seat in
    let h = c.deref_mut.result.now in let is : c.turn-hall.result ≡ h = search rules in
    let turn = subst (GetsTurn c.args.log.now n old mid) is c.turn-hall.ensures in let e = c.in-Ok._e in
    let new = c.write_back.new.seat in let i = Entered n e in let may = c.in-Ok.ensures.ok.may in
    let wrote_it = wrote c.args.log.now n old mid new h turn i refl c.enter_first.new.self c.in-Ok.ensures.entered c.write_back.ensures in record {
      stays = wrote_stays c.args.log.now n old mid new h turn i refl c.enter_first.new.self c.in-Ok.ensures.entered c.write_back.ensures;
      cells = entry_cells n old mid h turn.at e may new wrote_it;
      out_is = entry_out n old mid h turn.at e may new wrote_it;
    }

pub returns-in-Ok-clause-ok : goal.returns-in-Ok-clause-ok
returns-in-Ok-clause-ok g c =
    let n = c.args.number in let old = c.args.seat.now in let mid = c.turn-hall.new.seat in
    let h = c.deref_mut.result.now in let is : c.turn-hall.result ≡ h = search rules in
    let turn = subst (GetsTurn c.args.log.now n old mid) is c.turn-hall.ensures in let e = c.in-Ok._e in
    let new = c.write_back.new.seat in let i = Entered n e in let enters = c.in-Ok.ensures.ok in
    let wrote_it = wrote c.args.log.now n old mid new h turn i refl c.enter_first.new.self c.in-Ok.ensures.entered c.write_back.ensures in record {
      e = e;
      calls = writes n old mid new h turn.at i refl wrote_it (λ l. IsShort c.args.a e l × Enters None n e c.in-Ok.done l)
          (c.in-Ok.ensures.first, enters);
      stands = wrote_stands n old mid new h turn.at e wrote_it c.in-Ok.done.place enters.entered.place;
    }

pub returns-in-Err-clause-stays : goal.returns-in-Err-clause-stays
returns-in-Err-clause-stays g c =
    let n = c.args.number in let old = c.args.seat.now in let mid = c.turn-hall.new.seat in
    let h = c.deref_mut.result.now in let is : c.turn-hall.result ≡ h = search rules in
    let turn = subst (GetsTurn c.args.log.now n old mid) is c.turn-hall.ensures in
    read_whole c.args.log.now n old mid c.give_back.new.seat h turn c.give_back.ensures

pub returns-in-Err-clause-refused : goal.returns-in-Err-clause-refused
returns-in-Err-clause-refused g c =
    let n = c.args.number in let old = c.args.seat.now in let mid = c.turn-hall.new.seat in
    let h = c.deref_mut.result.now in let is : c.turn-hall.result ≡ h = search rules in
    let turn = subst (GetsTurn c.args.log.now n old mid) is c.turn-hall.ensures in
    reads n old mid c.give_back.new.seat h turn.at c.give_back.ensures.knew (RefusesFirst c.args.a c.in-Err.refuse) c.in-Err.ensures.refused
