use Rattle.std.proofs.Common.{◌≡◌, ◌+◌, ℕ, Some, Err, IfNone, IfSome, rules, refl, sym, ap, ◌∙◌, subst}
use Rattle.turn_log.specs.Knowing.{having_written}
use Rattle.turn_log.specs.Seats.{knows}
use Rattle.seat_hall.specs.declared.item.Item.TheVariants.{Entered}
use Rattle.seat_hall.specs.Advances.{IsNext}
use Rattle.seat_hall.specs.Fair.{after_item}
use Rattle.seat_hall.specs.Halls.{HallView}
use Rattle.seat_hall.specs.Passes.{GetsTurn, HasItsCell, out}
use Rattle.seat_hall.proofs.Advances.{WentOn, all_turns, went_on}
use Rattle.seat_hall.proofs.Commits.{commit_may, commits}
use Rattle.seat_hall.proofs.Turns.{claim_now, may_leave}
use Rattle.seat_hall.proofs.Under.{reckons_then}
use Rattle.seat_hall.proofs.advancing.advance.Goals as goal

pub commit-requires-clause-claim : goal.commit-requires-clause-claim
commit-requires-clause-claim g c =
    let n = c.args.number in let old = c.args.seat.now in let mid = c.turn-hall.new.seat in
    let h = c.deref_mut.result.now in let is : c.turn-hall.result ≡ h = search rules in
    let turn = subst (GetsTurn c.args.log.now n old mid) is c.turn-hall.ensures in
    claim_now n old mid mid h turn.at c.args.task c.requires.may

pub write_item-requires-clause-may : goal.write_item-requires-clause-may
write_item-requires-clause-may g c =
    let n = c.args.number in let old = c.args.seat.now in let mid = c.turn-hall.new.seat in
    let h = c.deref_mut.result.now in let is : c.turn-hall.result ≡ h = search rules in
    let turn = subst (GetsTurn c.args.log.now n old mid) is c.turn-hall.ensures in
    may_leave n old mid mid h turn.at (Entered n c.args.task.taken.event) refl c.commit.new.self
    (turn.at.given, c.in-Ok.ensures.0.may) c.in-Ok.ensures.1

pub take_on-requires : goal.take_on-requires
take_on-requires g c =
    let n = c.args.number in let old = c.args.seat.now in let mid = c.turn-hall.new.seat in
    let h = c.deref_mut.result.now in let is : c.turn-hall.result ≡ h = search rules in
    let turn = subst (GetsTurn c.args.log.now n old mid) is c.turn-hall.ensures in
    let e = c.args.task.taken.event in let put = c.write_item.ensures in
    let wrote = put.knew ∙ ap (λ (v : HallView). having_written after_item v.last (knows mid)) c.in-Ok.ensures.1 in
    record {
      own = put.same.0 ∙ turn.holds.own;
      lying = c.commit.new.self;
      turn = put.turn;
      lies = put.lies;
      reckons = reckons_then n old mid c.write_item.new.seat h turn.at (Entered n e) refl wrote c.commit.new.self
          (turn.at.given, c.in-Ok.ensures.0.may) c.in-Ok.ensures.1;
    }

pub returns-in-Ok : goal.returns-in-Ok
returns-in-Ok g c =
    let n = c.args.number in let old = c.args.seat.now in let mid = c.turn-hall.new.seat in
    let h = c.deref_mut.result.now in let is : c.turn-hall.result ≡ h = search rules in
    let turn = subst (GetsTurn c.args.log.now n old mid) is c.turn-hall.ensures in
    let taken = c.args.task.taken in let e = taken.event in let a = c.owner-a.result in let same = c.owner-a.ensures in
    let its = taken.its ∙ ap Some (sym same) in
    let has = subst (λ (b : ℕ). HasItsCell n b taken.cell old) (sym same) c.requires.may.has in
    let one = c.write_item.new.seat in let two = c.take_on.new.seat in let new = c.claim_on.new.seat in
    let done = c.in-Ok.done in let next = c.claim_on.new.next in
    let put = c.write_item.ensures in let took = c.take_on.ensures in let claims = c.claim_on.ensures in
    let wrote = put.knew ∙ ap (λ (v : HallView). having_written after_item v.last (knows mid)) c.in-Ok.ensures.1 in
    let w = subst (λ (b : ℕ). WentOn n b old new e done next) same
    (went_on n a old mid one two new h turn.at e taken.cell its has done c.in-Ok.ensures.0 wrote c.take_on.result took.took_is
    took.under.lying took.under.reckons next claims.claimed) in
    let turns = all_turns n a old mid one two new h turn.at e taken.cell its has done c.in-Ok.ensures.0 wrote c.take_on.result took.took_is
    took.under.lying took.under.reckons next claims.claimed turn.turns in record {
      stays = record {
        stays = record {
          same = (
            claims.same.0 ∙ (took.same.0 ∙ (put.same.0 ∙ turn.same.0)),
            claims.same.1 ∙ (took.same.1 ∙ (put.same.1 ∙ turn.same.1)),
          );
          pass_is = claims.pass_is;
          client = w.client;
          turns_had = turns;
        };
        cells = w.cells;
      };
      claim = w.next_is;
      left = w.left;
      ok = w.calls;
      refused = tt;
      none = tt;
    }

pub write_back-requires-clause-may : goal.write_back-requires-clause-may
write_back-requires-clause-may g c =
    let n = c.args.number in let old = c.args.seat.now in let mid = c.turn-hall.new.seat in
    let h = c.deref_mut.result.now in let is : c.turn-hall.result ≡ h = search rules in
    let turn = subst (GetsTurn c.args.log.now n old mid) is c.turn-hall.ensures in let taken = c.args.task.taken in
    commit_may n taken.cell.heap.owner old mid h turn.at taken.event taken.cell taken.its c.requires.may.has (Err c.in-Err.refuse)
    c.commit.new.self c.in-Err.ensures

pub returns-in-Err : goal.returns-in-Err
returns-in-Err g c =
    let n = c.args.number in let old = c.args.seat.now in let mid = c.turn-hall.new.seat in let new = c.write_back.new.seat in
    let h = c.deref_mut.result.now in let is : c.turn-hall.result ≡ h = search rules in
    let turn = subst (GetsTurn c.args.log.now n old mid) is c.turn-hall.ensures in
    let taken = c.args.task.taken in let a = taken.cell.heap.owner in
    let told = commits n a old mid h turn.at taken.event taken.cell taken.its c.requires.may.has c.args.log.now new turn c.commit.new.self
    c.write_back.ensures (Err c.in-Err.refuse) c.in-Err.ensures in record {
      stays = told.stays;
      claim = subst (λ o. IfSome o (IsNext n a old new)) (sym c.requires.free) tt;
      left = subst (λ o. IfNone o (out n old ≡ out n new + 1)) (sym c.requires.free) told.less;
      ok = tt;
      refused = told.refused;
      none = c.requires.free;
    }
