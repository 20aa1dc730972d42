use Rattle.std.proofs.Common.{◌≡◌, rules, true, false, Some, ap, sym, subst, ◌∙◌, refl}
use Rattle.event_rule.specs.declared.event.Event.TheVariants.{Take}
use Rattle.turn_log.specs.Knowing.{having_written}
use Rattle.turn_log.specs.Seats.{Has, IsSame, knows}
use Rattle.seat_hall.specs.declared.item.Item.TheVariants.{Entered}
use Rattle.seat_hall.specs.Advances.{Reckons, Takes}
use Rattle.seat_hall.specs.Fair.{Knower, after_item}
use Rattle.seat_hall.specs.Halls.{HallView}
use Rattle.seat_hall.proofs.Items.{entry_may}
use Rattle.seat_hall.proofs.Turns.{may_leave}
use Rattle.seat_hall.proofs.Under.{at_again, holds_then, lies_once, reckons_then, taken_out}
use Rattle.seat_hall.proofs.advancing.take_on.Goals as goal

pub take-hall-requires-clause-full : goal.take-hall-requires-clause-full
take-hall-requires-clause-full c = (c.requires.lying, c.requires.lies)

pub write_item-requires-clause-holds : goal.write_item-requires-clause-holds
write_item-requires-clause-holds c =
    let u = c.requires in let took = c.take-hall.ensures in
    (u.lying, holds_then c.args.log.now c.args.number c.args.seat.now c.take-hall.new.seat u took.same took.empty)

pub write_item-requires-clause-may : goal.write_item-requires-clause-may
write_item-requires-clause-may c =
    let n = c.args.number in let u = c.requires in let seat = c.take-hall.new.seat in
    let h = c.deref_mut.result.now in let is : c.take-hall.result ≡ h = search rules in
    let r = subst (Reckons n (knows seat)) is
    (taken_out c.args.log.now n c.args.seat.now seat c.take-hall.result u c.take-hall.ensures.value c.take-hall.ensures.same.1) in
    let at = at_again n seat h r in
    may_leave n seat seat seat h at (Entered n (Take c.args.a)) refl c.enter.new.self
    (entry_may n seat seat h at (Take c.args.a) c.in-Ok.ensures.0.may) c.in-Ok.ensures.1

pub returns-in-Ok : goal.returns-in-Ok
returns-in-Ok c =
    let n = c.args.number in let u = c.requires in let seat = c.take-hall.new.seat in
    let h = c.deref_mut.result.now in let is : c.take-hall.result ≡ h = search rules in
    let r = subst (Reckons n (knows seat)) is
    (taken_out c.args.log.now n c.args.seat.now seat c.take-hall.result u c.take-hall.ensures.value c.take-hall.ensures.same.1) in
    let same = lies_once c.args.seat.now u.lying c.take-hall.result u.lies c.take-hall.ensures.value ∙ is in
    let at = at_again n seat h r in let put = c.write_item.ensures in let took = c.take-hall.ensures in
    let wrote = put.knew ∙ ap (λ (v : HallView). having_written after_item v.last (knows seat)) c.in-Ok.ensures.1 in
    let kept : IsSame c.args.seat.now c.write_item.new.seat = (put.same.0 ∙ took.same.0.0, put.same.1 ∙ took.same.0.1) in record {
      same = kept;
      under = record {
        own = kept.0 ∙ u.own;
        lying = c.enter.new.self;
        turn = put.turn;
        lies = put.lies;
        reckons = reckons_then n seat seat c.write_item.new.seat h at (Entered n (Take c.args.a)) refl wrote c.enter.new.self
            (entry_may n seat seat h at (Take c.args.a) c.in-Ok.ensures.0.may) c.in-Ok.ensures.1;
      };
      took_is = (
        subst (Takes n c.args.a true) (ap (λ (v : HallView). v.logged) (sym same) ∙ u.reckons.shows)
            (c.in-Ok._done, c.in-Ok.ensures.0),
        wrote ∙ ap (λ v. having_written after_item (Entered n (Take c.args.a)) v.known) took.same.1,
      );
    }

pub returns : goal.returns
returns c =
    let n = c.args.number in let u = c.requires in let seat = c.take-hall.new.seat in
    let h = c.deref_mut.result.now in let is : c.take-hall.result ≡ h = search rules in
    let same = lies_once c.args.seat.now u.lying c.take-hall.result u.lies c.take-hall.ensures.value ∙ is in
    let back = same ∙ sym c.in-Err.ensures.1 in
    let put = c.put.ensures.same in let took = c.take-hall.ensures.same in let still = put.1 ∙ took.1 in
    let kept : IsSame c.args.seat.now c.put.new.seat = (put.0.0 ∙ took.0.0, put.0.1 ∙ took.0.1) in record {
      same = kept;
      under = record {
        own = kept.0 ∙ u.own;
        lying = u.lying;
        turn = (u.turn.0, ap (λ v. v.stage) still ∙ u.turn.1);
        lies = subst (λ (x : HallView). Has (Some x) c.put.new.seat) (sym back) c.put.ensures.full;
        reckons = subst (λ (k : Knower). Reckons n k u.lying) (ap (λ v. v.known) (sym still)) u.reckons;
      };
      took_is = (
        subst (Takes n c.args.a false) (ap (λ (v : HallView). v.logged) (sym same) ∙ u.reckons.shows)
            (c.in-Err._refuse, c.in-Err.ensures.0),
        ap (λ v. v.known) still,
      );
    }
