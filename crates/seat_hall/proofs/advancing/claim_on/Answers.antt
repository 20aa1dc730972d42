use Rattle.std.proofs.Common.{◌≡◌, ◌<◌, rules, true, length, ap, sym, subst, ◌∙◌, refl}
use Rattle.turn_log.specs.Knowing.{having_written}
use Rattle.turn_log.specs.Seats.{knows}
use Rattle.seat_hall.specs.declared.item.Item.TheVariants.{Claimed}
use Rattle.seat_hall.specs.declared.taken.Taken.{Taken}
use Rattle.seat_hall.specs.Advances.{ClaimsOn, Reckons}
use Rattle.seat_hall.specs.Answers.{Grants, NoAct, is_act}
use Rattle.seat_hall.specs.Fair.{after_item}
use Rattle.seat_hall.specs.Halls.{HallView}
use Rattle.seat_hall.specs.Log.{Logged}
use Rattle.seat_hall.specs.Passes.{Holds}
use Rattle.seat_hall.proofs.Items.{claim_may}
use Rattle.seat_hall.proofs.Turns.{may_leave}
use Rattle.seat_hall.proofs.Under.{at_again, holds_then, lies_once, taken_out}
use Rattle.seat_hall.proofs.advancing.claim_on.Goals as goal

pub take-hall-requires-clause-full : goal.take-hall-requires-clause-full
take-hall-requires-clause-full c = (c.requires.under.lying, c.requires.under.lies)

pub write_back-requires-clause-holds : goal.write_back-requires-clause-holds
write_back-requires-clause-holds c =
    let u = c.requires.under in let took = c.take-hall.ensures in
    (u.lying, holds_then c.args.log.now c.args.number c.args.seat.now c.take-hall.new.seat u took.same took.empty)

pub write_back-requires-clause-may : goal.write_back-requires-clause-may
write_back-requires-clause-may c =
    let n = c.args.number in let u = c.requires.under in let seat = c.take-hall.new.seat in
    let h = c.deref_mut.result.now in let is : c.take-hall.result ≡ h = search rules in
    let r = subst (Reckons n (knows seat)) is
    (taken_out c.args.log.now n c.args.seat.now seat c.take-hall.result u c.take-hall.ensures.value c.take-hall.ensures.same.1) in
    let at = at_again n seat h r in
    may_leave n seat seat seat h at (Claimed n c.args.a) refl c.claim_act.new.self
    (claim_may n seat seat h at c.args.a c.in-Some.ensures.some.grants.0) c.in-Some.ensures.some.claimed

pub returns-in-Some : goal.returns-in-Some
returns-in-Some c =
    let n = c.args.number in let a = c.args.a in let u = c.requires.under in let seat = c.take-hall.new.seat in
    let h = c.deref_mut.result.now in let is : c.take-hall.result ≡ h = search rules in
    let same = lies_once c.args.seat.now u.lying c.take-hall.result u.lies c.take-hall.ensures.value ∙ is in
    let reckoned = ap (λ (v : HallView). v.logged) (sym same) ∙ u.reckons.shows in
    let passed = c.write_back.ensures in let took = c.take-hall.ensures in
    let wrote = passed.knew ∙ ap (λ (v : HallView). having_written after_item v.last (knows seat)) c.in-Some.ensures.some.claimed in
    record {
      same = (passed.same.0 ∙ took.same.0.0, passed.same.1 ∙ took.same.0.1);
      pass_is = passed.pass_is;
      claimed = record {
        claims = subst (λ (x : Taken × Logged). Grants a x.0 x.1 × (is_act x.0.event ≡ true))
            (λ i. (sym c.of.ensures.taken i, reckoned i)) (c.in-Some.ensures.some.grants, c.in-Some.ensures.act);
        within = subst (λ (l : Logged). a < length l.claims) reckoned c.in-Some.ensures.some.within;
        fresh = c.of.ensures.fresh;
        wrote = wrote ∙ ap (λ v. having_written after_item (Claimed n a) v.known) took.same.1;
      };
    }

pub give_back-requires-clause-holds : goal.give_back-requires-clause-holds
give_back-requires-clause-holds c =
    let n = c.args.number in let u = c.requires.under in let seat = c.take-hall.new.seat in
    let h = c.deref_mut.result.now in let is : c.take-hall.result ≡ h = search rules in
    let same = lies_once c.args.seat.now u.lying c.take-hall.result u.lies c.take-hall.ensures.value ∙ is in
    let back = same ∙ sym c.in-None.ensures.same in let took = c.take-hall.ensures in
    subst (λ (x : HallView). Holds c.args.log.now x seat) back (holds_then c.args.log.now n c.args.seat.now seat u took.same took.empty)

pub give_back-requires-clause-number : goal.give_back-requires-clause-number
give_back-requires-clause-number c = ap (λ v. v.known.client.numbers) c.take-hall.ensures.same.1 ∙ c.requires.under.reckons.number

pub returns-in-None : goal.returns-in-None
returns-in-None c =
    let n = c.args.number in let u = c.requires.under in let seat = c.take-hall.new.seat in
    let h = c.deref_mut.result.now in let is : c.take-hall.result ≡ h = search rules in
    let same = lies_once c.args.seat.now u.lying c.take-hall.result u.lies c.take-hall.ensures.value ∙ is in
    let reckoned = ap (λ (v : HallView). v.logged) (sym same) ∙ u.reckons.shows in
    let passed = c.give_back.ensures in let took = c.take-hall.ensures in
    subst (λ next. ClaimsOn n c.args.a next c.args.seat.now c.give_back.new.seat) (sym c.requires.free) (record {
      same = (passed.same.0 ∙ took.same.0.0, passed.same.1 ∙ took.same.0.1);
      pass_is = passed.pass_is;
      claimed = record {
        claims = subst (NoAct c.args.a) reckoned c.in-None.ensures.none;
        within = tt;
        fresh = tt;
        wrote = passed.knew ∙ ap (λ v. v.known) took.same.1;
      };
    })
