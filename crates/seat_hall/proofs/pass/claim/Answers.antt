use Rattle.std.proofs.Common.{◌≡◌, refl, sym, subst, rules}
use Rattle.seat_hall.specs.declared.item.Item.TheVariants.{Claimed}
use Rattle.seat_hall.specs.declared.taken.Taken.{Taken}
use Rattle.seat_hall.specs.Answers.{Grants, IsTaken, RefusesClaim}
use Rattle.seat_hall.specs.Passes.{GetsTurn}
use Rattle.seat_hall.proofs.Items.{claim_cells, claim_may, claim_out, claim_owns}
use Rattle.seat_hall.proofs.Turns.{may_leave, read_whole, reads, writes, wrote, wrote_stays}
use Rattle.seat_hall.proofs.pass.claim.Goals as goal

pub write_back-requires-clause-may : goal.write_back-requires-clause-may
write_back-requires-clause-may g c =
    let n = c.args.number in let old = c.args.seat.now in let mid = c.turn-hall.new.seat in
    let h = c.deref_mut.result.now in let is : c.turn-hall.result ≡ h = search rules in
    let turn = subst (GetsTurn c.args.log.now n old mid) is c.turn-hall.ensures in let lends = c.in-Ok.ensures.ok in
    may_leave n old mid mid h turn.at (Claimed n c.args.a) refl c.claim.new.self
    (claim_may n old mid h turn.at c.args.a lends.grants.0) lends.claimed

pub returns-in-Ok : goal.returns-in-Ok
returns-in-Ok g c =
    let n = c.args.number in let old = c.args.seat.now in let mid = c.turn-hall.new.seat in
    let h = c.deref_mut.result.now in let is : c.turn-hall.result ≡ h = search rules in
    let turn = subst (GetsTurn c.args.log.now n old mid) is c.turn-hall.ensures in let lends = c.in-Ok.ensures.ok in
    let a = c.args.a in let new = c.write_back.new.seat in let i = Claimed n a in let may = lends.grants.0 in
    let wrote_it = wrote c.args.log.now n old mid new h turn i refl c.claim.new.self lends.claimed c.write_back.ensures in
    let taken = subst (λ (t : Taken). IsTaken a t h.logged) (sym c.of.ensures.taken) lends.grants.1 in record {
      stays = record {
        stays = wrote_stays c.args.log.now n old mid new h turn i refl c.claim.new.self lends.claimed c.write_back.ensures;
        cells = claim_cells n old mid h turn.at a may new wrote_it;
      };
      ok = record {
        calls = writes n old mid new h turn.at i refl wrote_it (Grants a c.of.result.taken) (may, taken);
        may = claim_owns n old mid h turn.at a may new wrote_it lends.within c.of.result taken;
        fresh = c.of.ensures.fresh;
        more = claim_out n old mid h turn.at a may new wrote_it lends.within;
      };
      none = tt;
      refused = tt;
    }

pub returns-in-Err : goal.returns-in-Err
returns-in-Err g c =
    let n = c.args.number in let old = c.args.seat.now in let mid = c.turn-hall.new.seat in
    let h = c.deref_mut.result.now in let is : c.turn-hall.result ≡ h = search rules in
    let turn = subst (GetsTurn c.args.log.now n old mid) is c.turn-hall.ensures in let new = c.give_back.new.seat in
    let whole = read_whole c.args.log.now n old mid new h turn c.give_back.ensures in record {
      stays = record { stays = whole.stays; cells = whole.cells };
      ok = tt;
      none = whole.out_is;
      refused = reads n old mid new h turn.at c.give_back.ensures.knew (RefusesClaim c.args.a c.in-Err.refuse) c.in-Err.ensures.refused;
    }
