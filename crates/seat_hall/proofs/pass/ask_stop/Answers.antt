use Rattle.std.proofs.Common.{◌≡◌, None, Some, refl, rules, subst}
use Rattle.seat_hall.specs.declared.item.Item.TheVariants.{Stopped}
use Rattle.seat_hall.specs.Passes.{GetsTurn}
use Rattle.seat_hall.proofs.Turns.{out_now, writes, wrote, wrote_cells, wrote_out, wrote_stays}
use Rattle.seat_hall.proofs.pass.ask_stop.Goals as goal

pub returns : goal.returns
returns g c =
    let n = c.args.number in let old = c.args.seat.now in let mid = c.turn-hall.new.seat in
    let h = c.deref_mut.result.now in let is : c.turn-hall.result ≡ h = search rules in
    let turn = subst (GetsTurn c.args.log.now n old mid) is c.turn-hall.ensures in
    let new = c.write_back.new.seat in let i = Stopped n in let at = turn.at in
    let wrote_it = wrote c.args.log.now n old mid new h turn i refl c.ask_stop.new.self c.ask_stop.ensures c.write_back.ensures in record {
      stays = record {
        stays = wrote_stays c.args.log.now n old mid new h turn i refl c.ask_stop.new.self c.ask_stop.ensures c.write_back.ensures;
        cells = λ a cell has. wrote_cells n old mid new h at i refl wrote_it at.given a cell (λ none. let clash : None ≡ Some a = none in cc) has;
        out_is = wrote_out n old mid new h at i refl wrote_it _ (out_now n old mid new h at);
      };
      call = writes n old mid new h at i refl wrote_it _ tt;
    }
