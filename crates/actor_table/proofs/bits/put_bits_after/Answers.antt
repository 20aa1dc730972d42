use Rattle.std.proofs.Common.{sym, ◌∙◌}
use Rattle.actor_table.proofs.Changing.{goes_acts, goes_settles, still_on}
use Rattle.actor_table.proofs.bits.put_bits_after.Goals as goal

pub returns-then-goes_on : goal.returns-then-goes_on
returns-then-goes_on g c =
    let was = c.requires.going (sym c.is_go.ensures ∙ c.if-is_go.true) in
    let on = sym c.goes_on.ensures ∙ c.if-goes_on.true in
    record {
      acting = still_on c.args.acting.now c.args.a _ was.0 (goes_acts c.args.slot.now on);
      settling = still_on c.args.settling.now c.args.a _ was.1 (goes_settles c.args.slot.now on);
    }
