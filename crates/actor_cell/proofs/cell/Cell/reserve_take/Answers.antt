use Rattle.std.proofs.Common.{refl}
use Rattle.actor_cell.proofs.Tells.{tells_reserved}
use Rattle.actor_cell.proofs.cell.Cell.reserve_take.Goals as goal

pub returns-in_err-reserve_load-in-App-clause-told : goal.returns-in_err-reserve_load-in-App-clause-told
returns-in_err-reserve_load-in-App-clause-told c =
    let s = c.args.self.now in
    let its = c.reserve_load.ensures in
    tells_reserved s.heap s.heap s.foreign c.reserve_load.new.foreign s.known s.known refl refl refl its.same its.blocks refl refl

pub returns-in_ok-reserve_load-in-App-clause-told : goal.returns-in_ok-reserve_load-in-App-clause-told
returns-in_ok-reserve_load-in-App-clause-told c =
    let s = c.args.self.now in
    let its = c.reserve_load.ensures in
    tells_reserved s.heap s.heap s.foreign c.reserve_load.new.foreign s.known c.reserve_rows.new.known refl refl refl its.same its.blocks
    c.reserve_rows.ensures.same c.reserve_rows.ensures.blocks
