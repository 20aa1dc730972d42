use denote.Param.Send.{sendable}
use Rattle.std.proofs.Common.{◌≡◌, All, subst, sym}
use Rattle.std.proofs.Crossing.{crosses}
use Rattle.std.proofs.lemmas.List.Elements.{All-append, All-drop, All-take}
use Rattle.seat_hall.specs.Boards.{PassValue}
use Rattle.seat_hall.proofs.Sending.{pass_send}
use Rattle.pony_run.proofs.Passes.{all_by_map}
use Rattle.pony_run.proofs.working.run_in.Goals as goal

pub work-requires-send-B : goal.work-requires-send-B
work-requires-send-B g c κs within = search (sendable, crosses, pass_send) depth 100 fits 100000

pub take_in-requires-clause-halls : goal.take_in-requires-clause-halls
take_in-requires-clause-halls g c =
    let table = c.split_off-passes.new.first.token.table_id in
    let IsOf = λ (p : PassValue). p.token.table_id ≡ table in
    let old = c.split_off-passes.result.items in
    let lent = c.as_mut_slice.result.now in
    let new = c.work.new.boards in
    let before : All IsOf old = subst (λ t. All (λ (p : PassValue). p.token.table_id ≡ t) old) (sym c.split_off-passes.ensures.hall) c.split_off-passes.ensures.halls in
    let after : All IsOf new = all_by_map (λ (p : PassValue). p.token.table_id) table lent new c.work.ensures.halls (subst (All IsOf) (sym c.as_mut_slice.ensures.value) before) in
    All-take IsOf _ _ (All-append IsOf new _ after (All-drop IsOf _ old before))
