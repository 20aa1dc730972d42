use Rattle.std.proofs.Common.{◌≡◌, ℕ, None, Some, set, sym, ap, subst, ◌∙◌}
use Rattle.std.specs.Prelude.{if◌then◌else◌, option_map}
use Rattle.behaviour_code.specs.WellFormed.{IsWellFormed}
use Rattle.machine_rules.specs.Actors.{cell_at}
use Rattle.actor_cell.specs.declared.cell.Cell.{Cell}
use Rattle.letter_kinds.specs.Telling.{TellsNothing}
use Rattle.actor_cell.specs.Cells.{as_cell}
use Rattle.actor_cell.specs.Tells.{Tells}
use Rattle.orca_core.proofs.Blockless.{none_told}
use Rattle.hall_rules.specs.Causes.{event_at}
use Rattle.hall_rules.proofs.Firsts.{event_of_actor}
use Rattle.hall_rules.proofs.Keeping.{can_find}
use Rattle.seat_hall.specs.Halls.{HallView, HallKeeps}
use Rattle.seat_hall.specs.Log.{claim_in, state_in}
use Rattle.seat_hall.proofs.Holding.{free_for}
use Rattle.seat_hall.proofs.Kept.{free_is_home, is_here, kept_claimed, room_is_free}
use Rattle.seat_hall.proofs.hall.Hall.lend.Goals as goal

pub unreachable-requires : goal.unreachable-requires
unreachable-requires c =
    let s = c.self.inside in let a = c.args.a in
    let free = ap (λ (h : HallView). claim_in h.logged.claims a) c.self.view_is ∙ free_for c.args.self.now.logged a c.requires.granted in
    let has = ap (λ m. event_at m a) (c.self.invariant.one.state_is ∙ ap (λ (h : HallView). state_in h.logged) c.self.view_is) ∙ c.requires.event in
    is_here s.code.now s.budget s.orca s.book s.claims.items s.rooms c.self.invariant a free c.args.event has
    (sym c.lift.ensures.cell ∙ ap (option_map as_cell) c.in_default.is)

pub fill-cell-requires : goal.fill-cell-requires
fill-cell-requires c =
    let s = c.self.inside in let a = c.args.a in
    let free = ap (λ (h : HallView). claim_in h.logged.claims a) c.self.view_is ∙ free_for c.args.self.now.logged a c.requires.granted in
    let has = ap (λ m. event_at m a) (c.self.invariant.one.state_is ∙ ap (λ (h : HallView). state_in h.logged) c.self.view_is) ∙ c.requires.event in
    room_is_free s.code.now s.budget s.orca s.book s.claims.items s.rooms c.self.invariant a free c.args.event has

pub invariant_of-self : goal.invariant_of-self
invariant_of-self c =
    let s = c.self.inside in let a = c.args.a in let lent = c.in-Some.ensures in let fill = c.fill-cell.ensures in
    let free = ap (λ (h : HallView). claim_in h.logged.claims a) c.self.view_is ∙ free_for c.args.self.now.logged a c.requires.granted in
    let has = ap (λ m. event_at m a) (c.self.invariant.one.state_is ∙ ap (λ (h : HallView). state_in h.logged) c.self.view_is) ∙ c.requires.event in
    subst (λ (a : ℕ). HallKeeps s.code.now s.budget c.lift.new.self s.book (set s.claims.items a (Some c.args.pass)) c.fill-cell.new.self)
    (sym c.a.view_is)
    (kept_claimed s.code.now s.budget s.orca s.book s.claims.items s.rooms c.self.invariant a free c.args.event has c.lift.new.self c.args.pass
    lent.state lent.steps lent.out lent.blocks lent.lent c.fill-cell.new.self fill.free fill.out)

pub invariant_of-result : goal.invariant_of-result
invariant_of-result c =
    let s = c.self.inside in let a = c.args.a in let cell = c.fill-cell.result in let kept = c.self.invariant in
    let owner = ap (λ (x : Cell). x.heap.owner) c.fill-cell.ensures.cell ∙ c.in-Some.ensures.owner in
    let free = ap (λ (h : HallView). claim_in h.logged.claims a) c.self.view_is ∙ free_for c.args.self.now.logged a c.requires.granted in
    let home = free_is_home s.code.now s.budget s.orca s.book s.claims.items s.rooms kept a free in
    let there : cell_at s.orca.state.actors a ≡ Some (as_cell cell) =
    sym (c.in-Some.ensures.cell ∙ ap (λ b. if b then None else cell_at s.orca.state.actors a) home)
    ∙ ap (λ (x : Cell). Some (as_cell x)) (sym c.fill-cell.ensures.cell) in
    let good = subst IsWellFormed c.program-program.ensures.value c.program-program.ensures.kept.good in
    let can = can_find s.code.now s.budget s.orca s.book kept.one good cell (ap (cell_at s.orca.state.actors) owner ∙ there) in record {
      its = event_of_actor (state_in c.args.self.now.logged) a c.args.event c.requires.event ∙ ap Some (sym owner);
      serials = can.serials;
      others = can.others;
      untold = subst (λ x. TellsNothing (Tells x)) (sym c.fill-cell.ensures.cell)
          (none_told s.orca.blocks (Tells c.in-Some.cell) kept.none c.in-Some.ensures.kept);
    }
