use Rattle.std.proofs.Common.{◌≡◌, ℕ, None, Some, length, set, sym, ap, subst, ◌∙◌, arith}
use Rattle.letter_kinds.specs.Telling.{TellsNothing}
use Rattle.actor_cell.specs.Tells.{Tells}
use Rattle.seat_hall.specs.Halls.{HallView, HallKeeps}
use Rattle.seat_hall.specs.Log.{claim_in}
use Rattle.seat_hall.proofs.Kept.{kept_ended, room_is_out}
use Rattle.seat_hall.proofs.hall.Hall.put_back.Goals as goal

pub empty-cell-requires : goal.empty-cell-requires
empty-cell-requires c =
    let s = c.self.inside in
    let mine : claim_in s.claims.items c.args.room.heap.owner ≡ Some c.args.pass =
    ap (λ (h : HallView). claim_in h.logged.claims c.args.room.heap.owner) c.self.view_is ∙ c.requires.has.claimed in
    room_is_out s.code.now s.budget s.orca s.book s.claims.items s.rooms c.self.invariant c.args.room.heap.owner c.args.pass mine

pub put_back-requires-clause-told : goal.put_back-requires-clause-told
put_back-requires-clause-told c = λ n row block told.
    absurd (subst (λ cell. TellsNothing (Tells cell)) (sym c.empty-cell.ensures.cell) c.requires.untold n row block told)

pub put_back-requires-clause-lie : goal.put_back-requires-clause-lie
put_back-requires-clause-lie c = λ some. absurd (omega (arith, some, ap length c.self.invariant.none))

pub invariant_of-self : goal.invariant_of-self
invariant_of-self c =
    let s = c.self.inside in
    let back = c.put_back.ensures in
    let a = c.owner-a.result in
    let mine : claim_in s.claims.items a ≡ Some c.args.pass =
    ap (λ (h : HallView). claim_in h.logged.claims a) c.self.view_is
    ∙ (ap (claim_in c.args.self.now.logged.claims) c.owner-a.ensures ∙ c.requires.has.claimed) in
    subst (λ (a : ℕ). HallKeeps s.code.now s.budget c.put_back.new.self s.book (set s.claims.items a None) c.empty-cell.new.self)
    (sym c.a.view_is)
    (kept_ended s.code.now s.budget s.orca s.book s.claims.items s.rooms c.self.invariant c.put_back.new.self a c.args.pass
    back.state back.steps back.out back.blocks mine c.empty-cell.new.self c.empty-cell.ensures.free c.empty-cell.ensures.out)
