use Rattle.std.proofs.Common.{◌≡◌, ◌≤◌, ◌+◌, ◌-◌, ℕ, [], ◌∷◌, Option, Some, IfErr, IfNone, IfOk, IfSome, refl, rules, subst, sym}
use Rattle.std.proofs.lemmas.Option.{IfSome_then}
use Rattle.seat_hall.specs.Boards.{PassValue, out_of}
use Rattle.seat_hall.specs.declared.item.Item.TheVariants.{Ended}
use Rattle.seat_hall.specs.declared.task.SeatTask.{SeatTask}
use Rattle.seat_hall.specs.Advances.{Advances}
use Rattle.seat_hall.specs.Answers.{RefusesEntry}
use Rattle.seat_hall.specs.Passes.{Calls, KeepsOthers, MayCommit, out}
use Rattle.seat_hall.proofs.Advances.{next_actor, next_none, next_one, task_of}
use Rattle.seat_hall.proofs.Boards.{gives_up}
use Rattle.seat_hall.proofs.board.SeatPassBoard.advance.Goals as goal

pub advance-answer-requires-clause-may : goal.advance-answer-requires-clause-may
advance-answer-requires-clause-may g c =
    let was = c.in-Some.was in let is : c.args.task.now ≡ Some was = search rules in
    subst (λ (p : PassValue). MayCommit p.number p.token was) (sym c.self.view_is)
    (subst (λ (o : Option SeatTask). IfSome o (MayCommit c.args.self.now.number c.args.self.now.token)) is c.requires.owns)

pub returns-clause-actor : goal.returns-clause-actor
returns-clause-actor g c =
    let was = c.in-Some.was in let is : c.args.task.now ≡ Some was = search rules in
    next_actor c.self.inside.number was.taken.cell.heap.owner c.self.inside.token c.advance-answer.new.seat c.advance-answer.new.next c.args.a
    (task_of c.args.a c.args.task.now was is c.requires.actor) c.advance-answer.ensures.claim

pub returns-clause-fresh : goal.returns-clause-fresh
returns-clause-fresh g c = IfSome_then c.advance-answer.new.next c.advance-answer.ensures.claim (λ task its. its.fresh)

pub returns-clause-owns : goal.returns-clause-owns
returns-clause-owns g c = IfSome_then c.advance-answer.new.next c.advance-answer.ensures.claim (λ task its. its.may)

pub returns-clause-one : goal.returns-clause-one
returns-clause-one g c =
    let new = c.advance-answer.new.seat in let next = c.advance-answer.new.next in
    subst (λ (p : PassValue). IfSome next (λ _. out c.self.inside.number new ≤ out_of p - 1 + 1)) c.self.view_is
    (next_one c.self.inside.number c.in-Some.was.taken.cell.heap.owner c.self.inside.token new next c.advance-answer.ensures.claim)

pub returns-clause-none : goal.returns-clause-none
returns-clause-none g c =
    let new = c.advance-answer.new.seat in let next = c.advance-answer.new.next in
    next_none next (out_of c.args.self.now) (out c.self.inside.number new)
    (subst (λ (p : PassValue). IfNone next (out_of p ≡ out c.self.inside.number new + 1)) c.self.view_is c.advance-answer.ensures.left)

pub returns-clause-stays : goal.returns-clause-stays
returns-clause-stays g c =
    let was = c.in-Some.was in let is : c.args.task.now ≡ Some was = search rules in
    let same = task_of c.args.a c.args.task.now was is c.requires.actor in
    let told = c.advance-answer.ensures.stays in
    gives_up _ _ _ c.self.view_is refl c.args.a told.stays
    (subst (λ (a : ℕ). KeepsOthers c.self.inside.number a c.self.inside.token c.advance-answer.new.seat) same told.cells)

pub returns-clause-went : goal.returns-clause-went
returns-clause-went g c =
    let new = c.advance-answer.new.seat in
    subst (λ (p : PassValue). IfSome c.advance-answer.new.next (λ _. out c.self.inside.number new ≡ out_of p)) c.self.view_is
    (IfSome_then c.advance-answer.new.next c.advance-answer.ensures.claim (λ task its. its.out_is))

pub returns-clause-left : goal.returns-clause-left
returns-clause-left g c =
    let new = c.advance-answer.new.seat in
    subst (λ (p : PassValue). IfNone c.advance-answer.new.next (out_of p ≡ out c.self.inside.number new + 1)) c.self.view_is c.advance-answer.ensures.left

pub returns-clause-ok : goal.returns-clause-ok
returns-clause-ok g c =
    let was = c.in-Some.was in let is : c.args.task.now ≡ Some was = search rules in
    let same = task_of c.args.a c.args.task.now was is c.requires.actor in
    let new = c.advance-answer.new.seat in let next = c.advance-answer.new.next in let p = c.args.self.now in
    subst (λ (o : Option SeatTask). IfSome o (λ t. IfOk c.advance-answer.result
    (λ done. Advances p.number c.args.a t.taken.event done next p.token new))) (sym is)
    (subst (λ (x : PassValue × ℕ). IfOk c.advance-answer.result (λ done. Advances x.0.number x.1 was.taken.event done next x.0.token new))
    (λ i. (c.self.view_is i, same i)) c.advance-answer.ensures.ok)

pub returns-clause-refused : goal.returns-clause-refused
returns-clause-refused g c =
    let was = c.in-Some.was in let is : c.args.task.now ≡ Some was = search rules in
    let same = task_of c.args.a c.args.task.now was is c.requires.actor in
    let new = c.advance-answer.new.seat in let p = c.args.self.now in
    subst (λ (o : Option SeatTask). IfSome o (λ t. IfErr c.advance-answer.result (λ refuse. Calls p.number p.token new
    (Ended p.number c.args.a ∷ []) (RefusesEntry (Some p.number) t.taken.event refuse)))) (sym is)
    (subst (λ (x : PassValue × ℕ). IfErr c.advance-answer.result (λ refuse. Calls x.0.number x.0.token new (Ended x.0.number x.1 ∷ [])
    (RefusesEntry (Some x.0.number) was.taken.event refuse))) (λ i. (c.self.view_is i, same i)) c.advance-answer.ensures.refused)
