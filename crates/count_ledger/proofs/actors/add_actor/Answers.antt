use Rattle.std.proofs.Common.{◌<◌, ◌^◌, ◌+◌, map, refl, sym, ap, subst, ◌∙◌}
use Rattle.std.proofs.lemmas.List.Elements.{All-map, All-weaker}
use Rattle.std.proofs.lemmas.Simd.{map-map}
use Rattle.orca_names.specs.declared.tally.Sums.{Sums}
use Rattle.machine_rules.specs.Actors.{mail_at, seat_at}
use Rattle.machine_rules.specs.Balance.{held_at}
use Rattle.count_ledger.specs.Lines.{Fits, HasRoomForMail, Rise, raised_by, read, with_mail, with_seat}
use Rattle.count_ledger.specs.declared.lines.Column.TheVariants.{Held}
use Rattle.count_ledger.proofs.Adding.{rise_kept}
use Rattle.count_ledger.proofs.actors.add_actor.Goals as goal

pub add_held_of-requires-clause-room : goal.add_held_of-requires-clause-room
add_held_of-requires-clause-room c =
    let seat = seat_at c.args.orca.now.state.actors c.args.a in
    All-weaker (λ s. Fits (with_seat c.args.a seat s)) (λ s. read Held s + held_at s.thing seat < 2 ^ 64)
    (λ s fits. fits Held)
    c.args.sums.now c.requires.room

pub add_mail_of-requires-clause-rising : goal.add_mail_of-requires-clause-rising
add_mail_of-requires-clause-rising c =
    let seat = seat_at c.args.orca.now.state.actors c.args.a in
    let f = raised_by Held (λ x. held_at x seat) in
    subst Rise (sym c.add_held_of.ensures) (rise_kept f (λ s. refl) c.args.sums.now c.requires.rising)

pub add_mail_of-requires-clause-room : goal.add_mail_of-requires-clause-room
add_mail_of-requires-clause-room c =
    let actors = c.args.orca.now.state.actors in
    let a = c.args.a in
    let f = raised_by Held (λ x. held_at x (seat_at actors a)) in
    subst (HasRoomForMail a (mail_at actors a)) (sym c.add_held_of.ensures)
    (All-map (λ (s : Sums). Fits (with_mail a (mail_at actors a) s)) f c.args.sums.now c.requires.room)

pub returns : goal.returns
returns c =
    let actors = c.args.orca.now.state.actors in
    let a = c.args.a in
    let f = raised_by Held (λ x. held_at x (seat_at actors a)) in
    let g = with_mail a (mail_at actors a) in
    c.add_mail_of.ensures ∙ ap (map g) c.add_held_of.ensures ∙ map-map g f c.args.sums.now
