use Rattle.std.proofs.Common.{[], ◌∷◌, map, sym, ap, subst, ◌∙◌}
use Rattle.orca_names.specs.Names.{times_among}
use Rattle.letter_kinds.specs.Load.{as_load}
use Rattle.letter_kinds.specs.Sums.{amount_of}
use Rattle.letter_kinds.specs.Letters as letters
use Rattle.letter_kinds.specs.Letters.{as_letter}
use Rattle.count_ledger.specs.Lines.{HasRoomForMail, own_only, raised_by, with_mail}
use Rattle.count_ledger.specs.declared.lines.Column.TheVariants.{Inc, Dec, Letters}
use Rattle.count_ledger.proofs.Adding.{map_itself, map_same}
use Rattle.count_ledger.proofs.Mailed.{app_line, confirm_line, dec_line, inc_line, room_from}
use Rattle.count_ledger.proofs.letters.add_letter.Goals as goal

pub add_load-requires-clause-room : goal.add_load-requires-clause-room
add_load-requires-clause-room c =
    let sums = c.args.sums.now in
    let to = c.args.to in
    let l = letters.App c.in-App.behaviour c.in-App.args (as_load c.in-App.load) (as_load c.in-App.rows) in
    let room = subst (λ m. HasRoomForMail to (as_letter m ∷ []) sums) c.in-App.is c.requires.room in
    room_from Letters (λ x. times_among x c.in-App.load) (with_mail to (l ∷ [])) sums
    (app_line to c.in-App.behaviour c.in-App.args c.in-App.load c.in-App.rows) room

pub add_amounts-requires-clause-room : goal.add_amounts-requires-clause-room
add_amounts-requires-clause-room c =
    let sums = c.args.sums.now in
    let to = c.args.to in
    let things = c.in-Inc.things in
    let room = subst (λ m. HasRoomForMail to (as_letter m ∷ []) sums) c.in-Inc.is c.requires.room in
    room_from Inc (own_only to (λ x. amount_of x things)) (with_mail to (letters.Inc things ∷ [])) sums
    (inc_line to things) room

pub add_amounts-requires-in-Dec-clause-room : goal.add_amounts-requires-in-Dec-clause-room
add_amounts-requires-in-Dec-clause-room c =
    let sums = c.args.sums.now in
    let to = c.args.to in
    let things = c.in-Dec.things in
    let room = subst (λ m. HasRoomForMail to (as_letter m ∷ []) sums) c.in-Dec.is c.requires.room in
    room_from Dec (own_only to (λ x. amount_of x things)) (with_mail to (letters.Dec things ∷ [])) sums
    (dec_line to things) room

pub returns-in-App : goal.returns-in-App
returns-in-App c =
    let sums = c.args.sums.now in
    let to = c.args.to in
    let l = letters.App c.in-App.behaviour c.in-App.args (as_load c.in-App.load) (as_load c.in-App.rows) in
    c.add_load.ensures
    ∙ map_same (raised_by Letters (λ x. times_among x c.in-App.load)) (with_mail to (l ∷ []))
    (app_line to c.in-App.behaviour c.in-App.args c.in-App.load c.in-App.rows) sums
    ∙ ap (λ m. map (with_mail to (as_letter m ∷ [])) sums) (sym c.in-App.is)

pub returns-in-Inc : goal.returns-in-Inc
returns-in-Inc c =
    let sums = c.args.sums.now in
    let to = c.args.to in
    let things = c.in-Inc.things in
    c.add_amounts.ensures
    ∙ map_same (raised_by Inc (own_only to (λ x. amount_of x things)))
    (with_mail to (letters.Inc things ∷ [])) (inc_line to things) sums
    ∙ ap (λ m. map (with_mail to (as_letter m ∷ [])) sums) (sym c.in-Inc.is)

pub returns-in-Dec : goal.returns-in-Dec
returns-in-Dec c =
    let sums = c.args.sums.now in
    let to = c.args.to in
    let things = c.in-Dec.things in
    c.add_amounts-in-Dec.ensures
    ∙ map_same (raised_by Dec (own_only to (λ x. amount_of x things)))
    (with_mail to (letters.Dec things ∷ [])) (dec_line to things) sums
    ∙ ap (λ m. map (with_mail to (as_letter m ∷ [])) sums) (sym c.in-Dec.is)

pub returns-in-Confirm : goal.returns-in-Confirm
returns-in-Confirm c =
    let sums = c.args.sums.now in
    let to = c.args.to in
    sym (map_itself (with_mail to (letters.Confirm c.in-Confirm.token ∷ []))
    (confirm_line to c.in-Confirm.token) sums)
    ∙ ap (λ m. map (with_mail to (as_letter m ∷ [])) sums) (sym c.in-Confirm.is)
