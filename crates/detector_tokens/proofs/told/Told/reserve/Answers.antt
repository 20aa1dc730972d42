use Rattle.std.proofs.Common.{◌≡◌, ◌∙◌, ◌-◌, ◌<◌, ℕ, List, true, Some, ap, sym, subst, length, slice_get, arith}
use Rattle.std.specs.Option.{option_copied}
use Rattle.letter_kinds.specs.Detector.{has}
use Rattle.detector_tokens.proofs.Telling.{room_for}
use Rattle.detector_tokens.proofs.told.Told.reserve.Goals as goal

pub returns-in_ok-resize-clause-ok : goal.returns-in_ok-resize-clause-ok
returns-in_ok-resize-clause-ok c =
    let at : slice_get c.args.actors.now (length c.args.actors.now - 1) ≡ Some c.last-in-Some.inside.0 =
    sym c.last.ensures.value ∙ (ap option_copied c.in-Some.is ∙ ap (λ a. Some a) (sym c.last-in-Some.view_is)) in
    let long = c.in_ok-resize.ensures.len in
    room_for c.args.actors.now c.last-in-Some.inside.0 (length c.resize.new.self.items) c.requires.rising at (omega arith)

pub returns-else-len-wanted-clause-ok : goal.returns-else-len-wanted-clause-ok
returns-else-len-wanted-clause-ok c =
    let at : slice_get c.args.actors.now (length c.args.actors.now - 1) ≡ Some c.last-in-Some.inside.0 =
    sym c.last.ensures.value ∙ (ap option_copied c.in-Some.is ∙ ap (λ a. Some a) (sym c.last-in-Some.view_is)) in
    let long = c.len.ensures in
    let le = c.if-len-wanted.false in
    subst (λ (ns : List ℕ). (a : ℕ) → has c.args.actors.now a ≡ true → a < length ns) c.self.view_is
    (room_for c.args.actors.now c.last-in-Some.inside.0 (length c.self.inside.numbers.items) c.requires.rising at (omega arith))
