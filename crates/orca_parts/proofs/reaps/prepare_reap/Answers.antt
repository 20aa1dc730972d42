use Rattle.std.proofs.Common.{List, refl, subst, sym, ℕ}
use Rattle.event_rule.specs.declared.event.Event.TheVariants.{Reap}
use Rattle.orca_parts.specs.declared.parts.Parts.{Parts}
use Rattle.letter_kinds.specs.Counting.{Amount}
use Rattle.orca_parts.specs.Fits.{FitsReap}
use Rattle.orca_parts.specs.Letters.{FitLetters}
use Rattle.orca_parts.specs.Touched.{receivers}
use Rattle.orca_parts.proofs.Preparing.{only_room, prepared, still_lies}
use Rattle.orca_parts.proofs.Reaping.{acked_home, can_reap, homes_kept}
use Rattle.orca_parts.proofs.reaps.prepare_reap.Goals as goal

pub letters_outside-requires-clause-home : goal.letters_outside-requires-clause-home
letters_outside-requires-clause-home c =
    let m = c.args.m.now.parts in
    acked_home c.args.number c.in-Some.members.now m.detector.state m.table.slots c.requires.home c.in-Some.ensures.value

pub returns : goal.returns
returns c =
    let core = c.args.m.now in
    let old = core.parts in
    let letters = c.in_ok-letters.letters in
    let m : Parts = record old { table = c.reserve_all.new.table; members = c.in_ok-going.going; letters = letters } in
    let members = c.in-Some.members.now in
    let same = c.reserve_all.ensures.same in
    let home = homes_kept members old.table.slots m.table.slots same.places
    (acked_home c.args.number members old.detector.state old.table.slots c.requires.home c.in-Some.ensures.value) in
    prepared (Reap c.args.number) core m (only_room old m refl refl refl same.actors same.away refl same.told (still_lies old.table.slots m.table.slots same.places) refl) (record { turn = refl; turned = refl })
    (subst (λ ms. FitsReap c.args.number ms letters.items m) (sym c.in_ok-going.ensures.items)
    (can_reap c.args.number members letters.items old.table.slots m c.in-Some.ensures.value c.in_ok-letters.ensures same.actors home
    (subst (λ (gs : List (ℕ × List Amount)). FitLetters (receivers gs) m.table.slots) c.deref.ensures.value c.in_ok-reserve_all.ensures.ok)
    c.in-Some.ensures.rising))
