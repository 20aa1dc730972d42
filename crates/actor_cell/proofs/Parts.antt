-- Each event of the machine, by the part of its actor.
use Rattle.std.proofs.Common.{◌≡◌, ℕ, Bool, true, false, List, [], ◌∷◌, ◌++◌, map, set, None, refl, sym, ap, ◌∙◌}
use Rattle.std.proofs.lemmas.List.{append-nil}
use Rattle.event_rule.specs.Runs.{Goes}
use Rattle.letter_kinds.specs.Letters.{Letter, Dec}
use Rattle.letter_kinds.specs.declared.note.Note.{Note}
use Rattle.letter_kinds.specs.Counting.{Amount, by_owner, given_back}
use Rattle.orca_names.specs.declared.trace.Trace.{Trace}
use Rattle.orca_names.specs.declared.trace.Trace.TheVariants.{Deep, Roots}
use Rattle.machine_rules.specs.Actors.{Actors, push_decs, push_letter, seat, seat_at}
use Rattle.machine_rules.specs.Cell.{Cell}
use Rattle.machine_rules.specs.Collect.{after_collect, is_marked, without_unused}
use Rattle.machine_rules.specs.Detect.{empty_seats, held_outside, reap_decs}
use Rattle.machine_rules.specs.Take.{cell_after, note_of, notes_after}
use Rattle.actor_cell.specs.Laws.{BlocksByParts, CollectsByParts, LeavesByParts, TakesByParts}
use Rattle.actor_cell.specs.Outs.{left_behind}
use Rattle.actor_cell.specs.Pushing.{push_all}
use Rattle.actor_cell.specs.Sweeps.{swept}

-- a note is posted behind those that are there
noted : (reported : Bool) (note : Note) (notes : List Note) → notes_after reported note notes ≡ notes ++ notes_after reported note []
noted true note notes = refl
noted false note notes = sym (append-nil notes)

pub takes : TakesByParts
takes s a c letter mail =
    ap (λ notes. Goes (record s { actors = set s.actors a (seat (cell_after s.program a letter c) mail); notes = notes }))
    (noted c.reported (note_of a letter) s.notes)

-- Decs are letters
pub decs_pushed : (groups : List (ℕ × List Amount)) (actors : Actors) → push_decs groups actors ≡ push_all (map (λ g. (g.0, Dec g.1)) groups) actors
unfolding push_decs
decs_pushed [] actors = refl
decs_pushed (g ∷ groups) actors = decs_pushed groups (push_letter g.0 (Dec g.1) actors)

pub collects : CollectsByParts
collects trace s a c mail = λ i. Goes (record s {
  actors = (held_stays trace ∙ decs_pushed (by_owner (given_back (is_marked trace a c) c.holdings)) (set s.actors a (seat (swept trace a c) mail))) i;
  notes = sym (append-nil s.notes) i;
})
  where
    held_stays : (t : Trace) → after_collect (is_marked t a c) a (without_unused t a c) mail s.actors
        ≡ push_decs (by_owner (given_back (is_marked t a c) c.holdings)) (set s.actors a (seat (swept t a c) mail))
    held_stays Deep = refl
    held_stays Roots = refl

one_reaped : (a : ℕ) (c : Cell) (mail : List Letter) (actors : Actors) → seat_at actors a ≡ seat c mail → reap_decs (a ∷ []) (a ∷ []) actors ≡ left_behind a c
unfolding reap_decs
one_reaped a c mail actors at = append-nil (by_owner (held_outside (a ∷ []) (seat_at actors a))) ∙ ap (λ o. by_owner (held_outside (a ∷ []) o)) at

one_emptied : (a : ℕ) (actors : Actors) → empty_seats (a ∷ []) actors ≡ set actors a None
unfolding empty_seats
one_emptied a actors = refl

pub leaves : LeavesByParts
leaves s a c mail at = λ i. Goes (record s {
  actors = (ap (λ groups. push_decs groups (empty_seats (a ∷ []) s.actors)) (one_reaped a c mail s.actors at)
      ∙ ap (push_decs (left_behind a c)) (one_emptied a s.actors)
      ∙ decs_pushed (left_behind a c) (set s.actors a None)) i;
  notes = sym (append-nil s.notes) i;
})

pub blocks : BlocksByParts
blocks s a c mail = refl
