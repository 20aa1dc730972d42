-- What an event leaves of the program, and of the notes.
use Rattle.std.proofs.Common.{◌≡◌, ℕ, ◌-◌, Bool, true, false, List, [], ◌∷◌, ◌++◌, drop, length, refl, ap, sym, ◌∙◌, arith}
use Rattle.std.proofs.Math.Seq.{drop-append_seam}
use Rattle.std.proofs.lemmas.List.{append-nil}
use Rattle.letter_kinds.specs.declared.note.Note.{Note}
use Rattle.event_rule.specs.declared.event.Event.{Event}
use Rattle.machine_rules.specs.Rules.{IsStep, blocks, collects, ends, gets, hears, leaves, makes, mints, posts, prints, reaps, scans, takes}
use Rattle.machine_rules.specs.State.{State}
use Rattle.machine_rules.specs.Take.{note_of, notes_after}
use Rattle.orca_names.specs.declared.trace.Trace.{Trace}
use Rattle.picture_rules.specs.Pictures.{heard, posted}

pub program_kept : {trace : Trace} {s t : State} {e : Event} → IsStep trace s e t → t.program ≡ s.program
program_kept (takes a c letter mail at idle) = refl
program_kept (ends a c mail frame stops) = refl
program_kept (prints a c mail frame value stops) = refl
program_kept (makes a c mail frame kind register stops room) = refl
program_kept (posts a c mail frame to behaviour args stops lacks) = refl
program_kept (mints a c mail frame to behaviour args e lacked stops lacks) = refl
program_kept (gets a c mail frame x going need) = refl
program_kept (collects a c mail at may) = refl
program_kept (leaves a c mail at may) = refl
program_kept (blocks a c mail at may) = refl
program_kept (hears note later is) = refl
program_kept (scans news) = refl
program_kept (reaps number token is) = refl

minus_none : (n : ℕ) → n ≡ n - 0
minus_none n = omega arith

-- the notes behind those that waited
more_behind : (xs ys : List Note) → xs ++ ys ≡ xs ++ drop (length xs - 0) (xs ++ ys)
more_behind xs ys = ap (λ zs. xs ++ zs) (sym (drop-append_seam xs ys)) ∙ ap (λ n. xs ++ drop n (xs ++ ys)) (minus_none (length xs))

none_behind : (xs : List Note) → xs ≡ xs ++ drop (length xs - 0) xs
none_behind xs = sym (append-nil xs) ∙ more_behind xs [] ∙ ap (λ (zs : List Note). xs ++ drop (length xs - 0) zs) (append-nil xs)

after_note : (reported : Bool) (n : Note) (xs : List Note) → notes_after reported n xs ≡ xs ++ drop (length xs - 0) (notes_after reported n xs)
after_note true n xs = more_behind xs (n ∷ [])
after_note false n xs = none_behind xs

one_less : (note : Note) (later : List Note) → length later - 0 ≡ length (note ∷ later) - 1
one_less note later = omega arith

-- the notes that wait after an event: those before, without the one heard, and those posted
pub notes_kept : {trace : Trace} {s t : State} {e : Event} → IsStep trace s e t → t.notes ≡ drop (heard e) s.notes ++ posted e s t
notes_kept {s = s} (takes a c letter mail at idle) = after_note c.reported (note_of a letter) s.notes
notes_kept {s = s} (ends a c mail frame stops) = none_behind s.notes
notes_kept {s = s} (prints a c mail frame value stops) = none_behind s.notes
notes_kept {s = s} (makes a c mail frame kind register stops room) = none_behind s.notes
notes_kept {s = s} (posts a c mail frame to behaviour args stops lacks) = none_behind s.notes
notes_kept {s = s} (mints a c mail frame to behaviour args e lacked stops lacks) = none_behind s.notes
notes_kept {s = s} (gets a c mail frame x going need) = none_behind s.notes
notes_kept {s = s} (collects a c mail at may) = none_behind s.notes
notes_kept {s = s} (leaves a c mail at may) = none_behind s.notes
notes_kept {s = s} (blocks a c mail at may) = more_behind s.notes _
notes_kept {s = s} (hears note later is) =
    none_behind later ∙ ap (λ n. later ++ drop n later) (one_less note later)
    ∙ ap (λ (ns : List Note). drop 1 ns ++ drop (length ns - 1) later) (sym is)
notes_kept {s = s} (scans news) = none_behind s.notes
notes_kept {s = s} (reaps number token is) = none_behind s.notes
