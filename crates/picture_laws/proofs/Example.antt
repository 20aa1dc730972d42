-- The small picture, by computation.
use Rattle.std.proofs.Common.{◌≡◌, ℕ, List, [], ◌∷◌, Option, length, set, refl, sym, subst, ◌∙◌, arith}
use Rattle.std.specs.FinMap as m
use Rattle.std.specs.Fmt.{digits}
use Rattle.std.specs.Ordering.{nat_cmp}
use Rattle.orca_names.specs.Names.{thing_cmp}
use Rattle.letter_kinds.specs.Holdings.{Row}
use Rattle.std.specs.Prelude.{codes}
use Rattle.event_rule.proofs.Steps.{goes_to}
use Rattle.event_rule.specs.declared.event.Event.TheVariants.{Take}
use Rattle.letter_kinds.specs.Counting.{receive}
use Rattle.letter_kinds.specs.Letters.{App}
use Rattle.machine_rules.specs.Actors.{seat}
use Rattle.machine_rules.specs.Cell.{first_cell}
use Rattle.machine_rules.specs.State.{State}
use Rattle.machine_rules.specs.Take.{cell_after, learn}
use Rattle.picture_rules.specs.Pictures.{entry_lines}
use Rattle.picture_rules.specs.Words.{text_of_lines}
use Rattle.picture_laws.specs.Example.{BeginsSo, GoesOnSo, at_first, prints_seven}

nothing : {X : Type 0} (xs : List X) → length xs ≡ 0 → xs ≡ []
nothing [] h = refl
nothing (x ∷ xs) h = absurd (omega (arith, h))

rows_none : m.entries (m.empty {X = Row × ℕ} {R = nat_cmp}) ≡ []
rows_none = nothing (m.entries (m.empty {X = Row × ℕ} {R = nat_cmp})) (sym (m.len-entries (m.empty {X = Row × ℕ} {R = nat_cmp})) ∙ m.len-empty nat_cmp (Row × ℕ))

held_none : m.entries (m.empty {X = ℕ × Option Row} {R = thing_cmp}) ≡ []
held_none = nothing (m.entries (m.empty {X = ℕ × Option Row} {R = thing_cmp})) (sym (m.len-entries (m.empty {X = ℕ × Option Row} {R = thing_cmp})) ∙ m.len-empty thing_cmp (ℕ × Option Row))

known_none : m.entries (m.empty {X = Row} {R = thing_cmp}) ≡ []
known_none = nothing (m.entries (m.empty {X = Row} {R = thing_cmp})) (sym (m.len-entries (m.empty {X = Row} {R = thing_cmp})) ∙ m.len-empty thing_cmp (Row))

pub begins_so : BeginsSo
unfolding digits
begins_so = rw (rows_none, held_none, known_none) refl

abbrev after_take : State
after_take = record at_first {
  actors = set at_first.actors 0 (seat (cell_after prints_seven 0 (App 1 [] [] []) (first_cell prints_seven)) []);
}

took : text_of_lines (entry_lines (Take 0) at_first after_take)
    ≡ codes "entry take 0\nactor 0 0 0 1 0 0 0\nturn 0 0 - - - - - - - - - - - - - - - -\n"
unfolding digits receive learn
took = rw (rows_none, held_none, known_none) refl

pub goes_on_so : GoesOnSo
goes_on_so t goes =
    subst (λ (x : State). text_of_lines (entry_lines (Take 0) at_first x)
    ≡ codes "entry take 0\nactor 0 0 0 1 0 0 0\nturn 0 0 - - - - - - - - - - - - - - - -\n") (goes_to after_take t goes) took
