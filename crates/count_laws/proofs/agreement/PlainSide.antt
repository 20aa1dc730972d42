-- The plain machine's actors and rows, where one actor is changed or one more is made.
use Rattle.std.proofs.Common.{◌≡◌, ◌≢◌, ◌⊎◌, ℕ, zero, suc, ◌+◌, ◌-◌, ◌<◌, ◌≤◌, Option, Some, List, [], ◌∷◌, ◌++◌, length, length-append, set, get_or, refl, sym, ◌∙◌, ap, arith, subst, inl, inr, ⊎_elim, is_some, true, None, option_and_then}
use Rattle.std.specs.Prelude.{slice_get}
use Rattle.std.proofs.lemmas.Bool.{cases_eq, cases_lt}
use Rattle.std.proofs.lemmas.List.{map-set}
use Rattle.std.proofs.lemmas.List.Sums.{sum_by-append, sum_by-set}
use Rattle.std.proofs.lemmas.Option.{get_or_from_slice_get, slice_get_within}
use Rattle.orca_names.specs.declared.names.ObjName.{ObjName}
use Rattle.orca_names.specs.declared.names.Thing.{Thing}
use Rattle.orca_names.specs.declared.names.Thing.TheVariants.{Actor, Obj}
use Rattle.reach_walk.specs.Reach.{thing_row}
use Rattle.letter_kinds.specs.Holdings.{Row}
use Rattle.letter_kinds.specs.Letters.{Letter}
use Rattle.count_laws.proofs.knowledge.Going.{Grows}
use Rattle.machine_rules.proofs.Present.{present_below}
use Rattle.count_laws.proofs.knowledge.Segments.{Made}
use Rattle.count_laws.proofs.agreement.Slices.{slice_append_below, slice_append_past, slice_past, slice_push_last, slice_push_other, slice_read, slice_set_other, slice_set_same}
use Rattle.orca_names.specs.declared.trace.Trace.{Trace}
use Rattle.machine_rules.specs.Actors.{Actors, seat, seat_at}
use Rattle.count_laws.specs.Agreement.{Person, people_of, person_at, person_of, person_of_plain}
use Rattle.machine_rules.specs.Cell.{Cell}
use Rattle.count_laws.specs.Facts.{KeepsCounts}
use Rattle.plain_rules.specs.Machine.{objects_made, plain_row}
use Rattle.plain_rules.specs.declared.PlainActor.{PlainActor}

-- ---- who stands at a place

-- the plain actor beside one that is present
pub record StandsAt (actors : List PlainActor) (a : ℕ) (person : Person) : Type 0 where
  pub actor : PlainActor
  pub there : slice_get actors a ≡ Some actor
  pub same : person_of_plain actor ≡ person

pub stands_at : (actors : List PlainActor) (a : ℕ) (person : Person) → a < length actors → person_at (people_of actors) a ≡ person → StandsAt actors a person
stands_at [] a person h e = absurd (omega arith)
stands_at (x ∷ xs) zero person h e = record { actor = x; there = refl; same = e }
stands_at (x ∷ xs) (suc a) person h e = let z = stands_at xs a person (omega arith) e in record { actor = z.actor; there = z.there; same = z.same }

pub length-people : (actors : List PlainActor) → length (people_of actors) ≡ length actors
length-people [] = refl
length-people (x ∷ xs) = ap suc (length-people xs)

pub stands_beside : {trace : Trace} (all : Thing → Option Row) (actors : List PlainActor) (s : Actors) → KeepsCounts trace all (people_of actors) s → (a : ℕ) (c : Cell) (ls : List Letter) → seat_at s a ≡ seat c ls
    → StandsAt actors a (person_of c ls)
stands_beside all actors s kept a c ls at =
    stands_at actors a (person_of c ls) (omega (arith, length-people actors, kept.long, present_below s a _ at)) (kept.agrees.present a c ls at)

-- whose row was made: its owner stands there, and has so many rows
pub made_within : (actors : List PlainActor) (n : ObjName) → is_some (plain_row actors n) ≡ true → (x : PlainActor) × (slice_get actors n.owner ≡ Some x) × (n.serial < length x.rows)
made_within actors n made = by_actor (slice_get actors n.owner) refl made
  where
    by_row : (x : PlainActor) (row : Option Row) → slice_get x.rows n.serial ≡ row → is_some row ≡ true → n.serial < length x.rows
    by_row x None is made = cc
    by_row x (Some row) is made = slice_get_within x.rows n.serial row is

    by_actor : (o : Option PlainActor) → slice_get actors n.owner ≡ o → is_some (option_and_then (λ (x : PlainActor). slice_get x.rows n.serial) o) ≡ true
        → (x : PlainActor) × (slice_get actors n.owner ≡ Some x) × (n.serial < length x.rows)
    by_actor None is made = cc
    by_actor (Some x) is made = (x, is, by_row x (slice_get x.rows n.serial) refl made)

pub people-set : (actors : List PlainActor) (a : ℕ) (y : PlainActor) → people_of (set actors a y) ≡ set (people_of actors) a (person_of_plain y)
people-set actors a y = map-set person_of_plain actors a y

pub people-push : (actors : List PlainActor) (y : PlainActor) → people_of (actors ++ y ∷ []) ≡ people_of actors ++ person_of_plain y ∷ []
people-push [] y = refl
people-push (x ∷ xs) y = ap (λ r. person_of_plain x ∷ r) (people-push xs y)

-- ---- one actor is changed

module _ (actors : List PlainActor) (a : ℕ) (x : PlainActor) (there : slice_get actors a ≡ Some x) (y : PlainActor) where
  below : a < length actors
  below = slice_get_within actors a x there

  row_there : (n : ObjName) → n.owner ≡ a → plain_row actors n ≡ slice_get x.rows n.serial
  row_there n o = ap (λ found. option_and_then (λ (z : PlainActor). slice_get z.rows n.serial) found) (ap (slice_get actors) o ∙ there)

  row_changed : (n : ObjName) → n.owner ≡ a → plain_row (set actors a y) n ≡ slice_get y.rows n.serial
  row_changed n o = ap (λ found. option_and_then (λ (z : PlainActor). slice_get z.rows n.serial) found) (ap (slice_get (set actors a y)) o ∙ slice_set_same actors a y below)

  row_other : (n : ObjName) → n.owner ≢ a → plain_row (set actors a y) n ≡ plain_row actors n
  row_other n o = ap (λ found. option_and_then (λ (z : PlainActor). slice_get z.rows n.serial) found) (slice_set_other actors a n.owner y o)

  -- its rows stay
  pub rows_kept : y.rows ≡ x.rows → (z : Thing) → thing_row (plain_row actors) z ≡ thing_row (plain_row (set actors a y)) z
  rows_kept same (Actor b) = refl
  rows_kept same (Obj n) = ⊎_elim
      (λ o. row_there n o ∙ ap (λ rows. slice_get rows n.serial) (sym same) ∙ sym (row_changed n o))
      (λ o. sym (row_other n o))
      (cases_eq n.owner a)

  pub objects_kept : y.rows ≡ x.rows → objects_made (set actors a y) ≡ objects_made actors
  objects_kept same = omega (
    arith,
    sum_by-set (λ z. length z.rows) actors a y x below,
    ap (λ z. length z.rows) (get_or_from_slice_get actors a x x there),
    ap length same,
  )

  -- some rows more
  module _ (made : List Row) (more : y.rows ≡ x.rows ++ made) where
    made_row : (i : ℕ) → i < length made → plain_row (set actors a y) (record { owner = a; serial = length x.rows + i }) ≡ Some (get_or made i [])
    made_row i h =
        row_changed (record { owner = a; serial = length x.rows + i }) refl
        ∙ ap (λ rows. slice_get rows (length x.rows + i)) more
        ∙ slice_append_past x.rows made i (length x.rows + i) refl
        ∙ slice_read made i [] h

    old_row : (n : ObjName) → n.serial < length x.rows → n.owner ≡ a → plain_row (set actors a y) n ≡ plain_row actors n
    old_row n h o = row_changed n o ∙ ap (λ rows. slice_get rows n.serial) more ∙ slice_append_below x.rows made n.serial h ∙ sym (row_there n o)

    past_row : (n : ObjName) → length x.rows + length made ≤ n.serial → n.owner ≡ a → plain_row (set actors a y) n ≡ plain_row actors n
    past_row n h o =
        row_changed n o ∙ ap (λ rows. slice_get rows n.serial) more ∙ slice_past (x.rows ++ made) n.serial (omega (arith, length-append x.rows made))
        ∙ sym (row_there n o ∙ slice_past x.rows n.serial (omega arith))

    serial_cases : (k : ℕ) → (k < length x.rows) ⊎ (((i : ℕ) × (i < length made) × (k ≡ length x.rows + i)) ⊎ (length x.rows + length made ≤ k))
    serial_cases k = ⊎_elim
        (λ below. inl below)
        (λ from. ⊎_elim (λ within. inr (inl (k - length x.rows, omega arith, omega arith))) (λ past. inr (inr past)) (cases_lt k (length x.rows + length made)))
        (cases_lt k (length x.rows))

    row_only : (z : Thing) → (thing_row (plain_row (set actors a y)) z ≡ thing_row (plain_row actors) z) ⊎ Made a (length x.rows) made z
    row_only (Actor b) = inl refl
    row_only (Obj n) = ⊎_elim
        (λ o. ⊎_elim
        (λ below. inl (old_row n below o))
        (λ later. ⊎_elim
        (λ here. inr (here.0, here.1, (λ i. Obj (record { owner = o i; serial = here.2 i }))))
        (λ past. inl (past_row n past o))
        later)
        (serial_cases n.serial))
        (λ o. inl (row_other n o))
        (cases_eq n.owner a)

    pub rows_grow : Grows (thing_row (plain_row actors)) (thing_row (plain_row (set actors a y))) a (length x.rows) made
    rows_grow = record {
      bare = λ b. refl;
      news = made_row;
      only = row_only;
      past = λ k h. row_there (record { owner = a; serial = k }) refl ∙ slice_past x.rows k h;
    }

    pub objects_grow : objects_made (set actors a y) ≡ objects_made actors + length made
    objects_grow = omega (
      arith,
      sum_by-set (λ z. length z.rows) actors a y x below,
      ap (λ z. length z.rows) (get_or_from_slice_get actors a x x there),
      ap length more,
      length-append x.rows made,
    )

-- ---- one actor more, without rows

module _ (actors : List PlainActor) (y : PlainActor) (bare : y.rows ≡ []) where
  pub rows_pushed : (z : Thing) → thing_row (plain_row actors) z ≡ thing_row (plain_row (actors ++ y ∷ [])) z
  rows_pushed (Actor b) = refl
  rows_pushed (Obj n) = ⊎_elim
      (λ last. ap (λ found. option_and_then (λ (z : PlainActor). slice_get z.rows n.serial) found) (slice_past actors n.owner (omega arith))
      ∙ sym (ap (λ found. option_and_then (λ (z : PlainActor). slice_get z.rows n.serial) found) (ap (slice_get (actors ++ y ∷ [])) last ∙ slice_push_last actors y) ∙ ap (λ rows. slice_get rows n.serial) bare))
      (λ other. sym (ap (λ found. option_and_then (λ (z : PlainActor). slice_get z.rows n.serial) found) (slice_push_other actors y n.owner other)))
      (cases_eq n.owner (length actors))

  pub objects_pushed : objects_made (actors ++ y ∷ []) ≡ objects_made actors
  objects_pushed = omega (arith, sum_by-append (λ z. length z.rows) actors (y ∷ []), ap length bare)

-- ---- the same rows, told by another map

pub same_rows : {trace : Trace} (all all' : Thing → Option Row) (people : List Person) (s : Actors) → ((z : Thing) → all z ≡ all' z) → KeepsCounts trace all people s → KeepsCounts trace all' people s
same_rows {trace = trace} all all' people s same kept = subst (λ (rows : Thing → Option Row). KeepsCounts trace rows people s) (λ i z. same z i) kept
