-- The start has the facts: the first actor holds nothing, and its letter names nothing.
use Rattle.std.proofs.Common.{◌≡◌, ◌≢◌, ◌<◌, ◌==◌, ℕ, Bool, if◌then◌else◌, zero, suc, ◌+◌, false, true, Option, Some, None, List, [], ◌∷◌, refl, sym, ◌∙◌, ap, arith, inl, inr}
use Rattle.std.specs.FinMap as m
use Rattle.std.specs.Ordering.{nat_cmp}
use Rattle.std.specs.Option.{option_map_or}
use Rattle.std.specs.Prelude.{sum_by}
use Rattle.std.proofs.lemmas.List.Sums.{sum_by-cons}
use Rattle.orca_names.specs.Names.{owner_of, thing_cmp}
use Rattle.orca_names.specs.declared.names.ObjName.{ObjName}
use Rattle.orca_names.specs.declared.names.Thing.{Thing}
use Rattle.orca_names.specs.declared.names.Thing.TheVariants.{Actor, Obj}
use Rattle.behaviour_code.specs.Find.{field_count, start_name}
use Rattle.behaviour_code.specs.declared.code.Program.{Program}
use Rattle.reach_walk.specs.Reach.{thing_row}
use Rattle.reach_walk.proofs.Elements.{none_in_nil}
use Rattle.reach_walk.proofs.InOrder.{in_order-sorted}
use Rattle.letter_kinds.proofs.Counts.{loaded-nil}
use Rattle.letter_kinds.specs.Holdings.{Row, has_own, held_in, own_in, row_of}
use Rattle.letter_kinds.specs.Sums.{dec_of, inc_of, load_count}
use Rattle.letter_kinds.specs.Letters.{Letter, App}
use Rattle.count_laws.proofs.knowledge.Naming.{nulls_name_nothing}
use Rattle.count_laws.proofs.knowledge.Paths.{reach_into}
use Rattle.count_laws.proofs.roots.Same.{own_row_has}
use Rattle.count_laws.proofs.roots.Take.{root_reached}
use Rattle.count_laws.proofs.balance.Safety.{sum-parts}
use Rattle.count_laws.proofs.balance.SeatReads.{decs_at-none, decs_at-seat, held_at-seat, incs_at-none, incs_at-seat, letter_App, loads_at-seat, own_at-none, own_at-seat}
use Rattle.count_laws.proofs.balance.Seats.{some_seat}
use Rattle.machine_rules.specs.Actors.{Actors, seat, seat_at}
use Rattle.count_laws.specs.Agreement.{IsRootPerson, Person, app_letters, nobody, people_of, person_at, person_of}
use Rattle.machine_rules.specs.Balance.{IsBalanced, decs_at, held_at, incs_at, loads_at, own_at}
use Rattle.count_laws.specs.Prefixes.{IsCovered, IsCoveredAt}
use Rattle.machine_rules.specs.Cell.{Cell, first_cell, own_row_of}
use Rattle.count_laws.specs.Facts.{Facts, IsSound, KeepsCounts}
use Rattle.count_laws.specs.Known.{AreExactLetters, IsSoundAt, Names, ReachesThrough, StartsWalks, in_fields, in_frame, in_table, row_at}
use Rattle.count_laws.specs.KnownByRoots.{AreRootLetters, IsNamedIn, IsRootsAt, by_field, by_frame, by_row}
use Rattle.plain_rules.specs.Machine.{first_actor, plain_row, start_of}
use Rattle.orca_names.specs.declared.trace.Trace.{Trace}
use Rattle.orca_names.specs.declared.trace.Trace.TheVariants.{Deep}
use Rattle.machine_rules.specs.Options.{Options}
use Rattle.orca_names.specs.declared.trace.Trace.TheVariants as options
use Rattle.machine_rules.specs.State.{first_state}
use Rattle.plain_rules.specs.declared.PlainLetter.{PlainLetter}

-- the letter `start`, if the program has it
abbrev letters : Option ℕ → List Letter
letters found = option_map_or (λ name. App name [] [] [] ∷ []) found []

abbrev plain_letters : Option ℕ → List PlainLetter
plain_letters found = option_map_or (λ name. record { behaviour = name; args = [] } ∷ []) found []

-- what the letter says of a thing
letters_say : (found : Option ℕ) (x : Thing) → (sum_by (inc_of x) (letters found) ≡ 0) × (sum_by (dec_of x) (letters found) ≡ 0) × (sum_by (load_count x) (letters found) ≡ 0)
letters_say None x = (refl, refl, refl)
letters_say (Some name) x =
    let w = letter_App x name [] [] [] in (
      omega (arith, sum_by-cons (inc_of x) (App name [] [] []) [], w.0),
      omega (arith, sum_by-cons (dec_of x) (App name [] [] []) [], w.1),
      omega (arith, sum_by-cons (load_count x) (App name [] [] []) [], w.2, loaded-nil x),
    )

no_values : (all : Thing → Option Row) (x : Thing) → ¬ ReachesThrough all (Names []) x
no_values all x h = reach_into all (λ x. ⊥) (λ x n. none_in_nil x _ n) (λ x y r p e n. p) (λ n p. p) h

letters_exact : (all : Thing → Option Row) (found : Option ℕ) → AreExactLetters all (letters found)
letters_exact all None = tt
letters_exact all (Some name) = (
  record {
    once = λ x. let z = loaded-nil x in omega arith;
    rising = in_order-sorted [];
    reached = λ x h. absurd (let z = loaded-nil x in omega arith);
    whole = λ x h. absurd (no_values all x h);
    rows = tt;
  },
  tt,
)

same_letters : (found : Option ℕ) → app_letters (letters found) ≡ plain_letters found
same_letters None = refl
same_letters (Some name) = refl

module _ (program : Program) (found : Option ℕ) where
  abbrev c : Cell
  c = first_cell program

  abbrev s : Actors
  s = seat c (letters found) ∷ []

  abbrev all : Thing → Option Row
  all = thing_row (plain_row (record (first_actor program) { letters = plain_letters found } ∷ []))

  no_rows : (x : Thing) → all x ≡ None
  no_rows (Actor a) = refl
  no_rows (Obj n) = by_owner n.owner n.serial
    where
      by_owner : (owner serial : ℕ) → plain_row (record (first_actor program) { letters = plain_letters found } ∷ []) (record { owner = owner; serial = serial }) ≡ None
      by_owner zero serial = refl
      by_owner (suc owner) serial = refl

  own_zero : (x : Thing) → own_in c.holdings x ≡ 0
  unfolding own_in
  own_zero (Actor a) = refl
  own_zero (Obj n) = rw (m.get-empty {X = Row × ℕ} nat_cmp n.serial) refl

  held_zero : (x : Thing) → held_in c.holdings x ≡ 0
  unfolding held_in
  held_zero x = rw (m.get-empty {X = ℕ × Option Row} thing_cmp x) refl

  row_zero : (a : ℕ) (x : Thing) → row_at a c.holdings x ≡ None
  unfolding row_of
  row_zero a (Actor d) = refl
  row_zero a (Obj n) = rw (m.get-empty {X = Row × ℕ} nat_cmp n.serial, m.get-empty {X = ℕ × Option Row} thing_cmp (Obj n)) (either_none (n.owner == a))
    where
      either_none : (b : Bool) → ◌≡◌ {A = Option Row} (if b then None else None) None
      either_none true = refl
      either_none false = refl

  blank : (x : Thing) → ¬ StartsWalks c x
  blank x (in_fields h) = nulls_name_nothing (field_count program 0) x h
  blank x (in_frame h) = h
  blank x (in_table h) = absurd (let z = held_zero x in omega arith)

  only_seat : (a : ℕ) (d : Cell) (ms : List Letter) → seat_at s a ≡ seat d ms → (a ≡ 0) × ((c ≡ d) × (letters found ≡ ms))
  only_seat zero d ms at = (refl, some_seat c d (letters found) ms at)
  only_seat (suc i) d ms at = cc

  own_side : (x : Thing) (i : ℕ) → own_at x (seat_at s i) + incs_at x (seat_at s i) ≡ decs_at x (seat_at s i)
  own_side x zero = let z = letters_say found x in omega (arith, z.0, z.1, own_zero x, own_at-seat x c (letters found), incs_at-seat x c (letters found), decs_at-seat x c (letters found))
  own_side x (suc i) = omega (arith, own_at-none x, incs_at-none x, decs_at-none x)

  start_balanced : IsBalanced s
  start_balanced x =
      let z = letters_say found x in
      let o = own_side x (owner_of x) in
      omega (
        arith,
        z.2,
        held_zero x,
        held_at-seat x c (letters found),
        loads_at-seat x c (letters found),
        sum_by-cons (held_at x) (seat c (letters found)) [],
        sum_by-cons (loads_at x) (seat c (letters found)) [],
      )

  start_covered : (trace : Trace) (x : Thing) (i : ℕ) → IsCoveredAt trace x (seat_at s i)
  unfolding IsCovered
  start_covered trace x zero = λ k.
      let z = letters_say found x in
      omega (arith, z.0, z.1, z.2, sum-parts (inc_of x) k (letters found), sum-parts (dec_of x) k (letters found), sum-parts (load_count x) k (letters found))
  start_covered trace x (suc i) = tt

  start_sound : IsSoundAt all 0 c (letters found)
  start_sound = record {
    closed = λ x h. absurd (reach_into _ (λ x. ⊥) blank (λ x y r p e n. p) (λ n p. p) h);
    rows = λ x k. row_zero 0 x ∙ sym (no_rows x);
    loads = letters_exact all found;
  }

  no_own_row : (n : ObjName) (row : Row) → own_row_of 0 c.holdings n ≢ Some row
  unfolding has_own
  no_own_row n row e = let z = (own_row_has 0 c.holdings n row e).1 in let w = m.get-empty {X = Row × ℕ} nat_cmp n.serial in cc

  no_names : (x : Thing) → ¬ IsNamedIn 0 c x
  no_names x (by_field n) = blank x (in_fields n)
  no_names x (by_frame n) = blank x (in_frame n)
  no_names x (by_row n row e nm) = no_own_row n row e

  letters_rooted : (found : Option ℕ) → AreRootLetters all (letters found)
  letters_rooted None = tt
  letters_rooted (Some name) = (
    record {
      once = λ x. let z = loaded-nil x in omega arith;
      rising = in_order-sorted [];
      only = λ x h. absurd (let z = loaded-nil x in omega arith);
      whole = λ x h. absurd (no_values all x (root_reached all [] x h));
      rows = record { once = λ x. let z = loaded-nil x in omega arith; rising = in_order-sorted []; reached = λ x h. absurd (let z = loaded-nil x in omega arith); whole = λ x h. absurd (no_values all x h); rows = tt };
    },
    tt,
  )

  start_roots : IsRootsAt all 0 c (letters found)
  start_roots = record {
    named = λ x n. absurd (no_names x n);
    owners = λ x h. absurd (let z = held_zero x in omega arith);
    mine = λ n row e. absurd (no_own_row n row e);
    right = λ n row got. absurd (let z = m.get-empty {X = Row} thing_cmp (Obj n) in none_row row (sym z ∙ got));
    brought = λ n row out h is. absurd (none_row row (sym (no_rows (Obj n)) ∙ is));
    led = λ n row got. absurd (let z = m.get-empty {X = Row} thing_cmp (Obj n) in none_row row (sym z ∙ got));
    letters = letters_rooted found;
    backed = λ x k o h. absurd (let z = letters_say found x in omega (arith, z.0, sum-parts (inc_of x) k (letters found)));
  }
    where
      none_row : (row : Row) → None ≢ Some row
      none_row row e = cc

  sound_at : (trace : Trace) → IsSound trace all 0 c (letters found)
  sound_at Deep = start_sound
  sound_at options.Roots = start_roots

  nobody_stands : ¬ IsRootPerson nobody
  nobody_stands (inl e) = cc
  nobody_stands (inr (inl f)) = f refl
  nobody_stands (inr (inr f)) = f refl

  abbrev people : List Person
  people = people_of (record (first_actor program) { letters = plain_letters found } ∷ [])

  first_person : person_at people 0 ≡ person_of c (letters found)
  first_person i = record (person_of c (letters found)) { letters = sym (same_letters found) i }

  pub start_keeps : (trace : Trace) → KeepsCounts trace all people s
  start_keeps trace = record {
    balanced = start_balanced;
    prefixes = λ x. start_covered trace x (owner_of x);
    sound = λ a d ms at. let z = only_seat a d ms at in rw (z.0, sym z.1.0, sym z.1.1) (sound_at trace);
    agrees = record {
      present = λ a d ms at. let z = only_seat a d ms at in rw (z.0, sym z.1.0, sym z.1.1) first_person;
      absent = absent;
    };
    bare = λ a. refl;
    long = refl;
    firm = λ a d ms at x e is. let z = only_seat a d ms at in
        absurd (none_some e (sym (m.get-empty {X = ℕ × Option Row} thing_cmp x) ∙ (ap (λ (d : Cell). m.get d.holdings.foreign x) z.1.0 ∙ is)));
  }
    where
      none_some : (e : ℕ × Option Row) → None ≢ Some e
      none_some e h = cc

      absent : (a : ℕ) → seat_at s a ≡ None → ¬ IsRootPerson (person_at people a)
      absent zero e r = cc
      absent (suc i) e r = nobody_stands r

pub start_facts : (program : Program) (options : Options) → 0 < options.weight → Facts options.trace (start_of program) (first_state program options)
start_facts program options heavy = record { counts = start_keeps program (start_name program) options.trace; program = refl; prints = refl; objects = refl; weight = heavy; mode = refl }
