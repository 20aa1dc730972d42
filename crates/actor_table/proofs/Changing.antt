-- One place of the table changes.
use Rattle.std.proofs.Common.{◌≡◌, ℕ, ◌<◌, ◌≤◌, Bool, true, false, List, [], ◌∷◌, ◌++◌, length, length-append, map, get_or, set, Some, refl, sym, ap, subst, ◌∙◌, arith}
use Rattle.std.specs.Prelude.{IsSomeAnd, option_map, slice_index_or, unwrap_or}
use Rattle.std.specs.List.{position}
use Rattle.std.proofs.lemmas.Grind.{common_steps, get_or-set_at}
use Rattle.std.proofs.lemmas.List.{get_or_append_left, get_or_default, get_or_push, get_or-set_other, get_or_past, length-map, length-set, map-set, set-get_or, set_past}
use Rattle.std.proofs.Math.ListN as lists
use Rattle.std.proofs.Math.Seq.{map-set_same}
use Rattle.orca_names.specs.declared.limits.TheConstants.{ACTORS_LIMIT}
use Rattle.letter_kinds.specs.Letters.{Letter}
use Rattle.machine_rules.specs.Actors.{Actors, Seat, push_letter, seat_at, with_letter_more}
use Rattle.machine_rules.specs.Guards.{may_go}
use Rattle.actor_cell.specs.declared.cell.Cell.{Cell}
use Rattle.actor_cell.specs.Cells.{as_cell}
use Rattle.actor_table.specs.declared.slot.Slot.{Slot}
use Rattle.actor_table.specs.declared.slot.Place.TheVariants.{Home}
use Rattle.actor_table.specs.Bringing.{BringsIts}
use Rattle.actor_table.specs.Changes.{CanChange, Change, KeepsRoom, is_go}
use Rattle.actor_table.specs.Index.{IsIndex}
use Rattle.actor_table.specs.Slots.{AreIndexed, IsOwnedBy, Table, actors_of, away_of, can_act, can_settle, gone, home_in, home_of, is_away, may_at, owner_in, seat_of, slot_at}
use Rattle.actor_table.proofs.Bringing.{brings_added, place_brings}
use Rattle.actor_table.proofs.Indexing.{found_first, index_kept, index_push, index_put}

-- an actor's seat is that of its place
pub seat_read : (slots : List Slot) (a : ℕ) → seat_at (actors_of slots) a ≡ seat_of (slot_at slots a)
seat_read slots a = lists.get_or-map seat_of slots a gone

pub away_read : (slots : List Slot) (a : ℕ) → get_or (away_of slots) a false ≡ is_away (slot_at slots a)
away_read slots a = lists.get_or-map is_away slots a gone

-- who has a cell at home was made
pub home_within : (slots : List Slot) (a : ℕ) (c : Cell) → (slot_at slots a).place ≡ Home c → a < length slots
home_within slots a c home = grind (arith, home, get_or_past)

pub away_within : (slots : List Slot) (a : ℕ) → is_away (slot_at slots a) ≡ true → a < length slots
away_within slots a away = grind (arith, away, get_or_past)

-- what is read of a place is there
pub place_read : (slots : List Slot) (a : ℕ) (y : Slot) → a < length slots → y ≡ get_or slots a y → slot_at slots a ≡ y
place_read slots a y h read = sym (read ∙ get_or_default slots a y gone h)

-- what holds of an actor's place, by the table as the type keeps it
pub inside : (P : ℕ → Slot → Type 0) (a b : ℕ) (s t : Table) → s ≡ t → a ≡ b → P b (slot_at t.slots b) → P a (slot_at s.slots a)
inside P a b s t same its so = subst (λ (r : Table). P a (slot_at r.slots a)) (sym same) (subst (λ n. P n (slot_at t.slots n)) (sym its) so)

-- a cell that comes back as it was is the seat's
pub seat_back : (x y : Slot) (c : Cell) → is_away y ≡ true → option_map (λ (o : Seat). o.cell) (seat_of y) ≡ Some (as_cell c) → x.place ≡ Home c → x.mail ≡ y.mail → seat_of x ≡ seat_of y
seat_back x y c away same home mail = grind (arith, common_steps)

-- ---- the place becomes x

-- what can be told of x, in the list of all
pub part_set : {A : Type 0} (part : Slot → A) (slots : List Slot) (a : ℕ) (x : Slot) (b : A) → part x ≡ b → map part (set slots a x) ≡ set (map part slots) a b
part_set part slots a x b is = map-set part slots a x ∙ ap (set (map part slots) a) is

-- what x has as the place had it
pub part_kept : {A : Type 0} (part : Slot → A) (slots : List Slot) (a : ℕ) (x : Slot) → part x ≡ part (slot_at slots a) → map part (set slots a x) ≡ map part slots
part_kept part slots a x same = map-set_same part slots a x gone same

-- no place has less room where the one that changes has not
pub room_kept : (slots : List Slot) (a : ℕ) (x : Slot) → (slot_at slots a).mail.spare ≤ x.mail.spare → KeepsRoom slots (set slots a x)
room_kept slots a x more b = grind (arith, more, get_or-set_at, get_or-set_other, set_past)

-- a cell at home that allows a change is its actor's
pub change_here : (slots : List Slot) (a : ℕ) (change : Change) (x : Slot) → x ≡ get_or slots a x → IsOwnedBy a (slot_at slots a).place → CanChange a change (slot_at slots a)
    → IsSomeAnd (home_of x) (λ c. CanChange c.heap.owner change x)
change_here slots a change x read own can =
    let here : slot_at slots a ≡ x = sym (read ∙ get_or_default slots a x gone (home_within slots a can.cell can.home)) in
    let its : CanChange a change x = subst (CanChange a change) here can in
    let mine : its.cell.heap.owner ≡ a = subst (IsOwnedBy a) its.home (subst (λ (y : Slot). IsOwnedBy a y.place) here own) in
    subst (λ p. IsSomeAnd (home_in p) (λ c. CanChange c.heap.owner change x)) (sym its.home) (subst (λ me. CanChange me change x) (sym mine) its)

-- a letter is pushed to the seat at its place
pub pushed : (to : ℕ) (letter : Letter) (actors : Actors) → push_letter to letter actors ≡ set actors to (with_letter_more letter (seat_at actors to))
unfolding push_letter
pushed to letter actors = refl

-- what becomes of all where one place becomes another
pub ruleset one_place = (part_set, part_kept, seat_read, room_kept, home_within, pushed, get_or_default)

-- ---- the indexes, where the place y of an actor becomes x

module _ (slots : List Slot) (acting settling : List Bool) (a : ℕ) (y x : Slot) (all : AreIndexed slots acting settling) (h : a < length slots) (read : y ≡ get_or slots a y) where
  here : slot_at slots a ≡ y
  here = place_read slots a y h read

  indexed : (IsOwnedBy a y.place → IsOwnedBy a x.place) → (BringsIts y → BringsIts x) → (on off : List Bool) → IsIndex can_act gone on (set slots a x) → IsIndex can_settle gone off (set slots a x) → AreIndexed (set slots a x) on off
  indexed own brings on off act settle = record {
    owned = λ b. grind (arith, all.owned b, own (subst (λ (z : Slot). IsOwnedBy a z.place) here (all.owned a)), get_or-set_at, get_or-set_other);
    brings = place_brings slots a x h (subst (λ (z : Slot). BringsIts z → BringsIts x) (sym here) brings) all.brings;
    few = omega (arith, all.few, length-set slots a x);
    acts = act;
    settles = settle;
  }

  -- both are written
  pub bits_follow : (IsOwnedBy a y.place → IsOwnedBy a x.place) → (BringsIts y → BringsIts x) → (on off : List Bool) → on ≡ set acting a (can_act x) → off ≡ set settling a (can_settle x) → AreIndexed (set slots a x) on off
  bits_follow own brings on off one two = indexed own brings on off
      (subst (λ bs. IsIndex can_act gone bs (set slots a x)) (sym one) (index_put can_act gone acting slots all.acts a x h))
      (subst (λ bs. IsIndex can_settle gone bs (set slots a x)) (sym two) (index_put can_settle gone settling slots all.settles a x h))

  -- one alone, where its cell stays
  pub acting_follows : x.place ≡ y.place → (BringsIts y → BringsIts x) → (on : List Bool) (acts : Bool) → acts ≡ can_act x → on ≡ set acting a acts → AreIndexed (set slots a x) on settling
  acting_follows same brings on acts act one = indexed (subst (IsOwnedBy a) (sym same)) brings on settling
      (subst (λ bs. IsIndex can_act gone bs (set slots a x)) (sym (one ∙ ap (set acting a) act)) (index_put can_act gone acting slots all.acts a x h))
      (index_kept can_settle gone settling slots all.settles a x h (grind (arith, here)))

  -- a change that they don't tell
  pub index_stays : seat_of x ≡ seat_of y → is_away x ≡ is_away y → owner_in x.place ≡ owner_in y.place → (BringsIts y → BringsIts x) → AreIndexed (set slots a x) acting settling
  index_stays seat away owner brings = indexed (λ its. ap (λ o. unwrap_or o a) owner ∙ its) brings acting settling
      (index_kept can_act gone acting slots all.acts a x h (grind (arith, here))) (index_kept can_settle gone settling slots all.settles a x h (grind (arith, here)))

-- while a turn goes on, both are on
pub going_on : (slots : List Slot) (acting settling : List Bool) (a : ℕ) (change : Change) → AreIndexed slots acting settling → CanChange a change (slot_at slots a) → is_go change ≡ true
    → (slice_index_or acting a false ≡ true) × (slice_index_or settling a false ≡ true)
going_on slots acting settling a change all can step = (all.acts.at a ∙ grind (arith, can), all.settles.at a ∙ grind (arith, can))

-- so that nothing is to be written where it goes on
pub still_on : (on : List Bool) (a : ℕ) (b : Bool) → slice_index_or on a false ≡ true → b ≡ true → on ≡ set on a b
still_on on a b was is = sym (ap (set on a) (is ∙ sym was) ∙ set-get_or on a false)

pub goes_acts : (x : Slot) → may_at may_go x ≡ true → can_act x ≡ true
goes_acts x on = grind (arith)

pub goes_settles : (x : Slot) → may_at may_go x ≡ true → can_settle x ≡ true
goes_settles x on = grind (arith)

-- the first place that is on is that of the first actor that has the property
pub first_read : (has : Slot → Bool) (on : List Bool) (slots : List Slot) → IsIndex has gone on slots → position (λ b. b) on ≡ position has slots
first_read has on slots index = found_first has gone on slots index

-- ---- letters

-- one for an actor that was not made is lost
pub lost_past : (to : ℕ) (letter : Letter) (slots : List Slot) → length slots ≤ to → push_letter to letter (actors_of slots) ≡ actors_of slots
lost_past to letter slots past =
    pushed to letter (actors_of slots) ∙ set_past (actors_of slots) to (with_letter_more letter (seat_at (actors_of slots) to)) (omega (arith, length-map slots seat_of))

-- ---- one actor more

pub indexed_push : (slots : List Slot) (acting settling on off : List Bool) (x : Slot) → AreIndexed slots acting settling
    → length slots < ACTORS_LIMIT → length slots < length acting → length slots < length settling → IsOwnedBy (length slots) x.place
    → BringsIts x
    → on ≡ set acting (length slots) (can_act x) → off ≡ set settling (length slots) (can_settle x)
    → AreIndexed (slots ++ x ∷ []) on off
indexed_push slots acting settling on off x all few act_room settle_room own brings one two = record {
  owned = λ b. grind (arith, all.owned b, own, get_or_append_left, get_or_push, get_or_past, length-append);
  brings = brings_added slots x brings all.brings;
  few = omega (arith, few, length-append slots (x ∷ []));
  acts = subst (λ bits. IsIndex can_act gone bits (slots ++ x ∷ [])) (sym one) (index_push can_act gone acting slots all.acts x act_room);
  settles = subst (λ bits. IsIndex can_settle gone bits (slots ++ x ∷ [])) (sym two) (index_push can_settle gone settling slots all.settles x settle_room);
}
