-- Who tells of a row in a block names its object, which is left.
use Rattle.std.proofs.Common.{◌≡◌, ◌⊎◌, ◌==◌, ◌<◌, ℕ, zero, suc, Bool, true, false, List, [], Option, None, Some, inl, inr, ⊎_elim, refl, sym, ap, subst, ◌∙◌, eqb-true, arith}
use Rattle.std.specs.Prelude.{Contains, cond, is_some, option_map, sum_by}
use Rattle.std.specs.FinMap as m
use Rattle.orca_names.specs.declared.names.ObjName.{ObjName}
use Rattle.orca_names.specs.declared.names.Thing.{Thing}
use Rattle.orca_names.specs.declared.names.Thing.TheVariants.{Obj}
use Rattle.letter_kinds.specs.Holdings.{Row, entry_count, entry_row, has_own, held_in}
use Rattle.letter_kinds.specs.Letters.{Letter}
use Rattle.letter_kinds.specs.Sums.{brought_by, load_count}
use Rattle.letter_kinds.specs.Telling.{ToldByOne}
use Rattle.machine_rules.specs.Actors.{Actors, Every, seat, seat_at}
use Rattle.machine_rules.specs.Left.{IsLeft}
use Rattle.count_laws.specs.Known.{in_table}
use Rattle.count_laws.specs.Named.{NamesNothingFreed, by_load, by_root}
use Rattle.row_laws.specs.Laws.{BringsNone}
use Rattle.object_heap.specs.Heap.{own_row}
use Rattle.foreign_table.specs.Table.{known_row}
use Rattle.actor_cell.specs.declared.cell.Cell.{Cell}
use Rattle.actor_cell.specs.Cells.{as_cell}
use Rattle.actor_cell.specs.Tells.{Tells}
use Rattle.actor_table.specs.declared.slot.Slot.{Slot}
use Rattle.actor_table.specs.declared.slot.Place.{Place}
use Rattle.actor_table.specs.declared.slot.Place.TheVariants.{Away, Gone, Home}
use Rattle.actor_table.specs.Slots.{IsOwnedBy, actors_of, seat_in, slot_at}
use Rattle.actor_table.specs.Bringing.{AreBrought}
use Rattle.actor_table.specs.Telling.{PlaceTells, SlotTells, TableTells}
use Rattle.actor_table.proofs.Changing.{seat_read}
use Rattle.actor_table.proofs.Bringing.{told_brought}

-- what holds of the actors where rows lie in blocks: all that is named is left, each entry has a count, and
-- nothing is brought uncounted
pub record NamesAll (actors : Actors) : Type 0 where
  pub named : NamesNothingFreed actors
  pub counted : Every (λ a c mail. (x : Thing) (e : ℕ × Option Row) → m.get c.holdings.foreign x ≡ Some e → 0 < e.0) actors
  pub brings : Every (λ a c mail. BringsNone c mail) actors

-- one's own object is left
own_left : (actors : Actors) (a : ℕ) (c : Cell) (mail : List Letter) → seat_at actors a ≡ seat (as_cell c) mail → c.heap.owner ≡ a
    → (n : ObjName) (row : Row) → own_row c.heap n ≡ Some row → IsLeft actors (Obj n)
unfolding has_own
own_left actors a c mail at its n row own = by (n.owner == c.heap.owner) refl own
  where
    there : (o : Option (Row × ℕ)) → option_map (λ e. e.0) o ≡ Some row → is_some o ≡ true
    there None is = cc
    there (Some e) is = refl

    by : (t : Bool) → (n.owner == c.heap.owner) ≡ t → cond t (option_map (λ e. e.0) (m.get c.heap.rows n.serial)) None ≡ Some row → IsLeft actors (Obj n)
    by true same is = record {
      seat = record { cell = as_cell c; mail = mail };
      present = ap (λ b. seat_at actors b) (eqb-true n.owner c.heap.owner same ∙ its) ∙ at;
      kept = there (m.get c.heap.rows n.serial) is;
    }
    by false same is = cc

-- what is held is named
held_named : (actors : Actors) (all : NamesAll actors) (a : ℕ) (c : Cell) (mail : List Letter) → seat_at actors a ≡ seat (as_cell c) mail
    → (n : ObjName) (row : Row) → known_row c.foreign n ≡ Some row → IsLeft actors (Obj n)
unfolding held_in
held_named actors all a c mail at n row held = by (m.get c.foreign.entries (Obj n)) refl held
  where
    by : (o : Option (ℕ × Option Row)) → m.get c.foreign.entries (Obj n) ≡ o → entry_row o ≡ Some row → IsLeft actors (Obj n)
    by None is row = cc
    by (Some e) is row =
        let count = all.counted a (as_cell c) mail at (Obj n) e is in
        all.named a (as_cell c) mail at (Obj n) (by_root (in_table (subst (λ o. 0 < entry_count o) (sym is) count)))

-- so is what a letter loads
mail_named : (actors : Actors) (all : NamesAll actors) (a : ℕ) (c : Cell) (mail : List Letter) → seat_at actors a ≡ seat (as_cell c) mail
    → (n : ObjName) (row : Row) → (0 < sum_by (load_count (Obj n)) mail) ⊎ Contains {X = Thing × Option Row} (brought_by mail) (Obj n, Some row) → IsLeft actors (Obj n)
mail_named actors all a c mail at n row = ⊎_elim
    (λ loaded. all.named a (as_cell c) mail at (Obj n) (by_load loaded))
    (λ brought. absurd (nothing (subst (λ l. Contains {X = Thing × Option Row} l (Obj n, Some row)) (all.brings a (as_cell c) mail at).letters brought)))
  where
    nothing : Contains {X = Thing × Option Row} [] (Obj n, Some row) → ⊥
    nothing none = omega (arith, none.1)

cell_left : (actors : Actors) (all : NamesAll actors) (a : ℕ) (c : Cell) (mail : List Letter) → seat_at actors a ≡ seat (as_cell c) mail → c.heap.owner ≡ a
    → (n : ObjName) (row : Row) (block : ℕ) → Tells c n row block → IsLeft actors (Obj n)
cell_left actors all a c mail at its n row block (inl own) = own_left actors a c mail at its n row own.0
cell_left actors all a c mail at its n row block (inr (inl held)) = held_named actors all a c mail at n row held.0
cell_left actors all a c mail at its n row block (inr (inr brought)) =
    let none = (all.brings a (as_cell c) mail at).known (Obj n) in
    let z : None ≡ Some row = sym none ∙ brought.0 in cc

-- of all that is told
pub told_left : (slots : List Slot) → NamesAll (actors_of slots) → ((a : ℕ) → IsOwnedBy a (slot_at slots a).place)
    → ((a : ℕ) → AreBrought (slot_at slots a).mail.letters (slot_at slots a).mail.brought) → ((a : ℕ) → (slot_at slots a).place ≡ Gone → (slot_at slots a).mail.brought ≡ [])
    → (n : ObjName) (row : Row) (block : ℕ) → TableTells slots n row block → IsLeft (actors_of slots) (Obj n)
told_left slots all owned brings none n row block (a, told) = by (slot_at slots a).place refl told
  where
    x : Slot
    x = slot_at slots a

    here : (p : Place) → x.place ≡ p → seat_at (actors_of slots) a ≡ seat_in p x.mail.letters
    here p is = seat_read slots a ∙ ap (λ q. seat_in q x.mail.letters) is

    told_by : (c : Cell) → seat_at (actors_of slots) a ≡ seat (as_cell c) x.mail.letters → c.heap.owner ≡ a
        → Tells c n row block ⊎ ToldByOne x.mail.brought n row block → IsLeft (actors_of slots) (Obj n)
    told_by c at its (inl own) = cell_left (actors_of slots) all a c x.mail.letters at its n row block own
    told_by c at its (inr letter) = mail_named (actors_of slots) all a c x.mail.letters at n row (told_brought x.mail.letters x.mail.brought (brings a) n row block letter)

    by : (p : Place) → x.place ≡ p → SlotTells x n row block → IsLeft (actors_of slots) (Obj n)
    by (Home c) is told = told_by c (here (Home c) is) (subst (IsOwnedBy a) is (owned a))
        (⊎_elim (λ own. inl (subst (λ q. PlaceTells q n row block) is own)) inr told)
    by (Away c) is told = told_by c.value (here (Away c) is) (subst (IsOwnedBy a) is (owned a))
        (⊎_elim (λ own. inl (subst (λ q. PlaceTells q n row block) is own)) inr told)
    by Gone is (inl own) = absurd (subst (λ q. PlaceTells q n row block) is own)
    by Gone is (inr letter) = absurd (nobody (subst (λ l. ToldByOne l n row block) (none a is) letter))
      where
        nobody : ToldByOne [] n row block → ⊥
        nobody (zero, here) = omega (arith, here.1)
        nobody (suc i, here) = omega (arith, here.1)
