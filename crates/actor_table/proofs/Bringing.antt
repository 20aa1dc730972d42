-- That letters tell what they bring and none waits for who is gone, where letters come and go, and where one place of the table changes.
use Rattle.std.proofs.Common.{◌≡◌, ◌⊎◌, inl, inr, ⊎_elim, ℕ, zero, suc, ◌<◌, ◌==◌, Bool, true, false, List, [], ◌∷◌, ◌++◌, length, set, drop, Option, Some, sum_by, refl, sym, ap, subst, ◌∙◌, arith}
use Rattle.std.specs.Prelude.{Contains, is_some}
use Rattle.std.proofs.lemmas.Bool.{eqb-false, eqb-true}
use Rattle.std.proofs.lemmas.Grind.{get_or-set_at}
use Rattle.std.proofs.lemmas.List.{get_or-set_other}
use Rattle.std.proofs.lemmas.List.Elements.{Contains-append_cases, Contains-append_left, Contains-append_right}
use Rattle.std.proofs.lemmas.List.Sums.{sum_by-cons}
use Rattle.behaviour_code.specs.declared.names.Name.{Name}
use Rattle.orca_names.specs.declared.names.ObjName.{ObjName}
use Rattle.orca_names.specs.declared.names.Thing.{Thing}
use Rattle.orca_names.specs.declared.names.Thing.TheVariants.{Obj}
use Rattle.orca_names.specs.declared.names.Value.{Value}
use Rattle.row_store.specs.Told.{Lying}
use Rattle.letter_kinds.specs.Counting.{Loaded}
use Rattle.letter_kinds.specs.Holdings.{Row}
use Rattle.letter_kinds.specs.Letters.{Letter, App, Inc, Dec, Confirm, as_letter}
use Rattle.letter_kinds.specs.Load.{as_load, as_loaded}
use Rattle.letter_kinds.specs.Sums.{brought_by, load_count, times_loaded}
use Rattle.letter_kinds.specs.Telling.{Brought, Told, ToldByOne, all_brought, brought_in, in_block, nothing_brought}
use Rattle.letter_kinds.specs.declared.letter.Letter as code
use Rattle.letter_kinds.specs.declared.letter.Letter.TheVariants as sent
use Rattle.letter_kinds.proofs.Counts.{loaded-same, loaded_more}
use Rattle.letter_kinds.proofs.Telling.{none_among}
use Rattle.mail_rows.specs.Mail.{Mail}
use Rattle.actor_cell.specs.declared.cell.Cell.{Cell}
use Rattle.actor_table.specs.declared.slot.Slot.{Slot}
use Rattle.actor_table.specs.declared.slot.Place.{Place}
use Rattle.actor_table.specs.declared.slot.Place.TheVariants.{Home, Away, Gone}
use Rattle.actor_table.specs.Bringing.{AreBrought, Brings, BringsIts}
use Rattle.actor_table.specs.Slots.{gone, owner_in, seat_in, seat_of, slot_at}

-- ---- letters come and go

-- where all told what they bring, all do so
abbrev pub BringsStill : Mail → Mail → Type 0
BringsStill old new = AreBrought old.letters old.brought → AreBrought new.letters new.brought

-- those that a row is known to have do so
pub as_brought : (mail : Mail) (letters : List Letter) (brought : List Brought) → mail.letters ≡ letters → mail.brought ≡ brought
    → AreBrought letters brought → AreBrought mail.letters mail.brought
as_brought mail letters brought first second all = subst (λ ls. AreBrought ls mail.brought) (sym first) (subst (AreBrought letters) (sym second) all)

-- a letter that the code has tells what it brings
letter_brings : (letter : code.Letter) → Brings (as_letter letter) (brought_in letter)
letter_brings (sent.App behaviour args load rows) = (refl, refl)
letter_brings (sent.Inc things) = refl
letter_brings (sent.Dec things) = refl
letter_brings (sent.Confirm token) = refl

-- one more waits
brought_more : (letters : List Letter) (brought : List Brought) (letter : code.Letter) → AreBrought letters brought
    → AreBrought (letters ++ as_letter letter ∷ []) (brought ++ brought_in letter ∷ [])
brought_more [] [] letter all = (letter_brings letter, tt)
brought_more (l ∷ letters) (b ∷ brought) letter all = (all.0, brought_more letters brought letter all.1)
brought_more [] (b ∷ brought) letter all = absurd all
brought_more (l ∷ letters) [] letter all = absurd all

pub brought_pushed : (old new : Mail) (letter : code.Letter) → new.letters ≡ old.letters ++ as_letter letter ∷ []
    → new.brought ≡ old.brought ++ brought_in letter ∷ [] → BringsStill old new
brought_pushed old new letter letters brought all =
    as_brought new (old.letters ++ as_letter letter ∷ []) (old.brought ++ brought_in letter ∷ []) letters brought (brought_more old.letters old.brought letter all)

-- the first is taken
brought_behind : (letters : List Letter) (brought : List Brought) → AreBrought letters brought → AreBrought (drop 1 letters) (drop 1 brought)
brought_behind [] [] all = tt
brought_behind (l ∷ letters) (b ∷ brought) all = all.1
brought_behind [] (b ∷ brought) all = absurd all
brought_behind (l ∷ letters) [] all = absurd all

pub brought_taken : (old new : Mail) → new.letters ≡ drop 1 old.letters → new.brought ≡ drop 1 old.brought → BringsStill old new
brought_taken old new letters brought all =
    as_brought new (drop 1 old.letters) (drop 1 old.brought) letters brought (brought_behind old.letters old.brought all)

-- ---- one actor's letters

-- its cell is at home
pub brings_home : (x : Slot) (c : Cell) → x.place ≡ Home c → AreBrought x.mail.letters x.mail.brought → BringsIts x
brings_home x c home all = record { brought = all; none = λ lost. cc }

-- who has no cell had none
gone_before : (p q : Place) → owner_in p ≡ owner_in q → p ≡ Gone → q ≡ Gone
gone_before p Gone owner lost = refl
gone_before p (Home c) owner lost = let no = ap owner_in lost in cc
gone_before p (Away c) owner lost = let no = ap owner_in lost in cc

-- the same letters wait, and whose cell it is stays
pub brings_same : (x y : Slot) → x.mail.letters ≡ y.mail.letters → x.mail.brought ≡ y.mail.brought → owner_in x.place ≡ owner_in y.place
    → BringsIts y → BringsIts x
brings_same x y letters brought owner its = record {
  brought = as_brought x.mail y.mail.letters y.mail.brought letters brought its.brought;
  none = λ lost. brought ∙ its.none (gone_before x.place y.place owner lost);
}

-- one letter more waits for who is present
pub brings_pushed : (x y : Slot) (letter : code.Letter) → is_some (seat_of y) ≡ true → x.place ≡ y.place
    → x.mail.letters ≡ y.mail.letters ++ as_letter letter ∷ [] → x.mail.brought ≡ y.mail.brought ++ brought_in letter ∷ []
    → BringsIts y → BringsIts x
brings_pushed x y letter present place letters brought its = record {
  brought = brought_pushed y.mail x.mail letter letters brought its.brought;
  none = λ lost. let no = ap (λ p. is_some (seat_in p y.mail.letters)) (sym place ∙ lost) in cc;
}

-- it goes
pub brings_cleared : (x : Slot) → x.mail.letters ≡ [] → x.mail.brought ≡ [] → BringsIts x
brings_cleared x letters brought = record { brought = as_brought x.mail [] [] letters brought tt; none = λ _. brought }

-- ---- one place of the table changes

-- the letters at each place do so
abbrev pub AllBring : List Slot → Type 0
AllBring slots = (a : ℕ) → BringsIts (slot_at slots a)

-- the place of an actor becomes x
pub place_brings : (slots : List Slot) (a : ℕ) (x : Slot) → a < length slots → (BringsIts (slot_at slots a) → BringsIts x)
    → AllBring slots → AllBring (set slots a x)
place_brings slots a x within stays all b = by (b == a) refl
  where
    by : (t : Bool) → (b == a) ≡ t → BringsIts (slot_at (set slots a x) b)
    by true is = subst BringsIts (sym (get_or-set_at slots a b x gone (eqb-true b a is) within)) (stays (all a))
    by false is = subst BringsIts (sym (get_or-set_other slots a b x gone (eqb-false b a is))) (all b)

-- one actor more
pub brings_added : (slots : List Slot) (x : Slot) → BringsIts x → AllBring slots → AllBring (slots ++ x ∷ [])
brings_added [] x its all zero = its
brings_added [] x its all (suc b) = brings_cleared gone refl refl
brings_added (y ∷ slots) x its all zero = all 0
brings_added (y ∷ slots) x its all (suc b) = brings_added slots x its (λ c. all (suc c)) b

-- ---- whose rows letters tell

-- what is among these is among them as the rules have it
as_loaded_among : (load : List (Thing × Lying)) (n : ObjName) (row : Row) (block : ℕ)
    → Told load n row block → Contains (as_load load) (Obj n, Some row)
as_loaded_among [] n row block told = absurd (omega (arith, told.1))
as_loaded_among (e ∷ load) n row block (zero, within, is) = (0, omega arith, ap as_loaded is)
as_loaded_among (e ∷ load) n row block (suc i, within, is) =
    Contains-append_right (as_loaded e ∷ []) (as_load load) (Obj n, Some row)
    (as_loaded_among load n row block (i, omega (arith, within), is))

-- what is among a load is counted
counted_among : (load : List Loaded) (x : Thing) (row : Option Row) → Contains load (x, row) → 0 < times_loaded x load
counted_among [] x row among = absurd (omega (arith, among.1))
counted_among (e ∷ load) x row (zero, within, is) =
    let first = loaded-same x e load (sym (ap (λ (f : Loaded). f.0) is)) in omega (arith, first)
counted_among (e ∷ load) x row (suc i, within, is) =
    loaded_more x e load (counted_among load x row (i, omega (arith, within), is))

-- who brings nothing tells nothing
nothing_told : (b : Brought) → b ≡ nothing_brought → (n : ObjName) (row : Row) (block : ℕ) → Told (all_brought b) n row block → ⊥
nothing_told b none n row block told =
    none_among (in_block n row block) (subst (λ (o : Brought). Told (all_brought o) n row block) none told)

loads_app : (x : Thing) (behaviour : Name) (args : List Value) (load rows : List Loaded) → load_count x (App behaviour args load rows) ≡ times_loaded x load
unfolding load_count
loads_app x behaviour args load rows = refl

-- the first letter does one of both
told_first : (letter : Letter) (letters : List Letter) (b : Brought) → Brings letter b → (n : ObjName) (row : Row) (block : ℕ)
    → Told (all_brought b) n row block
    → (0 < sum_by (load_count (Obj n)) (letter ∷ letters)) ⊎ Contains (brought_by (letter ∷ letters)) (Obj n, Some row)
told_first (App behaviour args load rows) letters b brings n row block told = ⊎_elim
    (λ its. inl (
    let count = counted_among load (Obj n) (Some row) (subst (λ l. Contains l (Obj n, Some row)) brings.0 (as_loaded_among b.load n row block its)) in
    omega (arith, count, loads_app (Obj n) behaviour args load rows, sum_by-cons (load_count (Obj n)) (App behaviour args load rows) letters)
    ))
    (λ its. inr (Contains-append_left rows (brought_by letters) (Obj n, Some row)
    (subst (λ l. Contains l (Obj n, Some row)) brings.1 (as_loaded_among b.rows n row block its))))
    (Contains-append_cases b.load b.rows (in_block n row block) told)
told_first (Inc things) letters b brings n row block told = absurd (nothing_told b brings n row block told)
told_first (Dec things) letters b brings n row block told = absurd (nothing_told b brings n row block told)
told_first (Confirm token) letters b brings n row block told = absurd (nothing_told b brings n row block told)

-- what later letters carry
carried_later : (letter : Letter) (letters : List Letter) (x : Loaded) → Contains (brought_by letters) x → Contains (brought_by (letter ∷ letters)) x
carried_later (App behaviour args load rows) letters x among = Contains-append_right rows (brought_by letters) x among
carried_later (Inc things) letters x among = among
carried_later (Dec things) letters x among = among
carried_later (Confirm token) letters x among = among

-- a letter that tells of an object's row loads the object, or carries its row
pub told_brought : (letters : List Letter) (brought : List Brought) → AreBrought letters brought → (n : ObjName) (row : Row) (block : ℕ)
    → ToldByOne brought n row block
    → (0 < sum_by (load_count (Obj n)) letters) ⊎ Contains (brought_by letters) (Obj n, Some row)
told_brought [] [] all n row block (zero, told) = absurd (none_among (in_block n row block) told)
told_brought [] [] all n row block (suc i, told) = absurd (none_among (in_block n row block) told)
told_brought [] (b ∷ brought) all n row block told = absurd all
told_brought (letter ∷ letters) [] all n row block told = absurd all
told_brought (letter ∷ letters) (b ∷ brought) all n row block (zero, told) = told_first letter letters b all.0 n row block told
told_brought (letter ∷ letters) (b ∷ brought) all n row block (suc i, told) = ⊎_elim
    (λ its. inl (omega (arith, its, sum_by-cons (load_count (Obj n)) letter letters)))
    (λ its. inr (carried_later letter letters (Obj n, Some row) its))
    (told_brought letters brought all.1 n row block (i, told))
