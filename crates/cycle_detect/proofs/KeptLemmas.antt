-- Reports in the slots of their actors: one is kept, one goes, one is the next.
use Rattle.std.proofs.Common.{◌≡◌, ◌≢◌, ℕ, zero, suc, ◌+◌, ◌-◌, ◌<◌, ◌≤◌, ◌++◌, ⊎_elim, Bool, true, false, List, [], ◌∷◌, length, get_or, set, take, filter, replicate, map, nat_le, append_assoc, add-one, append-nil, length-set, Option, Some, None, is_some, IfSome, Result, Ok, Err, OnOk, OnErr, refl, sym, ap, subst, ◌∙◌, arith}
use Rattle.std.proofs.lemmas.Bool.{cases_eq, cases_lt, false≢true}
use Rattle.std.proofs.lemmas.Bool.Decides.{nat_tests}
use Rattle.std.proofs.lemmas.List.{get_or_past, get_or-set_same, get_or-set_other}
use Rattle.std.specs.Borrow.{Bor}
use Rattle.std.specs.List.{cons_option, filter_map, find}
use Rattle.std.specs.List.Sorted.{IsStrictlySortedBy}
use Rattle.std.specs.Ordering.{nat_cmp}
use Rattle.ready_set.specs.Next.{IsNext}
use Rattle.letter_kinds.specs.declared.note.Report.{Report}
use Rattle.letter_kinds.specs.Reports.{keep_report, drop_report, kept_report}
use Rattle.cycle_detect.specs.Kept.{actors_of, AreByActor, AreFrom, reports_in, slot_at}
use Rattle.detector_tokens.proofs.RisingLemmas.{AllAbove, first_above, none_rise, rest_rises, rising-cons}

-- ---- the reports in slots rise

above-from : (n m : ℕ) (slots : List (Option Report)) → m < n → AreFrom n slots
    → AllAbove m (actors_of (reports_in slots))
above-from n m [] lt h = tt
above-from n m (None ∷ slots) lt h = above-from (suc n) m slots (omega arith) h.1
above-from n m (Some r ∷ slots) lt h =
    let here : m < r.actor = let is : r.actor ≡ n = h.0 in omega arith in
    (here, above-from (suc n) m slots (omega arith) h.1)

pub rising-from : (n : ℕ) (slots : List (Option Report)) → AreFrom n slots
    → IsStrictlySortedBy nat_cmp (actors_of (reports_in slots))
rising-from n [] h = none_rise
rising-from n (None ∷ slots) h = rising-from (suc n) slots h.1
rising-from n (Some r ∷ slots) h =
    let below : r.actor < suc n = let is : r.actor ≡ n = h.0 in omega arith in
    rising-cons r.actor (actors_of (reports_in slots)) (above-from (suc n) r.actor slots below h.1) (rising-from (suc n) slots h.1)

-- ---- one report is looked up

unkept : (a : ℕ) (rs : List Report) → AllAbove a (actors_of rs) → kept_report rs a ≡ None
unkept a [] h = refl
unkept a (r ∷ rs) h = grind (arith, nat_tests, h.0, unkept a rs h.1)

pub kept-slot : (n a m : ℕ) (slots : List (Option Report)) → AreFrom n slots → m ≡ n + a
    → kept_report (reports_in slots) m ≡ slot_at slots a
kept-slot n a m [] h e = refl
kept-slot n zero m (None ∷ slots) h e =
    unkept m (reports_in slots) (above-from (suc n) m slots (omega arith) h.1)
kept-slot n zero m (Some r ∷ slots) h e = let is : r.actor ≡ n = h.0 in grind (arith, nat_tests)
kept-slot n (suc a) m (None ∷ slots) h e = kept-slot (suc n) a m slots h.1 (omega arith)
kept-slot n (suc a) m (Some r ∷ slots) h e =
    let is : r.actor ≡ n = h.0 in
    grind (arith, nat_tests, kept-slot (suc n) a m slots h.1 (omega arith))

-- ---- one slot is written

first-kept : (r : Report) (rs : List Report) → AllAbove r.actor (actors_of rs)
    → keep_report r rs ≡ r ∷ rs
first-kept r [] h = refl
first-kept r (k ∷ rs) h = let lt : r.actor < k.actor = h.0 in grind (arith, nat_tests)

pub keep-slot : (n a : ℕ) (r : Report) (slots : List (Option Report)) → AreFrom n slots
    → a < length slots → r.actor ≡ n + a
    → reports_in (set slots a (Some r)) ≡ keep_report r (reports_in slots)
keep-slot n a r [] h lt e = absurd (omega arith)
keep-slot n zero r (None ∷ slots) h lt e =
    sym (first-kept r (reports_in slots) (above-from (suc n) r.actor slots (omega arith) h.1))
keep-slot n zero r (Some q ∷ slots) h lt e = let is : q.actor ≡ n = h.0 in grind (arith, nat_tests)
keep-slot n (suc a) r (None ∷ slots) h lt e = keep-slot (suc n) a r slots h.1 (omega arith) (omega arith)
keep-slot n (suc a) r (Some q ∷ slots) h lt e =
    let is : q.actor ≡ n = h.0 in
    grind (arith, nat_tests, keep-slot (suc n) a r slots h.1 (omega arith) (omega arith))

none-dropped : (a : ℕ) (rs : List Report) → AllAbove a (actors_of rs) → drop_report a rs ≡ rs
none-dropped a [] h = refl
none-dropped a (r ∷ rs) h = grind (arith, nat_tests, h.0, none-dropped a rs h.1)

pub drop-slot : (n a m : ℕ) (slots : List (Option Report)) → AreFrom n slots → m ≡ n + a
    → reports_in (set slots a None) ≡ drop_report m (reports_in slots)
drop-slot n a m [] h e = refl
drop-slot n zero m (None ∷ slots) h e =
    sym (none-dropped m (reports_in slots) (above-from (suc n) m slots (omega arith) h.1))
drop-slot n zero m (Some q ∷ slots) h e =
    let is : q.actor ≡ n = h.0 in
    grind (arith, nat_tests, none-dropped m (reports_in slots) (above-from (suc n) m slots (omega arith) h.1))
drop-slot n (suc a) m (None ∷ slots) h e = drop-slot (suc n) a m slots h.1 (omega arith)
drop-slot n (suc a) m (Some q ∷ slots) h e =
    let is : q.actor ≡ n = h.0 in
    grind (arith, nat_tests, drop-slot (suc n) a m slots h.1 (omega arith))

pub drop-past : (n m : ℕ) (slots : List (Option Report)) → AreFrom n slots → n + length slots ≤ m
    → drop_report m (reports_in slots) ≡ reports_in slots
drop-past n m [] h le = refl
drop-past n m (None ∷ slots) h le = drop-past (suc n) m slots h.1 (omega arith)
drop-past n m (Some q ∷ slots) h le =
    let is : q.actor ≡ n = h.0 in grind (arith, nat_tests, drop-past (suc n) m slots h.1 (omega arith))

from-set : (n a m : ℕ) (slot : Option Report) (slots : List (Option Report)) → AreFrom n slots
    → m ≡ n + a → IfSome slot (λ r. r.actor ≡ m) → AreFrom n (set slots a slot)
from-set n a m slot [] h e is = tt
from-set n zero m slot (s ∷ slots) h e is =
    (subst (λ k. IfSome slot (λ (r : Report). r.actor ≡ k)) (omega arith) is, h.1)
from-set n (suc a) m slot (s ∷ slots) h e is = (h.0, from-set (suc n) a m slot slots h.1 (omega arith) is)

pub by_actor-set : (slots : List (Option Report)) (kept : List Bool) (a : ℕ) (slot : Option Report) (on : Bool)
    → AreByActor slots kept → a < length slots → IfSome slot (λ r. r.actor ≡ a) → on ≡ is_some slot
    → AreByActor (set slots a slot) (set kept a on)
by_actor-set slots kept a slot on k lt is e = record {
  named = from-set 0 a a slot slots k.named (omega arith) is;
  told = λ j. ⊎_elim
      (λ (same : j ≡ a). let long = k.long in
      subst (λ i. get_or (set kept a on) i false ≡ is_some (get_or (set slots a slot) i None)) (sym same)
      (get_or-set_same kept a on false (omega arith) ∙ (e ∙ ap is_some (sym (get_or-set_same slots a slot None lt)))))
      (λ (other : j ≢ a). get_or-set_other kept a j on false other ∙ (k.told j ∙ ap is_some (sym (get_or-set_other slots a j slot None other))))
      (cases_eq j a);
  long = let long = k.long in simp length-set (omega arith);
  few = let few = k.few in simp length-set few;
}

-- ---- more slots, and no report in them

from-more : (n k : ℕ) (slots : List (Option Report)) → AreFrom n slots
    → AreFrom n (slots ++ replicate k None)
from-more n zero [] h = tt
from-more n (suc k) [] h = (tt, from-more (suc n) k [] tt)
from-more n k (s ∷ slots) h = (h.0, from-more (suc n) k slots h.1)

none-more : (k : ℕ) → reports_in (replicate k None) ≡ []
none-more zero = refl
none-more (suc k) = none-more k

pub reports-more : (k : ℕ) (slots : List (Option Report))
    → reports_in (slots ++ replicate k None) ≡ reports_in slots
reports-more k [] = none-more k
reports-more k (None ∷ slots) = reports-more k slots
reports-more k (Some r ∷ slots) = ap (λ rs. r ∷ rs) (reports-more k slots)

slot-none : (k j : ℕ) → slot_at (replicate k None) j ≡ None
slot-none zero j = refl
slot-none (suc k) zero = refl
slot-none (suc k) (suc j) = slot-none k j

slot-more : (k j : ℕ) (slots : List (Option Report)) → slot_at (slots ++ replicate k None) j ≡ slot_at slots j
slot-more k j [] = slot-none k j
slot-more k zero (s ∷ slots) = refl
slot-more k (suc j) (s ∷ slots) = slot-more k j slots

length-more : (k : ℕ) (slots : List (Option Report)) → length (slots ++ replicate k None) ≡ length slots + k
length-more zero [] = refl
length-more (suc k) [] = let more = length-more k [] in omega arith
length-more k (s ∷ slots) = let more = length-more k slots in omega arith

by_actor-more : (slots later : List (Option Report)) (kept wider : List Bool) (count : ℕ)
    → AreByActor slots kept → ((j : ℕ) → get_or wider j false ≡ get_or kept j false)
    → count ≤ length wider → count ≤ 262144 → length slots ≤ count
    → later ≡ slots ++ replicate (count - length slots) None → AreByActor later wider
by_actor-more slots later kept wider count h same room few le is =
    let more = length-more (count - length slots) slots in
    rw is record {
      named = from-more 0 (count - length slots) slots h.named;
      told = λ j. same j ∙ (h.told j ∙ ap is_some (sym (slot-more (count - length slots) j slots)));
      long = omega arith;
      few = omega arith;
    }

by_actor-wider : (slots later : List (Option Report)) (kept wider : List Bool) → AreByActor slots kept
    → ((j : ℕ) → get_or wider j false ≡ get_or kept j false) → length kept ≤ length wider
    → later ≡ slots → AreByActor later wider
by_actor-wider slots later kept wider h same longer is = rw is record {
  named = h.named;
  told = λ j. same j ∙ h.told j;
  long = let long = h.long in omega arith;
  few = h.few;
}

-- whether memory was refused or not
pub by_actor-later : {A E : Type 0} (result : Result A E) (slots later : List (Option Report)) (kept wider : List Bool)
    (count : ℕ) → AreByActor slots kept → ((j : ℕ) → get_or wider j false ≡ get_or kept j false)
    → length kept ≤ length wider → count ≤ length wider → count ≤ 262144 → length slots ≤ count
    → OnOk result (later ≡ slots ++ replicate (count - length slots) None) → OnErr result (later ≡ slots)
    → AreByActor later wider
by_actor-later (Ok x) slots later kept wider count h same longer room few le ok err =
    by_actor-more slots later kept wider count h same room few le ok
by_actor-later (Err x) slots later kept wider count h same longer room few le ok err =
    by_actor-wider slots later kept wider h same longer err

pub reports-later : {A E : Type 0} (result : Result A E) (slots later : List (Option Report)) (k : ℕ)
    → OnOk result (later ≡ slots ++ replicate k None) → OnErr result (later ≡ slots)
    → reports_in later ≡ reports_in slots
reports-later (Ok x) slots later k ok err = ap reports_in ok ∙ reports-more k slots
reports-later (Err x) slots later k ok err = ap reports_in err

-- ---- more places, all of them off

off-none : (n k : ℕ) → get_or (replicate n false) k false ≡ false
off-none zero k = refl
off-none (suc n) zero = refl
off-none (suc n) (suc k) = off-none n k

pub place-more : (n k : ℕ) (ons : List Bool) → get_or (ons ++ replicate n false) k false ≡ get_or ons k false
place-more n k [] = off-none n k
place-more n zero (on ∷ ons) = refl
place-more n (suc k) (on ∷ ons) = place-more n k ons

-- ---- the next report

none_there : {A : Type 0} (o : Option A) → is_some o ≡ false → o ≡ None
none_there None e = refl
none_there (Some x) e = absurd (false≢true (sym e))

some_there : {A : Type 0} (o : Option A) → is_some o ≡ true → (x : A) × (o ≡ Some x)
some_there None e = absurd (false≢true e)
some_there (Some x) e = (x, refl)

found-first : (n at m : ℕ) (r : Report) (slots : List (Option Report)) → AreFrom n slots
    → ((k : ℕ) → m ≤ n + k → k < at → slot_at slots k ≡ None) → slot_at slots at ≡ Some r → m ≤ n + at
    → find (λ q. nat_le m q.actor) (reports_in slots) ≡ Some r
found-first n at m r [] h off is le = absurd (cc)
found-first n zero m r (None ∷ slots) h off is le = absurd (cc)
found-first n zero m r (Some q ∷ slots) h off is le =
    let name : q.actor ≡ n = h.0 in let same : q ≡ r = cc in grind (arith, nat_tests)
found-first n (suc at) m r (None ∷ slots) h off is le =
    found-first (suc n) at m r slots h.1 (λ k after before. off (suc k) (omega arith) (omega arith)) is (omega arith)
found-first n (suc at) m r (Some q ∷ slots) h off is le =
    let name : q.actor ≡ n = h.0 in
    let rest = found-first (suc n) at m r slots h.1 (λ k after before. off (suc k) (omega arith) (omega arith)) is (omega arith) in
    ⊎_elim
    (λ (below : n < m). grind (arith, nat_tests))
    (λ (after : m ≤ n). absurd (let none : Some q ≡ None = off 0 (omega arith) (omega arith) in cc))
    (cases_lt n m)

pub found-none : (n m : ℕ) (slots : List (Option Report)) → AreFrom n slots
    → ((k : ℕ) → m ≤ n + k → slot_at slots k ≡ None)
    → find (λ q. nat_le m q.actor) (reports_in slots) ≡ None
found-none n m [] h off = refl
found-none n m (None ∷ slots) h off = found-none (suc n) m slots h.1 (λ k after. off (suc k) (omega arith))
found-none n m (Some q ∷ slots) h off =
    let name : q.actor ≡ n = h.0 in
    let rest = found-none (suc n) m slots h.1 (λ k after. off (suc k) (omega arith)) in
    ⊎_elim
    (λ (below : n < m). grind (arith, nat_tests))
    (λ (after : m ≤ n). absurd (let none : Some q ≡ None = off 0 (omega arith) in cc))
    (cases_lt n m)

pub next-slot : (slots : List (Option Report)) (kept : List Bool) (from at : ℕ) → AreByActor slots kept
    → IsNext kept from (Some at) → find (λ q. nat_le from q.actor) (reports_in slots) ≡ slot_at slots at
next-slot slots kept from at h next =
    let (r, is) = some_there (slot_at slots at) (sym (h.told at) ∙ next.1) in
    found-first 0 at from r slots h.named (λ k after before. none_there (slot_at slots k) (sym (h.told k) ∙ next.2 k (omega arith) before)) is (let le = next.0 in omega arith) ∙ sym is

pub next-within : (slots : List (Option Report)) (kept : List Bool) (from at : ℕ) → AreByActor slots kept
    → IsNext kept from (Some at) → at < length slots
next-within slots kept from at h next = ⊎_elim
    (λ (lt : at < length slots). lt)
    (λ (past : length slots ≤ at). absurd (false≢true (sym (ap is_some (get_or_past slots at None past)) ∙ (sym (h.told at) ∙ next.1))))
    (cases_lt at (length slots))

pub no_next : (slots : List (Option Report)) (kept : List Bool) (from : ℕ) → AreByActor slots kept
    → IsNext kept from None → find (λ q. nat_le from q.actor) (reports_in slots) ≡ None
no_next slots kept from h off = found-none 0 from slots h.named (λ k after. none_there (slot_at slots k) (sym (h.told k) ∙ off_at k (omega arith)))
  where
    off_at : (k : ℕ) → from ≤ k → get_or kept k false ≡ false
    off_at k after = ⊎_elim (λ (lt : k < length kept). off k after lt) (λ (past : length kept ≤ k). get_or_past kept k false past) (cases_lt k (length kept))

pub none_past : (slots : List (Option Report)) (from : ℕ) → AreFrom 0 slots → length slots ≤ from
    → find (λ q. nat_le from q.actor) (reports_in slots) ≡ None
none_past slots from h le = found-none 0 from slots h (λ k after. get_or_past slots k None (omega arith))

-- ---- those from a number on

-- the reports of actors from this number on
abbrev pub those_from : ℕ → List Report → List Report
those_from m rs = filter (λ r. nat_le m r.actor) rs

all-from : (a m : ℕ) (rs : List Report) → AllAbove a (actors_of rs) → m ≤ suc a → those_from m rs ≡ rs
all-from a m [] h le = refl
all-from a m (r ∷ rs) h le =
    let lt : a < r.actor = h.0 in grind (arith, nat_tests, all-from a m rs h.1 le)

pub from-first : (rs : List Report) → those_from 0 rs ≡ rs
from-first [] = refl
from-first (r ∷ rs) = grind (arith, nat_tests, from-first rs)

pub from-none : (m : ℕ) (rs : List Report) → find (λ q. nat_le m q.actor) rs ≡ None → those_from m rs ≡ []
from-none m [] e = refl
from-none m (r ∷ rs) e = grind (arith, nat_tests, from-none m rs)

pub from-some : (m : ℕ) (rs : List Report) (r : Report) → IsStrictlySortedBy nat_cmp (actors_of rs)
    → find (λ q. nat_le m q.actor) rs ≡ Some r
    → (m ≤ r.actor) × (those_from m rs ≡ r ∷ those_from (r.actor + 1) rs)
from-some m [] r up e = absurd (cc)
from-some m (q ∷ rs) r up e = ⊎_elim
    (λ (below : q.actor < m).
    let off : nat_le m q.actor ≡ false = grind (arith, nat_tests) in
    let (le, rest) = from-some m rs r (rest_rises q.actor (actors_of rs) up) (rw off at e) in
    (le, grind (arith, nat_tests)))
    (λ (here : m ≤ q.actor).
    let on : nat_le m q.actor ≡ true = grind (arith, nat_tests) in
    let is : Some q ≡ Some r = rw on at e in
    let same : q ≡ r = cc in
    let above = first_above q.actor (actors_of rs) up in
    let all = all-from q.actor m rs above (omega arith) in
    let later = all-from q.actor (q.actor + 1) rs above (omega arith) in
    subst (λ x. (m ≤ x.actor) × (those_from m (q ∷ rs) ≡ x ∷ those_from (x.actor + 1) (q ∷ rs))) same (here, grind (arith, nat_tests)))
    (cases_lt q.actor m)

pub from-fewer : (m n : ℕ) (rs : List Report) (r : Report) → IsStrictlySortedBy nat_cmp (actors_of rs)
    → find (λ q. nat_le m q.actor) rs ≡ Some r → n ≡ r.actor
    → length (those_from m rs) ≡ suc (length (those_from (n + 1) rs))
from-fewer m n rs r up e is = rw is (ap length (from-some m rs r up e).1)

map-push : (refs : List (Bor Report)) (x : Bor Report)
    → map (λ r. r.now) (refs ++ x ∷ []) ≡ map (λ r. r.now) refs ++ x.now ∷ []
map-push [] x = refl
map-push (r ∷ refs) x = ap (λ rs. r.now ∷ rs) (map-push refs x)

-- one more report is looked at: it is found
pub one_found : (free : Report → Bool) (m n : ℕ) (rs all : List Report) (refs later : List (Bor Report)) (x : Bor Report)
    → IsStrictlySortedBy nat_cmp (actors_of rs) → find (λ q. nat_le m q.actor) rs ≡ Some x.now
    → n ≡ x.now.actor → free x.now ≡ true
    → map (λ r. r.now) refs ++ filter free (those_from m rs) ≡ all
    → later ≡ refs ++ x ∷ [] → map (λ r. r.now) later ++ filter free (those_from (n + 1) rs) ≡ all
one_found free m n rs all refs later x up e name on before is = rw name (
    let rest = filter free (those_from (x.now.actor + 1) rs) in
    let first : filter free (those_from m rs) ≡ x.now ∷ rest = ap (filter free) (from-some m rs x.now up e).1 ∙ rw on refl in
    ap (λ (rs : List (Bor Report)). map (λ r. r.now) rs ++ rest) is
    ∙ (ap (λ (qs : List Report). qs ++ rest) (map-push refs x)
    ∙ (append_assoc (map (λ (r : Bor Report). r.now) refs) (x.now ∷ []) rest
    ∙ (sym (ap (λ (qs : List Report). map (λ (r : Bor Report). r.now) refs ++ qs) first) ∙ before))))

-- or it is not free
pub one_passed : (free : Report → Bool) (m n : ℕ) (rs all found : List Report) (x : Report)
    → IsStrictlySortedBy nat_cmp (actors_of rs) → find (λ q. nat_le m q.actor) rs ≡ Some x
    → n ≡ x.actor → free x ≡ false → found ++ filter free (those_from m rs) ≡ all
    → found ++ filter free (those_from (n + 1) rs) ≡ all
one_passed free m n rs all found x up e name off before = rw name (
    let first : filter free (those_from m rs) ≡ filter free (those_from (x.actor + 1) rs) = ap (filter free) (from-some m rs x up e).1 ∙ rw off refl in
    sym (ap (λ (qs : List Report). found ++ qs) first) ∙ before)

-- ---- what a function gives of some actors, one after another

mapped_next : {X : Type 0} (f : ℕ → Option X) (xs : List ℕ) (i d : ℕ) → i < length xs
    → filter_map f (take (suc i) xs) ≡ filter_map f (take i xs) ++ cons_option (f (get_or xs i d)) []
mapped_next f [] i d lt = absurd (omega arith)
mapped_next f (x ∷ xs) zero d lt = refl
mapped_next {X = X} f (x ∷ xs) (suc i) d lt = rw (mapped_next f xs i d (omega arith)) (by_head (f x))
  where
    by_head : (o : Option X)
        → cons_option o (filter_map f (take i xs) ++ cons_option (f (get_or xs i d)) []) ≡ cons_option o (filter_map f (take i xs)) ++ cons_option (f (get_or xs i d)) []
    by_head None = refl
    by_head (Some r) = refl

pub mapped_more : {X : Type 0} (f : ℕ → Option X) (xs : List ℕ) (i a : ℕ) (r : X) (found later : List X)
    → i < length xs → a ≡ get_or xs i a → f a ≡ Some r → found ≡ filter_map f (take i xs)
    → later ≡ found ++ r ∷ [] → later ≡ filter_map f (take (i + 1) xs)
mapped_more {X = X} f xs i a r found later lt is gives was now =
    rw add-one (now ∙ (ap (λ (rs : List X). rs ++ r ∷ []) was ∙ sym (mapped_next f xs i a lt ∙ ap (λ o. filter_map f (take i xs) ++ cons_option o []) (ap f (sym is) ∙ gives))))

pub mapped_none : {X : Type 0} (f : ℕ → Option X) (xs : List ℕ) (i a : ℕ) (found later : List X)
    → i < length xs → a ≡ get_or xs i a → f a ≡ None → found ≡ filter_map f (take i xs)
    → later ≡ found → later ≡ filter_map f (take (i + 1) xs)
mapped_none f xs i a found later lt is gives was now =
    rw add-one (now ∙ (was ∙ sym (mapped_next f xs i a lt ∙ (ap (λ o. filter_map f (take i xs) ++ cons_option o []) (ap f (sym is) ∙ gives) ∙ append-nil (filter_map f (take i xs))))))
