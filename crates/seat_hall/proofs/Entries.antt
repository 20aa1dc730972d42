-- Entries stay where they are in the book.
use Rattle.std.proofs.Common.{◌≡◌, ℕ, zero, suc, ◌+◌, ◌≤◌, List, [], ◌∷◌, ◌++◌, length, drop, sym, refl, ap, ◌∙◌, subst, arith, Some, length-append}
use Rattle.std.specs.Prelude.{slice_get}
use Rattle.event_rule.specs.declared.event.Event.{Event}
use Rattle.seat_hall.specs.declared.item.Item.{Item}
use Rattle.seat_hall.specs.declared.item.Item.TheVariants.{Entered, Made}
use Rattle.seat_hall.specs.Fair.{start_of}
use Rattle.seat_hall.specs.Log.{Logged, after, hall_from}
use Rattle.seat_hall.specs.Stands.{EntriesStandOnce}
use Rattle.seat_hall.proofs.Logs.{hall_append}

get_snoc : (xs : List Event) (e x : Event) (n : ℕ) → slice_get xs n ≡ Some x → slice_get (xs ++ e ∷ []) n ≡ Some x
get_snoc [] e x n there = absurd (cc)
get_snoc (y ∷ ys) e x zero there = there
get_snoc (y ∷ ys) e x (suc n) there = get_snoc ys e x n there

pub get_last : (xs : List Event) (e : Event) → slice_get (xs ++ e ∷ []) (length xs) ≡ Some e
get_last [] e = refl
get_last (x ∷ xs) e = get_last xs e

stays_one : (l : Logged) (i : Item) (n : ℕ) (x : Event) → slice_get l.book n ≡ Some x → slice_get (after l i).book n ≡ Some x
stays_one l (Entered pass event) n x there = get_snoc l.book event x n there
stays_one l i n x there = there

pub entry_stays : (l : Logged) (log : List Item) (n : ℕ) (x : Event) → slice_get l.book n ≡ Some x
    → slice_get (hall_from l log).book n ≡ Some x
entry_stays l [] n x there = there
entry_stays l (i ∷ log) n x there = entry_stays (after l i) log n x (stays_one l i n x there)

longer_one : (l : Logged) (i : Item) → length l.book ≤ length (after l i).book
longer_one l (Entered pass event) = let n = length-append l.book (event ∷ []) in omega arith
longer_one l i = omega arith

longer : (l : Logged) (log : List Item) → length l.book ≤ length (hall_from l log).book
longer l [] = omega arith
longer l (i ∷ log) = let a = longer_one l i in let b = longer (after l i) log in omega arith

-- an entry stands where the book ended before it
pub stands : (l : Logged) (before rest : List Item) (pass : ℕ) (e : Event)
    → slice_get (hall_from l (before ++ Entered pass e ∷ rest)).book (length (hall_from l before).book) ≡ Some e
stands l before rest pass e =
    let m : Logged = hall_from l before in
    ap (λ (z : Logged). slice_get z.book (length m.book)) (hall_append l before (Entered pass e ∷ rest))
    ∙ entry_stays (after m (Entered pass e)) rest (length m.book) e (get_last m.book e)

abbrev head_or : Item → List Item → Item
head_or d [] = d
head_or d (x ∷ xs) = x

once : (l : Logged) (xs ys r s : List Item) (p q : ℕ) (e f : Event) → xs ++ Entered p e ∷ r ≡ ys ++ Entered q f ∷ s
    → length (hall_from l xs).book ≡ length (hall_from l ys).book → xs ≡ ys
once l [] [] r s p q e f is same = refl
once l [] (y ∷ ys) r s p q e f is same =
    let h : Entered p e ≡ y = ap (head_or (Made 0)) is in
    let n = length-append l.book (e ∷ []) in
    let a : length l.book + 1 ≤ length (after l y).book =
    subst (λ (i : Item). length l.book + 1 ≤ length (after l i).book) h (omega arith) in
    let b = longer (after l y) ys in absurd (omega arith)
once l (x ∷ xs) [] r s p q e f is same =
    let h : Entered q f ≡ x = sym (ap (head_or (Made 0)) is) in
    let n = length-append l.book (f ∷ []) in
    let a : length l.book + 1 ≤ length (after l x).book =
    subst (λ (i : Item). length l.book + 1 ≤ length (after l i).book) h (omega arith) in
    let b = longer (after l x) xs in absurd (omega arith)
once l (x ∷ xs) (y ∷ ys) r s p q e f is same =
    let h : x ≡ y = ap (head_or (Made 0)) is in
    let t = once (after l x) xs ys r s p q e f (ap (λ (l : List Item). drop 1 l) is)
    (same ∙ ap (λ (i : Item). length (hall_from (after l i) ys).book) (sym h)) in
    λ i. h i ∷ t i

pub stand_once : EntriesStandOnce
stand_once v log before earlier rest others one other e f is is' same =
    once (start_of v) before earlier rest others one other e f (sym is ∙ is') same
