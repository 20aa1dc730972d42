-- A turn by its parts: rows first, then its act, then the frame and the fields; or the rows are taken back.
use Rattle.std.proofs.Common.{◌≡◌, ℕ, ◌<◌, zero, suc, List, [], ◌∷◌, ◌++◌, length, take, Option, None, Some, slice_get, IfSome, refl, sym, ap, ◌∙◌, set, arith, append-nil}
use Rattle.std.proofs.lemmas.List.{take_at}
use Rattle.orca_names.specs.declared.names.Value.{Value}
use Rattle.orca_names.specs.declared.row.Fields.{Fields}
use Rattle.turn_rules.specs.declared.act.Frame.{Frame}
use Rattle.plain_rules.specs.declared.PlainActor.{PlainActor}
use Rattle.plain_rules.specs.declared.PlainLetter.{PlainLetter}
use Rattle.plain_rules.specs.Machine.{with_changed, with_letter, with_turn}
use Rattle.plain_rules.proofs.Changing.{with_changed-cons}
use Rattle.plain_machine.specs.declared.acts.Stand.{Stand}
use Rattle.plain_machine.specs.Undo.{has_rows, with_first_rows, with_kept, with_rows}

-- two changes of one actor, one after the other
pub with_changed-twice : (actors : List PlainActor) (a : ℕ) (f g : PlainActor → PlainActor) → with_changed (with_changed actors a f) a g ≡ with_changed actors a (λ x. g (f x))
with_changed-twice [] a f g = refl
with_changed-twice (x ∷ xs) zero f g = refl
with_changed-twice (x ∷ xs) (suc a) f g =
    ap (λ ys. with_changed ys (suc a) g) (with_changed-cons x xs a f)
    ∙ with_changed-cons x (with_changed xs a f) a g
    ∙ ap (λ ys. x ∷ ys) (with_changed-twice xs a f g)
    ∙ sym (with_changed-cons x xs a (λ y. g (f y)))

-- changes of different parts can be made in either order
pub with_changed-swap : (actors : List PlainActor) (a b : ℕ) (f g : PlainActor → PlainActor) → ((x : PlainActor) → g (f x) ≡ f (g x)) →
    with_changed (with_changed actors b f) a g ≡ with_changed (with_changed actors a g) b f
with_changed-swap [] a b f g h = refl
with_changed-swap (x ∷ xs) zero zero f g h = ap (λ y. y ∷ xs) (h x)
with_changed-swap (x ∷ xs) zero (suc b) f g h =
    ap (λ ys. with_changed ys zero g) (with_changed-cons x xs b f) ∙ sym (with_changed-cons (g x) xs b f)
with_changed-swap (x ∷ xs) (suc a) zero f g h =
    with_changed-cons (f x) xs a g ∙ sym (ap (λ ys. with_changed ys zero f) (with_changed-cons x xs a g))
with_changed-swap (x ∷ xs) (suc a) (suc b) f g h =
    ap (λ ys. with_changed ys (suc a) g) (with_changed-cons x xs b f)
    ∙ with_changed-cons x (with_changed xs b f) a g
    ∙ ap (λ ys. x ∷ ys) (with_changed-swap xs a b f g h)
    ∙ sym (with_changed-cons x (with_changed xs a g) b f)
    ∙ sym (ap (λ ys. with_changed ys (suc b) f) (with_changed-cons x xs a g))

-- a change beside one actor more
pub with_changed-append : (actors more : List PlainActor) (a : ℕ) (g : PlainActor → PlainActor) → a < length actors → with_changed (actors ++ more) a g ≡ with_changed actors a g ++ more
with_changed-append [] more a g h = absurd (omega arith)
with_changed-append (x ∷ xs) more zero g h = refl
with_changed-append (x ∷ xs) more (suc a) g h =
    with_changed-cons x (xs ++ more) a g
    ∙ ap (λ ys. x ∷ ys) (with_changed-append xs more a g (omega arith))
    ∙ sym (ap (λ ys. ys ++ more) (with_changed-cons x xs a g))

-- ---- a turn

pub turn_in_parts : (actors : List PlainActor) (a : ℕ) (frame : Option Frame) (fields : Fields) (made : List (List Value)) →
    with_kept (with_rows actors a made) a frame fields ≡ with_turn actors a frame fields made
turn_in_parts actors a frame fields made = with_changed-twice actors a (λ x. record x { rows = x.rows ++ made }) (λ x. record x { frame = frame; fields = fields })

pub send_in_parts : (actors : List PlainActor) (a to : ℕ) (letter : PlainLetter) (frame : Option Frame) (fields : Fields) (made : List (List Value)) →
    with_kept (with_letter (with_rows actors a made) to letter) a frame fields ≡ with_letter (with_turn actors a frame fields made) to letter
send_in_parts actors a to letter frame fields made =
    with_changed-swap (with_rows actors a made) a to (λ x. record x { letters = x.letters ++ letter ∷ [] }) (λ x. record x { frame = frame; fields = fields }) (λ x. refl)
    ∙ ap (λ xs. with_letter xs to letter) (turn_in_parts actors a frame fields made)

pub make_in_parts : (actors : List PlainActor) (a : ℕ) (fresh : PlainActor) (frame : Option Frame) (fields : Fields) (made : List (List Value)) → a < length (with_rows actors a made) →
    with_kept (with_rows actors a made ++ fresh ∷ []) a frame fields ≡ with_turn actors a frame fields made ++ fresh ∷ []
make_in_parts actors a fresh frame fields made h =
    with_changed-append (with_rows actors a made) (fresh ∷ []) a (λ x. record x { frame = frame; fields = fields }) h
    ∙ ap (λ xs. xs ++ fresh ∷ []) (turn_in_parts actors a frame fields made)

pub length-with_rows : (actors : List PlainActor) (a : ℕ) (made : List (List Value)) → length (with_rows actors a made) ≡ length actors
length-with_rows [] a made = refl
length-with_rows (x ∷ xs) zero made = refl
length-with_rows (x ∷ xs) (suc a) made =
    ap (λ ys. length ys) (with_changed-cons x xs a (λ y. record y { rows = y.rows ++ made })) ∙ ap suc (length-with_rows xs a made)

-- ---- rows that are taken back

pub rows_back : (actors : List PlainActor) (a : ℕ) (b : Stand) (made : List (List Value)) →
    IfSome (slice_get actors a) (has_rows b) → with_first_rows (with_rows actors a made) a b.rows ≡ actors
rows_back [] a b made h = refl
rows_back (x ∷ xs) zero b made h = ap (λ y. y ∷ xs) (λ j. record x { rows = take_at x.rows made b.rows (sym h) j })
rows_back (x ∷ xs) (suc a) b made h =
    ap (λ ys. with_first_rows ys (suc a) b.rows) (with_changed-cons x xs a (λ y. record y { rows = y.rows ++ made }))
    ∙ with_changed-cons x (with_rows xs a made) a (λ y. record y { rows = take b.rows y.rows })
    ∙ ap (λ ys. x ∷ ys) (rows_back xs a b made h)

pub no_rows : (actors : List PlainActor) (a : ℕ) (made : List (List Value)) → length made ≡ 0 → with_rows actors a made ≡ actors
no_rows actors a (row ∷ made) e = absurd (omega (arith, e))
no_rows [] a [] e = refl
no_rows (x ∷ xs) zero [] e = ap (λ y. y ∷ xs) (λ j. record x { rows = append-nil x.rows j })
no_rows (x ∷ xs) (suc a) [] e = with_changed-cons x xs a (λ y. record y { rows = y.rows ++ [] }) ∙ ap (λ ys. x ∷ ys) (no_rows xs a [] refl)
