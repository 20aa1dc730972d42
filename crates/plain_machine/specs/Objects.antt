-- The names of all objects that were made.
use Rattle.std.specs.Prelude.{◌≡◌, ℕ, zero, suc, ◌+◌, ◌<◌, List, [], ◌∷◌, ◌++◌, length, Some, slice_get, Contains, refl, option_and_then}
use Rattle.std.proofs.Common.{subst, arith}
use Rattle.std.proofs.lemmas.List.Elements.{Contains-append_left, Contains-append_right}
use Rattle.std.proofs.lemmas.Option.{slice_get_within}
use Rattle.orca_names.specs.declared.names.ObjName.{ObjName}
use Rattle.orca_names.specs.declared.names.Value.{Value}
use Rattle.plain_rules.specs.declared.PlainActor.{PlainActor}
use Rattle.plain_rules.specs.Machine.{plain_row}

abbrev object : ℕ → ℕ → ObjName
object a serial = record { owner = a; serial = serial }

-- the objects of one actor, from serial n on
abbrev pub own_objects : ℕ → ℕ → List (List Value) → List ObjName
own_objects a n [] = []
own_objects a n (row ∷ rows) = object a n ∷ own_objects a (n + 1) rows

-- the objects of all actors, the first of which has the number a
abbrev pub all_objects : ℕ → List PlainActor → List ObjName
all_objects a [] = []
all_objects a (x ∷ xs) = own_objects a 0 x.rows ++ all_objects (a + 1) xs

pub in_tail : {A : Type 0} (x : A) (xs : List A) (y : A) → Contains xs y → Contains (x ∷ xs) y
in_tail x xs y c = (suc c.0, omega (arith, c.1), c.2)

own_is_listed : (a n k : ℕ) (rows : List (List Value)) → k < length rows
    → Contains (own_objects a n rows) (object a (n + k))
own_is_listed a n k [] h = absurd (omega arith)
own_is_listed a n zero (row ∷ rows) h =
    let e : n ≡ n + 0 = omega arith in
    subst (λ m. Contains (own_objects a n (row ∷ rows)) (object a m)) e (0, omega arith, refl)
own_is_listed a n (suc k) (row ∷ rows) h =
    let e : n + 1 + k ≡ n + suc k = omega arith in
    subst (λ m. Contains (own_objects a n (row ∷ rows)) (object a m)) e
    (in_tail (object a n) (own_objects a (n + 1) rows) (object a (n + 1 + k))
    (own_is_listed a (n + 1) k rows (omega arith)))

actor_is_listed : (a k : ℕ) (xs : List PlainActor) (serial : ℕ) (row : List Value) →
    option_and_then (λ x. slice_get x.rows serial) (slice_get xs k) ≡ Some row
    → Contains (all_objects a xs) (object (a + k) serial)
actor_is_listed a k [] serial row e = cc
actor_is_listed a zero (x ∷ xs) serial row e =
    let j : a ≡ a + 0 = omega arith in
    let z : 0 + serial ≡ serial = omega arith in
    subst (λ m. Contains (all_objects a (x ∷ xs)) (object m serial)) j
    (Contains-append_left (own_objects a 0 x.rows) (all_objects (a + 1) xs) (object a serial)
    (subst (λ m. Contains (own_objects a 0 x.rows) (object a m)) z
    (own_is_listed a 0 serial x.rows (slice_get_within x.rows serial row e))))
actor_is_listed a (suc k) (x ∷ xs) serial row e =
    let j : a + 1 + k ≡ a + suc k = omega arith in
    subst (λ m. Contains (all_objects a (x ∷ xs)) (object m serial)) j
    (Contains-append_right (own_objects a 0 x.rows) (all_objects (a + 1) xs)
    (object (a + 1 + k) serial) (actor_is_listed (a + 1) k xs serial row e))

-- what has a row is among them
pub row_is_listed : (actors : List PlainActor) (n : ObjName) (row : List Value)
    → plain_row actors n ≡ Some row → Contains (all_objects 0 actors) n
row_is_listed actors n row e =
    let j : 0 + n.owner ≡ n.owner = omega arith in
    subst (λ m. Contains (all_objects 0 actors) (object m n.serial)) j
    (actor_is_listed 0 n.owner actors n.serial row e)
