-- What is reachable in the plain machine is what lives there.
use Rattle.std.proofs.Common.{◌≡◌, ◌≢◌, ◌⊎◌, ℕ, zero, suc, ◌+◌, ◌||◌, Bool, true, false, is_some, Contains, Option, Some, None, List, [], ◌∷◌, ◌++◌, refl, sym, ap, subst, ◌∙◌, arith, inl, inr, ⊎_elim}
use Rattle.std.specs.Prelude.{flat_map, not, slice_get, if◌then◌else◌}
use Rattle.std.specs.Option.{option_map_or}
use Rattle.std.proofs.lemmas.List.Elements.{Contains-append_left, Contains-append_right, Contains-append_cases, filter_map-append}
use Rattle.orca_names.specs.declared.names.Thing.{Thing}
use Rattle.orca_names.specs.declared.names.Thing.TheVariants.{Actor, Obj}
use Rattle.orca_names.specs.declared.names.Value.{Value}
use Rattle.turn_rules.specs.declared.act.Frame.{Frame}
use Rattle.reach_walk.specs.Reach.{named_by, thing_of, thing_row, root, step, owned}
use Rattle.reach_walk.proofs.Elements.{Contains-head, Contains-later, Contains-cons_cases, none_in_nil}
use Rattle.plain_rules.specs.declared.PlainActor.{PlainActor}
use Rattle.plain_rules.specs.declared.PlainLetter.{PlainLetter}
use Rattle.count_laws.specs.Agreement.{nobody, people_of, person_at, person_of_plain, IsRootPerson}
use Rattle.count_laws.specs.Known.{Names, InFrame}
use Rattle.plain_list.specs.Lists.{is_empty}
use Rattle.plain_rules.specs.Machine.{PlainState, plain_row}
use Rattle.plain_rules.specs.Reach.{is_root, roots_from, values_of, plain_edges, IsReachable}
use Rattle.count_laws.proofs.knowledge.Living.{Letters, here, later, Holds, Lives, stands, holds, row, owner}

-- ---- what lists of values name

names_left : (xs ys : List Value) (x : Thing) → Names xs x → Names (xs ++ ys) x
names_left xs ys x n = subst (λ ts. Contains ts x) (sym (filter_map-append thing_of xs ys)) (Contains-append_left (named_by xs) (named_by ys) x n)

names_right : (xs ys : List Value) (x : Thing) → Names ys x → Names (xs ++ ys) x
names_right xs ys x n = subst (λ ts. Contains ts x) (sym (filter_map-append thing_of xs ys)) (Contains-append_right (named_by xs) (named_by ys) x n)

names_cases : (xs ys : List Value) (x : Thing) → Names (xs ++ ys) x → Names xs x ⊎ Names ys x
names_cases xs ys x n = Contains-append_cases (named_by xs) (named_by ys) x (subst (λ ts. Contains ts x) (filter_map-append thing_of xs ys) n)

pub no_names : (x : Thing) (P : Type 0) → Names [] x → P
no_names x P n = none_in_nil x P n

-- ---- who an actor of the plain machine is

pub person_read : (actors : List PlainActor) (a : ℕ) → person_at (people_of actors) a ≡ option_map_or person_of_plain (slice_get actors a) nobody
person_read [] a = refl
person_read (x ∷ actors) zero = refl
person_read (x ∷ actors) (suc a) = person_read actors a

-- ---- roots

root_parts : (pinned : Bool) (frame : Option Frame) (letters : List PlainLetter) → (pinned || is_some frame || not (is_empty letters)) ≡ true
    → (pinned ≡ true) ⊎ ((frame ≢ None) ⊎ (letters ≢ []))
root_parts true frame letters e = inl refl
root_parts false (Some f) letters e = inr (inl (λ z. cc))
root_parts false None (l ∷ letters) e = inr (inr (λ z. cc))
root_parts false None [] e = cc

parts_root : (pinned : Bool) (frame : Option Frame) (letters : List PlainLetter) → (pinned ≡ true) ⊎ ((frame ≢ None) ⊎ (letters ≢ []))
    → (pinned || is_some frame || not (is_empty letters)) ≡ true
parts_root false None [] (inl e) = cc
parts_root false None [] (inr (inl f)) = absurd (f refl)
parts_root false None [] (inr (inr f)) = absurd (f refl)
parts_root pinned frame letters r = refl

root_person : (x : PlainActor) → is_root x ≡ true → IsRootPerson (person_of_plain x)
root_person x e = root_parts x.fields.pinned x.frame x.letters e

person_root : (x : PlainActor) → IsRootPerson (person_of_plain x) → is_root x ≡ true
person_root x r = parts_root x.fields.pinned x.frame x.letters r

pub nobody_stands : ¬ IsRootPerson nobody
nobody_stands (inl e) = cc
nobody_stands (inr (inl f)) = f refl
nobody_stands (inr (inr f)) = f refl

-- a root of a list that starts with the actor k
abbrev RootOf : ℕ → List PlainActor → Thing → Type 0
RootOf k actors x = (i : ℕ) × (x ≡ Actor (k + i)) × IsRootPerson (person_at (people_of actors) i)

pub listed_root : (k : ℕ) (actors : List PlainActor) (x : Thing) → Contains (roots_from k actors) x → RootOf k actors x
listed_root k [] x c = none_in_nil x _ c
listed_root k (y ∷ actors) x c = by_root (λ d. let z = listed_root (k + 1) actors x d in (suc z.0, z.1 ∙ ap Actor (omega arith), z.2)) (is_root y) refl c
  where
    by_root : (Contains (roots_from (k + 1) actors) x → RootOf k (y ∷ actors) x) → (b : Bool) → is_root y ≡ b → Contains (if b then Actor k ∷ roots_from (k + 1) actors else roots_from (k + 1) actors) x → RootOf k (y ∷ actors) x
    by_root deeper true e c = ⊎_elim
        (λ same. (0, sym same ∙ ap Actor (omega arith), root_person y e))
        deeper
        (Contains-cons_cases (Actor k) (roots_from (k + 1) actors) x c)
    by_root deeper false e c = deeper c

pub root_listed : (k : ℕ) (actors : List PlainActor) (i : ℕ) → IsRootPerson (person_at (people_of actors) i) → Contains (roots_from k actors) (Actor (k + i))
root_listed k [] i r = absurd (nobody_stands r)
root_listed k (y ∷ actors) zero r = by_root (is_root y) (person_root y r)
  where
    by_root : (b : Bool) → b ≡ true → Contains (if b then Actor k ∷ roots_from (k + 1) actors else roots_from (k + 1) actors) (Actor (k + 0))
    by_root true e = subst (λ n. Contains (Actor k ∷ roots_from (k + 1) actors) (Actor n)) (omega arith) (Contains-head (Actor k) (roots_from (k + 1) actors))
    by_root false e = cc
root_listed k (y ∷ actors) (suc i) r = by_root (subst (λ n. Contains (roots_from (k + 1) actors) (Actor n)) (omega arith) (root_listed (k + 1) actors i r)) (is_root y)
  where
    by_root : Contains (roots_from (k + 1) actors) (Actor (k + suc i)) → (b : Bool) → Contains (if b then Actor k ∷ roots_from (k + 1) actors else roots_from (k + 1) actors) (Actor (k + suc i))
    by_root there true = Contains-later (Actor k) (roots_from (k + 1) actors) (Actor (k + suc i)) there
    by_root there false = there

-- ---- what an actor holds

in_letters : (letters : List PlainLetter) (x : Thing) → Letters letters x → Names (flat_map (λ l. l.args) letters) x
in_letters [] x h = elim h [ ]
in_letters (l ∷ letters) x (here n) = names_left l.args (flat_map (λ l. l.args) letters) x n
in_letters (l ∷ letters) x (later h) = names_right l.args (flat_map (λ l. l.args) letters) x (in_letters letters x h)

pub letters_in : (letters : List PlainLetter) (x : Thing) → Names (flat_map (λ l. l.args) letters) x → Letters letters x
letters_in [] x n = no_names x _ n
letters_in (l ∷ letters) x n = ⊎_elim (λ m. here m) (λ m. later (letters_in letters x m)) (names_cases l.args (flat_map (λ l. l.args) letters) x n)

in_registers : (frame : Option Frame) (x : Thing) → InFrame frame x → Names (option_map_or (λ f. f.registers) frame []) x
in_registers None x h = absurd h
in_registers (Some f) x h = h

registers_in : (frame : Option Frame) (x : Thing) → Names (option_map_or (λ f. f.registers) frame []) x → InFrame frame x
registers_in None x n = no_names x _ n
registers_in (Some f) x n = n

module _ (p : PlainActor) (x : Thing) where
  abbrev registers : List Value
  registers = option_map_or (λ f. f.registers) p.frame []

  abbrev args : List Value
  args = flat_map (λ l. l.args) p.letters

  held_named : Holds (person_of_plain p) x → Names (values_of p) x
  held_named (inl n) = names_left p.fields.values (registers ++ args) x n
  held_named (inr (inl h)) = names_right p.fields.values (registers ++ args) x (names_left registers args x (in_registers p.frame x h))
  held_named (inr (inr h)) = names_right p.fields.values (registers ++ args) x (names_right registers args x (in_letters p.letters x h))

  named_held : Names (values_of p) x → Holds (person_of_plain p) x
  named_held n = ⊎_elim
      (λ m. inl m)
      (λ m. inr (⊎_elim (λ r. inl (registers_in p.frame x r)) (λ l. inr (letters_in p.letters x l)) (names_cases registers args x m)))
      (names_cases p.fields.values (registers ++ args) x n)

pub nobody_holds : (x : Thing) (P : Type 0) → Holds nobody x → P
nobody_holds x P (inl n) = no_names x P n
nobody_holds x P (inr (inl h)) = absurd h
nobody_holds x P (inr (inr h)) = elim h [ ]

pub edge_held : (actors : List PlainActor) (a : ℕ) (x : Thing) → Names (plain_edges actors (Actor a)) x → Holds (person_at (people_of actors) a) x
edge_held actors a x n = subst (λ p. Holds p x) (sym (person_read actors a)) (by_actor (slice_get actors a) n)
  where
    by_actor : (o : Option PlainActor) → Names (option_map_or values_of o []) x → Holds (option_map_or person_of_plain o nobody) x
    by_actor None n = no_names x _ n
    by_actor (Some p) n = named_held p x n

pub held_edge : (actors : List PlainActor) (a : ℕ) (x : Thing) → Holds (person_at (people_of actors) a) x → Names (plain_edges actors (Actor a)) x
held_edge actors a x h = by_actor (slice_get actors a) (subst (λ p. Holds p x) (person_read actors a) h)
  where
    by_actor : (o : Option PlainActor) → Holds (option_map_or person_of_plain o nobody) x → Names (option_map_or values_of o []) x
    by_actor None h = nobody_holds x _ h
    by_actor (Some p) h = held_named p x h

-- ---- both ways

module _ (p : PlainState) where
  abbrev LivesIn : Thing → Type 0
  LivesIn x = Lives (thing_row (plain_row p.actors)) (people_of p.actors) x

  along : (t x : Thing) → LivesIn t → Names (plain_edges p.actors t) x → LivesIn x
  along (Actor a) x l n = holds l (edge_held p.actors a x n)
  along (Obj o) x l n = by_row (plain_row p.actors o) refl n
    where
      by_row : (r : Option (List Value)) → plain_row p.actors o ≡ r → Names (option_map_or (λ v. v) r []) x → LivesIn x
      by_row None e n = no_names x _ n
      by_row (Some r) e n = row l e n

  pub reachable_lives : {x : Thing} → IsReachable p x → LivesIn x
  reachable_lives (root {x = x} c) = let z = listed_root 0 p.actors x c in subst LivesIn (sym (z.1 ∙ ap Actor (omega arith))) (stands z.2)
  reachable_lives (step {t = t} {x = x} path n) = along t x (reachable_lives path) n
  reachable_lives (owned path) = owner (reachable_lives path)

  pub edge_row : (o : Option (List Value)) (r : List Value) (x : Thing) → o ≡ Some r → Names r x → Names (option_map_or (λ v. v) o []) x
  edge_row None r x e n = cc
  edge_row (Some s) r x e n = let same : s ≡ r = cc in subst (λ vs. Names vs x) (sym same) n

  pub lives_reachable : {x : Thing} → LivesIn x → IsReachable p x
  lives_reachable (stands {a = a} r) = root (subst (λ n. Contains (roots_from 0 p.actors) (Actor n)) (omega arith) (root_listed 0 p.actors a r))
  lives_reachable (holds {a = a} {x = x} l h) = step (lives_reachable l) (held_edge p.actors a x h)
  lives_reachable (row {n = n} {x = x} {r = r} l e m) = step (lives_reachable l) (edge_row (plain_row p.actors n) r x e m)
  lives_reachable (owner l) = owned (lives_reachable l)
