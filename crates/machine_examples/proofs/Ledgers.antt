-- Holdings whose maps are written out as lists of entries count as holdings do.
use Rattle.std.proofs.Common.{◌≡◌, ℕ, suc, ◌+◌, ◌-◌, ◌==◌, ◌&&◌, ◌||◌, Bool, true, false, cond, not, if◌then◌else◌, List, [], ◌∷◌, ◌++◌, length, map, Option, Some, None, refl, ap, sym, ◌∙◌}
use Rattle.std.specs.Prelude.{filter, option_map}
use Rattle.std.specs.List.{filter_map}
use Rattle.std.specs.Option.{option_map_or}
use Rattle.std.specs.FinMap as m
use Rattle.std.specs.FinMap.Entries.{find-put, find-where_key, where_key}
use Rattle.std.specs.Ordering.{nat_cmp, eq_by_cmp}
use Rattle.std.specs.declared.cmp.Ordering.{Ordering}
use Rattle.std.specs.Cmp.{IsTotalOrder, nat_cmp_total}
use Rattle.orca_names.proofs.ThingOrder.{thing_total, thing_exact}
use Rattle.orca_names.specs.Names.{owner_of, thing_cmp}
use Rattle.orca_names.specs.declared.names.ObjName.{ObjName}
use Rattle.orca_names.specs.declared.names.Thing.{Thing}
use Rattle.orca_names.specs.declared.names.Thing.TheVariants.{Actor, Obj}
use Rattle.letter_kinds.specs.Holdings.{Row, Holdings, row_count, entry_count, entry_row, held_in, row_of, add_rows, with_made, known_objects, object_name}
use Rattle.letter_kinds.specs.Counting.{Amount, Loaded, with_row_count, set_own, set_held, receive, send, raise_all, lower_all, lacking_of, mint_all, sweep, given_back}
use Rattle.machine_rules.specs.Block.{actor_entry, held_actors}

-- ---- maps

module _ {K X : Type 0} {R : K → K → Ordering} (o : IsTotalOrder R) (same : m.IsAntisymmetric R) where
  pub insert-put : (es : List (K × X)) (k : K) (v : X) → m.insert {R = R} (m.from_entries es) k v ≡ m.from_entries (m.put R k v es)
  insert-put es k v = m.same_map o same _ _
      (λ q. m.get-insert o (m.from_entries es) k v q ∙ ap (cond (eq_by_cmp R q k) (Some v)) (m.get-from_entries o es q)
      ∙ sym (m.get-from_entries o (m.put R k v es) q ∙ find-put R o q k v es))

  pub retain-where : (es : List (K × X)) (p : K → Bool) → m.retain_keys {R = R} (m.from_entries es) p ≡ m.from_entries (where_key R p es)
  retain-where es p = m.same_map o same _ _
      (λ q. m.get-retain_keys (m.from_entries es) p q (λ x t. ap p (sym (same q x t))) ∙ ap (λ f. cond (p q) f None) (m.get-from_entries o es q)
      ∙ sym (m.get-from_entries o (where_key R p es) q ∙ find-where_key R p q (λ x t. ap p (sym (same q x t))) es))

-- in the order of their keys
abbrev pub in_key_order : {K X : Type 0} (R : K → K → Ordering) → List (K × X) → List (K × X)
in_key_order R [] = []
in_key_order R (e ∷ es) = m.put R e.0 e.1 (in_key_order R es)

none_in_none : {X : Type 0} (xs : List X) → length xs ≡ 0 → xs ≡ []
none_in_none [] e = refl
none_in_none (x ∷ xs) e = cc

pub entries-in_order : {K X : Type 0} {R : K → K → Ordering} (o : IsTotalOrder R) (es : List (K × X)) → m.entries {R = R} (m.from_entries es) ≡ in_key_order R es
entries-in_order {X = X} {R = R} o [] = none_in_none _ (sym (m.len-entries {R = R} m.empty) ∙ m.len-empty R X)
entries-in_order {R = R} o (e ∷ es) = m.entries-insert o (m.from_entries es) e.0 e.1 ∙ ap (m.put R e.0 e.1) (entries-in_order o es)

pub nat_exact : m.IsAntisymmetric nat_cmp
nat_exact = m.nat_cmp-IsAntisymmetric

-- ---- ledgers

-- holdings with lists for maps
pub record Ledger : Type 0 where
  pub count : ℕ
  pub rows : List (ℕ × (Row × ℕ))
  pub next : ℕ
  pub foreign : List (Thing × (ℕ × Option Row))

-- the holdings that a ledger tells
abbrev pub told : Ledger → Holdings
told l = record { count = l.count; rows = m.from_entries l.rows; next = l.next; foreign = m.from_entries l.foreign }

-- no object, and nothing held
abbrev pub empty_ledger : ℕ → Ledger
empty_ledger count = record { count = count; rows = []; next = 0; foreign = [] }

-- the entry of an own object
abbrev pub own_entry : Ledger → ℕ → Option (Row × ℕ)
own_entry l serial = m.find nat_cmp serial l.rows

-- the entry of another's thing
abbrev held_entry : Ledger → Thing → Option (ℕ × Option Row)
held_entry l x = m.find thing_cmp x l.foreign

-- ---- what it knows

-- the row of an object, its own or another's
abbrev pub row_told : ℕ → Ledger → ObjName → Option Row
row_told me l n = if n.owner == me then option_map (λ e. e.0) (own_entry l n.serial) else entry_row (held_entry l (Obj n))

pub row_of-told : (me : ℕ) (l : Ledger) (n : ObjName) → row_of me (told l) n ≡ row_told me l n
unfolding row_of
row_of-told me l n i =
    if n.owner == me then option_map (λ e. e.0) (m.get-from_entries nat_cmp_total l.rows n.serial i) else entry_row (m.get-from_entries thing_total l.foreign (Obj n) i)

-- the objects of which there may be a row
abbrev pub objects_told : ℕ → Ledger → List ObjName
objects_told me l =
    map (λ e. record { owner = me; serial = e.0 }) (in_key_order nat_cmp l.rows) ++ filter_map (λ e. object_name e.0) (in_key_order thing_cmp l.foreign)

pub known_objects-told : (me : ℕ) (l : Ledger) → known_objects me (told l) ≡ objects_told me l
unfolding known_objects
known_objects-told me l i =
    map (λ e. record { owner = me; serial = e.0 }) (entries-in_order nat_cmp_total l.rows i) ++ filter_map (λ e. object_name e.0) (entries-in_order thing_total l.foreign i)

-- the counts that are held on other actors
abbrev pub actors_told : Ledger → List (ℕ × ℕ)
actors_told l = filter_map actor_entry (in_key_order thing_cmp l.foreign)

pub held_actors-told : (l : Ledger) → held_actors (told l) ≡ actors_told l
held_actors-told l = ap (filter_map actor_entry) (entries-in_order thing_total l.foreign)

-- ---- one count

-- an own thing's count is changed, where it is there
abbrev change_own : (ℕ → ℕ) → Thing → Ledger → Ledger
change_own change (Actor a) l = record l { count = change l.count }
change_own change (Obj n) l =
    record l { rows = option_map_or (λ e. m.put nat_cmp n.serial (e.0, change e.1) l.rows) (own_entry l n.serial) l.rows }

set_own-told : (change : ℕ → ℕ) (x : Thing) (l : Ledger) → set_own change x (told l) ≡ told (change_own change x l)
unfolding set_own
set_own-told change (Actor a) l = refl
set_own-told change (Obj n) l =
    ap (λ rows. record (told l) { rows = rows })
    (ap (with_row_count (m.from_entries l.rows) n.serial change) (m.get-from_entries nat_cmp_total l.rows n.serial) ∙ cases (own_entry l n.serial))
  where
    cases : (found : Option (Row × ℕ)) → with_row_count (m.from_entries l.rows) n.serial change found
        ≡ m.from_entries (option_map_or (λ e. m.put nat_cmp n.serial (e.0, change e.1) l.rows) found l.rows)
    cases None = refl
    cases (Some e) = insert-put nat_cmp_total nat_exact l.rows n.serial (e.0, change e.1)

-- the count that is held on another's thing
abbrev pub held_told : Ledger → Thing → ℕ
held_told l x = entry_count (held_entry l x)

pub held_in-told : (l : Ledger) (x : Thing) → held_in (told l) x ≡ held_told l x
unfolding held_in
held_in-told l x = ap entry_count (m.get-from_entries thing_total l.foreign x)

-- the count that is held on another's thing is changed
abbrev pub change_held : (ℕ → ℕ) → Thing → Option Row → Ledger → Ledger
change_held change x row l = record l { foreign = m.put thing_cmp x (change (held_told l x), row) l.foreign }

pub set_held-told : (change : ℕ → ℕ) (x : Thing) (row : Option Row) (l : Ledger) → set_held change x row (told l) ≡ told (change_held change x row l)
unfolding set_held
set_held-told change x row l =
    ap (λ foreign. record (told l) { foreign = foreign })
    (ap (λ n. m.insert (m.from_entries l.foreign) x (change n, row)) (held_in-told l x) ∙ insert-put thing_total thing_exact l.foreign x _)

-- the row stays
keep_row-told : (change : ℕ → ℕ) (x : Thing) (l : Ledger)
    → set_held change x (entry_row (m.get (m.from_entries {R = thing_cmp} l.foreign) x)) (told l) ≡ told (change_held change x (entry_row (held_entry l x)) l)
keep_row-told change x l =
    ap (λ found. set_held change x (entry_row found) (told l)) (m.get-from_entries thing_total l.foreign x) ∙ set_held-told change x _ l

either-told : (b : Bool) (h k : Holdings) (l n : Ledger) → h ≡ told l → k ≡ told n → (if b then h else k) ≡ told (if b then l else n)
either-told true h k l n p q = p
either-told false h k l n p q = q

-- ---- loads

-- who takes a letter counts what it loads
abbrev pub take_load : ℕ → List Loaded → Ledger → Ledger
take_load me [] l = l
take_load me (e ∷ load) l =
    take_load me load (if owner_of e.0 == me then change_own (λ n. n - 1) e.0 l else change_held (λ n. n + 1) e.0 e.1 l)

pub receive-told : (me : ℕ) (load : List Loaded) (l : Ledger) → receive me load (told l) ≡ told (take_load me load l)
unfolding receive
receive-told me [] l = refl
receive-told me (e ∷ load) l =
    ap (receive me load) (either-told (owner_of e.0 == me) _ _ _ _ (set_own-told (λ n. n - 1) e.0 l) (set_held-told (λ n. n + 1) e.0 e.1 l)) ∙ receive-told me load _

-- who sends it counts the other way round
abbrev pub give_load : ℕ → List Loaded → Ledger → Ledger
give_load me [] l = l
give_load me (e ∷ load) l =
    give_load me load (if owner_of e.0 == me then change_own (λ n. n + 1) e.0 l else change_held (λ n. n - 1) e.0 (entry_row (held_entry l e.0)) l)

pub send-told : (me : ℕ) (load : List Loaded) (l : Ledger) → send me load (told l) ≡ told (give_load me load l)
unfolding send
send-told me [] l = refl
send-told me (e ∷ load) l =
    ap (send me load) (either-told (owner_of e.0 == me) _ _ _ _ (set_own-told (λ n. n + 1) e.0 l) (keep_row-told (λ n. n - 1) e.0 l)) ∙ send-told me load _

-- ---- amounts

-- counts of own things rise
abbrev pub raise_told : ℕ → List Amount → Ledger → Ledger
raise_told me [] l = l
raise_told me (e ∷ things) l = raise_told me things (if owner_of e.0 == me then change_own (λ n. n + e.1) e.0 l else l)

pub raise_all-told : (me : ℕ) (things : List Amount) (l : Ledger) → raise_all me things (told l) ≡ told (raise_told me things l)
unfolding raise_all
raise_all-told me [] l = refl
raise_all-told me (e ∷ things) l =
    ap (raise_all me things) (either-told (owner_of e.0 == me) _ _ _ _ (set_own-told (λ n. n + e.1) e.0 l) refl) ∙ raise_all-told me things _

-- counts of own things fall
abbrev pub lower_told : ℕ → List Amount → Ledger → Ledger
lower_told me [] l = l
lower_told me (e ∷ things) l = lower_told me things (if owner_of e.0 == me then change_own (λ n. n - e.1) e.0 l else l)

pub lower_all-told : (me : ℕ) (things : List Amount) (l : Ledger) → lower_all me things (told l) ≡ told (lower_told me things l)
unfolding lower_all
lower_all-told me [] l = refl
lower_all-told me (e ∷ things) l =
    ap (lower_all me things) (either-told (owner_of e.0 == me) _ _ _ _ (set_own-told (λ n. n - e.1) e.0 l) refl) ∙ lower_all-told me things _

-- counts that are held on others' things rise
abbrev pub mint_told : List Amount → Ledger → Ledger
mint_told [] l = l
mint_told (e ∷ things) l = mint_told things (change_held (λ n. n + e.1) e.0 (entry_row (held_entry l e.0)) l)

pub mint_all-told : (things : List Amount) (l : Ledger) → mint_all things (told l) ≡ told (mint_told things l)
unfolding mint_all
mint_all-told [] l = refl
mint_all-told (e ∷ things) l = ap (mint_all things) (keep_row-told (λ n. n + e.1) e.0 l) ∙ mint_all-told things _

-- what is too little to be sent
abbrev pub lacking_told : ℕ → Ledger → List Loaded → List Loaded
lacking_told me l load = filter (λ e. not (owner_of e.0 == me) && (held_told l e.0 == 1)) load

pub lacking-told : (me : ℕ) (l : Ledger) (load : List Loaded) → lacking_of me (told l) load ≡ lacking_told me l load
lacking-told me l load i = filter (λ e. not (owner_of e.0 == me) && (held_in-told l e.0 i == 1)) load

-- ---- new objects

-- rows at the serials from the first on, each with count 0
abbrev rows_more : ℕ → List Row → List (ℕ × (Row × ℕ)) → List (ℕ × (Row × ℕ))
rows_more serial [] rows = rows
rows_more serial (row ∷ made) rows = rows_more (suc serial) made (m.put nat_cmp serial (row, 0) rows)

add_rows-told : (serial : ℕ) (made : List Row) (rows : List (ℕ × (Row × ℕ))) → add_rows serial made (m.from_entries rows) ≡ m.from_entries (rows_more serial made rows)
unfolding add_rows
add_rows-told serial [] rows = refl
add_rows-told serial (row ∷ made) rows =
    ap (add_rows (suc serial) made) (insert-put nat_cmp_total nat_exact rows serial (row, 0)) ∙ add_rows-told (suc serial) made _

-- with so many own objects more
abbrev pub make_told : List Row → Ledger → Ledger
make_told made l = record l { rows = rows_more l.next made l.rows; next = l.next + length made }

pub with_made-told : (made : List Row) (l : Ledger) → with_made made (told l) ≡ told (make_told made l)
with_made-told made l = ap (λ rows. record (told l) { rows = rows; next = l.next + length made }) (add_rows-told l.next made l.rows)

-- ---- a sweep

-- without what is not marked
abbrev pub sweep_told : (Thing → Bool) → ℕ → Ledger → Ledger
sweep_told marked me l = record l {
  rows = where_key nat_cmp (λ serial. marked (Obj (record { owner = me; serial = serial })) || not (row_count (own_entry l serial) == 0)) l.rows;
  foreign = where_key thing_cmp marked l.foreign;
}

pub sweep-told : (marked : Thing → Bool) (me : ℕ) (l : Ledger) → sweep marked me (told l) ≡ told (sweep_told marked me l)
unfolding sweep
sweep-told marked me l =
    (λ i. record (told l) {
      rows = m.retain_keys (m.from_entries l.rows)
          (λ serial. marked (Obj (record { owner = me; serial = serial })) || not (row_count (m.get-from_entries nat_cmp_total l.rows serial i) == 0));
      foreign = m.retain_keys (m.from_entries l.foreign) marked;
    })
    ∙ (λ i. record (told l) {
      rows = retain-where nat_cmp_total nat_exact l.rows
          (λ serial. marked (Obj (record { owner = me; serial = serial })) || not (row_count (own_entry l serial) == 0)) i;
      foreign = retain-where thing_total thing_exact l.foreign marked i;
    })

-- the counts on others' things that go back
abbrev pub back_told : (Thing → Bool) → Ledger → List Amount
back_told marked l = map (λ e. (e.0, e.1.0)) (filter (λ e. not (marked e.0)) (in_key_order thing_cmp l.foreign))

pub given_back-told : (marked : Thing → Bool) (l : Ledger) → given_back marked (told l) ≡ back_told marked l
unfolding given_back
given_back-told marked l = ap (λ es. map (λ e. (e.0, e.1.0)) (filter (λ e. not (marked e.0)) es)) (entries-in_order thing_total l.foreign)
