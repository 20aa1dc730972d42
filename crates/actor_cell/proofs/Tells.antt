-- What cells tell of rows in blocks, before and after.
use Rattle.std.proofs.Common.{◌≡◌, ◌⊎◌, inl, inr, ⊎_elim, Ordering, Equal, ℕ, zero, suc, ◌+◌, ◌-◌, ◌==◌, Bool, true, false, cond, List, [], ◌∷◌, ◌++◌, drop, Option, Some, None, not, refl, sym, ap, subst, ◌∙◌, arith, eqb-true}
use Rattle.std.specs.Prelude.{Contains, map, option_and_then, option_map}
use Rattle.std.specs.Cmp.{IsTotalOrder}
use Rattle.std.specs.FinMap as m
use Rattle.std.specs.FinMap.{IsAntisymmetric, nat_cmp-IsAntisymmetric}
use Rattle.std.specs.Ordering.{eq_by_cmp}
use Rattle.std.specs.Cmp.{nat_cmp_total}
use Rattle.std.proofs.lemmas.List.Elements.{Contains-append_left, Contains-append_right}
use Rattle.std.proofs.lemmas.Map.Views.{tells_apart}
use Rattle.orca_names.specs.Names.{owner_of}
use Rattle.orca_names.specs.declared.names.ObjName.{ObjName}
use Rattle.orca_names.specs.declared.names.Thing.{Thing}
use Rattle.orca_names.specs.declared.names.Thing.TheVariants.{Actor, Obj}
use Rattle.orca_names.proofs.ThingOrder.{thing_exact, thing_total}
use Rattle.row_store.specs.Told.{Lying}
use Rattle.letter_kinds.specs.Counting.{Amount, Loaded, gain, lower, lower_all, mint_all, mint_one, raise, raise_all, receive, receive_one, send, send_one, set_held, set_own, spend, with_row_count}
use Rattle.letter_kinds.specs.Holdings.{Entries, Holdings, OwnRows, Row, add_rows, entry_count, entry_row, held_in}
use Rattle.letter_kinds.specs.Load.{as_load, as_loaded}
use Rattle.object_heap.specs.Free.{freed, stays}
use Rattle.object_heap.specs.Heap.{Heap, add_blocks, with_new}
use Rattle.object_heap.specs.Heap as heaps
use Rattle.foreign_table.specs.Back.{given_up, goes_back}
use Rattle.foreign_table.specs.Table.{Blocks, Table, block_at, entered}
use Rattle.row_table.specs.Table.{KnownRows, learnt}
use Rattle.known_rows.specs.Holdings.{holdings_of}
use Rattle.trace_send.specs.Blocks.{block_received, blocks_received}
use Rattle.letter_kinds.specs.Telling.{TellsOnly, in_block, made_in}
use Rattle.letter_kinds.proofs.Lying.{none_made}
use Rattle.actor_cell.specs.Tells.{BroughtTells, HeldTells, OwnTells, blocks_for}

-- ---- a map of rows and the map of their blocks

module _ {K V : Type 0} {R : K → K → Ordering} (total : IsTotalOrder R) (exact : IsAntisymmetric R) (read : Option V → Option Row) where
  -- the row of the key is this, and lies in this block
  abbrev At : m.FinMap R V → m.FinMap R (Option ℕ) → K → Row → ℕ → Type 0
  At rows blocks q row block = (read (m.get rows q) ≡ Some row) × (option_and_then (λ p. p) (m.get blocks q) ≡ Some block)

  -- where one is put, it told this before, or is told so now
  put_tells : (rows : m.FinMap R V) (blocks : m.FinMap R (Option ℕ)) (k : K) (v : V) (b : Option ℕ) (q : K) (row : Row) (block : ℕ)
      → At (m.insert rows k v) (m.insert blocks k b) q row block
      → At rows blocks q row block ⊎ ((k ≡ q) × ((read (Some v) ≡ Some row) × (b ≡ Some block)))
  put_tells rows blocks k v b q row block told =
      by (eq_by_cmp R q k) refl (sym (ap read (m.get-insert total rows k v q)) ∙ told.0)
      (sym (ap (option_and_then (λ p. p)) (m.get-insert total blocks k b q)) ∙ told.1)
    where
      by : (t : Bool) → eq_by_cmp R q k ≡ t → read (cond t (Some v) (m.get rows q)) ≡ Some row
          → option_and_then (λ p. p) (cond t (Some b) (m.get blocks q)) ≡ Some block
          → At rows blocks q row block ⊎ ((k ≡ q) × ((read (Some v) ≡ Some row) × (b ≡ Some block)))
      by true is r l = inr (sym (tells_apart exact q k is), (r, l))
      by false is r l = inl (r, l)

  -- where some stay, each told this before
  left_tells : read None ≡ None → (rows : m.FinMap R V) (blocks : m.FinMap R (Option ℕ)) (p : K → Bool) (q : K) (row : Row) (block : ℕ)
      → At (m.retain_keys rows p) (m.retain_keys blocks p) q row block → At rows blocks q row block
  left_tells none rows blocks p q row block told =
      by (p q) (sym (ap read (m.get-retain_keys rows p q same)) ∙ told.0)
      (sym (ap (option_and_then (λ b. b)) (m.get-retain_keys blocks p q same)) ∙ told.1)
    where
      same : (x : K) → R q x ≡ Equal → p x ≡ p q
      same x e = ap p (sym (exact q x e))

      by : (t : Bool) → read (cond t (m.get rows q) None) ≡ Some row
          → option_and_then (λ b. b) (cond t (m.get blocks q) None) ≡ Some block → At rows blocks q row block
      by true r l = (r, l)
      by false r l = cc

  -- a value is put in place of one that reads as it does
  put_same : (t : m.FinMap R V) (k : K) (v : V) (q : K) → read (Some v) ≡ read (m.get t k) → read (m.get (m.insert t k v) q) ≡ read (m.get t q)
  put_same t k v q is = ap read (m.get-insert total t k v q) ∙ by (eq_by_cmp R q k) refl
    where
      by : (b : Bool) → eq_by_cmp R q k ≡ b → read (cond b (Some v) (m.get t q)) ≡ read (m.get t q)
      by true same = is ∙ ap (λ x. read (m.get t x)) (sym (tells_apart exact q k same))
      by false same = refl

-- ---- own objects

-- the own objects tell no more than before
abbrev pub OwnTellsOnly : Heap → Heap → Type 0
OwnTellsOnly old new = (n : ObjName) (row : Row) (block : ℕ) → OwnTells new n row block → OwnTells old n row block

abbrev pub row_in : Option (Row × ℕ) → Option Row
row_in o = option_map (λ e. e.0) o

abbrev SerialTells : OwnRows → heaps.Blocks → ℕ → Row → ℕ → Type 0
SerialTells rows blocks q row block = (row_in (m.get rows q) ≡ Some row) × (heaps.block_at blocks q ≡ Some block)

-- so it is where no serial tells more
own_by : (old new : Heap) → new.owner ≡ old.owner
    → ((q : ℕ) (row : Row) (block : ℕ) → SerialTells new.rows new.blocks q row block → SerialTells old.rows old.blocks q row block)
    → OwnTellsOnly old new
own_by old new owner kept n row block told =
    subst (λ a. (cond (n.owner == a) (row_in (m.get old.rows n.serial)) None ≡ Some row) × (cond (n.owner == a) (heaps.block_at old.blocks n.serial) None ≡ Some block))
    owner (by (n.owner == new.owner) told.0 told.1)
  where
    by : (t : Bool) → cond t (row_in (m.get new.rows n.serial)) None ≡ Some row → cond t (heaps.block_at new.blocks n.serial) None ≡ Some block
        → (cond t (row_in (m.get old.rows n.serial)) None ≡ Some row) × (cond t (heaps.block_at old.blocks n.serial) None ≡ Some block)
    by true r l = kept n.serial row block (r, l)
    by false r l = cc

-- some are freed
pub own_freed : (gone : List ObjName) (h new : Heap) → new ≡ freed gone h → OwnTellsOnly h new
own_freed gone h new is =
    subst (OwnTellsOnly h) (sym is) (own_by h (freed gone h) refl (left_tells nat_cmp_total nat_cmp-IsAntisymmetric row_in refl h.rows h.blocks (stays gone)))

-- in what was made the rest is
behind_made : (owner next : ℕ) (r : Row) (made : List Row) (b : ℕ) (given : List ℕ) (x : Thing × Lying)
    → Contains (made_in owner (suc next) made given) x → Contains (made_in owner next (r ∷ made) (b ∷ given)) x
unfolding made_in
behind_made owner next r made b given x later =
    Contains-append_right (in_block (record { owner = owner; serial = next }) r b ∷ []) (made_in owner (suc next) made given) x later

-- what was made first
first_made : (owner next : ℕ) (r : Row) (made : List Row) (b : ℕ) (given : List ℕ)
    → Contains (made_in owner next (r ∷ made) (b ∷ given)) (in_block (record { owner = owner; serial = next }) r b)
unfolding made_in
first_made owner next r made b given = (0, omega arith, refl)

made_tells : (owner : ℕ) (made : List Row) (given : List ℕ) (next : ℕ) (rows : OwnRows) (blocks : heaps.Blocks) (q : ℕ) (row : Row) (block : ℕ)
    → SerialTells (add_rows next made rows) (add_blocks next (blocks_for made given) blocks) q row block
    → SerialTells rows blocks q row block ⊎ Contains (made_in owner next made given) (in_block (record { owner = owner; serial = q }) row block)
unfolding add_rows add_blocks
made_tells owner [] given next rows blocks q row block told = inl told
made_tells owner (r ∷ made) [] next rows blocks q row block told = ⊎_elim
    (λ before. ⊎_elim inl (λ here. let none = here.1.1 in cc)
    (put_tells nat_cmp_total nat_cmp-IsAntisymmetric row_in rows blocks next (r, 0) None q row block before))
    (λ none. absurd (none_made owner (suc next) made (in_block (record { owner = owner; serial = q }) row block) none))
    (made_tells owner made [] (suc next) (m.insert rows next (r, 0)) (m.insert blocks next None) q row block told)
made_tells owner (r ∷ made) (b ∷ given) next rows blocks q row block told = ⊎_elim
    (λ before. ⊎_elim inl (λ here. inr (its here.0 here.1.0 here.1.1))
    (put_tells nat_cmp_total nat_cmp-IsAntisymmetric row_in rows blocks next (r, 0) (Some b) q row block before))
    (λ later. inr (behind_made owner next r made b given (in_block (record { owner = owner; serial = q }) row block) later))
    (made_tells owner made given (suc next) (m.insert rows next (r, 0)) (m.insert blocks next (Some b)) q row block told)
  where
    its : next ≡ q → Some r ≡ Some row → Some b ≡ Some block
        → Contains (made_in owner next (r ∷ made) (b ∷ given)) (in_block (record { owner = owner; serial = q }) row block)
    its at its_row its_block =
        let same_row : r ≡ row = cc in
        let same_block : b ≡ block = cc in
        subst (Contains (made_in owner next (r ∷ made) (b ∷ given))) (λ j. in_block (record { owner = owner; serial = at j }) (same_row j) (same_block j))
        (first_made owner next r made b given)

-- rows are added, some of them in blocks
pub own_made : (made : List Row) (given : List ℕ) (h new : Heap) → new ≡ with_new made (blocks_for made given) h
    → TellsOnly (OwnTells h) (made_in h.owner h.next made given) (OwnTells new)
own_made made given h new is = subst (λ g. TellsOnly (OwnTells h) (made_in h.owner h.next made given) (OwnTells g)) (sym is)
    (λ n row block told. by n row block (n.owner == h.owner) refl told.0 told.1)
  where
    by : (n : ObjName) (row : Row) (block : ℕ) (t : Bool) → (n.owner == h.owner) ≡ t
        → cond t (row_in (m.get (add_rows h.next made h.rows) n.serial)) None ≡ Some row
        → cond t (heaps.block_at (add_blocks h.next (blocks_for made given) h.blocks) n.serial) None ≡ Some block
        → ((cond t (row_in (m.get h.rows n.serial)) None ≡ Some row) × (cond t (heaps.block_at h.blocks n.serial) None ≡ Some block))
        ⊎ Contains (made_in h.owner h.next made given) (in_block n row block)
    by n row block true is r l = ⊎_elim inl
        (λ its. inr (subst (λ a. Contains (made_in h.owner h.next made given) (in_block (record { owner = a; serial = n.serial }) row block)) (sym (eqb-true n.owner h.owner is)) its))
        (made_tells h.owner made given h.next h.rows h.blocks n.serial row block (r, l))
    by n row block false is r l = cc

-- ---- counts alone change

-- each row that it has is as in the other
pub record SameRows (g h : Holdings) : Type 0 where
  pub own : (q : ℕ) → row_in (m.get g.rows q) ≡ row_in (m.get h.rows q)
  pub held : (x : Thing) → entry_row (m.get g.foreign x) ≡ entry_row (m.get h.foreign x)

same_itself : (h : Holdings) → SameRows h h
same_itself h = record { own = λ q. refl; held = λ x. refl }

same_then : (f g h : Holdings) → SameRows f g → SameRows g h → SameRows f h
same_then f g h a b = record { own = λ q. a.own q ∙ b.own q; held = λ x. a.held x ∙ b.held x }

same_if : (t : Bool) (f g h : Holdings) → SameRows f h → SameRows g h → SameRows (cond t f g) h
same_if true f g h a b = a
same_if false f g h a b = b

counted_row : (rows : OwnRows) (k : ℕ) (f : ℕ → ℕ) (q : ℕ) (o : Option (Row × ℕ)) → m.get rows k ≡ o → row_in (m.get (with_row_count rows k f o) q) ≡ row_in (m.get rows q)
counted_row rows k f q None is = refl
counted_row rows k f q (Some e) is = put_same nat_cmp_total nat_cmp-IsAntisymmetric row_in rows k (e.0, f e.1) q (ap row_in (sym is))

same_set_own : (f : ℕ → ℕ) (x : Thing) (h : Holdings) → SameRows (set_own f x h) h
unfolding set_own
same_set_own f (Actor a) h = record { own = λ q. refl; held = λ x. refl }
same_set_own f (Obj n) h = record { own = λ q. counted_row h.rows n.serial f q (m.get h.rows n.serial) refl; held = λ x. refl }

same_set_held : (f : ℕ → ℕ) (x : Thing) (h : Holdings) → SameRows (set_held f x (entry_row (m.get h.foreign x)) h) h
unfolding set_held
same_set_held f x h = record { own = λ q. refl; held = λ y. put_same thing_total thing_exact entry_row h.foreign x (f (held_in h x), entry_row (m.get h.foreign x)) y refl }

-- by a letter that is sent
pub same_sent : (me : ℕ) (load : List Loaded) (h : Holdings) → SameRows (send me load h) h
unfolding send
same_sent me [] h = same_itself h
same_sent me (e ∷ load) h =
    same_then (send me load (send_one me e h)) (send_one me e h) h (same_sent me load (send_one me e h))
    (same_if (owner_of e.0 == me) (raise 1 e.0 h) (spend 1 e.0 h) h (same_set_own (λ n. n + 1) e.0 h) (same_set_held (λ n. n - 1) e.0 h))

-- by an increment
pub same_raised : (me : ℕ) (things : List Amount) (h : Holdings) → SameRows (raise_all me things h) h
unfolding raise_all
same_raised me [] h = same_itself h
same_raised me (e ∷ things) h =
    let first = cond (owner_of e.0 == me) (raise e.1 e.0 h) h in
    same_then (raise_all me things first) first h (same_raised me things first)
    (same_if (owner_of e.0 == me) (raise e.1 e.0 h) h h (same_set_own (λ n. n + e.1) e.0 h) (same_itself h))

-- by a decrement
pub same_lowered : (me : ℕ) (things : List Amount) (h : Holdings) → SameRows (lower_all me things h) h
unfolding lower_all
same_lowered me [] h = same_itself h
same_lowered me (e ∷ things) h =
    let first = cond (owner_of e.0 == me) (lower e.1 e.0 h) h in
    same_then (lower_all me things first) first h (same_lowered me things first)
    (same_if (owner_of e.0 == me) (lower e.1 e.0 h) h h (same_set_own (λ n. n - e.1) e.0 h) (same_itself h))

-- by a mint
pub same_minted : (things : List Amount) (h : Holdings) → SameRows (mint_all things h) h
unfolding mint_all
same_minted [] h = same_itself h
same_minted (e ∷ things) h =
    same_then (mint_all things (mint_one e h)) (mint_one e h) h (same_minted things (mint_one e h)) (same_set_held (λ n. n + e.1) e.0 h)

-- where own rows and blocks are as before
pub own_counted : (old new : Heap) → new.owner ≡ old.owner → ((q : ℕ) → row_in (m.get new.rows q) ≡ row_in (m.get old.rows q)) → new.blocks ≡ old.blocks
    → OwnTellsOnly old new
own_counted old new owner rows blocks =
    own_by old new owner (λ q row block told. (sym (rows q) ∙ told.0, ap (λ bs. heaps.block_at bs q) (sym blocks) ∙ told.1))

-- ---- what is held

-- rows and blocks are as before
pub held_counted : (old new : Table) (more : List (Thing × Lying)) → ((x : Thing) → entry_row (m.get new.entries x) ≡ entry_row (m.get old.entries x))
    → ((x : Thing) → block_at new.blocks x ≡ block_at old.blocks x) → TellsOnly (HeldTells old) more (HeldTells new)
held_counted old new more rows blocks n row block told = inl (sym (rows (Obj n)) ∙ told.0, sym (blocks (Obj n)) ∙ told.1)

-- some are given back
pub held_given : (back : List (ℕ × List Amount)) (t new : Table) (more : List (Thing × Lying)) → new ≡ given_up back t → TellsOnly (HeldTells t) more (HeldTells new)
held_given back t new more is =
    subst (λ new. TellsOnly (HeldTells t) more (HeldTells new)) (sym is)
    (λ n row block told. inl (left_tells thing_total thing_exact entry_row refl t.entries t.blocks (λ x. not (goes_back back x)) (Obj n) row block told))

-- nothing is told of the row of one that is put
pub held_put : (f : ℕ → ℕ) (x : Thing) (t new : Table) (more : List (Thing × Lying)) → new ≡ entered f x None None t → TellsOnly (HeldTells t) more (HeldTells new)
held_put f x t new more is = subst (λ new. TellsOnly (HeldTells t) more (HeldTells new)) (sym is) (λ n row block told. ⊎_elim inl (λ here. let none = here.1.1 in cc)
    (put_tells thing_total thing_exact entry_row t.entries t.blocks x (f (entry_count (m.get t.entries x)), None) None (Obj n) row block told))

-- a thing with how its row lies, by its parts
told_as : (e : Thing × Lying) (n : ObjName) (row : Row) (block : ℕ) → e.0 ≡ Obj n → e.1.row ≡ Some row → e.1.block ≡ Some block → e ≡ in_block n row block
told_as e n row block x r b = λ j. (x j, record { row = r j; block = b j })

-- of what is held by these entries, in these blocks
abbrev EntryTells : Entries → Blocks → ObjName → Row → ℕ → Type 0
EntryTells entries blocks n row block = (entry_row (m.get entries (Obj n)) ≡ Some row) × (block_at blocks (Obj n) ≡ Some block)

one_received : (me : ℕ) (e : Thing × Lying) (h : Holdings) (blocks : Blocks) (n : ObjName) (row : Row) (block : ℕ)
    → EntryTells (receive_one me (as_loaded e) h).foreign (block_received me e blocks) n row block → EntryTells h.foreign blocks n row block ⊎ (e ≡ in_block n row block)
unfolding set_held
one_received me e h blocks n row block told = by (owner_of e.0 == me) told.0 told.1
  where
    by : (t : Bool) → entry_row (m.get (cond t (lower 1 e.0 h) (gain 1 e.0 e.1.row h)).foreign (Obj n)) ≡ Some row
        → block_at (cond t blocks (m.insert blocks e.0 e.1.block)) (Obj n) ≡ Some block → EntryTells h.foreign blocks n row block ⊎ (e ≡ in_block n row block)
    by true r l = inl (sym ((same_set_own (λ n. n - 1) e.0 h).held (Obj n)) ∙ r, l)
    by false r l = ⊎_elim inl (λ here. inr (told_as e n row block here.0 here.1.0 here.1.1))
        (put_tells thing_total thing_exact entry_row h.foreign blocks e.0 (held_in h e.0 + 1, e.1.row) e.1.block (Obj n) row block (r, l))

all_received : (me : ℕ) (load : List (Thing × Lying)) (h : Holdings) (blocks : Blocks) (n : ObjName) (row : Row) (block : ℕ)
    → EntryTells (receive me (as_load load) h).foreign (blocks_received me load blocks) n row block
    → EntryTells h.foreign blocks n row block ⊎ Contains load (in_block n row block)
unfolding receive blocks_received
all_received me [] h blocks n row block told = inl told
all_received me (e ∷ load) h blocks n row block told = ⊎_elim
    (λ before. ⊎_elim inl (λ is. inr (subst (Contains (e ∷ load)) is (0, omega arith, refl))) (one_received me e h blocks n row block before))
    (λ later. inr (Contains-append_right (e ∷ []) load (in_block n row block) later))
    (all_received me load (receive_one me (as_loaded e) h) (block_received me e blocks) n row block told)

-- a load is received
pub held_received : (me : ℕ) (load : List (Thing × Lying)) (h : Holdings) (old new : Table) → h.foreign ≡ old.entries
    → new.entries ≡ (receive me (as_load load) h).foreign → new.blocks ≡ blocks_received me load old.blocks → TellsOnly (HeldTells old) load (HeldTells new)
held_received me load h old new before entries blocks n row block told =
    subst (λ es. EntryTells es old.blocks n row block ⊎ Contains load (in_block n row block)) before
    (all_received me load h old.blocks n row block (ap (λ es. entry_row (m.get es (Obj n))) (sym entries) ∙ told.0, ap (λ bs. block_at bs (Obj n)) (sym blocks) ∙ told.1))

-- own rows stay
own_received_one : (me : ℕ) (e : Loaded) (h : Holdings) (q : ℕ) → row_in (m.get (receive_one me e h).rows q) ≡ row_in (m.get h.rows q)
unfolding set_held
own_received_one me e h q = by (owner_of e.0 == me)
  where
    by : (t : Bool) → row_in (m.get (cond t (lower 1 e.0 h) (gain 1 e.0 e.1 h)).rows q) ≡ row_in (m.get h.rows q)
    by true = (same_set_own (λ n. n - 1) e.0 h).own q
    by false = refl

pub own_received : (me : ℕ) (load : List Loaded) (h : Holdings) (q : ℕ) → row_in (m.get (receive me load h).rows q) ≡ row_in (m.get h.rows q)
unfolding receive
own_received me [] h q = refl
own_received me (e ∷ load) h q = own_received me load (receive_one me e h) q ∙ own_received_one me e h q

-- ---- what letters brought

-- some are forgotten
pub brought_left : (old new : KnownRows) (p : Thing → Bool) (more : List (Thing × Lying)) → new.rows ≡ m.retain_keys old.rows p → new.blocks ≡ m.retain_keys old.blocks p
    → TellsOnly (BroughtTells old) more (BroughtTells new)
brought_left old new p more rows blocks n row block told =
    inl (left_tells thing_total thing_exact (λ o. o) refl old.rows old.blocks p (Obj n) row block
    (ap (λ t. m.get t (Obj n)) (sym rows) ∙ told.0, ap (λ bs. block_at bs (Obj n)) (sym blocks) ∙ told.1))

-- rows and blocks are as before
pub brought_same : (old new : KnownRows) (more : List (Thing × Lying)) → new.rows ≡ old.rows → new.blocks ≡ old.blocks → TellsOnly (BroughtTells old) more (BroughtTells new)
brought_same old new more rows blocks n row block told =
    inl (ap (λ t. m.get t (Obj n)) (sym rows) ∙ told.0, ap (λ bs. block_at bs (Obj n)) (sym blocks) ∙ told.1)

-- one is learnt
pub brought_learnt : (x : Thing) (row : Option Row) (block : Option ℕ) (old new : KnownRows) → new ≡ learnt x row block old
    → TellsOnly (BroughtTells old) ((x, record { row = row; block = block }) ∷ []) (BroughtTells new)
brought_learnt x o b old new is = subst (λ new. TellsOnly (BroughtTells old) ((x, record { row = o; block = b }) ∷ []) (BroughtTells new)) (sym is) (by o)
  where
    by : (o : Option Row) → TellsOnly (BroughtTells old) ((x, record { row = o; block = b }) ∷ []) (BroughtTells (learnt x o b old))
    by None n row block told = inl told
    by (Some r) n row block told = ⊎_elim inl
        (λ here. inr (subst (Contains ((x, record { row = Some r; block = b }) ∷ [])) (told_as (x, record { row = Some r; block = b }) n row block here.0 here.1.0 here.1.1) (0, omega arith, refl)))
        (put_tells thing_total thing_exact (λ o. o) old.rows old.blocks x r b (Obj n) row block told)

-- what stands behind is among all
contains_behind : {X : Type 0} (i : ℕ) (xs : List X) (x : X) → Contains (drop i xs) x → Contains xs x
contains_behind zero xs x c = c
contains_behind (suc i) [] x c = c
contains_behind (suc i) (y ∷ xs) x c = Contains-append_right (y ∷ []) xs x (contains_behind i xs x c)

-- one after the other
pub brought_next : (rows : List (Thing × Lying)) (i : ℕ) (e : Thing × Lying) (first before now : KnownRows) → drop i rows ≡ e ∷ drop (i + 1) rows
    → TellsOnly (BroughtTells first) rows (BroughtTells before) → TellsOnly (BroughtTells before) (e ∷ []) (BroughtTells now)
    → TellsOnly (BroughtTells first) rows (BroughtTells now)
brought_next rows i e first before now rest all one n row block told = ⊎_elim
    (all n row block)
    (λ its. inr (contains_behind i rows (in_block n row block)
    (subst (λ xs. Contains xs (in_block n row block)) (sym rest) (Contains-append_left (e ∷ []) (drop (i + 1) rows) (in_block n row block) its))))
    (one n row block told)

-- ---- all three

-- one of these tells so
abbrev pub PartsTell : Heap → Table → KnownRows → ObjName → Row → ℕ → Type 0
PartsTell heap foreign known n row block = OwnTells heap n row block ⊎ (HeldTells foreign n row block ⊎ BroughtTells known n row block)

module _ (heap heap' : Heap) (foreign foreign' : Table) (known known' : KnownRows) where
  -- what these tell now they told before, or it is among these
  abbrev PartsTellOnly : List (Thing × Lying) → Type 0
  PartsTellOnly more = (n : ObjName) (row : Row) (block : ℕ) → PartsTell heap' foreign' known' n row block
      → PartsTell heap foreign known n row block ⊎ Contains more (in_block n row block)

  pub tells_only : (more : List (Thing × Lying)) → OwnTellsOnly heap heap' → TellsOnly (HeldTells foreign) more (HeldTells foreign') → TellsOnly (BroughtTells known) more (BroughtTells known') → PartsTellOnly more
  tells_only more own held brought n row block (inl told) = inl (inl (own n row block told))
  tells_only more own held brought n row block (inr (inl told)) = ⊎_elim (λ before. inl (inr (inl before))) inr (held n row block told)
  tells_only more own held brought n row block (inr (inr told)) = ⊎_elim (λ before. inl (inr (inr before))) inr (brought n row block told)

  -- own objects alone tell more
  pub tells_own : (more : List (Thing × Lying)) → TellsOnly (OwnTells heap) more (OwnTells heap') → foreign' ≡ foreign → known' ≡ known → PartsTellOnly more
  tells_own more own held brought n row block (inl told) = ⊎_elim (λ before. inl (inl before)) inr (own n row block told)
  tells_own more own held brought n row block (inr told) =
      inl (inr (subst (λ t. HeldTells t n row block ⊎ BroughtTells known n row block) held (subst (λ t. HeldTells foreign' n row block ⊎ BroughtTells t n row block) brought told)))

  -- what a letter loads is held then, and the rows that it brings are known
  pub tells_taken : (load rows : List (Thing × Lying)) → OwnTellsOnly heap heap' → TellsOnly (HeldTells foreign) load (HeldTells foreign') → TellsOnly (BroughtTells known) rows (BroughtTells known')
      → PartsTellOnly (load ++ rows)
  tells_taken load rows own held brought = tells_only (load ++ rows) own
      (λ n row block told. ⊎_elim inl (λ its. inr (Contains-append_left load rows (in_block n row block) its)) (held n row block told))
      (λ n row block told. ⊎_elim inl (λ its. inr (Contains-append_right load rows (in_block n row block) its)) (brought n row block told))

  -- counts alone change, and no block
  pub tells_counted : (count count' : ℕ) (more : List (Thing × Lying)) → heap'.owner ≡ heap.owner
      → SameRows (holdings_of count' heap' foreign') (holdings_of count heap foreign) → heap'.blocks ≡ heap.blocks
      → ((x : Thing) → block_at foreign'.blocks x ≡ block_at foreign.blocks x) → known'.rows ≡ known.rows → known'.blocks ≡ known.blocks → PartsTellOnly more
  tells_counted count count' more owner rows own held brought blocks =
      tells_only more (own_counted heap heap' owner rows.own own) (held_counted foreign foreign' more rows.held held) (brought_same known known' more brought blocks)

  -- all but the room is as before
  pub tells_reserved : heap'.owner ≡ heap.owner → heap'.rows ≡ heap.rows → heap'.blocks ≡ heap.blocks → foreign'.entries ≡ foreign.entries → foreign'.blocks ≡ foreign.blocks
      → known'.rows ≡ known.rows → known'.blocks ≡ known.blocks → PartsTellOnly []
  tells_reserved owner rows own entries held brought blocks =
      tells_only [] (own_counted heap heap' owner (λ q. ap (λ t. row_in (m.get t q)) rows) own)
      (held_counted foreign foreign' [] (λ x. ap (λ t. entry_row (m.get t x)) entries) (λ x. ap (λ t. block_at t x) held)) (brought_same known known' [] brought blocks)

-- of what is told no more than before
pub told_before : {A B : Type 0} (x : Thing × Lying) → A ⊎ Contains [] x → (A → B) → B
told_before x (inl told) then = then told
told_before x (inr among) then = absurd (omega (arith, among.1))
