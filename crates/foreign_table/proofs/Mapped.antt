-- Maps whose values are mapped.
use Rattle.std.proofs.Common.{◌≡◌, ◌≢◌, Bool, true, false, cond, List, [], ◌∷◌, length, map, Option, Some, None, refl, sym, ap, ◌∙◌}
use Rattle.std.specs.Prelude.{T, is_some, option_map}
use Rattle.std.specs.Cmp.{eq_by_cmp_equiv}
use Rattle.std.specs.declared.cmp.Ordering.TheVariants.{Equal}
use Rattle.std.specs.FinMap as m
use Rattle.std.specs.FinMap.Entries.{find, is_sorted}
use Rattle.std.proofs.lemmas.Bool.{false≢true}
use Rattle.std.proofs.lemmas.List.{length-map}
use Rattle.plain_list.proofs.Rising.{same_rise}
use Rattle.orca_names.specs.Names.{is_thing, thing_cmp}
use Rattle.orca_names.specs.declared.names.Thing.{Thing}
use Rattle.orca_names.proofs.ThingOrder.{is_same, thing_exact, thing_total}
use Rattle.foreign_table.specs.Mapped.{mapped}

same_keys : {X Y : Type 0} (f : Thing → X → Y) (es : List (Thing × X)) → map (λ (e : Thing × X). e.0) es ≡ map (λ (e : Thing × Y). e.0) (map (λ (e : Thing × X). (e.0, f e.0 e.1)) es)
same_keys f [] = refl
same_keys f (e ∷ es) = ap (λ ks. e.0 ∷ ks) (same_keys f es)

found_here : {X Y : Type 0} (f : Thing → X → Y) (q x : Thing) (v : X) (b : Bool) (o : Option Y) (p : Option X)
    → (b ≡ true → q ≡ x) → (o ≡ option_map (f q) p) → cond b (Some (f x v)) o ≡ option_map (f q) (cond b (Some v) p)
found_here f q x v true o p same rest = λ j. Some (f (sym (same refl) j) v)
found_here f q x v false o p same rest = rest

pub find-mapped : {X Y : Type 0} (f : Thing → X → Y) (q : Thing) (es : List (Thing × X)) → find thing_cmp q (map (λ (e : Thing × X). (e.0, f e.0 e.1)) es) ≡ option_map (f q) (find thing_cmp q es)
find-mapped f q [] = refl
find-mapped f q (e ∷ es) = found_here f q e.0 e.1 (is_thing q e.0) _ _ (is_same q e.0) (find-mapped f q es)

module _ {X Y : Type 0} (f : Thing → X → Y) (t : m.FinMap thing_cmp X) where
  rise : T (is_sorted thing_cmp (map (λ (e : Thing × X). (e.0, f e.0 e.1)) (m.entries t)))
  rise = same_rise thing_cmp (m.entries t) (map (λ (e : Thing × X). (e.0, f e.0 e.1)) (m.entries t)) (same_keys f (m.entries t)) (m.entries_sorted t)

  pub entries-mapped : m.entries (mapped f t) ≡ map (λ (e : Thing × X). (e.0, f e.0 e.1)) (m.entries t)
  entries-mapped = m.entries-from_sorted thing_cmp (map (λ (e : Thing × X). (e.0, f e.0 e.1)) (m.entries t)) rise

  pub get-mapped : (q : Thing) → m.get (mapped f t) q ≡ option_map (f q) (m.get t q)
  get-mapped q =
      m.get-from_sorted thing_cmp (map (λ (e : Thing × X). (e.0, f e.0 e.1)) (m.entries t)) q rise
      ∙ find-mapped f q (m.entries t) ∙ ap (option_map (f q)) (sym (m.get-entries t q))

  pub keys-mapped : m.keys (mapped f t) ≡ m.keys t
  keys-mapped = ap (map (λ e. e.0)) entries-mapped ∙ sym (same_keys f (m.entries t))

  pub len-mapped : m.len (mapped f t) ≡ m.len t
  len-mapped = m.len-entries (mapped f t) ∙ ap length entries-mapped ∙ length-map (m.entries t) (λ (e : Thing × X). (e.0, f e.0 e.1)) ∙ sym (m.len-entries t)

  there : (q : Thing) (o : Option X) → is_some (option_map (f q) o) ≡ is_some o
  there q None = refl
  there q (Some v) = refl

  pub some-mapped : (q : Thing) → is_some (m.get (mapped f t) q) ≡ is_some (m.get t q)
  some-mapped q = ap is_some (get-mapped q) ∙ there q (m.get t q)

-- what is tied is one
pub alike : (p : Thing → Bool) (q x : Thing) → thing_cmp q x ≡ Equal → p x ≡ p q
alike p q x e = ap p (sym (thing_exact q x e))

-- those that are kept, mapped before or after
pub mapped-kept : {X Y : Type 0} (f : Thing → X → Y) (t : m.FinMap thing_cmp X) (p : Thing → Bool) → mapped f (m.retain_keys t p) ≡ m.retain_keys (mapped f t) p
mapped-kept f t p = m.same_map thing_total thing_exact _ _ (λ q.
    get-mapped f (m.retain_keys t p) q ∙ ap (option_map (f q)) (m.get-retain_keys t p q (alike p q)) ∙ passed (p q) q (m.get t q)
    ∙ ap (λ o. cond (p q) o None) (sym (get-mapped f t q)) ∙ sym (m.get-retain_keys (mapped f t) p q (alike p q)))
  where
    passed : (b : Bool) (q : Thing) (o : Option _) → option_map (f q) (cond b o None) ≡ cond b (option_map (f q) o) None
    passed true q o = refl
    passed false q o = refl

-- one less, mapped before or after
pub mapped-remove : {X Y : Type 0} (f : Thing → X → Y) (t : m.FinMap thing_cmp X) (x : Thing) → mapped f (m.remove t x) ≡ m.remove (mapped f t) x
mapped-remove f t x = m.same_map thing_total thing_exact _ _ (λ q.
    get-mapped f (m.remove t x) q ∙ ap (option_map (f q)) (m.get-remove thing_total t x q) ∙ gone (is_thing q x) q (m.get t q)
    ∙ ap (λ o. cond (is_thing q x) None o) (sym (get-mapped f t q)) ∙ sym (m.get-remove thing_total (mapped f t) x q))
  where
    gone : (b : Bool) (q : Thing) (o : Option _) → option_map (f q) (cond b None o) ≡ cond b None (option_map (f q) o)
    gone true q o = refl
    gone false q o = refl

-- one more, mapped before by one function or after by another that makes the same of all others
pub mapped-more : {X Y : Type 0} (f g : Thing → X → Y) (t : m.FinMap thing_cmp X) (x : Thing) (v : X) → ((q : Thing) → q ≢ x → (w : X) → g q w ≡ f q w) → mapped g (m.insert t x v) ≡ m.insert (mapped f t) x (g x v)
mapped-more {X} {Y} f g t x v same = m.same_map thing_total thing_exact _ _ (λ q.
    get-mapped g (m.insert t x v) q ∙ ap (option_map (g q)) (m.get-insert thing_total t x v q) ∙ put_in (is_thing q x) q (is_same q x) (λ other e. false≢true (sym other ∙ ap (λ y. is_thing q y) (sym e) ∙ itself q)) (m.get t q)
    ∙ ap (λ o. cond (is_thing q x) (Some (g x v)) o) (sym (get-mapped f t q)) ∙ sym (m.get-insert thing_total (mapped f t) x (g x v) q))
  where
    itself : (q : Thing) → is_thing q q ≡ true
    itself q = (eq_by_cmp_equiv thing_total).refl q

    each : (q : Thing) → q ≢ x → (o : Option X) → option_map (g q) o ≡ option_map (f q) o
    each q apart None = refl
    each q apart (Some w) = ap Some (same q apart w)

    put_in : (b : Bool) (q : Thing) → (b ≡ true → q ≡ x) → (b ≡ false → q ≢ x) → (o : Option X) → option_map (g q) (cond b (Some v) o) ≡ cond b (Some (g x v)) (option_map (f q) o)
    put_in true q same_one other o = λ j. Some (g (same_one refl j) v)
    put_in false q same_one other o = each q (other refl) o

pub mapped-insert : {X Y : Type 0} (f : Thing → X → Y) (t : m.FinMap thing_cmp X) (x : Thing) (v : X) → mapped f (m.insert t x v) ≡ m.insert (mapped f t) x (f x v)
mapped-insert f t x v = mapped-more f f t x v (λ q apart w. refl)

-- of no entries no entries
pub mapped-empty : {X Y : Type 0} (f : Thing → X → Y) → mapped f m.empty ≡ m.empty
mapped-empty f = m.same_map thing_total thing_exact _ _ (λ q. get-mapped f m.empty q ∙ ap (option_map (f q)) (m.get-empty thing_cmp q) ∙ sym (m.get-empty thing_cmp q))

-- what is there already
pub insert_same : {X : Type 0} (t : m.FinMap thing_cmp X) (x : Thing) (v : X) → m.get t x ≡ Some v → m.insert t x v ≡ t
insert_same {X} t x v there = m.same_map thing_total thing_exact _ _ (λ q. m.get-insert thing_total t x v q ∙ either (is_thing q x) q (is_same q x))
  where
    either : (b : Bool) (q : Thing) → (b ≡ true → q ≡ x) → cond b (Some v) (m.get t q) ≡ m.get t q
    either true q same_one = sym there ∙ ap (m.get t) (sym (same_one refl))
    either false q same_one = refl
