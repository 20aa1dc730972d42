-- The blocks of a heap's objects.
use Rattle.std.proofs.Common.{◌≡◌, ℕ, Bool, true, false, zero, suc, ◌<◌, List, [], ◌∷◌, ◌++◌, length, get_or, map, set, cond, Option, Some, None, refl, sym, ap, ◌∙◌, arith}
use Rattle.std.specs.Prelude.{T, option_and_then}
use Rattle.std.specs.List.{remove, filter}
use Rattle.std.specs.Ordering.{eq_by_cmp, nat_cmp}
use Rattle.std.specs.declared.cmp.Ordering.TheVariants.{Less, Greater}
use Rattle.std.specs.Cmp.{nat_cmp_total}
use Rattle.std.specs.FinMap as m
use Rattle.std.specs.FinMap.{nat_cmp-IsAntisymmetric}
use Rattle.std.specs.FinMap.Entries.{is_sorted}
use Rattle.std.proofs.lemmas.Bool.{eq-eqb}
use Rattle.std.proofs.lemmas.List.{length-map}
use Rattle.std.proofs.lemmas.List.Edits.{insert_end}
use Rattle.orca_names.specs.declared.names.ObjName.{ObjName}
use Rattle.plain_list.specs.Rising.{IsAt, IsGap}
use Rattle.plain_list.proofs.Rising.{item_at, item_filter, item_get, item_insert, item_len, item_remove, get_gap, item_entry, mapped_at, same_rise, value_at_place}
use Rattle.object_heap.specs.Entry.{Own, block_of, pair_of}
use Rattle.object_heap.specs.Free.{stays}
use Rattle.letter_kinds.specs.Holdings.{Row}
use Rattle.object_heap.specs.Heap.{AllHere, AreOwn, Blocks, Heap, add_blocks, block_at, blocks_in, own_block, with_new}
use Rattle.object_heap.proofs.Entries.{gap}

same_keys : (es : List Own) → map (λ e. e.0) (map pair_of es) ≡ map (λ e. e.0) (map block_of es)
same_keys [] = refl
same_keys (e ∷ es) = ap (λ ks. e.serial ∷ ks) (same_keys es)

pub rise : (es : List Own) → T (is_sorted nat_cmp (map pair_of es)) → T (is_sorted nat_cmp (map block_of es))
rise es h = same_rise nat_cmp (map pair_of es) (map block_of es) (same_keys es) h

-- what is told of a key by one map is told by the other
module _ (es : List Own) (P : ℕ → Type 0) (j : ℕ) (l : j < length es) where
  by_key : ((d : _) → P (get_or (map pair_of es) j d).0) → (d : _) → P (get_or (map block_of es) j d).0
  by_key h d =
      mapped_at nat_cmp_total nat_cmp-IsAntisymmetric block_of (λ e. P e.0) es j d l
      (λ a. item_at nat_cmp_total nat_cmp-IsAntisymmetric pair_of (λ e. P e.0) es j a l h)

pub at_block : (es : List Own) (k i : ℕ) → IsAt nat_cmp (map pair_of es) k i → IsAt nat_cmp (map block_of es) k i
at_block es k i p =
    let long = length-map es pair_of in
    let same = length-map es block_of in record {
      in_range = omega (arith, p.in_range);
      has_key = by_key es (λ q. q ≡ k) i (omega (arith, p.in_range)) p.has_key;
      before = λ j d l. by_key es (λ q. nat_cmp k q ≡ Greater) j (omega (arith, p.in_range)) (λ d. p.before j d l) d;
      after = λ j d l n. by_key es (λ q. nat_cmp k q ≡ Less) j (omega arith) (λ d. p.after j d l (omega arith)) d;
    }

gap_block : (es : List Own) (k i : ℕ) → IsGap nat_cmp (map pair_of es) k i → IsGap nat_cmp (map block_of es) k i
gap_block es k i p =
    let long = length-map es pair_of in
    let same = length-map es block_of in record {
      in_range = omega (arith, p.in_range);
      before = λ j d l. by_key es (λ q. nat_cmp k q ≡ Greater) j (omega (arith, p.in_range)) (λ d. p.before j d l) d;
      after = λ j d l n. by_key es (λ q. nat_cmp k q ≡ Less) j (omega arith) (λ d. p.after j d l (omega arith)) d;
    }

module _ (next : ℕ) (es : List Own) (h : AreOwn next es) where
  pub block_here : (k i : ℕ) (e : Own) → IsAt nat_cmp (map pair_of es) k i → e ≡ get_or es i e
      → m.get (blocks_in es) k ≡ Some (e.block)
  block_here k i e p is =
      item_get nat_cmp_total nat_cmp-IsAntisymmetric block_of es (rise es h.sorted) k i e (at_block es k i p) is

  pub block_there : (i : ℕ) (e : Own) → i < length es → e ≡ get_or es i e
      → m.get (blocks_in es) e.serial ≡ Some (e.block)
  block_there i e l is = value_at_place nat_cmp_total (blocks_in es) i (block_of e)
      (item_entry nat_cmp_total nat_cmp-IsAntisymmetric block_of es (rise es h.sorted) i e l is)

  pub no_block : (k i : ℕ) → IsGap nat_cmp (map pair_of es) k i → m.get (blocks_in es) k ≡ None
  no_block k i p =
      get_gap nat_cmp_total nat_cmp-IsAntisymmetric (map block_of es) (rise es h.sorted) k i (gap_block es k i p)

  pub less_blocks : (k i : ℕ) → IsAt nat_cmp (map pair_of es) k i → blocks_in (remove es i) ≡ m.remove (blocks_in es) k
  less_blocks k i p =
      (item_remove nat_cmp_total nat_cmp-IsAntisymmetric block_of es (rise es h.sorted) k i (at_block es k i p)).1

  pub made_blocks : (own : Own) → own.serial ≡ next
      → blocks_in (es ++ own ∷ []) ≡ m.insert (blocks_in es) next (own.block)
  made_blocks own new =
      ap blocks_in (sym (insert_end es own))
      ∙ (item_insert nat_cmp_total nat_cmp-IsAntisymmetric block_of es (rise es h.sorted) next (length es) own
      (gap_block es next (length es) (gap next es own h new)) new).1

  pub stay_blocks : (gone : List ObjName) (left : List Own) → left ≡ filter (λ (e : Own). stays gone e.serial) es
      → blocks_in left ≡ m.retain_keys (blocks_in es) (stays gone)
  stay_blocks gone left is =
      ap blocks_in is
      ∙ (item_filter nat_cmp_total nat_cmp-IsAntisymmetric block_of es (rise es h.sorted) (stays gone)).1

-- where serial and row stay, so do the blocks
pub counted_blocks : (es : List Own) (i : ℕ) (e y : Own) → e ≡ get_or es i e → y.serial ≡ e.serial → y.block ≡ e.block
    → blocks_in (set es i y) ≡ blocks_in es
counted_blocks es i e y is serial block = ap m.from_sorted (pairs es i is)
  where
    pairs : (es : List Own) (i : ℕ) → e ≡ get_or es i e → map block_of (set es i y) ≡ map block_of es
    pairs [] i is = refl
    pairs (x ∷ xs) zero is =
        ap (λ b. b ∷ map block_of xs) ((λ j. (serial j, block j)) ∙ ap block_of is)
    pairs (x ∷ xs) (suc i) is = ap (λ bs. block_of x ∷ bs) (pairs xs i is)

pub no_blocks : (es : List Own) → es ≡ [] → blocks_in es ≡ m.empty
no_blocks es e =
    ap blocks_in e
    ∙ m.empty_of_len (blocks_in []) (item_len nat_cmp_total nat_cmp-IsAntisymmetric block_of [] tt)

-- one new object
pub add_one_block : (next : ℕ) (block : Option ℕ) (all : Blocks) → m.insert all next block ≡ add_blocks next (block ∷ []) all
unfolding add_blocks
add_one_block next block all = refl

-- ---- the block of a name

pub own_block_here : (h : Heap) (n : ObjName) (blocks : Blocks) (o : Option ℕ) → blocks ≡ h.blocks
    → n.owner ≡ h.owner → o ≡ block_at blocks n.serial → o ≡ own_block h n
own_block_here h n blocks o same owner e =
    e ∙ ap (λ all. block_at all n.serial) same
    ∙ sym (ap (λ b. cond b (block_at h.blocks n.serial) None) (eq-eqb n.owner h.owner owner))

-- ---- where no row lies in a block

here_or : (b : Bool) (o : Option (Option ℕ)) → option_and_then (λ p. p) o ≡ None → option_and_then (λ p. p) (cond b (Some None) o) ≡ None
here_or true o none = refl
here_or false o none = none

-- none does once a row at hand is added
pub made_here : (row : Row) (h : Heap) → AllHere h → AllHere (with_new (row ∷ []) (None ∷ []) h)
unfolding add_blocks
made_here row h here = λ q.
    ap (option_and_then (λ p. p)) (m.get-insert nat_cmp_total h.blocks h.next None q)
    ∙ here_or (eq_by_cmp nat_cmp q h.next) (m.get h.blocks q) (here q)
