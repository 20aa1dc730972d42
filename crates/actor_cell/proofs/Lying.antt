-- That the rows of own objects stay in blocks.
use Rattle.std.proofs.Common.{arith, drop, ◌≤◌, ◌≡◌, ℕ, suc, Equal, Bool, true, false, cond, List, [], ◌∷◌, Option, Some, None, IsSome, length, true≢false, refl, sym, ap, subst, ◌∙◌}
use Rattle.std.specs.Prelude.{option_and_then}
use Rattle.std.specs.List.{All}
use Rattle.std.specs.Cmp.{nat_cmp_total}
use Rattle.std.specs.FinMap as m
use Rattle.std.specs.FinMap.{nat_cmp-IsAntisymmetric}
use Rattle.std.specs.Ordering.{eq_by_cmp, nat_cmp}
use Rattle.std.proofs.lemmas.List.Elements.{All-cons, All-head, All-tail}
use Rattle.letter_kinds.specs.Holdings.{OwnRows, Row, add_rows}
use Rattle.orca_names.specs.declared.names.ObjName.{ObjName}
use Rattle.object_heap.specs.Free.{freed, stays}
use Rattle.object_heap.specs.Heap.{Blocks, Heap, add_blocks, block_at, with_new}
use Rattle.actor_cell.specs.Tells.{AllIn, blocks_for}
use Rattle.actor_cell.proofs.Tells.{row_in}

-- each of these rows lies in one of these blocks
abbrev LieIn : OwnRows → Blocks → Type 0
LieIn rows blocks = (q : ℕ) → IsSome (m.get rows q) → IsSome (block_at blocks q)

-- no object is there
pub lie_none : (h : Heap) → h.rows ≡ m.empty → AllIn h
lie_none h none q there =
    absurd (true≢false (sym (subst IsSome (ap (λ (rows : OwnRows). m.get rows q) none ∙ m.get-empty nat_cmp q) there)))

-- an object is there where its row is
there_with : (o p : Option (Row × ℕ)) → row_in o ≡ row_in p → IsSome o → IsSome p
there_with (Some e) None is some = cc
there_with None None is some = some
there_with o (Some e) is some = refl

-- rows and blocks are as before
pub lie_counted : (old new : Heap) → ((q : ℕ) → row_in (m.get new.rows q) ≡ row_in (m.get old.rows q))
    → new.blocks ≡ old.blocks → AllIn old → AllIn new
lie_counted old new rows blocks all q there =
    subst (λ bs. IsSome (block_at bs q)) (sym blocks) (all q (there_with (m.get new.rows q) (m.get old.rows q) (rows q) there))

-- some are freed
stay_in : (rows : OwnRows) (blocks : Blocks) (p : ℕ → Bool) → LieIn rows blocks → LieIn (m.retain_keys rows p) (m.retain_keys blocks p)
stay_in rows blocks p all q there =
    subst (λ o. IsSome (option_and_then (λ b. b) o)) (sym (m.get-retain_keys blocks p q same))
    (by (p q) (subst IsSome (m.get-retain_keys rows p q same) there))
  where
    same : (x : ℕ) → nat_cmp q x ≡ Equal → p x ≡ p q
    same x e = ap p (sym (nat_cmp-IsAntisymmetric q x e))

    by : (t : Bool) → IsSome (cond t (m.get rows q) None) → IsSome (option_and_then (λ b. b) (cond t (m.get blocks q) None))
    by true its = all q its
    by false its = cc

pub lie_freed : (gone : List ObjName) (old new : Heap) → new ≡ freed gone old → AllIn old → AllIn new
lie_freed gone old new is all = subst AllIn (sym is) (stay_in old.rows old.blocks (stays gone) all)

-- one more lies in a block
put_in : (rows : OwnRows) (blocks : Blocks) (k : ℕ) (e : Row × ℕ) (block : Option ℕ) → IsSome block → LieIn rows blocks → LieIn (m.insert rows k e) (m.insert blocks k block)
put_in rows blocks k e block some all q there =
    subst (λ o. IsSome (option_and_then (λ b. b) o)) (sym (m.get-insert nat_cmp_total blocks k block q))
    (by (eq_by_cmp nat_cmp q k) (subst IsSome (m.get-insert nat_cmp_total rows k e q) there))
  where
    by : (t : Bool) → IsSome (cond t (Some e) (m.get rows q)) → IsSome (option_and_then (λ b. b) (cond t (Some block) (m.get blocks q)))
    by true its = some
    by false its = all q its

-- as many rows more as these blocks, each in one
made_in : (made : List Row) (places : List (Option ℕ)) (next : ℕ) (rows : OwnRows) (blocks : Blocks) → length places ≡ length made → All IsSome places
    → LieIn rows blocks → LieIn (add_rows next made rows) (add_blocks next places blocks)
unfolding add_rows add_blocks
made_in [] [] next rows blocks many some all = all
made_in [] (b ∷ places) next rows blocks many some all = cc
made_in (r ∷ made) [] next rows blocks many some all = cc
made_in (r ∷ made) (b ∷ places) next rows blocks many some all =
    let fewer : length places ≡ length made = cc in
    made_in made places (suc next) (m.insert rows next (r, 0)) (m.insert blocks next b) fewer (All-tail IsSome b places some)
    (put_in rows blocks next (r, 0) b (All-head IsSome b places some) all)

lie_made : (made : List Row) (places : List (Option ℕ)) (h : Heap) → length places ≡ length made → All IsSome places → AllIn h → AllIn (with_new made places h)
lie_made made places h many some all = made_in made places h.next h.rows h.blocks many some all

-- each of these rows gets a block, where there are enough
blocks_given : (made : List Row) (given : List ℕ) → length made ≤ length given → All IsSome (blocks_for made given)
blocks_given [] given enough = λ i d l. absurd (omega (arith, l))
blocks_given (r ∷ made) [] enough = absurd (omega (arith, enough))
blocks_given (r ∷ made) (b ∷ given) enough = All-cons IsSome (Some b) (blocks_for made given) refl (blocks_given made given (omega (arith, enough)))

as_many : (made : List Row) (given : List ℕ) → length (blocks_for made given) ≡ length made
as_many [] given = refl
as_many (r ∷ made) given = ap suc (as_many made (drop 1 given))

pub lie_placed : (made : List Row) (given : List ℕ) (old new : Heap) → new ≡ with_new made (blocks_for made given) old → length made ≤ length given
    → AllIn old → AllIn new
lie_placed made given old new is enough all =
    subst AllIn (sym is) (lie_made made (blocks_for made given) old (as_many made given) (blocks_given made given enough) all)
