-- Letters that tell of no row that it lies in a block.
use Rattle.std.proofs.Common.{◌≡◌, ◌<◌, ℕ, List, Option, Some, None, IsSome, get_or, length, refl, sym, ap, subst, ◌∙◌}
use Rattle.std.specs.Prelude.{Contains, slice_get}
use Rattle.std.proofs.lemmas.List.Elements.{Contains-append_right}
use Rattle.std.proofs.lemmas.Option.{get_or_from_slice_get}
use Rattle.orca_names.specs.declared.names.ObjName.{ObjName}
use Rattle.orca_names.specs.declared.names.Thing.{Thing}
use Rattle.orca_names.specs.declared.names.Thing.TheVariants.{Actor, Obj}
use Rattle.row_store.specs.Told.{Lying, lies_as, told_block, told_row}
use Rattle.row_store.specs.declared.told.Told.{Told}
use Rattle.row_store.specs.declared.told.Told.TheVariants.{Nothing, Here, In}
use Rattle.letter_kinds.specs.Holdings.{Row}
use Rattle.letter_kinds.specs.Load.{AreKnown}
use Rattle.letter_kinds.specs.Telling as telling
use Rattle.letter_kinds.specs.Telling.{Brought, TellsNothing, ToldByOne, all_brought, in_block, nothing_brought}

-- what such a load tells of a thing lies in no block
pub told_at_hand : (memory : ObjName → Option Row) (load : List (Thing × Lying)) (i : ℕ) (x : Thing) (told : Told) → i < length load
    → lies_as memory (x, told) ≡ get_or load i (lies_as memory (x, told)) → AreKnown load → TellsNothing (telling.Told load) → told_block told ≡ None
told_at_hand memory load i x Nothing within seen known nothing = refl
told_at_hand memory load i x (Here row) within seen known nothing = refl
told_at_hand memory load i (Actor a) (In block) within seen known nothing =
    absurd (none_known memory a (subst (λ (e : Thing × Lying). IsSome e.1.block → IsSome e.1.row) (sym seen) (known i (lies_as memory (Actor a, In block)) within) refl))
  where
    none_known : (rows : ObjName → Option Row) (b : ℕ) → IsSome (told_row rows (Actor b) (In block)) → ⊥
    none_known rows b some = cc
told_at_hand memory load i (Obj n) (In block) within seen known nothing = by (memory n) refl
  where
    its : IsSome (memory n)
    its = subst (λ (e : Thing × Lying). IsSome e.1.block → IsSome e.1.row) (sym seen) (known i (lies_as memory (Obj n, In block)) within) refl

    by : (o : Option Row) → memory n ≡ o → told_block (In block) ≡ None
    by None is = let none : IsSome {T = Row} None = subst IsSome is its in cc
    by (Some row) is =
        let same : lies_as memory (Obj n, In block) ≡ in_block n row block = λ j. (Obj n, record { row = is j; block = Some block }) in
        absurd (nothing n row block (i, within, subst (λ (e : Thing × Lying). get_or load i e ≡ e) same (sym seen)))

-- such a letter brings only such rows
pub brings_none : (b : Brought) → TellsNothing (telling.Told (all_brought b)) → TellsNothing (telling.Told b.rows)
brings_none b nothing n row block told = nothing n row block (Contains-append_right b.load b.rows (in_block n row block) told)

-- and is one of those that wait
pub waits_untold : (letters : List Brought) (i : ℕ) (b : Brought) → TellsNothing (ToldByOne letters) → slice_get letters i ≡ Some b → TellsNothing (telling.Told (all_brought b))
waits_untold letters i b nothing is n row block told =
    nothing n row block (i, subst (λ (l : Brought). telling.Told (all_brought l) n row block) (sym (get_or_from_slice_get letters i b nothing_brought is)) told)
