-- A load of one thing.
use Rattle.std.proofs.Common.{◌≡◌, ℕ, zero, suc, ◌-◌, Bool, true, false, cond, Option, None, Some, IsSome, List, [], ◌∷◌, refl, sym, subst, ◌∙◌, arith}
use Rattle.std.specs.Prelude.{◌==◌, ◌&&◌, nat_le, slice_get}
use Rattle.std.proofs.lemmas.List.Elements.{All-cons, All-nil}
use Rattle.std.proofs.lemmas.List.Sums.{sum_by-cons}
use Rattle.orca_names.specs.declared.names.ObjName.{ObjName}
use Rattle.orca_names.specs.declared.names.Thing.{Thing}
use Rattle.orca_names.specs.declared.names.Thing.TheVariants.{Actor, Obj}
use Rattle.orca_names.specs.declared.names.Value.{Value}
use Rattle.row_store.specs.Told.{Lying, lies_as, lie_as, row_here, told_block, told_row}
use Rattle.row_store.specs.declared.told.Told.{Told}
use Rattle.letter_kinds.specs.Load.{AreKnown, HasGiven, HaveGiven, given_to}
use Rattle.foreign_table.specs.Table.{length_aside, row_length}
use Rattle.trace_send.specs.Room.{values_of}
use Rattle.trace_send.proofs.Steps.{values_aside}

module _ (rows : ObjName → Option (List Value)) (x : Thing) (told : Told) where
  -- no row is asked for where none lies in a block
  pub none_asked : told_block told ≡ None → IsSome (told_block told) → IsSome (told_row rows x told)
  none_asked none some = let is = subst IsSome none some in cc

  -- its row is known where that lies in a block
  pub one_known : (IsSome (told_block told) → IsSome (told_row rows x told)) → AreKnown (lie_as rows ((x, told) ∷ []))
  one_known known = All-cons (λ (e : Thing × Lying). IsSome e.1.block → IsSome e.1.row) (lies_as rows (x, told)) [] known (All-nil (λ (e : Thing × Lying). IsSome e.1.block → IsSome e.1.row))

  -- it takes the room of its row, where that is at hand
  pub one_aside : values_of (lies_as rows (x, told) ∷ []) ≡ row_length (row_here told)
  one_aside =
      let sum = sum_by-cons (λ (e : Thing × Lying). length_aside e.1.row e.1.block) (lies_as rows (x, told)) [] in
      let aside = values_aside rows x told in
      omega (arith, sum, aside)

-- what gets the first of one row gets that
first_given : (owner : ℕ) (row : List Value) (x : Thing) → IsSome (given_to owner 0 (row ∷ []) x) → given_to owner 0 (row ∷ []) x ≡ Some row
first_given owner row (Actor a) some = cc
first_given owner row (Obj n) some = by ((n.owner == owner) && nat_le 0 n.serial) (n.serial - 0) some
  where
    by : (t : Bool) (i : ℕ) → IsSome (cond t (slice_get (row ∷ []) i) None) → cond t (slice_get (row ∷ []) i) None ≡ Some row
    by true zero some = refl
    by true (suc i) some = cc
    by false i some = cc

-- a load of one thing with its row
pub one_given : (owner : ℕ) (row : List Value) (e : Thing × Lying) → e.1.row ≡ Some row → HaveGiven owner 0 (row ∷ []) (e ∷ [])
one_given owner row e is =
    All-cons (HasGiven owner 0 (row ∷ [])) e [] (λ some. is ∙ sym (first_given owner row e.0 some)) (All-nil (HasGiven owner 0 (row ∷ [])))
