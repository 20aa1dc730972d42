-- What one object alone has.
use Rattle.std.specs.Prelude.{◌≡◌, ◌==◌, ◌&&◌, if◌then◌else◌, Bool, true, false, [], ◌∷◌, Option, Some, None, Contains, refl}
use Rattle.std.proofs.Common.{sym, eqb-true}
use Rattle.std.proofs.lemmas.Option.{slice_get_within}
use Rattle.orca_names.specs.declared.names.ObjName.{ObjName}

-- object 2 of actor 0
abbrev pub the_one : ObjName
the_one = record { owner = 0; serial = 2 }

-- it has this, and no other has any
abbrev pub one_has : {A : Type 0} → A → ObjName → Option A
one_has a n = if (n.owner == 0) && (n.serial == 2) then Some a else None

-- so what has any is listed
pub one_listed : {A : Type 0} (a x : A) (n : ObjName) → one_has a n ≡ Some x
    → Contains (the_one ∷ []) n
one_listed {A} a x n e = by (n.owner == 0) (n.serial == 2) refl refl e
  where
    by : (b d : Bool) → (n.owner == 0) ≡ b → (n.serial == 2) ≡ d
        → (if b && d then Some a else None) ≡ Some x → Contains (the_one ∷ []) n
    by true true mine its h = (
      0,
      slice_get_within (the_one ∷ []) 0 the_one refl,
      λ i. record {
        owner = sym (eqb-true n.owner 0 mine) i;
        serial = sym (eqb-true n.serial 2 its) i;
      },
    )
    by true false mine its h = cc
    by false true mine its h = cc
    by false false mine its h = cc

-- and has this
pub one_has_it : {A : Type 0} (a x : A) (n : ObjName) → one_has a n ≡ Some x → a ≡ x
one_has_it {A} a x n e = by (n.owner == 0) (n.serial == 2) e
  where
    by : (b d : Bool) → (if b && d then Some a else None) ≡ Some x → a ≡ x
    by true true h = cc
    by true false h = cc
    by false true h = cc
    by false false h = cc
