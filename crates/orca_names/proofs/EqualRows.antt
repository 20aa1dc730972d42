-- Rows that `==` finds equal are one.
use Rattle.std.proofs.Common.{◌≡◌, ◌-◌, Bool, true, false, ◌&&◌, eqb, List, length, take, replicate, refl, sym, subst, ◌∙◌, rules}
use Rattle.std.specs.Bool.{Decides}
use Rattle.std.proofs.Math.Seq.{take-append_seam}
use Rattle.std.proofs.lemmas.Bool.{eq-eqb, eqb-true}
use Rattle.std.proofs.lemmas.Slice.Eq.{slice_eq-Decides}
use Rattle.std.specs.Cmp.Lexicographic.{pointwise}
use Rattle.orca_names.specs.declared.names.Value.{Value}
use Rattle.orca_names.specs.declared.names.Value.TheVariants.{Null}
use Rattle.orca_names.specs.contracts.names.ValuePartialEq.TheImpl.{eq-value as value_eq}
use Rattle.orca_names.specs.contracts.row.ArgsPartialEq.TheImpl.{eq-value as args_eq}
use Rattle.orca_names.specs.contracts.row.RowPartialEq.TheImpl.{eq-value as row_eq}
use Rattle.orca_names.specs.Places.{padded}

both : (p q : Bool) → p && q ≡ true → (p ≡ true) × (q ≡ true)
both true q e = (refl, e)
both false q e = cc

values : (xs ys : List Value) → Decides (pointwise value_eq.it xs ys) (xs ≡ ys)
values xs ys = slice_eq-Decides {A = Value} {E = value_eq.it} (λ a b. search rules) xs ys _ refl

-- the places and their number tell the values
pub args_eq-Decides : (a b : List Value) → Decides (args_eq.it a b) (a ≡ b)
args_eq-Decides a b = (
  λ h.
      let tests = both (pointwise value_eq.it (padded a) (padded b)) (eqb (length a) (length b)) h in
      let places = (values (padded a) (padded b)).0 tests.0 in
      let used = eqb-true (length a) (length b) tests.1 in
      sym (take-append_seam a (replicate (8 - length a) Null)) ∙ (λ i. take (used i) (places i)) ∙ take-append_seam b (replicate (8 - length b) Null),
  λ e. subst (λ c. args_eq.it a c ≡ true) e (λ i. (values (padded a) (padded a)).1 refl i && eq-eqb (length a) (length a) refl i),
)

pub row_eq-Decides : (a b : List Value) → Decides (row_eq.it a b) (a ≡ b)
row_eq-Decides a b = args_eq-Decides a b
