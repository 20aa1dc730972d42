-- Things and rows as data.
use Rattle.std.specs.Prelude.{◌≡◌, ℕ, ◌⊎◌, List, Option, Some, None, refl}
use mathlib.Core.Logic.{inl, inr}
use Rattle.std.specs.Coded.{Coded, code_by, coded×, coded⊎, coded_ℕ, coded_list, coded_option}
use Rattle.orca_names.specs.declared.names.ObjName.{ObjName}
use Rattle.orca_names.specs.declared.names.Thing.{Thing}
use Rattle.orca_names.specs.declared.names.Thing.TheVariants as things
use Rattle.orca_names.specs.declared.names.Value.{Value}
use Rattle.orca_names.specs.declared.names.Value.TheVariants.{Null, Num, Actor, Obj}

abbrev pub coded_object : Coded ObjName
coded_object = code_by (ℕ × ℕ) (coded× coded_ℕ coded_ℕ) (λ n. (n.owner, n.serial)) (λ p. record { owner = p.0; serial = p.1 }) (λ _. refl)

abbrev to_thing : Thing → ℕ ⊎ ObjName
to_thing (things.Actor a) = inl a
to_thing (things.Obj n) = inr n

abbrev from_thing : ℕ ⊎ ObjName → Thing
from_thing (inl a) = things.Actor a
from_thing (inr n) = things.Obj n

pub thing_back : (x : Thing) → from_thing (to_thing x) ≡ x
thing_back (things.Actor a) = refl
thing_back (things.Obj n) = refl

abbrev pub coded_thing : Coded Thing
coded_thing = code_by (ℕ ⊎ ObjName) (coded⊎ coded_ℕ coded_object) to_thing from_thing thing_back

abbrev to_value : Value → Option (ℕ ⊎ (ℕ ⊎ ObjName))
to_value Null = None
to_value (Num n) = Some (inl n)
to_value (Actor a) = Some (inr (inl a))
to_value (Obj n) = Some (inr (inr n))

abbrev from_value : Option (ℕ ⊎ (ℕ ⊎ ObjName)) → Value
from_value None = Null
from_value (Some (inl n)) = Num n
from_value (Some (inr (inl a))) = Actor a
from_value (Some (inr (inr n))) = Obj n

pub value_back : (v : Value) → from_value (to_value v) ≡ v
value_back Null = refl
value_back (Num n) = refl
value_back (Actor a) = refl
value_back (Obj n) = refl

abbrev pub coded_value : Coded Value
coded_value = code_by (Option (ℕ ⊎ (ℕ ⊎ ObjName))) (coded_option (coded⊎ coded_ℕ (coded⊎ coded_ℕ coded_object))) to_value from_value value_back

abbrev pub coded_row : Coded (List Value)
coded_row = coded_list coded_value
