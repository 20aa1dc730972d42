-- The order of things is total, and tells things apart.
use Rattle.std.proofs.Common.{◌≡◌, ◌≢◌, ◌⊎◌, inl, inr, Bool, true, false, Option, Some, None, ℕ, refl, ap, sym, ◌∙◌}
use Rattle.std.specs.Ordering.{nat_cmp, ordering_then, is_eq}
use Rattle.std.specs.Option.{option_cmp}
use Rattle.std.specs.declared.cmp.Ordering.{Ordering}
use Rattle.std.specs.declared.cmp.Ordering.TheVariants.{Less, Equal, Greater}
use Rattle.std.specs.Cmp.{IsTotalOrder, on_total, then_total, nat_cmp_total, ranked}
use Rattle.std.specs.Cmp.Lexicographic.{options_total}
use Rattle.std.specs.FinMap.{IsAntisymmetric}
use Rattle.std.proofs.lemmas.Cmp.{tied_itself}
use Rattle.orca_names.specs.Names.{owner_of, serial_of, thing_cmp, is_thing}
use Rattle.orca_names.specs.declared.names.Thing.{Thing}
use Rattle.orca_names.specs.declared.names.Thing.TheVariants.{Actor, Obj}

pub thing_total : IsTotalOrder thing_cmp
thing_total = then_total (on_total owner_of nat_cmp_total) (on_total serial_of (options_total nat_cmp_total))

abbrev thing_by : ℕ → Option ℕ → Thing
thing_by owner None = Actor owner
thing_by owner (Some serial) = Obj (record { owner = owner; serial = serial })

thing_back : (x : Thing) → thing_by (owner_of x) (serial_of x) ≡ x
thing_back (Actor a) = refl
thing_back (Obj n) = refl

same_serial : (m n : Option ℕ) → option_cmp nat_cmp m n ≡ Equal → m ≡ n
same_serial None None e = refl
same_serial None (Some n) e = cc
same_serial (Some m) None e = cc
same_serial (Some m) (Some n) e = ap Some (ranked m n Equal (sym e))

same_parts : (o : Ordering) (a b : ℕ) (m n : Option ℕ) → nat_cmp a b ≡ o → ordering_then o (option_cmp nat_cmp m n) ≡ Equal → (a ≡ b) × (m ≡ n)
same_parts Less a b m n e h = cc
same_parts Equal a b m n e h = (ranked a b Equal (sym e), same_serial m n h)
same_parts Greater a b m n e h = cc

-- things that compare alike are one
pub thing_exact : IsAntisymmetric thing_cmp
thing_exact x y e =
    let both = same_parts (nat_cmp (owner_of x) (owner_of y)) (owner_of x) (owner_of y) (serial_of x) (serial_of y) refl e in
    sym (thing_back x) ∙ (λ i. thing_by (both.0 i) (both.1 i)) ∙ thing_back y

pub is_self : (x : Thing) → is_thing x x ≡ true
is_self x = ap is_eq (tied_itself thing_total x)

equal_where : (o : Ordering) → is_eq o ≡ true → o ≡ Equal
equal_where Less e = cc
equal_where Equal e = refl
equal_where Greater e = cc

pub is_same : (x y : Thing) → is_thing x y ≡ true → x ≡ y
is_same x y e = thing_exact x y (equal_where (thing_cmp x y) e)

pub is_eq_true : (x y : Thing) → x ≡ y → is_thing x y ≡ true
is_eq_true x y e = ap (is_thing x) (sym e) ∙ is_self x

not_true : (b : Bool) → (b ≡ true → ⊥) → b ≡ false
not_true true n = absurd (n refl)
not_true false n = refl

pub is_ne_false : (x y : Thing) → x ≢ y → is_thing x y ≡ false
is_ne_false x y n = not_true (is_thing x y) (λ e. n (is_same x y e))

-- two things are one or not
pub cases_thing : (x y : Thing) → (x ≡ y) ⊎ (x ≢ y)
cases_thing x y = decide (is_thing x y) refl
  where
    decide : (b : Bool) → is_thing x y ≡ b → (x ≡ y) ⊎ (x ≢ y)
    decide true e = inl (is_same x y e)
    decide false e = inr (λ same. let t = is_eq_true x y same in cc)
