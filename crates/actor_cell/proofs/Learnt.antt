-- Rows that letters bring, one at a time.
use Rattle.std.proofs.Common.{◌≡◌, ◌≢◌, ℕ, ◌+◌, ◌-◌, ◌≤◌, Bool, true, false, cond, List, [], ◌∷◌, Option, Some, None, refl, sym, arith}
use Rattle.std.specs.Prelude.{is_some}
use Rattle.std.specs.FinMap as m
use Rattle.orca_names.specs.Names.{owner_of}
use Rattle.orca_names.specs.declared.names.Thing.{Thing}
use Rattle.letter_kinds.specs.Counting.{Loaded}
use Rattle.letter_kinds.specs.Holdings.{Row}
use Rattle.letter_kinds.proofs.Counts.{cond_eq, cond_ne}
use Rattle.foreign_table.specs.Table.{length_aside}
use Rattle.row_table.specs.Table.{KnownRows, Rows, learnt}
use Rattle.machine_rules.specs.Take.{learn}

pub learn-nil : (me : ℕ) (known : Rows) → learn me [] known ≡ known
unfolding learn
learn-nil me known = refl

pub learn-cons : (me : ℕ) (e : Loaded) (rows : List Loaded) (known : Rows) → learn me rows (learn me (e ∷ []) known) ≡ learn me (e ∷ rows) known
unfolding learn
learn-cons me e rows known = refl

-- a row of the actor's own is none to keep
pub learn_own : (me : ℕ) (x : Thing) (o : Option Row) (known : Rows) → owner_of x ≡ me → known ≡ learn me ((x, o) ∷ []) known
unfolding learn
learn_own me x None known same = refl
learn_own me x (Some row) known same = sym (cond_eq (owner_of x) me known (m.insert known x row) same)

pub learn_other : (me : ℕ) (x : Thing) (o : Option Row) (block : Option ℕ) (t : KnownRows) → owner_of x ≢ me → (learnt x o block t).rows ≡ learn me ((x, o) ∷ []) t.rows
unfolding learn
learn_other me x None block t other = refl
learn_other me x (Some row) block t other = sym (cond_ne (owner_of x) me t.rows (m.insert t.rows x row) other)

-- it takes a place at most, and for a row at hand as many values
pub learnt_room : (x : Thing) (o : Option Row) (block : Option ℕ) (t : KnownRows) → t.spare ≤ (learnt x o block t).spare + 1
learnt_room x None block t = omega arith
learnt_room x (Some row) block t = by (is_some (m.get t.rows x))
  where
    by : (b : Bool) → t.spare ≤ (t.spare - cond b 0 1) + 1
    by true = omega arith
    by false = omega arith

pub learnt_values : (x : Thing) (o : Option Row) (block : Option ℕ) (t : KnownRows) → t.spare_values ≤ (learnt x o block t).spare_values + length_aside o block
learnt_values x None block t = omega arith
learnt_values x (Some row) block t = omega arith
