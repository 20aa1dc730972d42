-- What lives in the plain machine is left.
use Rattle.std.proofs.Common.{◌≡◌, ◌⊎◌, ℕ, zero, suc, ◌+◌, ◌<◌, true, Option, Some, None, List, [], ◌∷◌, refl, sym, ◌∙◌, ap, arith, subst, inl, inr, ⊎_elim}
use Rattle.std.proofs.lemmas.List.Sums.{sum_by-cons}
use Rattle.letter_kinds.proofs.Sums.{sum-at, sum-nil}
use Rattle.letter_kinds.proofs.Counts.{counted_has, has_actor}
use Rattle.machine_rules.proofs.Present.{present_below}
use Rattle.count_laws.proofs.balance.Safety.{safe_zero}
use Rattle.count_laws.proofs.balance.SeatReads.{own_at-seat, incs_at-seat, own_at-none, incs_at-none, loads_at-seat, letter_App, letter_Inc, letter_Dec, letter_Confirm}
use Rattle.count_laws.proofs.balance.Sends.{held_below}
use Rattle.letter_kinds.specs.Holdings.{Row, own_in, has_own}
use Rattle.letter_kinds.specs.Sums.{times_loaded, inc_of, load_count}
use Rattle.letter_kinds.specs.Letters.{Letter, App, Inc, Dec, Confirm}
use Rattle.count_laws.proofs.balance.InHand.{Sound, Balanced}
use Rattle.count_laws.proofs.knowledge.Living.{Letters, here, later, Holds, Lives, stands, holds, row, owner}
use Rattle.count_laws.proofs.knowledge.Paths.{along_row}
use Rattle.orca_names.specs.declared.trace.Trace.TheVariants.{Deep}
use Rattle.machine_rules.specs.Actors.{Seat, Actors, seat_at, seat}
use Rattle.count_laws.specs.Agreement.{Person, person_at, person_of, IsRootPerson, app_letters, Agrees}
use Rattle.machine_rules.specs.Balance.{own_at, incs_at, loads_at, held_sum, load_sum, owner_seat}
use Rattle.count_laws.specs.Prefixes.{IsCoveredAt, NeverOverdraws}
use Rattle.machine_rules.specs.Cell.{Cell}
use Rattle.count_laws.specs.Known.{Names, ReachesThrough, IsKnown, StartsWalks, in_fields, in_frame, IsLoadOf, AreExactLetters}
use Rattle.machine_rules.specs.Left.{IsLeft}
use Rattle.orca_names.specs.Names.{owner_of}
use Rattle.orca_names.specs.declared.names.ObjName.{ObjName}
use Rattle.orca_names.specs.declared.names.Thing.{Thing}
use Rattle.orca_names.specs.declared.names.Thing.TheVariants.{Actor, Obj}
use Rattle.orca_names.specs.declared.names.Value.{Value}
use Rattle.reach_walk.specs.Reach.{root, owned}
use Rattle.std.specs.Prelude.{sum_by}

-- what is counted is left, by the balance and the prefixes
pub counted_at : (s : Actors) (x : Thing) (o : Option Seat) → owner_seat s x ≡ o → IsCoveredAt Deep x o → 0 < own_at x o + incs_at x o → IsLeft s x
counted_at s x None e safe h = absurd (omega (arith, own_at-none x, incs_at-none x))
counted_at s x (Some o) e safe h = record { seat = o; present = e; kept = counted_has o.cell.holdings x (positive (own_in o.cell.holdings x) (sum_by (inc_of x) o.mail) (λ z. safe_zero x (own_in o.cell.holdings x) o.mail safe z) (omega (arith, own_at-seat x o.cell o.mail, incs_at-seat x o.cell o.mail))) }
  where
    positive : (n i : ℕ) → (n ≡ 0 → i ≡ 0) → 0 < n + i → 0 < n
    positive zero i f h = let z = f refl in absurd (omega arith)
    positive (suc n) i f h = omega arith

pub counted_left : (s : Actors) (x : Thing) → Balanced s → NeverOverdraws Deep s → 0 < held_sum x s + load_sum x s → IsLeft s x
counted_left s x bal p h = counted_at s x (owner_seat s x) refl (p x) (let z = bal x in omega arith)

module _ (s : Actors) (bal : Balanced s) (p : NeverOverdraws Deep s) where
  pub known_left : (a : ℕ) (c : Cell) (ls : List Letter) (x : Thing) → seat_at s a ≡ seat c ls → IsKnown a c.holdings x → IsLeft s x
  known_left a c ls x at (inl own) = record { seat = record { cell = c; mail = ls }; present = ap (seat_at s) own.0 ∙ at; kept = own.1 }
  known_left a c ls x at (inr other) = counted_left s x bal p (let h = held_below x s a c ls at in let o = other.1 in omega arith)

  pub loaded_left : (a : ℕ) (c : Cell) (ls : List Letter) (x : Thing) → seat_at s a ≡ seat c ls → 0 < sum_by (load_count x) ls → IsLeft s x
  loaded_left a c ls x at h = counted_left s x bal p
      (let w = sum-at (loads_at x) s a None (present_below s a _ at) in let w' = rw at at w in let l = loads_at-seat x c ls in omega arith)

-- loads of letters are closed
pub load_into : (all : Thing → Option Row) (x y : Thing) (ls : List Letter) → AreExactLetters all ls
    → ((args : List Value) (load : List (Thing × Option Row)) → IsLoadOf all args load → 0 < times_loaded x load → 0 < times_loaded y load)
    → 0 < sum_by (load_count x) ls → 0 < sum_by (load_count y) ls
load_into all x y [] ok f h = absurd (omega (arith, sum-nil (load_count x)))
load_into all x y (App b args load rows ∷ ls) ok f h = ⊎_elim
    (λ some. omega (arith, (letter_App y b args load rows).2, sum_by-cons (load_count y) (App b args load rows) ls, f args load ok.0 some))
    (λ none. let r = load_into all x y ls ok.1 f (omega (arith, (letter_App x b args load rows).2, sum_by-cons (load_count x) (App b args load rows) ls)) in omega (arith, sum_by-cons (load_count y) (App b args load rows) ls))
    (some_or (times_loaded x load))
  where
    some_or : (n : ℕ) → (0 < n) ⊎ (n ≡ 0)
    some_or zero = inr refl
    some_or (suc n) = inl (omega arith)
load_into all x y (Inc es ∷ ls) ok f h = let r = load_into all x y ls ok.1 f (omega (arith, (letter_Inc x es).2, sum_by-cons (load_count x) (Inc es) ls)) in omega (arith, sum_by-cons (load_count y) (Inc es) ls)
load_into all x y (Dec es ∷ ls) ok f h = let r = load_into all x y ls ok.1 f (omega (arith, (letter_Dec x es).2, sum_by-cons (load_count x) (Dec es) ls)) in omega (arith, sum_by-cons (load_count y) (Dec es) ls)
load_into all x y (Confirm t ∷ ls) ok f h = let r = load_into all x y ls ok.1 f (omega (arith, (letter_Confirm x t).2, sum_by-cons (load_count x) (Confirm t) ls)) in omega (arith, sum_by-cons (load_count y) (Confirm t) ls)

first_or : (all : Thing → Option Row) (x : Thing) (b : ℕ) (args : List Value) (load : List (Thing × Option Row)) (ls : List Letter) → IsLoadOf all args load
    → (Letters (app_letters ls) x → 0 < sum_by (load_count x) ls) → Letters (record { behaviour = b; args = args } ∷ app_letters ls) x → 0 < times_loaded x load + sum_by (load_count x) ls
first_or all x b args load ls is more (here n) = let z = is.whole x (root n) in omega arith
first_or all x b args load ls is more (later l) = let z = more l in omega arith

args_loaded : (all : Thing → Option Row) (x : Thing) (ls : List Letter) → AreExactLetters all ls → Letters (app_letters ls) x → 0 < sum_by (load_count x) ls
args_loaded all x [] ok h = elim h [ ]
args_loaded all x (App b args load rows ∷ ls) ok h = omega (arith, sum_by-cons (load_count x) (App b args load rows) ls, (letter_App x b args load rows).2, first_or all x b args load ls ok.0 (args_loaded all x ls ok.1) h)
args_loaded all x (Inc es ∷ ls) ok h = let r = args_loaded all x ls ok.1 h in omega (arith, sum_by-cons (load_count x) (Inc es) ls)
args_loaded all x (Dec es ∷ ls) ok h = let r = args_loaded all x ls ok.1 h in omega (arith, sum_by-cons (load_count x) (Dec es) ls)
args_loaded all x (Confirm t ∷ ls) ok h = let r = args_loaded all x ls ok.1 h in omega (arith, sum_by-cons (load_count x) (Confirm t) ls)

-- nothing that was freed lives in the plain machine
module _ (all : Thing → Option Row) (ps : List Person) (s : Actors) (bal : Balanced s) (p : NeverOverdraws Deep s) (sound : Sound all s) (agrees : Agrees ps s) where
  -- some present actor is it, reaches it, or has it in a load
  record Grasp (x : Thing) : Type 0 where
    by : ℕ
    cell : Cell
    mail : List Letter
    at : seat_at s by ≡ seat cell mail
    how : (x ≡ Actor by) ⊎ (ReachesThrough all (StartsWalks cell) x ⊎ (0 < sum_by (load_count x) mail))

  how_left : (x : Thing) (g : Grasp x) → (x ≡ Actor g.by) ⊎ (ReachesThrough all (StartsWalks g.cell) x ⊎ (0 < sum_by (load_count x) g.mail)) → IsLeft s x
  how_left x g (inl self) = record {
    seat = record { cell = g.cell; mail = g.mail };
    present = ap (λ y. seat_at s (owner_of y)) self ∙ g.at;
    kept = subst (λ y. has_own g.cell.holdings y ≡ true) (sym self) (has_actor g.cell.holdings g.by);
  }
  how_left x g (inr (inl reached)) = known_left s bal p g.by g.cell g.mail x g.at ((sound g.by g.cell g.mail g.at).closed x reached)
  how_left x g (inr (inr load)) = loaded_left s bal p g.by g.cell g.mail x g.at load

  grasp_left : (x : Thing) → Grasp x → IsLeft s x
  grasp_left x g = how_left x g g.how

  grasped : (a : ℕ) (c : Cell) (ls : List Letter) (x : Thing) → seat_at s a ≡ seat c ls → (x ≡ Actor a) ⊎ (ReachesThrough all (StartsWalks c) x ⊎ (0 < sum_by (load_count x) ls)) → Grasp x
  grasped a c ls x at how = record { by = a; cell = c; mail = ls; at = at; how = how }

  held_grasped : (a : ℕ) (x : Thing) → IsLeft s (Actor a) → Holds (person_at ps a) x → Grasp x
  held_grasped a x left h = by_person left.seat.cell left.seat.mail left.present (subst (λ q. Holds q x) (agrees.present a left.seat.cell left.seat.mail left.present) h)
    where
      by_person : (c : Cell) (ls : List Letter) → seat_at s a ≡ seat c ls → Holds (person_of c ls) x → Grasp x
      by_person c ls at (inl n) = grasped a c ls x at (inr (inl (root (in_fields n))))
      by_person c ls at (inr (inl n)) = grasped a c ls x at (inr (inl (root (in_frame n))))
      by_person c ls at (inr (inr l)) = grasped a c ls x at (inr (inr (args_loaded all x ls (sound a c ls at).loads l)))

  row_grasped : (n : ObjName) (x : Thing) (r : Row) → all (Obj n) ≡ Some r → Names r x → (g : Grasp (Obj n)) → (Obj n ≡ Actor g.by) ⊎ (ReachesThrough all (StartsWalks g.cell) (Obj n) ⊎ (0 < sum_by (load_count (Obj n)) g.mail)) → Grasp x
  row_grasped n x r e named g (inl self) = cc
  row_grasped n x r e named g (inr (inl reached)) = grasped g.by g.cell g.mail x g.at (inr (inl (along_row _ reached e named)))
  row_grasped n x r e named g (inr (inr load)) = grasped g.by g.cell g.mail x g.at (inr (inr (load_into all (Obj n) x g.mail (sound g.by g.cell g.mail g.at).loads
      (λ args load is h. is.whole x (along_row _ (is.reached (Obj n) h) e named)) load)))

  owner_grasped : (n : ObjName) (g : Grasp (Obj n)) → (Obj n ≡ Actor g.by) ⊎ (ReachesThrough all (StartsWalks g.cell) (Obj n) ⊎ (0 < sum_by (load_count (Obj n)) g.mail)) → Grasp (Actor n.owner)
  owner_grasped n g (inl self) = cc
  owner_grasped n g (inr (inl reached)) = grasped g.by g.cell g.mail (Actor n.owner) g.at (inr (inl (owned reached)))
  owner_grasped n g (inr (inr load)) = grasped g.by g.cell g.mail (Actor n.owner) g.at (inr (inr (load_into all (Obj n) (Actor n.owner) g.mail (sound g.by g.cell g.mail g.at).loads
      (λ args load is h. is.whole (Actor n.owner) (owned (is.reached (Obj n) h))) load)))

  root_grasped : (a : ℕ) (o : Option Seat) → seat_at s a ≡ o → IsRootPerson (person_at ps a) → Grasp (Actor a)
  root_grasped a None e r = absurd (agrees.absent a e r)
  root_grasped a (Some o) e r = grasped a o.cell o.mail (Actor a) e (inl refl)

  lives_grasped : {x : Thing} → Lives all ps x → Grasp x
  lives_grasped (stands {a = a} r) = root_grasped a (seat_at s a) refl r
  lives_grasped (holds {a = a} {x = x} l h) = held_grasped a x (grasp_left (Actor a) (lives_grasped l)) h
  lives_grasped (row {n = n} {x = x} {r = r} l e named) = let g = lives_grasped l in row_grasped n x r e named g g.how
  lives_grasped (owner {n = n} l) = let g = lives_grasped l in owner_grasped n g g.how

  pub lives_left : (x : Thing) → Lives all ps x → IsLeft s x
  lives_left x l = grasp_left x (lives_grasped l)
