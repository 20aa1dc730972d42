-- With root-only tracing: what is held, loaded or named is left, and so is all that it leads to.
use Rattle.std.proofs.Common.{◌≡◌, ◌≢◌, ◌⊎◌, ℕ, zero, suc, ◌+◌, ◌<◌, true, Option, Some, None, List, [], ◌∷◌, drop, take, refl, sym, ◌∙◌, ap, arith, subst, inl, inr, ⊎_elim}
use Rattle.std.specs.Prelude.{sum_by}
use Rattle.std.proofs.lemmas.Bool.{cases_eq}
use Rattle.std.proofs.lemmas.List.Sums.{sum_by-cons}
use Rattle.orca_names.specs.Names.{owner_of}
use Rattle.orca_names.specs.declared.names.ObjName.{ObjName}
use Rattle.orca_names.specs.declared.names.Thing.{Thing}
use Rattle.orca_names.specs.declared.names.Thing.TheVariants.{Actor, Obj}
use Rattle.letter_kinds.proofs.Counts.{counted_has, has_actor}
use Rattle.letter_kinds.proofs.Sums.{sum-at, sum-nil}
use Rattle.letter_kinds.specs.Holdings.{Row, has_own, held_in, own_in}
use Rattle.letter_kinds.specs.Sums.{dec_of, inc_of, load_count}
use Rattle.letter_kinds.specs.Letters.{Letter, App, Inc, Dec, Confirm}
use Rattle.count_laws.proofs.balance.InHand.{Balanced}
use Rattle.count_laws.proofs.knowledge.Living.{Letters, here, later, Holds, Lives, stands, holds, row, owner}
use Rattle.count_laws.proofs.knowledge.Paths.{reach_into}
use Rattle.count_laws.proofs.roots.Same.{has_own_row}
use Rattle.count_laws.proofs.balance.Safety.{sum-parts}
use Rattle.count_laws.proofs.balance.SeatReads.{decs_at-seat, incs_at-none, incs_at-seat, letter_App, loads_at-seat, own_at-none, own_at-seat}
use Rattle.machine_rules.proofs.Present.{present_below}
use Rattle.count_laws.proofs.balance.Sends.{held_below}
use Rattle.machine_rules.specs.Actors.{Actors, Seat, seat, seat_at, Every}
use Rattle.count_laws.specs.Agreement.{Agrees, IsRootPerson, Person, app_letters, person_at, person_of}
use Rattle.machine_rules.specs.Balance.{held_sum, incs_at, load_sum, loads_at, own_at, owner_seat}
use Rattle.machine_rules.specs.Cell.{Cell}
use Rattle.count_laws.specs.Known.{IsKnown, Names, ReachesThrough}
use Rattle.count_laws.specs.KnownByRoots.{AreRootLetters, IsBacked, IsRootsAt, WalkRoots, by_count, by_field, by_frame, by_path, by_row, held, mine, named, stands as stands_in}
use Rattle.machine_rules.specs.Left.{IsLeft}

-- ---- at one actor

module _ (all : Thing → Option Row) (a : ℕ) (c : Cell) (mail : List Letter) (q : IsRootsAt all a c mail) where
  -- what is backed now is there
  backed_there : {x : Thing} → IsBacked a c mail 0 x → has_own c.holdings x ≡ true
  backed_there (by_count {x = x} counted) = counted_has c.holdings x (omega (arith, sum-nil (dec_of x), sum-nil (load_count x), sum-nil (inc_of x)))
  backed_there (by_path path) = path.there

  -- so is that for which an Inc waits
  pub inc_there : (x : Thing) → owner_of x ≡ a → 0 < sum_by (inc_of x) mail → has_own c.holdings x ≡ true
  inc_there x o h = backed_there (q.backed x 0 o h)

-- ---- among all

module _ (all : Thing → Option Row) (s : Actors) (bal : Balanced s) (sound : Every (IsRootsAt all) s) where
  pub counted_at : (x : Thing) (o : Option Seat) → owner_seat s x ≡ o → 0 < own_at x o + incs_at x o → IsLeft s x
  counted_at x None e h = absurd (omega (arith, own_at-none x, incs_at-none x))
  counted_at x (Some o) e h = record {
    seat = o;
    present = e;
    kept = either (own_in o.cell.holdings x) (sum_by (inc_of x) o.mail) refl refl (omega (arith, own_at-seat x o.cell o.mail, incs_at-seat x o.cell o.mail));
  }
    where
      either : (n i : ℕ) → own_in o.cell.holdings x ≡ n → sum_by (inc_of x) o.mail ≡ i → 0 < n + i → has_own o.cell.holdings x ≡ true
      either zero i own incs h = inc_there all (owner_of x) o.cell o.mail (sound (owner_of x) o.cell o.mail e) x refl (omega arith)
      either (suc n) i own incs h = counted_has o.cell.holdings x (omega arith)

  pub counted_left : (x : Thing) → 0 < held_sum x s + load_sum x s → IsLeft s x
  counted_left x h = counted_at x (owner_seat s x) refl (let z = bal x in omega arith)

  pub held_left : (a : ℕ) (c : Cell) (ls : List Letter) (x : Thing) → seat_at s a ≡ seat c ls → 0 < held_in c.holdings x → IsLeft s x
  held_left a c ls x at h = counted_left x (let z = held_below x s a c ls at in omega arith)

  pub known_left : (a : ℕ) (c : Cell) (ls : List Letter) (x : Thing) → seat_at s a ≡ seat c ls → IsKnown a c.holdings x → IsLeft s x
  known_left a c ls x at (inl own) = record { seat = record { cell = c; mail = ls }; present = ap (seat_at s) own.0 ∙ at; kept = own.1 }
  known_left a c ls x at (inr other) = held_left a c ls x at other.1

  pub loaded_left : (a : ℕ) (c : Cell) (ls : List Letter) (x : Thing) → seat_at s a ≡ seat c ls → 0 < sum_by (load_count x) ls → IsLeft s x
  loaded_left a c ls x at h = counted_left x
      (let w = sum-at (loads_at x) s a None (present_below s a _ at) in let w' = rw at at w in let l = loads_at-seat x c ls in omega arith)

  -- what is left leads to what is left
  pub row_left : (x y : Thing) (r : Row) → IsLeft s x → all x ≡ Some r → Names r y → Actor (owner_of x) ≢ x → IsLeft s y
  row_left (Actor i) y r left e n object = absurd (object refl)
  row_left (Obj n) y r left e nm object =
      let q = sound n.owner left.seat.cell left.seat.mail left.present in
      let own = has_own_row n.owner left.seat.cell.holdings n refl left.kept in
      let same : own.0 ≡ r = let z = q.mine n own.0 own.1 in cc in
      known_left n.owner left.seat.cell left.seat.mail y left.present (q.named y (by_row n own.0 own.1 (subst (λ r. Names r y) (sym same) nm))).0

  pub owner_left : (n : ObjName) → IsLeft s (Obj n) → IsLeft s (Actor n.owner)
  owner_left n left = record { seat = left.seat; present = left.present; kept = has_actor left.seat.cell.holdings n.owner }

  module _ (bare : (b : ℕ) → all (Actor b) ≡ None) where
    pub along_left : (x y : Thing) (r : Row) → IsLeft s x → all x ≡ Some r → Names r y → IsLeft s y
    along_left (Actor i) y r left e n = absurd (let z = bare i in cc)
    along_left (Obj n) y r left e nm = row_left (Obj n) y r left e nm (λ e. cc)

    pub walk_left : {roots : Thing → Type 0} → ((x : Thing) → roots x → IsLeft s x) → {x : Thing} → ReachesThrough all roots x → IsLeft s x
    walk_left from h = reach_into all (IsLeft s) from along_left owner_left h

    pub root_left : (a : ℕ) (c : Cell) (ls : List Letter) → seat_at s a ≡ seat c ls → (x : Thing) → WalkRoots a c x → IsLeft s x
    root_left a c ls at x (named n) = known_left a c ls x at ((sound a c ls at).named x n).0
    root_left a c ls at x (held h) = held_left a c ls x at h
    root_left a c ls at x (mine o h) = known_left a c ls x at (inl (o, h))

    pub reached_left : (a : ℕ) (c : Cell) (ls : List Letter) → seat_at s a ≡ seat c ls → {x : Thing} → ReachesThrough all (WalkRoots a c) x → IsLeft s x
    reached_left a c ls at h = walk_left (root_left a c ls at) h

    -- ---- what lives in the plain machine is left

    args_loaded : (x : Thing) (ls : List Letter) → AreRootLetters all ls → Letters (app_letters ls) x → 0 < sum_by (load_count x) ls
    args_loaded x [] ok h = elim h [ ]
    args_loaded x (App b args load rows ∷ ls) ok (here n) = let z = ok.0.whole x (stands_in n) in omega (arith, sum_by-cons (load_count x) (App b args load rows) ls, (letter_App x b args load rows).2)
    args_loaded x (App b args load rows ∷ ls) ok (later l) = let z = args_loaded x ls ok.1 l in omega (arith, sum_by-cons (load_count x) (App b args load rows) ls)
    args_loaded x (Inc es ∷ ls) ok h = let r = args_loaded x ls ok h in omega (arith, sum_by-cons (load_count x) (Inc es) ls)
    args_loaded x (Dec es ∷ ls) ok h = let r = args_loaded x ls ok h in omega (arith, sum_by-cons (load_count x) (Dec es) ls)
    args_loaded x (Confirm t ∷ ls) ok h = let r = args_loaded x ls ok h in omega (arith, sum_by-cons (load_count x) (Confirm t) ls)

    module _ (ps : List Person) (agrees : Agrees ps s) where
      pub person_left : (x : Thing) (a : ℕ) (c : Cell) (ls : List Letter) → seat_at s a ≡ seat c ls → Holds (person_of c ls) x → IsLeft s x
      person_left x a c ls at (inl n) = known_left a c ls x at ((sound a c ls at).named x (by_field n)).0
      person_left x a c ls at (inr (inl n)) = known_left a c ls x at ((sound a c ls at).named x (by_frame n)).0
      person_left x a c ls at (inr (inr l)) = loaded_left a c ls x at (args_loaded x ls (sound a c ls at).letters l)

      stands_left : (a : ℕ) (o : Option Seat) → seat_at s a ≡ o → IsRootPerson (person_at ps a) → IsLeft s (Actor a)
      stands_left a None e r = absurd (agrees.absent a e r)
      stands_left a (Some o) e r = record { seat = o; present = e; kept = has_actor o.cell.holdings a }

      pub lives_left : {x : Thing} → Lives all ps x → IsLeft s x
      lives_left (stands {a = a} r) = stands_left a (seat_at s a) refl r
      lives_left (holds {a = a} {x = x} l h) =
          let left = lives_left l in
          person_left x a left.seat.cell left.seat.mail left.present (subst (λ p. Holds p x) (agrees.present a left.seat.cell left.seat.mail left.present) h)
      lives_left (row {n = n} {x = x} {r = r} l e nm) = along_left (Obj n) x r (lives_left l) e nm
      lives_left (owner {n = n} l) = owner_left n (lives_left l)

    -- ---- what is held is backed after each prefix

    -- somebody holds it, or a letter that is none of the prefix loads it; or an Inc for it waits behind
    pub prefix_backed : (x : Thing) (b : ℕ) (d : Cell) (ms : List Letter) → seat_at s b ≡ seat d ms → owner_of x ≡ b → (k : ℕ)
        → (sum_by (load_count x) (take k ms) < held_sum x s + load_sum x s) ⊎ (0 < sum_by (inc_of x) (drop k ms)) → IsBacked b d ms k x
    prefix_backed x b d ms at o k (inr waits) = (sound b d ms at).backed x k o waits
    prefix_backed x b d ms at o k (inl h) = ⊎_elim
        (λ none.
        let z = rw (ap (seat_at s) o ∙ at) at (bal x) in
        let w = rw at at (sum-at (loads_at x) s b None (present_below s b _ at)) in
        by_count (omega (
          arith,
          own_at-seat x d ms,
          incs_at-seat x d ms,
          decs_at-seat x d ms,
          loads_at-seat x d ms,
          sum-parts (inc_of x) k ms,
          sum-parts (dec_of x) k ms,
          sum-parts (load_count x) k ms,
        )))
        (λ some. (sound b d ms at).backed x k o (omega arith))
        (cases_eq (sum_by (inc_of x) (drop k ms)) 0)

    -- what somebody holds is backed
    pub held_backed : (x : Thing) (b : ℕ) (d : Cell) (ms : List Letter) → seat_at s b ≡ seat d ms → owner_of x ≡ b → 0 < held_sum x s → (k : ℕ) → IsBacked b d ms k x
    held_backed x b d ms at o h k = prefix_backed x b d ms at o k (inl (let w = rw at at (sum-at (loads_at x) s b None (present_below s b _ at)) in omega (arith, loads_at-seat x d ms, sum-parts (load_count x) k ms)))
