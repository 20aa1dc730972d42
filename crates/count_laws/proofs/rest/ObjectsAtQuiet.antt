-- Where every actor is at rest, each object that is left is reached from the fields of an actor that is
-- present; and if each present actor lives in the plain machine, just what lives there is left.
use Rattle.std.proofs.Common.{◌≡◌, ◌≢◌, ◌↔◌, ℕ, zero, suc, ◌<◌, Option, Some, None, List, [], ◌∷◌, get_or, refl, sym, ◌∙◌, arith, subst, inl, ⊎_elim}
use Rattle.std.specs.FinMap as m
use Rattle.std.specs.Prelude.{sum_by}
use Rattle.std.proofs.lemmas.List.Sums.{sum_by-cons}
use Rattle.orca_names.specs.Names.{owner_of}
use Rattle.orca_names.specs.declared.names.ObjName.{ObjName}
use Rattle.orca_names.specs.declared.names.Thing.{Thing}
use Rattle.orca_names.specs.declared.names.Thing.TheVariants.{Actor, Obj}
use Rattle.reach_walk.specs.Reach.{root, owned}
use Rattle.letter_kinds.proofs.Sums.{sum-nil, sum-zero}
use Rattle.letter_kinds.specs.Letters.{Letter}
use Rattle.letter_kinds.specs.Holdings.{Row, entry_count, held_in, own_in}
use Rattle.letter_kinds.specs.Sums.{dec_of, inc_of, load_count}
use Rattle.count_laws.proofs.knowledge.Freed.{lives_left}
use Rattle.count_laws.proofs.balance.InHand.{in_hand}
use Rattle.count_laws.proofs.knowledge.Living.{Holds, Lives, holds, row, owner}
use Rattle.count_laws.proofs.knowledge.Paths.{along_row, reach_into, reach_more}
use Rattle.machine_rules.proofs.Rest.{AtRest}
use Rattle.count_laws.proofs.balance.SeatReads.{own_at-seat, held_at-seat, incs_at-seat, decs_at-seat, loads_at-seat, held_at-none, loads_at-none}
use Rattle.orca_names.specs.declared.trace.Trace.TheVariants.{Deep}
use Rattle.machine_rules.specs.Actors.{Actors, Seat, seat, seat_at, Every}
use Rattle.count_laws.specs.Agreement.{Person}
use Rattle.machine_rules.specs.Balance.{IsBalanced, decs_at, incs_at, held_at, held_sum, loads_at}
use Rattle.machine_rules.specs.Cell.{Cell}
use Rattle.count_laws.specs.Clean.{CleanAreSwept, IsInReach}
use Rattle.count_laws.specs.Facts.{KeepsCounts}
use Rattle.count_laws.specs.Known.{Names, ReachesThrough, in_fields, row_at, IsSoundAt}
use Rattle.machine_rules.specs.Left.{IsLeft}
use Rattle.letter_kinds.proofs.Amounts.{zero_or}

-- ---- a sum that is not 0 has an item that is not 0

pub sum-some : {A : Type 0} (f : A → ℕ) (xs : List A) (d : A) → 0 < sum_by f xs → (i : ℕ) × (0 < f (get_or xs i d))
sum-some f [] d h = absurd (omega (arith, sum-nil f))
sum-some f (x ∷ xs) d h = ⊎_elim
    (λ z. let later = sum-some f xs d (omega (arith, sum_by-cons f x xs)) in (suc later.0, later.1))
    (λ n. (zero, n))
    (zero_or (f x))

-- ---- through the rows that the actor has, and through the map of all rows, it reaches the same

module _ (all : Thing → Option Row) (a : ℕ) (c : Cell) (mail : List Letter) (sound : IsSoundAt all a c mail) where
  same_row : (x : Thing) → ReachesThrough all (Names c.fields.values) x → row_at a c.holdings x ≡ all x
  same_row x h = sound.rows x (sound.closed x (reach_more all (λ y n. root (in_fields n)) h))

  pub over_all : (x : Thing) → IsInReach a c x → ReachesThrough all (Names c.fields.values) x
  over_all x h = reach_into (row_at a c.holdings) (ReachesThrough all (Names c.fields.values))
      (λ y n. root n)
      (λ y z r p e n. along_row all p (sym (same_row y p) ∙ e) n)
      (λ n p. owned p) h

-- ---- at rest what is counted is held by an entry, and the entry is reached

module _ (s : Actors) (bal : IsBalanced s) (rest : AtRest s) where
  no_loads : (x : Thing) (i : ℕ) → loads_at x (seat_at s i) ≡ 0
  no_loads x i = by_seat (seat_at s i) refl
    where
      by_seat : (o : Option Seat) → seat_at s i ≡ o → loads_at x o ≡ 0
      by_seat None e = loads_at-none x
      by_seat (Some o) e = loads_at-seat x o.cell o.mail ∙ rw ((rest i o.cell o.mail e).empty) (sum-nil (load_count x))

  pub all_held : (x : Thing) (c : Cell) (mail : List Letter) → seat_at s (owner_of x) ≡ seat c mail → own_in c.holdings x ≡ held_sum x s
  all_held x c mail at =
      let z = bal x in
      let z' = rw at at z in
      let o = own_at-seat x c mail in
      let i : incs_at x (seat c mail) ≡ 0 = incs_at-seat x c mail ∙ rw ((rest (owner_of x) c mail at).empty) (sum-nil (inc_of x)) in
      let l = sum-zero (loads_at x) s None (no_loads x) in
      let d : decs_at x (seat c mail) ≡ 0 = decs_at-seat x c mail ∙ rw ((rest (owner_of x) c mail at).empty) (sum-nil (dec_of x)) in
      omega arith

entry_there : (o : Option (ℕ × Option Row)) → 0 < entry_count o → (e : ℕ × Option Row) × (o ≡ Some e)
entry_there None h = absurd (omega arith)
entry_there (Some e) h = (e, refl)

pub entry_of : (c : Cell) (x : Thing) → 0 < held_in c.holdings x → (e : ℕ × Option Row) × (m.get c.holdings.foreign x ≡ Some e)
unfolding held_in
entry_of c x h = entry_there (m.get c.holdings.foreign x) h

module _ (s : Actors) (bal : IsBalanced s) (clean : CleanAreSwept s) (rest : AtRest s) where
  pub held_reached : (a : ℕ) (c : Cell) (mail : List Letter) (x : Thing) → seat_at s a ≡ seat c mail → 0 < held_in c.holdings x → IsInReach a c x
  held_reached a c mail x at h = let entry = entry_of c x h in let q = rest a c mail at in (clean a c mail at q.idle q.clean).foreign x entry.0 entry.1

  -- reached from the fields of some actor that is present, through the rows that it has
  pub record Holder (x : Thing) : Type 0 where
    pub by : ℕ
    pub cell : Cell
    pub mail : List Letter
    pub at : seat_at s by ≡ seat cell mail
    pub reached : IsInReach by cell x

  holder_at : (x : Thing) (i : ℕ) (o : Option Seat) → seat_at s i ≡ o → 0 < held_at x o → Holder x
  holder_at x i None e h = absurd (omega (arith, held_at-none x))
  holder_at x i (Some o) e h = record { by = i; cell = o.cell; mail = o.mail; at = e; reached = held_reached i o.cell o.mail x e (let z = held_at-seat x o.cell o.mail in omega arith) }

  pub left_holder : (n : ObjName) → IsLeft s (Obj n) → Holder (Obj n)
  left_holder n left =
      let c = left.seat.cell in
      let mail = left.seat.mail in
      let q = rest n.owner c mail left.present in
      ⊎_elim
      (λ mine. record { by = n.owner; cell = c; mail = mail; at = left.present; reached = mine })
      (λ counted.
      let total = all_held s bal rest (Obj n) c mail left.present in
      let z = sum-some (held_at (Obj n)) s None (omega arith) in holder_at (Obj n) z.0 (seat_at s z.0) refl z.1)
      ((clean n.owner c mail left.present q.idle q.clean).own n.serial left.kept)

-- ---- each object that is left is reached from an actor that is present

-- some actor that is present reaches it from its fields, through the map of all rows
pub record IsHeld (all : Thing → Option Row) (s : Actors) (x : Thing) : Type 0 where
  pub by : ℕ
  pub cell : Cell
  pub mail : List Letter
  pub at : seat_at s by ≡ seat cell mail
  pub reached : ReachesThrough all (Names cell.fields.values) x

-- each actor that is present lives in the plain machine
abbrev pub ActorsLive : (Thing → Option Row) → List Person → Actors → Type 0
ActorsLive all people s = Every (λ a c mail. Lives all people (Actor a)) s

module _ (all : Thing → Option Row) (people : List Person) (s : Actors) (inv : KeepsCounts Deep all people s) (clean : CleanAreSwept s) (rest : AtRest s) where
  pub left_held : (n : ObjName) → IsLeft s (Obj n) → IsHeld all s (Obj n)
  left_held n left =
      let h = left_holder s inv.balanced clean rest n left in
      record { by = h.by; cell = h.cell; mail = h.mail; at = h.at; reached = over_all all h.by h.cell h.mail (inv.sound h.by h.cell h.mail h.at) (Obj n) h.reached }

  -- where an actor lives, so does what its fields reach
  pub by_rows : {x : Thing} (a : ℕ) (c : Cell) (mail : List Letter) → seat_at s a ≡ seat c mail → Lives all people (Actor a) → ReachesThrough all (Names c.fields.values) x → Lives all people x
  by_rows a c mail at lives h = reach_into all (Lives all people)
      (λ x n. holds lives (subst (λ p. Holds p x) (sym (inv.agrees.present a c mail at)) (inl n)))
      (λ x y r p e n. row_on x y r p e n)
      (λ n p. owner p) h
    where
      row_on : (x y : Thing) (r : Row) → Lives all people x → all x ≡ Some r → Names r y → Lives all people y
      row_on (Actor d) y r p e n = absurd (none_some r (sym (inv.bare d) ∙ e))
        where
          none_some : (r : Row) → None ≢ Some r
          none_some r e = cc
      row_on (Obj o) y r p e n = row p e n

  left_lives : ActorsLive all people s → (x : Thing) → IsLeft s x → Lives all people x
  left_lives live (Actor a) left = live a left.seat.cell left.seat.mail left.present
  left_lives live (Obj n) left = let h = left_held n left in by_rows h.by h.cell h.mail h.at (live h.by h.cell h.mail h.at) h.reached

  pub exactly_left : ActorsLive all people s → (x : Thing) → IsLeft s x ↔ Lives all people x
  exactly_left live x = (left_lives live x, lives_left all people s (in_hand s inv.balanced) inv.prefixes inv.sound inv.agrees x)
