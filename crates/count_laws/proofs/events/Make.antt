-- Making an actor keeps all that is kept of the counts.
use Rattle.std.proofs.Common.{◌≡◌, ◌≢◌, ◌⊎◌, ℕ, zero, suc, ◌+◌, ◌<◌, true, false, Option, Some, None, is_some, List, [], ◌∷◌, ◌++◌, length, set, refl, sym, ◌∙◌, ap, arith, subst, inl, inr, ⊎_elim, length-set, length-append}
use Rattle.std.proofs.lemmas.Bool.{cases_eq, cases_lt}
use Rattle.std.proofs.lemmas.List.{get_or_append_left, get_or_past, get_or_push}
use Rattle.orca_names.proofs.ThingOrder.{cases_thing, is_self}
use Rattle.orca_names.specs.declared.names.ObjName.{ObjName}
use Rattle.orca_names.specs.declared.names.Thing.{Thing}
use Rattle.orca_names.specs.declared.names.Thing.TheVariants.{Actor, Obj}
use Rattle.orca_names.specs.declared.names.Value.TheVariants as values
use Rattle.reach_walk.specs.Reach.{root, owned}
use Rattle.turn_rules.specs.declared.act.Frame.{Frame}
use Rattle.letter_kinds.proofs.Counts.{has_set_held}
use Rattle.letter_kinds.specs.Counting.{gain}
use Rattle.letter_kinds.specs.Holdings.{Holdings, Row, has_own, held_in}
use Rattle.letter_kinds.specs.Letters.{Letter}
use Rattle.count_laws.proofs.agreement.Agreeing.{agrees_set, apart}
use Rattle.count_laws.proofs.events.Every.{every_more, every_set}
use Rattle.count_laws.proofs.balance.InHand.{in_hand, out_of_hand}
use Rattle.count_laws.proofs.events.Take.{firm_set_held}
use Rattle.count_laws.proofs.balance.Makes.{IsFresh, fresh_held, given, given_other, held_given, make_balanced, make_prefix, more_last, more_other}
use Rattle.count_laws.proofs.knowledge.Naming.{set_names}
use Rattle.count_laws.proofs.knowledge.Paths.{along_row, reach_into}
use Rattle.count_laws.proofs.knowledge.Receiving.{row_set_held_other}
use Rattle.count_laws.proofs.balance.Seats.{some_seat}
use Rattle.machine_rules.proofs.Present.{present_below}
use Rattle.orca_names.specs.declared.trace.Trace.{Trace}
use Rattle.orca_names.specs.declared.trace.Trace.TheVariants.{Deep}
use Rattle.machine_rules.specs.Actors.{Actors, seat, seat_at, Every}
use Rattle.count_laws.specs.Agreement.{Agrees, IsRootPerson, Person, nobody, person_at, person_of}
use Rattle.machine_rules.specs.Cell.{Cell}
use Rattle.count_laws.specs.Facts.{IsFirm, IsFirmAt, KeepsCounts, IsSound}
use Rattle.machine_rules.specs.Go.{make}
use Rattle.count_laws.specs.Known.{InFrame, IsClosedAt, IsKnown, IsSoundAt, ReachesThrough, StartsWalks, RowsAreAt, in_fields, in_frame, in_table, row_at}
use Rattle.plain_rules.specs.Machine.{with_name}

agrees_more : (ps : List Person) (s : Actors) (c : Cell) (ls : List Letter) → length ps ≡ length s → Agrees ps s → Agrees (ps ++ person_of c ls ∷ []) (s ++ seat c ls ∷ [])
agrees_more ps s c ls long ag = record {
  present = λ i d ms is. ⊎_elim
      (λ same.
      let z = some_seat c d ls ms (sym (more_last s (seat c ls) i same) ∙ is) in
      last i same ∙ person_eq c d ls ms z.0 z.1)
      (λ other. old i other ∙ ag.present i d ms (sym (more_other s (seat c ls) i other) ∙ is))
      (cases_eq i (length s));
  absent = λ i is r. ⊎_elim
      (λ same. apart c ls (sym (more_last s (seat c ls) i same) ∙ is))
      (λ other. ag.absent i (sym (more_other s (seat c ls) i other) ∙ is) (subst IsRootPerson (old i other) r))
      (cases_eq i (length s));
}
  where
    last : (i : ℕ) → i ≡ length s → person_at (ps ++ person_of c ls ∷ []) i ≡ person_of c ls
    last i same = get_or_push ps (person_of c ls) nobody i (long ∙ sym same)

    person_eq : (c d : Cell) (ls ms : List Letter) → c ≡ d → ls ≡ ms → person_of c ls ≡ person_of d ms
    person_eq c d ls ms p q i = person_of (p i) (q i)

    old : (i : ℕ) → i ≢ length s → person_at (ps ++ person_of c ls ∷ []) i ≡ person_at ps i
    old i other = ⊎_elim
        (λ below. get_or_append_left ps (person_of c ls ∷ []) nobody i (omega arith))
        (λ past. get_or_past (ps ++ person_of c ls ∷ []) i nobody (let z = length-append ps (person_of c ls ∷ []) in omega arith) ∙ sym (get_or_past ps i nobody (omega arith)))
        (cases_lt i (length s))

none_some : (r : Row) → Some r ≢ None
none_some r e = cc

none_some' : (r : ℕ × Option Row) → None ≢ Some r
none_some' r e = cc

obj_actor : (q : ObjName) (n : ℕ) → Obj q ≢ Actor n
obj_actor q n e = cc

no_way : false ≢ true
no_way e = cc

fresh_has : (w : ℕ) (q : ObjName) (c : Holdings) → IsFresh w c → has_own c (Obj q) ≡ false
unfolding has_own
fresh_has w q c f = ap is_some (f.1 q.serial)

given_self : (w n : ℕ) → given w n (Actor n) ≡ w
given_self w n = rw (is_self (Actor n)) refl

module _ (trace : Trace) (wt : ℕ) (heavy : 0 < wt) (all : Thing → Option Row) (ps : List Person) (s : Actors) (inv : KeepsCounts trace all ps s)
    (a : ℕ) (c : Cell) (ls : List Letter) (at : seat_at s a ≡ seat c ls) (g : Frame)
    (fresh : Cell) (is_fresh : IsFresh wt fresh.holdings) where
  abbrev d1 : Cell
  d1 = record c { frame = Some g }

  abbrev d2 : Cell
  d2 = record d1 { holdings = gain wt (Actor (length s)) None c.holdings }

  maker_within : a < length s
  maker_within = present_below s a _ at

  firm-d2 : IsFirm d2.holdings
  firm-d2 = firm_set_held (λ h. h + wt) (Actor (length s)) None c.holdings (omega arith) (inv.firm a c ls at)

  abbrev first : Actors
  first = set s a (seat d2 ls)

  wide : length first ≡ length s
  wide = length-set s a _

  pub make_put : Every (IsSound trace all) (make wt a d1 ls fresh s) → KeepsCounts trace all (set ps a (person_of d2 ls) ++ person_of fresh [] ∷ []) (make wt a d1 ls fresh s)
  make_put sound = record {
    balanced = out_of_hand _ (make_balanced wt s a c d1 ls at (λ x. refl) (λ x. refl) fresh is_fresh (in_hand s inv.balanced));
    prefixes = make_prefix wt s a c d1 ls at (λ x. refl) (λ x. refl) fresh is_fresh trace inv.prefixes;
    sound = sound;
    agrees = agrees_more (set ps a (person_of d2 ls)) first fresh [] (length-set ps a _ ∙ inv.long ∙ sym wide)
        (agrees_set ps s a c d2 ls ls at (let w = inv.long in let z = maker_within in omega arith) inv.agrees);
    bare = inv.bare;
    long = let x = length-append (set ps a (person_of d2 ls)) (person_of fresh [] ∷ []) in let y = length-append first (seat fresh [] ∷ []) in let z = length-set ps a (person_of d2 ls) in let w = wide in let l = inv.long in omega arith;
    firm = every_more IsFirmAt first fresh [] (λ x e is. absurd (none_some' e (sym (is_fresh.2 x) ∙ is)))
        (every_set IsFirmAt s a d2 ls maker_within firm-d2 inv.firm);
  }

module _ (wt : ℕ) (heavy : 0 < wt) (all : Thing → Option Row) (ps : List Person) (s : Actors) (inv : KeepsCounts Deep all ps s)
    (a : ℕ) (c : Cell) (ls : List Letter) (at : seat_at s a ≡ seat c ls) (f : Frame) (frame : c.frame ≡ Some f) (into : ℕ)
    (fresh : Cell) (is_fresh : IsFresh wt fresh.holdings) (blank : (x : Thing) → ¬ StartsWalks fresh x) where
  abbrev n : ℕ
  n = length s

  abbrev c1 : Cell
  c1 = record c { frame = Some (with_name f into n) }

  abbrev c2 : Cell
  c2 = record c1 { holdings = gain wt (Actor n) None c.holdings }

  within : a < n
  within = present_below s a _ at

  held-c2 : (x : Thing) → held_in c2.holdings x ≡ held_in c.holdings x + given wt n x
  held-c2 x = held_given wt n c.holdings x

  has-c2 : (x : Thing) → has_own c2.holdings x ≡ has_own c.holdings x
  has-c2 x = has_set_held (λ h. h + wt) x (Actor n) None c.holdings

  given_or : (x : Thing) → 0 < given wt n x → x ≡ Actor n
  given_or x h = ⊎_elim (λ same. same) (λ other. absurd (let z = given_other wt n x other in omega arith)) (cases_thing x (Actor n))

  roots-c2 : (x : Thing) → StartsWalks c2 x → ReachesThrough all (StartsWalks c) x ⊎ (x ≡ Actor n)
  roots-c2 x (in_fields h) = inl (root (in_fields h))
  roots-c2 x (in_frame h) = ⊎_elim
      (λ old. inl (root (in_frame (subst (λ o. InFrame o x) (sym frame) old))))
      (λ new. inr (is_named new))
      (set_names f.registers into (values.Actor n) x h)
    where
      is_named : {x : Thing} → Some (Actor n) ≡ Some x → x ≡ Actor n
      is_named e = cc
  roots-c2 x (in_table h) = ⊎_elim
      (λ old. inl (root (in_table old)))
      (λ new. inr (given_or x new))
      (either (held_in c.holdings x) (given wt n x) (subst (λ k. 0 < k) (held-c2 x) h))
    where
      either : (p q : ℕ) → 0 < p + q → (0 < p) ⊎ (0 < q)
      either zero q h = inr (omega arith)
      either (suc p) q h = inl (omega arith)

  reached-c2 : (x : Thing) → ReachesThrough all (StartsWalks c2) x → ReachesThrough all (StartsWalks c) x ⊎ (x ≡ Actor n)
  reached-c2 x h = reach_into _ (λ x. ReachesThrough all (StartsWalks c) x ⊎ (x ≡ Actor n)) roots-c2
      (λ x y r p e nm. ⊎_elim (λ old. inl (along_row _ old e nm)) (λ new. absurd (let z = inv.bare n in let w = ap all new in none_some r (sym e ∙ w ∙ z))) p)
      (λ q p. ⊎_elim (λ old. inl (owned old)) (λ new. absurd (obj_actor q n new)) p) h

  known-c2 : (x : Thing) → IsKnown a c.holdings x → IsKnown a c2.holdings x
  known-c2 x (inl own) = inl (own.0, has-c2 x ∙ own.1)
  known-c2 x (inr other) = inr (other.0, let z = held-c2 x in let w = other.1 in omega arith)

  known-new : IsKnown a c2.holdings (Actor n)
  known-new = inr ((λ same. let w = within in absurd (omega arith)), let z = held-c2 (Actor n) in let w = given_self wt n in omega arith)

  back-c2 : (x : Thing) → x ≢ Actor n → IsKnown a c2.holdings x → IsKnown a c.holdings x
  back-c2 x other (inl own) = inl (own.0, sym (has-c2 x) ∙ own.1)
  back-c2 x other (inr held) = inr (held.0, let z = held-c2 x in let w = given_other wt n x other in let h = held.1 in omega arith)

  closed-c2 : IsClosedAt all a c2
  closed-c2 x h = ⊎_elim
      (λ old. known-c2 x ((inv.sound a c ls at).closed x old))
      (λ new. subst (IsKnown a c2.holdings) (sym new) known-new)
      (reached-c2 x h)

  rows-c2 : RowsAreAt all a c2.holdings
  rows-c2 x k = ⊎_elim
      (λ new. subst (λ y. row_at a c2.holdings y ≡ all y) (sym new) (sym (inv.bare n)))
      (λ other. row_set_held_other a (λ h. h + wt) (Actor n) None x c.holdings other ∙ (inv.sound a c ls at).rows x (back-c2 x other k))
      (cases_thing x (Actor n))

  closed-fresh : IsClosedAt all n fresh
  closed-fresh x h = absurd (reach_into _ (λ x. ⊥) blank (λ x y r p e nm. p) (λ q p. p) h)

  rows-fresh : RowsAreAt all n fresh.holdings
  rows-fresh (Actor b) k = sym (inv.bare b)
  rows-fresh (Obj q) (inl own) = absurd (let z = fresh_has wt q fresh.holdings is_fresh in let w = own.1 in no_way (sym z ∙ w))
  rows-fresh (Obj q) (inr held) = absurd (let z = fresh_held wt fresh.holdings is_fresh (Obj q) in let w = held.1 in omega arith)

  abbrev first' : Actors
  first' = set s a (seat c2 ls)

  wide' : length first' ≡ n
  wide' = length-set s a _

  pub make_keeps_counts : KeepsCounts Deep all (set ps a (person_of c2 ls) ++ person_of fresh [] ∷ []) (make wt a c1 ls fresh s)
  make_keeps_counts = make_put Deep wt heavy all ps s inv a c ls at (with_name f into n) fresh is_fresh
      (every_more (IsSoundAt all) first' fresh [] (rw wide' (record { closed = closed-fresh; rows = rows-fresh; loads = tt }))
      (every_set (IsSoundAt all) s a c2 ls within (record { closed = closed-c2; rows = rows-c2; loads = (inv.sound a c ls at).loads }) inv.sound))
