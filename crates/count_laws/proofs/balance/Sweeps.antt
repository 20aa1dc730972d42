-- Collecting keeps the balance and the prefixes: what is swept from the table goes back in Decs.
use Rattle.std.proofs.Common.{◌≡◌, ℕ, ◌+◌, ◌<◌, ◌==◌, cond, Bool, true, false, List, [], ◌∷◌, set, refl, sym, ◌∙◌, ap, arith, subst, ⊎_elim, eq-eqb, ne_eqb}
use Rattle.std.specs.Prelude.{⊤}
use Rattle.std.proofs.lemmas.Bool.{cases_eq}
use Rattle.orca_names.proofs.ThingOrder.{cases_thing, is_eq_true, is_ne_false}
use Rattle.letter_kinds.proofs.Counts.{amount-nil, amount-same, amount-other, cond_eq}
use Rattle.count_laws.proofs.balance.Posting.{push_balanced}
use Rattle.count_laws.proofs.balance.SeatReads.{letter_Dec}
use Rattle.count_laws.proofs.balance.Sweeping.{own-sweep, held-sweep, amount-given_back}
use Rattle.count_laws.proofs.balance.Sends.{cell_balanced, cell_prefix, present_owner, push_prefix, cond_zero}
use Rattle.letter_kinds.specs.Counting.{sweep, given_back, join_owner, by_owner}
use Rattle.letter_kinds.specs.Holdings.{held_in, own_in}
use Rattle.letter_kinds.specs.Sums.{amount_of, inc_of}
use Rattle.letter_kinds.specs.Letters.{Letter, Dec}
use Rattle.count_laws.proofs.balance.InHand.{BalancedWith, debit, none, AllCounted, Balanced}
use Rattle.count_laws.proofs.balance.Seats.{IsPresent}
use Rattle.orca_names.specs.declared.trace.Trace.{Trace}
use Rattle.machine_rules.specs.Actors.{Actors, seat_at, push_letter, push_decs, seat}
use Rattle.count_laws.specs.Prefixes.{NeverOverdraws}
use Rattle.machine_rules.specs.Cell.{Cell}
use Rattle.machine_rules.specs.Collect.{after_collect}
use Rattle.orca_names.specs.Names.{owner_of, is_thing}
use Rattle.orca_names.specs.declared.names.Thing.{Thing}

-- what the letters to all owners owe
unfoldable pub owed : List (ℕ × List (Thing × ℕ)) → Thing → ℕ
owed [] x = 0
owed (g ∷ gs) x = debit g.0 (Dec g.1) x + owed gs x

pub debit_Dec : (b : ℕ) (es : List (Thing × ℕ)) (x : Thing) → debit b (Dec es) x ≡ cond (owner_of x == b) (amount_of x es) 0
debit_Dec b es x = let l = letter_Dec x es in rw (l.1, l.2) (omega arith)

debit_one : (b : ℕ) (e : Thing × ℕ) (es : List (Thing × ℕ)) (x : Thing) → owner_of e.0 ≡ b → debit b (Dec (e ∷ es)) x ≡ cond (is_thing x e.0) e.1 0 + debit b (Dec es) x
debit_one b e es x o =
    rw (debit_Dec b (e ∷ es) x, debit_Dec b es x) (⊎_elim
    (λ same. rw (is_eq_true x e.0 same, cond_eq (owner_of x) b (amount_of x (e ∷ es)) 0 (ap owner_of same ∙ o), cond_eq (owner_of x) b (amount_of x es) 0 (ap owner_of same ∙ o)) (amount-same x e es same))
    (λ other. rw (is_ne_false x e.0 other, amount-other x e es other) (omega arith))
    (cases_thing x e.0))

debit_none : (b : ℕ) (x : Thing) → debit b (Dec []) x ≡ 0
debit_none b x = debit_Dec b [] x ∙ cond_zero (owner_of x == b) (amount_of x []) (amount-nil x)

owed-join : (e : Thing × ℕ) (gs : List (ℕ × List (Thing × ℕ))) (x : Thing) → owed (join_owner e gs) x ≡ cond (is_thing x e.0) e.1 0 + owed gs x
unfolding owed
owed-join e [] x = omega (arith, debit_one (owner_of e.0) e [] x refl, debit_none (owner_of e.0) x)
owed-join e (g ∷ gs) x = ⊎_elim
    (λ same. rw (eq-eqb (owner_of e.0) g.0 same) (omega (arith, debit_one g.0 e g.1 x same)))
    (λ other. rw (ne_eqb (owner_of e.0) g.0 other) (omega (arith, debit_one (owner_of e.0) e [] x refl, debit_none (owner_of e.0) x)))
    (cases_eq (owner_of e.0) g.0)

pub owed-groups : (es : List (Thing × ℕ)) (x : Thing) → owed (by_owner es) x ≡ amount_of x es
unfolding by_owner owed
owed-groups [] x = sym (amount-nil x)
owed-groups (e ∷ es) x = owed-join e (by_owner es) x ∙ ⊎_elim
    (λ same. rw (is_eq_true x e.0 same) (let u = amount-same x e es same in let r = owed-groups es x in omega arith))
    (λ other. rw (is_ne_false x e.0 other) (let u = amount-other x e es other in let r = owed-groups es x in omega arith))
    (cases_thing x e.0)

-- each group is of something, of its owner, that is counted
abbrev pub Firm : List (ℕ × List (Thing × ℕ)) → Type 0
Firm [] = ⊤
Firm (g ∷ gs) = ((x : Thing) × (owner_of x ≡ g.0) × (0 < amount_of x g.1)) × Firm gs

firm_join : (e : Thing × ℕ) (gs : List (ℕ × List (Thing × ℕ))) → 0 < e.1 → Firm gs → Firm (join_owner e gs)
firm_join e [] h f = ((e.0, refl, (let u = amount-same e.0 e [] refl in omega arith)), tt)
firm_join e (g ∷ gs) h f = ⊎_elim
    (λ same. rw (eq-eqb (owner_of e.0) g.0 same) ((e.0, same, (let u = amount-same e.0 e g.1 refl in omega arith)), f.1))
    (λ other. rw (ne_eqb (owner_of e.0) g.0 other) ((e.0, refl, (let u = amount-same e.0 e [] refl in omega arith)), f))
    (cases_eq (owner_of e.0) g.0)

pub firm_groups : (es : List (Thing × ℕ)) → AllCounted es → Firm (by_owner es)
unfolding by_owner
firm_groups [] h = tt
firm_groups (e ∷ es) h = firm_join e (by_owner es) h.0 (firm_groups es h.1)

-- pushing them all
group_present : (g : ℕ × List (Thing × ℕ)) (gs : List (ℕ × List (Thing × ℕ))) (s : Actors) → Firm (g ∷ gs) → BalancedWith none (owed (g ∷ gs)) s → IsPresent s g.0
unfolding owed
group_present g gs s f bal =
    let x = f.0.0 in
    let z = bal x in
    let d = debit_Dec g.0 g.1 x ∙ cond_eq (owner_of x) g.0 (amount_of x g.1) 0 f.0.1 in
    subst (IsPresent s) f.0.1 (present_owner x s (omega (arith, f.0.2)))

pub decs_keep : (trace : Trace) (gs : List (ℕ × List (Thing × ℕ))) (s : Actors) → Firm gs → BalancedWith none (owed gs) s → NeverOverdraws trace s → Balanced (push_decs gs s) × NeverOverdraws trace (push_decs gs s)
unfolding push_decs owed
decs_keep trace [] s f bal p = (bal, p)
decs_keep trace (g ∷ gs) s f bal p =
    let there = group_present g gs s f bal in
    let next : BalancedWith none (owed gs) (push_letter g.0 (Dec g.1) s) = push_balanced s g.0 (Dec g.1) none (owed gs) there
    (λ x. let z = bal x in let c = cond_zero (owner_of x == g.0) (inc_of x (Dec g.1)) (letter_Dec x g.1).0 in omega arith) in
    decs_keep trace gs (push_letter g.0 (Dec g.1) s) f.1 next
    (push_prefix trace s g.0 (Dec g.1) (owed gs) there.0 there.1 next (λ deep x is some. absurd (let l = (letter_Dec x g.1).0 in omega arith)) p)

-- a collection
module _ (marked : Thing → Bool) (s : Actors) (a : ℕ) (c0 c : Cell) (mail : List Letter) (at : seat_at s a ≡ seat c0 mail) (same : c.holdings ≡ c0.holdings) (counted : AllCounted (given_back marked c.holdings)) where
  abbrev after : Cell
  after = record c { holdings = sweep marked a c.holdings; dirty = false }

  pub collect_keeps : (trace : Trace) → Balanced s → NeverOverdraws trace s → Balanced (after_collect marked a c mail s) × NeverOverdraws trace (after_collect marked a c mail s)
  collect_keeps trace bal p = decs_keep trace (by_owner (given_back marked c.holdings)) (set s a (seat after mail)) (firm_groups _ counted)
      (cell_balanced s a c0 after mail at none none none (owed (by_owner (given_back marked c.holdings)))
      (λ x is. let o = own-sweep marked a c.holdings x in let e = gone x in let p = own_same x in let q = held_same x in omega arith)
      (λ x not. let e = gone x in let q = held_same x in omega arith)
      bal)
      (cell_prefix s a c0 after mail at trace (λ x is. let o = own-sweep marked a c.holdings x in let p = own_same x in omega arith) p)
    where
      own_same : (x : Thing) → own_in c.holdings x ≡ own_in c0.holdings x
      own_same x = ap (λ h. own_in h x) same

      held_same : (x : Thing) → held_in c.holdings x ≡ held_in c0.holdings x
      held_same x = ap (λ h. held_in h x) same

      parts : (b : Bool) (n : ℕ) → cond b n 0 + cond b 0 n ≡ n
      parts true n = omega arith
      parts false n = omega arith

      gone : (x : Thing) → held_in (sweep marked a c.holdings) x + owed (by_owner (given_back marked c.holdings)) x ≡ held_in c.holdings x
      gone x = rw (held-sweep marked a c.holdings x, owed-groups (given_back marked c.holdings) x, amount-given_back marked c.holdings x) (parts (marked x) (held_in c.holdings x))
