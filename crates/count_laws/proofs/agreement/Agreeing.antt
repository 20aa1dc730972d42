-- Events keep the agreement of the two machines.
use Rattle.std.proofs.Common.{◌≡◌, ◌≢◌, ℕ, ◌<◌, Option, Some, None, List, [], ◌∷◌, ◌++◌, length, set, refl, sym, ◌∙◌, ap, subst, ⊎_elim, get_or-set_same, get_or-set_other}
use Rattle.std.proofs.lemmas.Bool.{cases_eq}
use Rattle.count_laws.proofs.balance.Seats.{at_same, at_other, some_seat}
use Rattle.machine_rules.proofs.Present.{present_below}
use Rattle.count_laws.proofs.balance.Sends.{push_is}
use Rattle.letter_kinds.specs.Holdings.{Row}
use Rattle.letter_kinds.specs.Letters.{Letter, App}
use Rattle.machine_rules.specs.Actors.{Seat, Actors, seat_at, push_letter, seat}
use Rattle.count_laws.specs.Agreement.{Person, nobody, person_at, person_of, IsRootPerson, app_letters, Agrees}
use Rattle.machine_rules.specs.Cell.{Cell}
use Rattle.orca_names.specs.declared.names.Thing.{Thing}
use Rattle.orca_names.specs.declared.names.Value.{Value}

pub apart : (c : Cell) (ls : List Letter) → seat c ls ≢ None
apart c ls e = cc

-- both machines change one actor
pub agrees_set : (ps : List Person) (s : Actors) (a : ℕ) (c c' : Cell) (ls ls' : List Letter) → seat_at s a ≡ seat c ls → a < length ps → Agrees ps s
    → Agrees (set ps a (person_of c' ls')) (set s a (seat c' ls'))
agrees_set ps s a c c' ls ls' at within ag =
    let below = present_below s a _ at in
    record {
      present = λ i d ms is. ⊎_elim
          (λ same.
          let z = some_seat c' d ls' ms (sym (at_same s a (seat c ls) (seat c' ls') below at i same) ∙ is) in
          rw (same, get_or-set_same ps a (person_of c' ls') nobody within, z.0, z.1) refl)
          (λ other. get_or-set_other ps a i (person_of c' ls') nobody other ∙ ag.present i d ms (sym (at_other s a (seat c ls) (seat c' ls') below at i other) ∙ is))
          (cases_eq i a);
      absent = λ i is r. ⊎_elim
          (λ same. apart c' ls' (sym (at_same s a (seat c ls) (seat c' ls') below at i same) ∙ is))
          (λ other. ag.absent i (sym (at_other s a (seat c ls) (seat c' ls') below at i other) ∙ is) (subst IsRootPerson (get_or-set_other ps a i (person_of c' ls') nobody other) r))
          (cases_eq i a);
    }

-- only the counting machine changes, and the actor looks the same
pub agrees_same : (ps : List Person) (s : Actors) (a : ℕ) (c c' : Cell) (ls ls' : List Letter) → seat_at s a ≡ seat c ls → person_of c ls ≡ person_of c' ls' → Agrees ps s
    → Agrees ps (set s a (seat c' ls'))
agrees_same ps s a c c' ls ls' at alike ag =
    let below = present_below s a _ at in
    record {
      present = λ i d ms is. ⊎_elim
          (λ same.
          let z = some_seat c' d ls' ms (sym (at_same s a (seat c ls) (seat c' ls') below at i same) ∙ is) in
          rw (same, sym z.0, sym z.1) (ag.present a c ls at ∙ alike))
          (λ other. ag.present i d ms (sym (at_other s a (seat c ls) (seat c' ls') below at i other) ∙ is))
          (cases_eq i a);
      absent = λ i is r. ⊎_elim
          (λ same. apart c' ls' (sym (at_same s a (seat c ls) (seat c' ls') below at i same) ∙ is))
          (λ other. ag.absent i (sym (at_other s a (seat c ls) (seat c' ls') below at i other) ∙ is) r)
          (cases_eq i a);
    }

app_more : (ls : List Letter) (l : Letter) → app_letters (ls ++ l ∷ []) ≡ app_letters ls ++ app_letters (l ∷ [])
app_more [] l = refl
app_more (App b args load rows ∷ ls) l = ap (λ r. record { behaviour = b; args = args } ∷ r) (app_more ls l)
app_more (m ∷ ls) l = app_more ls l

abbrev pub with_letter : ℕ → List Value → Person → Person
with_letter b args p = record p { letters = p.letters ++ record { behaviour = b; args = args } ∷ [] }

pub agrees_push_app : (ps : List Person) (s : Actors) (to b : ℕ) (args : List Value) (load rows : List (Thing × Option Row)) (o : Seat) → seat_at s to ≡ Some o → to < length ps → Agrees ps s
    → Agrees (set ps to (with_letter b args (person_at ps to))) (push_letter to (App b args load rows) s)
agrees_push_app ps s to b args load rows o at within ag =
    let e = ag.present to o.cell o.mail at in
    let m = app_more o.mail (App b args load rows) in
    rw (push_is s to (App b args load rows) o at, e)
    (subst (λ ls. Agrees (set ps to (record (person_of o.cell o.mail) { letters = ls })) (set s to (seat o.cell (o.mail ++ App b args load rows ∷ [])))) m
    (agrees_set ps s to o.cell o.cell o.mail (o.mail ++ App b args load rows ∷ []) at within ag))

append_none : {A : Type 0} (xs : List A) → xs ++ [] ≡ xs
append_none [] = refl
append_none (x ∷ xs) = ap (λ r. x ∷ r) (append_none xs)

pub agrees_push_other : (ps : List Person) (s : Actors) (b : ℕ) (l : Letter) (o : Seat) → seat_at s b ≡ Some o → app_letters (l ∷ []) ≡ [] → Agrees ps s
    → Agrees ps (push_letter b l s)
agrees_push_other ps s b l o at bare ag = rw (push_is s b l o at)
    (agrees_same ps s b o.cell o.cell o.mail (o.mail ++ l ∷ []) at
    (ap (λ ls. record { kind = o.cell.kind; fields = o.cell.fields; frame = o.cell.frame; serial = o.cell.holdings.next; letters = ls })
    (sym (app_more o.mail l ∙ ap (λ r. app_letters o.mail ++ r) bare ∙ append_none (app_letters o.mail)))) ag)
