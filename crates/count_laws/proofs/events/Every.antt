-- What holds of every actor that is present stays so where one seat changes or letters are pushed.
use Rattle.std.proofs.Common.{◌≡◌, ◌≢◌, ℕ, ◌<◌, Option, Some, None, List, [], ◌∷◌, ◌++◌, length, set, refl, sym, ◌∙◌, ap, subst, subst₂, ⊎_elim, get_or-set_other, get_or-set_same, length-set}
use Rattle.std.proofs.lemmas.Bool.{cases_eq, cases_lt}
use Rattle.std.proofs.lemmas.List.{get_or_past}
use Rattle.count_laws.proofs.balance.Seats.{some_seat}
use Rattle.machine_rules.proofs.Present.{present_below}
use Rattle.machine_rules.proofs.Posting.{length-push}
use Rattle.count_laws.proofs.balance.Makes.{more_last, more_other}
use Rattle.count_laws.proofs.agreement.Agreeing.{agrees_push_other}
use Rattle.letter_kinds.specs.Letters.{Letter, Dec}
use Rattle.machine_rules.specs.Actors.{Seat, Actors, seat_at, push_letter, push_decs, seat, Every}
use Rattle.count_laws.specs.Agreement.{Person, Agrees}
use Rattle.machine_rules.specs.Cell.{Cell}
use Rattle.orca_names.specs.declared.names.Thing.{Thing}

module _ (Q : ℕ → Cell → List Letter → Type 0) where
  pub every_set : (s : Actors) (b : ℕ) (c : Cell) (ls : List Letter) → b < length s → Q b c ls → Every Q s → Every Q (set s b (seat c ls))
  every_set s b c ls within new every a d ms at = ⊎_elim
      (λ same.
      let z = some_seat c d ls ms (sym (rw same (get_or-set_same s b (seat c ls) None within)) ∙ at) in
      let q : Q b d ms = subst₂ (Q b) z.0 z.1 new in
      subst (λ (i : ℕ). Q i d ms) (sym same) q)
      (λ other. every a d ms (sym (get_or-set_other s b a (seat c ls) None other) ∙ at))
      (cases_eq a b)

  pub every_but : (s : Actors) (b : ℕ) (c : Cell) (ls : List Letter) → b < length s → Q b c ls
      → ((a : ℕ) (d : Cell) (ms : List Letter) → a ≢ b → seat_at s a ≡ seat d ms → Q a d ms) → Every Q (set s b (seat c ls))
  every_but s b c ls within new every a d ms at = ⊎_elim
      (λ same.
      let z = some_seat c d ls ms (sym (rw same (get_or-set_same s b (seat c ls) None within)) ∙ at) in
      let q : Q b d ms = subst₂ (Q b) z.0 z.1 new in
      subst (λ (i : ℕ). Q i d ms) (sym same) q)
      (λ other. every a d ms other (sym (get_or-set_other s b a (seat c ls) None other) ∙ at))
      (cases_eq a b)

  pub every_more : (s : Actors) (c : Cell) (ls : List Letter) → Q (length s) c ls → Every Q s → Every Q (s ++ seat c ls ∷ [])
  every_more s c ls new every a d ms at = ⊎_elim
      (λ same.
      let z = some_seat c d ls ms (sym (more_last s (seat c ls) a same) ∙ at) in
      let q : Q (length s) d ms = subst₂ (Q (length s)) z.0 z.1 new in
      subst (λ (i : ℕ). Q i d ms) (sym same) q)
      (λ other. every a d ms (sym (more_other s (seat c ls) a other) ∙ at))
      (cases_eq a (length s))

-- nothing at b: a letter for it is lost, and nothing changes
pub set_none : (s : Actors) (b i : ℕ) → seat_at s b ≡ None → seat_at (set s b None) i ≡ seat_at s i
set_none s b i e = ⊎_elim
    (λ same. ⊎_elim
    (λ within. rw same (get_or-set_same s b None None within ∙ sym e))
    (λ past. rw same (get_or_past (set s b None) b None (rw (length-set s b None) past) ∙ sym e))
    (cases_lt b (length s)))
    (λ other. get_or-set_other s b i None None other)
    (cases_eq i b)

pub push_none : (s : Actors) (b : ℕ) (l : Letter) → seat_at s b ≡ None → push_letter b l s ≡ set s b None
unfolding push_letter
push_none s b l e = rw e refl

module _ (Q : ℕ → Cell → List Letter → Type 0) (l : Letter) (stable : (a : ℕ) (c : Cell) (ls : List Letter) → Q a c ls → Q a c (ls ++ l ∷ [])) where
  push_some : (s : Actors) (b : ℕ) (o : Seat) → seat_at s b ≡ Some o → push_letter b l s ≡ set s b (seat o.cell (o.mail ++ l ∷ []))
  unfolding push_letter
  push_some s b o e = rw e refl

  by_seat : (s : Actors) (b : ℕ) (o : Option Seat) → seat_at s b ≡ o → Every Q s → Every Q (push_letter b l s)
  by_seat s b None e every = λ a d ms at. every a d ms (sym (set_none s b a e) ∙ ap (λ t. seat_at t a) (sym (push_none s b l e)) ∙ at)
  by_seat s b (Some o) e every = rw (push_some s b o e) (every_set Q s b o.cell (o.mail ++ l ∷ []) (present_below s b o e) (stable b o.cell o.mail (every b o.cell o.mail e)) every)

  pub every_push : (s : Actors) (b : ℕ) → Every Q s → Every Q (push_letter b l s)
  every_push s b every = by_seat s b (seat_at s b) refl every

pub every_decs : (Q : ℕ → Cell → List Letter → Type 0) → ((es : List (Thing × ℕ)) (a : ℕ) (c : Cell) (ls : List Letter) → Q a c ls → Q a c (ls ++ Dec es ∷ []))
    → (gs : List (ℕ × List (Thing × ℕ))) (s : Actors) → Every Q s → Every Q (push_decs gs s)
unfolding push_decs
every_decs Q stable [] s every = every
every_decs Q stable (g ∷ gs) s every = every_decs Q stable gs (push_letter g.0 (Dec g.1) s) (every_push Q (Dec g.1) (stable g.1) s g.0 every)

-- the same for the agreement
agrees_seat : (ps : List Person) (s : Actors) (b : ℕ) (es : List (Thing × ℕ)) (o : Option Seat) → seat_at s b ≡ o → Agrees ps s → Agrees ps (push_letter b (Dec es) s)
agrees_seat ps s b es None e ag = rw (push_none s b (Dec es) e) (record {
  present = λ a d ms at. ag.present a d ms (sym (set_none s b a e) ∙ at);
  absent = λ a at. ag.absent a (sym (set_none s b a e) ∙ at);
})
agrees_seat ps s b es (Some o) e ag = agrees_push_other ps s b (Dec es) o e refl ag

pub agrees_decs : (ps : List Person) (gs : List (ℕ × List (Thing × ℕ))) (s : Actors) → Agrees ps s → Agrees ps (push_decs gs s)
unfolding push_decs
agrees_decs ps [] s ag = ag
agrees_decs ps (g ∷ gs) s ag = agrees_decs ps gs (push_letter g.0 (Dec g.1) s) (agrees_seat ps s g.0 g.1 (seat_at s g.0) refl ag)

pub length-decs : (gs : List (ℕ × List (Thing × ℕ))) (s : Actors) → length (push_decs gs s) ≡ length s
unfolding push_decs
length-decs [] s = refl
length-decs (g ∷ gs) s = length-decs gs _ ∙ length-push g.0 (Dec g.1) s
