-- An event that is not of an actor, and does not reap it, leaves its cell, and adds letters at most.
use Rattle.std.proofs.Common.{◌≡◌, ◌≢◌, ℕ, suc, ◌<◌, false, Option, Some, None, List, [], ◌∷◌, ◌++◌, length, length-set, set, refl, ap, sym, ◌∙◌, arith, append_assoc, append-nil, ⊎_elim, eq-eqb, ne_eqb, get_or-set_other}
use Rattle.std.proofs.lemmas.Bool.{cases_eq, false≢true}
use Rattle.event_rule.specs.declared.event.Event.{Event}
use Rattle.event_rule.specs.declared.event.Event.TheVariants.{Take, Go, Collect, Leave, Block}
use Rattle.letter_kinds.specs.Counting.{Amount, by_owner, given_back}
use Rattle.letter_kinds.specs.Detector.{closed_set, has}
use Rattle.letter_kinds.specs.Letters.{Letter, Confirm, Dec}
use Rattle.machine_rules.proofs.Stepping.{step_of}
use Rattle.machine_rules.specs.Rules.{IsStep, cell_kept, later_frame}
use Rattle.machine_rules.specs.Rules as rule
use Rattle.machine_rules.proofs.Enabling.{enabled_exactly}
use Rattle.count_laws.proofs.events.Every.{push_none, set_none}
use Rattle.count_laws.proofs.balance.Makes.{more_other}
use Rattle.count_laws.proofs.balance.Seats.{at_same}
use Rattle.machine_rules.proofs.Present.{present_below}
use Rattle.count_laws.proofs.balance.Sends.{push_is}
use Rattle.machine_rules.specs.Actors.{Actors, Seat, cell_at, cell_of, letters_of, mail_at, push_decs, push_letter, seat, seat_at, with_letter_more}
use Rattle.count_laws.specs.Apart.{IsApart, KeepsEnabled, LeavesCell, OthersKeepEnabled, OthersLeaveTheCell}
use Rattle.machine_rules.specs.Cell.{Cell}
use Rattle.machine_rules.specs.Collect.{is_marked, without_unused}
use Rattle.machine_rules.specs.Detect.{ask_all, empty_seats, reap_decs, reap_members}
use Rattle.machine_rules.specs.Enabled.{CanHappen}
use Rattle.machine_rules.proofs.Guards.{MayReport, acked_open, leaver, may_leave-none, may_report, may_take-some, reporter, taker}
use Rattle.event_rule.specs.Runs.{IsEnabled}
use Rattle.machine_rules.specs.Next.{next}
use Rattle.orca_names.specs.declared.trace.Trace.{Trace}
use Rattle.machine_rules.specs.State.{State}

-- ---- the seat of an actor gets letters

pub record Adds (s t : Actors) (a : ℕ) : Type 0 where
  pub cell : cell_at t a ≡ cell_at s a
  pub come : List Letter
  pub mail : mail_at t a ≡ mail_at s a ++ come

adds_same : (s t : Actors) (a : ℕ) → seat_at t a ≡ seat_at s a → Adds s t a
adds_same s t a same = record { cell = ap cell_of same; come = []; mail = ap letters_of same ∙ sym (append-nil (mail_at s a)) }

adds_trans : (s mid t : Actors) (a : ℕ) → Adds s mid a → Adds mid t a → Adds s t a
adds_trans s mid t a one two = record {
  cell = two.cell ∙ one.cell;
  come = one.come ++ two.come;
  mail = two.mail ∙ ap (λ m. m ++ two.come) one.mail ∙ append_assoc (mail_at s a) one.come two.come;
}

adds_other : (s : Actors) (b a : ℕ) (o : Option Seat) → a ≢ b → Adds s (set s b o) a
adds_other s b a o not = adds_same s (set s b o) a (get_or-set_other s b a o None not)

adds_push : (s : Actors) (b : ℕ) (l : Letter) (a : ℕ) → Adds s (push_letter b l s) a
adds_push s b l a = by_seat (seat_at s b) refl
  where
    by_seat : (o : Option Seat) → seat_at s b ≡ o → Adds s (push_letter b l s) a
    by_seat None at = rw (push_none s b l at) (adds_same s (set s b None) a (set_none s b a at))
    by_seat (Some o) at = rw (push_is s b l o at) (⊎_elim
        (λ is.
        let now = at_same s b (Some o) (with_letter_more l (Some o)) (present_below s b o at) at a is in
        let was : seat_at s a ≡ Some o = ap (seat_at s) is ∙ at in
        record { cell = ap cell_of now ∙ sym (ap cell_of was); come = l ∷ []; mail = ap letters_of now ∙ sym (ap (λ q. letters_of q ++ l ∷ []) was) })
        (λ not. adds_other s b a (with_letter_more l (Some o)) not)
        (cases_eq a b))

pub adds_decs : (gs : List (ℕ × List Amount)) (s : Actors) (a : ℕ) → Adds s (push_decs gs s) a
unfolding push_decs
adds_decs [] s a = adds_same s s a refl
adds_decs (g ∷ gs) s a = adds_trans s (push_letter g.0 (Dec g.1) s) _ a (adds_push s g.0 (Dec g.1) a) (adds_decs gs (push_letter g.0 (Dec g.1) s) a)

adds_asked : (members : List ℕ) (token : ℕ) (s : Actors) (a : ℕ) → Adds s (ask_all members token s) a
adds_asked [] token s a = adds_same s s a refl
adds_asked (b ∷ members) token s a = adds_trans s (push_letter b (Confirm token) s) _ a (adds_push s b (Confirm token) a) (adds_asked members token (push_letter b (Confirm token) s) a)

-- who is not first among members, nor later
pub spared_first : (m : ℕ) (members : List ℕ) (a : ℕ) → has (m ∷ members) a ≡ false → (a ≢ m) × (has members a ≡ false)
spared_first m members a out = ⊎_elim
    (λ same. absurd (let z = eq-eqb m a same in false≢true (sym out ∙ rw z refl)))
    (λ other. ((λ e. other (sym e)), rw (ne_eqb m a other) at out))
    (cases_eq m a)

pub emptied_other : (members : List ℕ) (s : Actors) (a : ℕ) → has members a ≡ false → seat_at (empty_seats members s) a ≡ seat_at s a
unfolding empty_seats
emptied_other [] s a out = refl
emptied_other (m ∷ members) s a out =
    let z = spared_first m members a out in
    emptied_other members (set s m None) a z.1 ∙ get_or-set_other s m a None None z.0

adds_reaped : (members : List ℕ) (s : Actors) (a : ℕ) → has members a ≡ false → Adds s (reap_members members s) a
adds_reaped members s a out =
    adds_trans s (empty_seats members s) _ a (adds_same s (empty_seats members s) a (emptied_other members s a out))
    (adds_decs (reap_decs members members s) (empty_seats members s) a)

adds_more : (s : Actors) (o : Option Seat) (a : ℕ) → a < length s → Adds s (s ++ o ∷ []) a
adds_more s o a below = adds_same s (s ++ o ∷ []) a (more_other s o a (omega arith))

adds_made : (s : Actors) (b a : ℕ) (o new : Option Seat) → a ≢ b → a < length s → Adds s (set s b o ++ new ∷ []) a
adds_made s b a o new not below = adds_trans s (set s b o) (set s b o ++ new ∷ []) a (adds_other s b a o not) (adds_more (set s b o) new a (let l = length-set s b o in omega arith))

-- ---- each event

not_mine : (a b : ℕ) → Some b ≢ Some a → a ≢ b
not_mine a b h e = h (ap Some (sym e))

abbrev Leaves : State → Event → State → Type 0
Leaves s e t = (a : ℕ) → IsApart s a e → Adds s.actors t.actors a

pub alone_spared : (a b : ℕ) → b ≢ a → has (a ∷ []) b ≡ false
alone_spared a b not = rw (ne_eqb a b (λ e. not (sym e))) refl

leaves : (trace : Trace) (s : State) {e : Event} {t : State} → IsStep trace s e t → Leaves s e t
leaves trace s (rule.takes b c l mail at is) a apart = adds_other s.actors b a _ (not_mine a b apart.others)
leaves trace s (rule.ends b c mail f stops) a apart = adds_other s.actors b a _ (not_mine a b apart.others)
leaves trace s (rule.prints b c mail f v stops) a apart = adds_other s.actors b a _ (not_mine a b apart.others)
leaves trace s (rule.makes b c mail f kind register stops room) a apart = adds_made s.actors b a _ _ (not_mine a b apart.others) apart.made
leaves trace s (rule.posts b c mail f to behaviour args stops none) a apart = adds_trans s.actors (set s.actors b _) _ a (adds_other s.actors b a _ (not_mine a b apart.others)) (adds_push _ to _ a)
leaves trace s (rule.mints b c mail f to behaviour args e lacked stops is) a apart = adds_trans s.actors (set s.actors b _) _ a (adds_other s.actors b a _ (not_mine a b apart.others)) (adds_push _ _ _ a)
leaves trace s (rule.gets b c mail f x going need) a apart = adds_trans s.actors (set s.actors b _) _ a (adds_other s.actors b a _ (not_mine a b apart.others)) (adds_push _ _ _ a)
leaves trace s (rule.collects b c mail at may) a apart =
    adds_trans s.actors (set s.actors b _) _ a (adds_other s.actors b a _ (not_mine a b apart.others))
    (adds_decs (by_owner (given_back (is_marked trace b c) (without_unused trace b c).holdings)) _ a)
leaves trace s (rule.leaves b c mail at may) a apart = adds_reaped (b ∷ []) s.actors a (alone_spared b a (not_mine a b apart.others))
leaves trace s (rule.blocks b c mail at may) a apart = adds_other s.actors b a _ (not_mine a b apart.others)
leaves trace s (rule.hears note later is) a apart = adds_same s.actors s.actors a refl
leaves trace s (rule.scans news) a apart = adds_asked (closed_set s.detector) (suc s.detector.opened) s.actors a
leaves trace s (rule.reaps number token is) a apart = adds_reaped token.members s.actors a (apart.spared number token refl (acked_open number s.detector token is).0)

pub others_leave : OthersLeaveTheCell
others_leave s t a e apart goes = let z = leaves s.options.trace s (step_of s t e goes) a apart in record { cell = z.cell; come = z.come; mail = z.mail }

-- ---- what is enabled of the actor

seat_cell : (o : Option Seat) (c : Cell) → cell_of o ≡ Some c → o ≡ seat c (letters_of o)
seat_cell None c e = cc
seat_cell (Some o) c e = let same : o.cell ≡ c = cc in ap (λ d. seat d o.mail) same

push_not_empty : (mail come : List Letter) → mail ≢ [] → mail ++ come ≢ []
push_not_empty [] come some e = some refl
push_not_empty (l ∷ mail) come some e = cc

empty_before : (mail come : List Letter) → mail ++ come ≡ [] → mail ≡ []
empty_before [] come e = refl
empty_before (l ∷ mail) come e = cc

module _ (s t : State) (a : ℕ) (adds : LeavesCell s t a) where
  -- who is present then was present, and back, with the same cell
  before : (c : Cell) (mail : List Letter) → seat_at t.actors a ≡ seat c mail → (seat_at s.actors a ≡ seat c (mail_at s.actors a)) × (mail ≡ mail_at s.actors a ++ adds.come)
  before c mail at = (seat_cell (seat_at s.actors a) c (sym adds.cell ∙ ap cell_of at), sym (ap letters_of at) ∙ adds.mail)

  after : (c : Cell) (mail : List Letter) → seat_at s.actors a ≡ seat c mail → seat_at t.actors a ≡ seat c (mail ++ adds.come)
  after c mail at = seat_cell (seat_at t.actors a) c (adds.cell ∙ ap cell_of at) ∙ ap (seat c) (adds.mail ∙ ap (λ o. letters_of o ++ adds.come) at)

  still : (e : Event) → (CanHappen s e → CanHappen t e) → IsEnabled next s e → IsEnabled next t e
  still e f on = (enabled_exactly t e).1 (f ((enabled_exactly s e).0 on))

  was : (e : Event) → (CanHappen t e → CanHappen s e) → IsEnabled next t e → IsEnabled next s e
  was e f on = (enabled_exactly s e).1 (f ((enabled_exactly t e).0 on))

  -- where the mail is empty afterwards it was so before
  rests_before : (c : Cell) (mail : List Letter) → seat_at t.actors a ≡ seat c mail → MayReport c mail → MayReport c (mail_at s.actors a)
  rests_before c mail at may =
      let z = before c mail at in
      record { rest = record { idle = may.rest.idle; clean = may.rest.clean; empty = empty_before (mail_at s.actors a) adds.come (sym z.1 ∙ may.rest.empty) }; unpinned = may.unpinned; unreported = may.unreported }

  rests_after : (c : Cell) (mail : List Letter) → seat_at s.actors a ≡ seat c mail → mail_at t.actors a ≡ [] → MayReport c mail → MayReport c (mail ++ adds.come)
  rests_after c mail at empty may =
      record { rest = record { idle = may.rest.idle; clean = may.rest.clean; empty = sym (ap letters_of (after c mail at)) ∙ empty }; unpinned = may.unpinned; unreported = may.unreported }

  keeps_enabled : KeepsEnabled s t a
  keeps_enabled = record {
    take = still (Take a) (λ can.
        let z = taker can.0 can.1 can.3 in
        (can.0, can.1 ++ adds.come, after can.0 can.1 can.2, may_take-some can.0 (can.1 ++ adds.come) z.0 (push_not_empty can.1 adds.come z.1)));
    no_more = λ same. was (Take a) (λ can.
        let z = taker can.0 can.1 can.3 in
        (can.0, mail_at s.actors a, (before can.0 can.1 can.2).0, may_take-some can.0 (mail_at s.actors a) z.0 (λ empty. z.1 (ap letters_of (sym can.2) ∙ (same ∙ empty)))));
    go = (
      was (Go a) (λ can. (can.0, mail_at s.actors a, (before can.0 can.1 can.2).0, can.3)),
      still (Go a) (λ can. (can.0, can.1 ++ adds.come, after can.0 can.1 can.2, can.3)),
    );
    collect = (
      was (Collect a) (λ can. (can.0, mail_at s.actors a, (before can.0 can.1 can.2).0, can.3)),
      still (Collect a) (λ can. (can.0, can.1 ++ adds.come, after can.0 can.1 can.2, can.3)),
    );
    leave = (
      λ on. (
        was (Leave a) (λ can.
            let z = leaver can.0 can.1 can.3 in
            (can.0, mail_at s.actors a, (before can.0 can.1 can.2).0, may_leave-none can.0 (mail_at s.actors a) (rests_before can.0 can.1 can.2 z.0) z.1)) on,
        (let can = (enabled_exactly t (Leave a)).0 on in ap letters_of can.2 ∙ (leaver can.0 can.1 can.3).0.rest.empty),
      ),
      λ both. still (Leave a) (λ can.
          let z = leaver can.0 can.1 can.3 in
          (can.0, can.1 ++ adds.come, after can.0 can.1 can.2, may_leave-none can.0 (can.1 ++ adds.come) (rests_after can.0 can.1 can.2 both.1 z.0) z.1)) both.0,
    );
    block = (
      λ on. (
        was (Block a) (λ can.
            (can.0, mail_at s.actors a, (before can.0 can.1 can.2).0, reporter can.0 (mail_at s.actors a) (rests_before can.0 can.1 can.2 (may_report can.0 can.1 can.3)))) on,
        (let can = (enabled_exactly t (Block a)).0 on in ap letters_of can.2 ∙ (may_report can.0 can.1 can.3).rest.empty),
      ),
      λ both. still (Block a) (λ can.
          (can.0, can.1 ++ adds.come, after can.0 can.1 can.2, reporter can.0 (can.1 ++ adds.come) (rests_after can.0 can.1 can.2 both.1 (may_report can.0 can.1 can.3)))) both.0,
    );
  }

pub others_keep : OthersKeepEnabled
others_keep s t a e apart goes = keeps_enabled s t a (others_leave s t a e apart goes)
