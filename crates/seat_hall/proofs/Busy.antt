-- An actor that has an enabled event keeps its cell and has one still, whatever others do.
use Rattle.std.proofs.Common.{◌≡◌, ◌≢◌, ℕ, zero, suc, ◌<◌, ◌&&◌, Bool, true, false, List, [], ◌∷◌, ◌++◌, length, Option, Some, None, refl, sym, ap, ◌∙◌, subst, arith, is_some, is_none}
use Rattle.std.specs.Prelude.{MatchOption}
use Rattle.behaviour_code.specs.declared.code.Program.{Program}
use Rattle.event_rule.specs.Events.{actor_of, is_of}
use Rattle.event_rule.proofs.Order.{IsFirstOf, NonePasses, first_is, itself, own}
use Rattle.event_rule.specs.Runs.{Goes, IsEnabled, IsFull, NotEnabled, Step}
use Rattle.event_rule.specs.declared.event.Event.{Event}
use Rattle.event_rule.specs.declared.event.Event.TheVariants.{Take, Go, Reap}
use Rattle.turn_rules.specs.declared.act.Frame.{Frame}
use Rattle.letter_kinds.specs.Detector.{Token, has, token_numbered}
use Rattle.letter_kinds.specs.Letters.{Letter}
use Rattle.machine_rules.specs.Actors.{Actors, Seat, cell_at, cell_of, letters_of, mail_at, seat, seat_at}
use Rattle.machine_rules.specs.Cell.{Cell}
use Rattle.machine_rules.specs.Enabled.{CanHappen, IsPresentWith}
use Rattle.machine_rules.specs.Guards.{may_do}
use Rattle.machine_rules.specs.Next.{next}
use Rattle.machine_rules.specs.Run.{IsRun}
use Rattle.machine_rules.specs.State.{State}
use Rattle.machine_rules.proofs.Enabling.{enabled_exactly}
use Rattle.count_laws.specs.Apart.{IsApart}
use Rattle.count_laws.proofs.away.Untouched.{others_leave}
use Rattle.machine_laws.proofs.Done.{runs_reap_the_done}
use Rattle.machine_rules.specs.Options.{Options}
use Rattle.hall_rules.specs.Causes.{event_at, is_enabled}

-- ---- enabled, by a test

on_of : (step : Step State) → is_enabled step ≡ true → step ≢ NotEnabled
on_of NotEnabled is e = cc
on_of IsFull is e = cc
on_of (Goes t) is e = cc

on_if : (step : Step State) → step ≢ NotEnabled → is_enabled step ≡ true
on_if NotEnabled on = absurd (on refl)
on_if IsFull on = refl
on_if (Goes t) on = refl

-- ---- by its cell and its letters

-- some event of the actor can happen
abbrev pub Acts : ℕ → Cell → List Letter → Type 0
Acts a c mail = (e : Event) × (is_of a e ≡ true) × (may_do c mail e ≡ true)

pub record IsBusy (s : State) (a : ℕ) : Type 0 where
  pub cell : Cell
  pub mail : List Letter
  pub present : seat_at s.actors a ≡ seat cell mail
  pub can : Acts a cell mail

module _ (s : State) (a : ℕ) where
  abbrev on : Event → Bool
  on e = is_enabled (next s e)

  -- who has an event is busy
  pub busy_of : event_at s a ≢ None → IsBusy s a
  busy_of has = by (event_at s a) (first_is on a) has
    where
      may : (e : Event) → is_of a e ≡ true → CanHappen s e → IsPresentWith s a (λ c mail. may_do c mail e ≡ true)
      may = own (λ e. CanHappen s e → IsPresentWith s a (λ c mail. may_do c mail e ≡ true)) a
          (λ x. x) (λ x. x) (λ x. x) (λ x. x) (λ x. x)

      by : (found : Option Event) → MatchOption found (NonePasses on a) (IsFirstOf on a) → found ≢ None → IsBusy s a
      by None none has = absurd (has refl)
      by (Some e) is has =
          let x = may e is.0 ((enabled_exactly s e).0 (on_of (next s e) is.1)) in
          record { cell = x.0; mail = x.1; present = x.2; can = (e, is.0, x.3) }

  -- one of its events is enabled
  busy_on : (busy : IsBusy s a) → next s busy.can.0 ≢ NotEnabled
  busy_on busy = (enabled_exactly s busy.can.0).1
      (own (λ e. IsPresentWith s a (λ c mail. may_do c mail e ≡ true) → CanHappen s e) a
      (λ x. x) (λ x. x) (λ x. x) (λ x. x) (λ x. x) busy.can.0 busy.can.1 (busy.cell, busy.mail, busy.present, busy.can.2))

  -- and who is busy has an event
  pub event_of : IsBusy s a → event_at s a ≢ None
  event_of busy none = subst (λ o. MatchOption o (NonePasses on a) (IsFirstOf on a)) none (first_is on a) busy.can.0 busy.can.1
      (on_if (next s busy.can.0) (busy_on busy))

  -- it is among those that were made
  pub busy_made : IsBusy s a → a < length s.actors
  busy_made busy = inside s.actors a _ busy.present
    where
      inside : (actors : Actors) (a : ℕ) (o : Seat) → seat_at actors a ≡ Some o → a < length actors
      inside [] a o e = absurd (cc)
      inside (x ∷ xs) zero o e = omega arith
      inside (x ∷ xs) (suc a) o e = let r = inside xs a o e in omega arith

-- letters that come leave it something to do
still_acts : (a : ℕ) (c : Cell) (mail come : List Letter) → Acts a c mail → Acts a c (mail ++ come)
still_acts a c mail come can = by c.frame refl mail come can
  where
    by : (frame : Option Frame) → c.frame ≡ frame → (mail come : List Letter) → Acts a c mail → Acts a c (mail ++ come)
    by (Some f) is mail come can = (Go a, itself a, ap is_some is)
    by None is [] [] can = can
    by None is [] (x ∷ come) can = (Take a, itself a, ap (λ z. is_none z && true) is)
    by None is (x ∷ mail) come can = (Take a, itself a, ap (λ z. is_none z && true) is)

-- an event of others leaves it its cell, and something to do
pub others_leave_busy : (s t : State) (a : ℕ) (e : Event) → IsApart s a e → next s e ≡ Goes t → IsBusy s a
    → (cell_at t.actors a ≡ cell_at s.actors a) × IsBusy t a
others_leave_busy s t a e apart goes busy =
    let left = others_leave s t a e apart goes in
    let here : cell_at s.actors a ≡ Some busy.cell = ap cell_of busy.present in
    let mail : mail_at s.actors a ≡ busy.mail = ap letters_of busy.present in
    let there = present (seat_at t.actors a) refl (left.cell ∙ here) in (
      left.cell,
      record {
        cell = busy.cell;
        mail = there.0;
        present = there.1;
        can = subst (Acts a busy.cell) (ap (λ m. m ++ left.come) (sym mail) ∙ (sym left.mail ∙ there.2))
            (still_acts a busy.cell busy.mail left.come busy.can);
      },
    )
  where
    or : Cell → Option Cell → Cell
    or x (Some y) = y
    or x None = x

    cell_or : (c d : Cell) → Some d ≡ Some c → d ≡ c
    cell_or c d is = ap (or c) is

    present : (o : Option Seat) → seat_at t.actors a ≡ o → cell_at t.actors a ≡ Some busy.cell
        → (mail : List Letter) × (seat_at t.actors a ≡ seat busy.cell mail) × (mail_at t.actors a ≡ mail)
    present None is cell = absurd (let none : None ≡ Some busy.cell = sym (ap cell_of is) ∙ cell in cc)
    present (Some o) is cell = (
      o.mail,
      is ∙ (ap (λ c. seat c o.mail) (cell_or busy.cell o.cell (sym (ap cell_of is) ∙ cell))),
      ap letters_of is,
    )

-- a reap takes nobody who is busy
pub none_reaped : (program : Program) (options : Options) (book : List Event) (s : State) → 0 < options.weight
    → IsRun program options book s → (a : ℕ) → IsBusy s a → (number : ℕ) (t : Token)
    → IsEnabled next s (Reap number) → token_numbered number s.detector ≡ Some t → has t.members a ≡ false
none_reaped program options book s heavy run a busy number t on is =
    by (has t.members a) refl
  where
    token_or : Token → Option Token → Token
    token_or x (Some y) = y
    token_or x None = x

    by : (b : Bool) → has t.members a ≡ b → has t.members a ≡ false
    by false none = none
    by true is_member =
        let taken = runs_reap_the_done program options heavy book s run number on in
        let same : taken.token ≡ t = ap (token_or t) (sym taken.is_open ∙ is) in
        let done = taken.done a (ap (λ (z : Token). has z.members a) same ∙ is_member) in
        absurd (busy_on s a busy (done.still busy.can.0
        (own (λ e. actor_of e ≡ Some a) a refl refl refl refl refl busy.can.0 busy.can.1)))

-- so it stands apart from an event of others that happens
pub stands_apart : (program : Program) (options : Options) (book : List Event) (s t : State) (a : ℕ) (e : Event) → 0 < options.weight
    → IsRun program options book s → IsBusy s a → actor_of e ≢ Some a → next s e ≡ Goes t → IsApart s a e
stands_apart program options book s t a e heavy run busy others goes = record {
  made = busy_made s a busy;
  others = others;
  spared = λ number token is there.
      none_reaped program options book s heavy run a busy number token
      (λ off. let clash : NotEnabled ≡ Goes t = sym off ∙ (ap (next s) (sym is) ∙ goes) in cc) there;
}
