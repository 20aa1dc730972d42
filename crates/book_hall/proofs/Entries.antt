-- An entry of the plain hall, by what it does to the machine and to the book.
use Rattle.std.proofs.Common.{◌≡◌, ℕ, Bool, false, List, length, Option, None, Some, Result, Ok, Err, IfErr, IfOk, refl, sym, ap, subst}
use Rattle.std.specs.Option.{option_map_or}
use Rattle.behaviour_code.specs.declared.code.Program.{Program}
use Rattle.event_rule.specs.Events.{actor_of}
use Rattle.event_rule.specs.declared.event.Event.{Event}
use Rattle.event_rule.specs.declared.event.Event.TheVariants.{Reap}
use Rattle.run_book.specs.Books.{BookValue, options_of_book}
use Rattle.orca_parts.specs.Away.{is_out, is_out_for}
use Rattle.orca_core.specs.Machine.{Machine, NoneIsAway, ReapsNoneAway}
use Rattle.work_board.specs.declared.answers.Committed.{Committed}
use Rattle.work_board.specs.declared.answers.Refuse.{Refuse}
use Rattle.hall_rules.specs.declared.claim.Claim.{Claim}
use Rattle.hall_rules.specs.Answers.{IsEntered}
use Rattle.hall_rules.specs.Causes.{early_cause}
use Rattle.hall_rules.specs.Claims.{holder_for, without_for}
use Rattle.hall_rules.specs.Entering.{Enters, Refuses}
use Rattle.hall_rules.specs.Halls.{HallValue}
use Rattle.hall_rules.specs.Kept.{IsRunWithin}
use Rattle.hall_rules.proofs.Entries.{entered, refused_late}
use Rattle.hall_rules.proofs.Keeping.{hall_with, options_alike}
use Rattle.book_hall.specs.Answers.{Answers, AnswersCommit, AnswersEntry}

-- where no cell is away, that of no event's actor is
pub home_for : (m : Machine) → NoneIsAway m → (e : Event) → is_out_for m.out e ≡ false
home_for m home e = by (actor_of e)
  where
    by : (who : Option ℕ) → option_map_or (is_out m.out) who false ≡ false
    by None = refl
    by (Some a) = home a

-- so none is reaped whose cell is away
pub reaps_at_home : (m : Machine) → NoneIsAway m → (e : Event) → ReapsNoneAway e m
reaps_at_home m home (Reap number) = λ t a is member. home a
reaps_at_home m home e = tt

-- what is answered to an event that is tried
pub answers : (program : Program) (budget : ℕ) (m n : Machine) (book after : BookValue)
    (kept : IsRunWithin program (options_of_book book) budget m.state m.steps book.entries) (claims : List Claim) (stopped : Bool)
    (asker : Option ℕ) (e : Event) (holder : Option ℕ) (held : holder ≡ holder_for asker e claims)
    (none : None ≡ early_cause m.state (length book.entries) budget holder e)
    → (after.weight ≡ book.weight) × (after.trace ≡ book.trace)
    → (r : Result Committed Refuse) → IfOk r (λ done. Enters e done m n book after) → IfErr r (λ refuse. Refuses e refuse m n book after)
    → AnswersEntry (hall_with program budget book claims stopped) asker e claims r (hall_with program budget after claims stopped)
answers program budget m n book after kept claims stopped asker e holder held none alike r is full = record {
  answers = by r is full;
  rest = λ i. record (hall_with program budget after claims stopped) { options = options i };
}
  where
    options : options_of_book after ≡ options_of_book book
    options = options_alike book after alike

    by : (r : Result Committed Refuse) → IfOk r (λ done. Enters e done m n book after) → IfErr r (λ refuse. Refuses e refuse m n book after)
        → Answers (hall_with program budget book claims stopped) asker e r (hall_with program budget after claims stopped)
    by (Ok done) is full =
        let h : HallValue = hall_with program budget book claims stopped in
        let all = entered program budget m book kept holder e claims stopped asker held none n after done claims is in
        (all.0, subst (IsEntered h e done) (λ i. record h { options = sym options i; book = sym is.entry i }) all.1)
    by (Err refuse) full is =
        (refused_late program budget m book kept holder e claims stopped asker held none refuse is.cause, is.entries)

-- the claim of a commit ends with its answer
pub commit_ends : (h mid : HallValue) (pass : ℕ) (e : Event) (r : Result Committed Refuse)
    → AnswersEntry h (Some pass) e h.claims r mid
    → AnswersCommit h pass e r (record mid { claims = without_for pass e mid.claims })
commit_ends h mid pass e r is = record {
  answers = by r is.answers;
  rest = ap (λ (v : HallValue). record v { claims = without_for pass e v.claims }) is.rest;
}
  where
    by : (r : Result Committed Refuse) → Answers h (Some pass) e r mid
        → Answers h (Some pass) e r (record mid { claims = without_for pass e mid.claims })
    by (Ok done) is = (is.0, record { place = is.1.place; book = is.1.book; goes = is.1.goes; woke = is.1.woke })
    by (Err refuse) is = is
