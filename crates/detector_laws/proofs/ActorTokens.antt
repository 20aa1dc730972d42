-- Events of actors keep what holds of tokens.
use Rattle.std.proofs.Common.{◌≡◌, ℕ, ◌≤◌, ◌≢◌, ◌==◌, Bool, true, false, if◌then◌else◌, ◌⊎◌, inl, inr, ⊎_elim, List, [], ◌∷◌, ◌++◌, Option, Some, is_some, arith, refl, ap, sym, subst, ◌∙◌}
use Rattle.std.proofs.lemmas.Bool.{cases_eq, cond_both, false≢true, false_from_ne_true}
use Rattle.std.proofs.lemmas.Bool.Decides.{nat_tests}
use Rattle.letter_kinds.specs.Detector.{Token, has}
use Rattle.letter_kinds.specs.Reports.{block_note}
use Rattle.letter_kinds.specs.Letters.{Letter, Confirm}
use Rattle.letter_kinds.specs.declared.note.Note.{Note}
use Rattle.letter_kinds.specs.declared.note.Note.TheVariants.{Unblock, Ack}
use Rattle.letter_kinds.specs.declared.note.Report.{Report}
use Rattle.machine_rules.specs.Cell.{Cell}
use Rattle.machine_rules.proofs.Guards.{may_report}
use Rattle.detector_laws.proofs.Cells.{blocked_reports, reporter_present, same_some, some_not_none}
use Rattle.detector_laws.proofs.Letters.{confirm_count-append, confirm_count-none, other_before_confirm-append, other_before_confirm-some, EndsInConfirm-only, EndsInConfirm-tail}
use Rattle.detector_laws.proofs.Maps.{at_cases, at_same, at_other}
use Rattle.detector_laws.proofs.Notes.{IsSilentOn-push, ack_count-append, unblocks_before_ack-append, unblocks_before_ack-push}
use Rattle.detector_laws.specs.Cells.{held_on, is_reporting}
use Rattle.detector_laws.specs.Confirms.{EndsInConfirm, confirm_count, other_before_confirm}
use Rattle.detector_laws.specs.Events.{CanBlock, IsFresh, Moves}
use Rattle.detector_laws.specs.Reports.{IsSilentOn, IsBlocked}
use Rattle.detector_laws.specs.Tokens.{ack_count, trace_count, IsSealedMember, IsSealed, unblocks_before_ack, IsSpoiled, SoundTokens}
use Rattle.detector_laws.specs.World.{World, at, block_in_world, take_confirm, TokensAreSound}

-- a member of a sealed token, where nothing of it changes and a note comes that says nothing of it
pub sealed_stays : (t : Token) (m : ℕ) (cell cell' : ℕ → Option Cell) (mail : List Letter) (loaded loaded' : ℕ) (notes more : List Note)
    → IsSealedMember t m cell mail loaded notes → cell' m ≡ cell m → ((b : ℕ) → has t.members b ≡ false → held_on (cell' b) m ≡ 0) → loaded' ≡ 0
    → IsSilentOn m (notes ++ more) → ack_count t.number m more ≡ 0 → IsSealedMember t m cell' mail loaded' (notes ++ more)
sealed_stays t m cell cell' mail loaded loaded' notes more s same held none silent unacked = record {
  blocked = subst IsBlocked (sym same) s.blocked;
  letters = s.letters;
  silent = silent;
  held = held;
  unloaded = none;
  one = omega (arith, s.one, unacked, ack_count-append t.number m notes more);
}

-- Block

-- a member that has a report out is not the one that blocks
not_blocking : (w : World) (a : ℕ) (c : Cell) (r : Report) → CanBlock w a c r → (m : ℕ) → is_reporting (w.cell m) ≡ true → m ≢ a
not_blocking w a c r can m out e = false≢true (sym (may_report c [] can.may).unreported ∙ (ap is_reporting (sym can.here ∙ ap w.cell (sym e)) ∙ out))

block_sealed : (w : World) (a : ℕ) (c : Cell) (r : Report) → CanBlock w a c r → (t : Token) → IsSealed w.cell w.mail w.loaded w.notes t → IsSealed (block_in_world w a c r).cell w.mail w.loaded (block_in_world w a c r).notes t
block_sealed w a c r can t s m i =
    let seal = s m i in
    let now : Cell = record c { reported = true } in
    let ne = not_blocking w a c r can m (blocked_reports seal.blocked) in
    sealed_stays t m w.cell (block_in_world w a c r).cell (w.mail m) (w.loaded m) (w.loaded m) w.notes (block_note r ∷ []) seal
    (at_other w.cell a (Some now) m ne)
    (at_cases (λ b o. has t.members b ≡ false → held_on o m ≡ 0) w.cell a (Some now) (λ out. ap (λ o. held_on o m) (sym can.here) ∙ seal.held a out) (λ b _. seal.held b))
    seal.unloaded
    (IsSilentOn-push m w.notes (block_note r) seal.silent (λ e. ne (sym e ∙ can.exact.actor)))
    refl

block_spoiled : (w : World) (a : ℕ) (c : Cell) (r : Report) → CanBlock w a c r → (t : Token) → IsSpoiled w.cell w.mail w.notes t → IsSpoiled (block_in_world w a c r).cell w.mail (block_in_world w a c r).notes t
block_spoiled w a c r can t (m, i, s) = (
  m,
  i,
  record {
    unnoted = s.unnoted;
    cause = ⊎_elim (λ l. inl (unblocks_before_ack-append t.number m w.notes (block_note r ∷ []) l))
        (λ l. inr (ap is_reporting (at_other w.cell a (Some (record c { reported = true })) m (not_blocking w a c r can m l.0)) ∙ l.0, l.1)) s.cause;
  },
)

pub block_tokens : (w : World) (a : ℕ) (c : Cell) (r : Report) → CanBlock w a c r → TokensAreSound w → TokensAreSound (block_in_world w a c r)
block_tokens w a c r can k = record {
  apart = k.apart;
  kept = k.kept;
  unique = k.unique;
  numbers = k.numbers;
  letters = k.letters;
  heard = λ b n lt. omega (arith, k.heard b n lt, ack_count-append n b w.notes (block_note r ∷ []));
  once = λ t i m j. omega (arith, k.once t i m j, ack_count-append t.number m w.notes (block_note r ∷ []));
  state = λ t i. ⊎_elim (λ s. inl (block_sealed w a c r can t s)) (λ s. inr (block_spoiled w a c r can t s)) (k.state t i);
}

-- Confirm

abbrev acked_notes : World → ℕ → ℕ → Bool → List Note
acked_notes w a u reported = if reported then w.notes ++ Ack u a ∷ [] else w.notes

same_test : (t : Token) (u a : ℕ) → ack_count t.number a (Ack u a ∷ []) ≡ (if u == t.number then 1 else 0)
same_test t u a = grind (arith, nat_tests)

pub other_test : (t : Token) (u a b : ℕ) → b ≢ a → ack_count t.number b (Ack u a ∷ []) ≡ 0
other_test t u a b ne = grind (arith, nat_tests)

pub wrong_number : (n u a b : ℕ) → n ≢ u → ack_count n b (Ack u a ∷ []) ≡ 0
wrong_number n u a b ne = grind (arith, nat_tests)

-- a Confirm of n that waits counts
pub not_counted : (n u : ℕ) (ls : List Letter) → confirm_count n (Confirm u ∷ ls) ≡ 0 → n ≢ u
not_counted n u ls e same = grind (arith, nat_tests)

confirm_once : (w : World) (a u : ℕ) (ls : List Letter) (reported : Bool) (t : Token) (m : ℕ) → w.mail a ≡ Confirm u ∷ ls
    → trace_count t m (at w.mail a ls m) (acked_notes w a u reported) ≤ trace_count t m (w.mail m) w.notes
confirm_once w a u ls true t m e =
    at_cases (λ b l. trace_count t b l (w.notes ++ Ack u a ∷ []) ≤ trace_count t b (w.mail b) w.notes) w.mail a ls
    (omega (arith, ack_count-append t.number a w.notes (Ack u a ∷ []), ap (confirm_count t.number) e, same_test t u a))
    (λ b ne. omega (arith, ack_count-append t.number b w.notes (Ack u a ∷ []), other_test t u a b ne)) m
confirm_once w a u ls false t m e =
    at_cases (λ b l. trace_count t b l w.notes ≤ trace_count t b (w.mail b) w.notes) w.mail a ls
    (omega (arith, ap (confirm_count t.number) e))
    (λ b ne. omega arith) m

confirm_sealed : (w : World) (a u : ℕ) (ls : List Letter) → w.mail a ≡ Confirm u ∷ ls → (t : Token) → IsSealed w.cell w.mail w.loaded w.notes t
    → IsSealed w.cell (at w.mail a ls) w.loaded (acked_notes w a u (is_reporting (w.cell a))) t
confirm_sealed w a u ls e t s m i = ⊎_elim
    (λ (same : m ≡ a). subst (λ x. IsSealedMember t x w.cell (at w.mail a ls x) (w.loaded x) (acked_notes w a u (is_reporting (w.cell a)))) (sym same)
    (let seal : IsSealedMember t a w.cell (w.mail a) (w.loaded a) w.notes = subst (λ x. IsSealedMember t x w.cell (w.mail x) (w.loaded x) w.notes) same (s m i) in
    let letters : EndsInConfirm t.number (Confirm u ∷ ls) = subst (EndsInConfirm t.number) e seal.letters in
    subst (λ l. IsSealedMember t a w.cell l (w.loaded a) (acked_notes w a u (is_reporting (w.cell a)))) (sym (at_same w.mail a ls))
    (subst (λ r. IsSealedMember t a w.cell ls (w.loaded a) (acked_notes w a u r)) (sym (blocked_reports seal.blocked))
    record {
      blocked = seal.blocked;
      letters = EndsInConfirm-tail t.number (Confirm u) ls letters;
      silent = IsSilentOn-push a w.notes (Ack u a) seal.silent tt;
      held = seal.held;
      unloaded = seal.unloaded;
      one = omega (arith, seal.one, ack_count-append t.number a w.notes (Ack u a ∷ []), ap (confirm_count t.number) e, same_test t u a);
    })))
    (λ (ne : m ≢ a). subst (λ l. IsSealedMember t m w.cell l (w.loaded m) (acked_notes w a u (is_reporting (w.cell a)))) (sym (at_other w.mail a ls m ne))
    (cond_both (is_reporting (w.cell a)) (w.notes ++ Ack u a ∷ []) w.notes (λ ns. IsSealedMember t m w.cell (w.mail m) (w.loaded m) ns)
    (λ _. let seal = s m i in sealed_stays t m w.cell w.cell (w.mail m) (w.loaded m) (w.loaded m) w.notes (Ack u a ∷ []) seal refl seal.held seal.unloaded
    (IsSilentOn-push m w.notes (Ack u a) seal.silent tt) (other_test t u a m ne))
    (λ _. s m i)))
    (cases_eq m a)

other_before_confirm-tail : (t u : ℕ) (ls : List Letter) → other_before_confirm t (Confirm u ∷ ls) ≡ true → other_before_confirm t ls ≡ true
other_before_confirm-tail t u ls h = grind arith

confirm_spoiled : (w : World) (a u : ℕ) (ls : List Letter) → w.mail a ≡ Confirm u ∷ ls → (t : Token) → IsSpoiled w.cell w.mail w.notes t
    → IsSpoiled w.cell (at w.mail a ls) (acked_notes w a u (is_reporting (w.cell a))) t
confirm_spoiled w a u ls e t (m, i, s) = (
  m,
  i,
  record {
    unnoted = s.unnoted;
    cause = ⊎_elim
        (λ l. inl (cond_both (is_reporting (w.cell a)) (w.notes ++ Ack u a ∷ []) w.notes (λ ns. unblocks_before_ack t.number m ns ≡ true) (λ _. unblocks_before_ack-append t.number m w.notes (Ack u a ∷ []) l) (λ _. l)))
        (λ l. inr (
          l.0,
          at_cases (λ b ms. other_before_confirm t.number (w.mail b) ≡ true → other_before_confirm t.number ms ≡ true) w.mail a ls
              (λ k. other_before_confirm-tail t.number u ls (subst (λ x. other_before_confirm t.number x ≡ true) e k)) (λ b _ k. k) m l.1,
        )) s.cause;
  },
)

pub confirm_count-tail : (n u : ℕ) (ls : List Letter) → confirm_count n (Confirm u ∷ ls) ≡ 0 → confirm_count n ls ≡ 0
confirm_count-tail n u ls h = omega arith

pub confirm_tokens : (w : World) (a t : ℕ) (ls : List Letter) → w.mail a ≡ Confirm t ∷ ls → TokensAreSound w → TokensAreSound (take_confirm w a t ls)
confirm_tokens w a u ls e k = record {
  apart = k.apart;
  kept = k.kept;
  unique = k.unique;
  numbers = k.numbers;
  letters = λ b n lt. at_cases (λ c l. confirm_count n l ≡ 0) w.mail a ls (confirm_count-tail n u ls (ap (confirm_count n) (sym e) ∙ k.letters a n lt)) (λ c _. k.letters c n lt) b;
  heard = λ b n lt. cond_both (is_reporting (w.cell a)) (w.notes ++ Ack u a ∷ []) w.notes (λ ns. ack_count n b ns ≡ 0)
      (λ _. let fresh : n ≢ u = not_counted n u ls (ap (confirm_count n) (sym e) ∙ k.letters a n lt) in
      omega (arith, k.heard b n lt, ack_count-append n b w.notes (Ack u a ∷ []), wrong_number n u a b fresh))
      (λ _. k.heard b n lt);
  once = λ t i m j. omega (arith, k.once t i m j, confirm_once w a u ls (is_reporting (w.cell a)) t m e);
  state = λ t i. ⊎_elim (λ s. inl (confirm_sealed w a u ls e t s)) (λ s. inr (confirm_spoiled w a u ls e t s)) (k.state t i);
}

-- an actor's other events

-- no member of a sealed token moves
member_stays : (w w' : World) (a : ℕ) → Moves w a w' → (t : Token) → IsSealed w.cell w.mail w.loaded w.notes t → has t.members a ≢ true
member_stays w w' a mv t s i =
    let seal = s a i in
    let same = same_some seal.blocked.here mv.here in
    ⊎_elim (λ f. false≢true (sym (ap is_some seal.blocked.idle) ∙ (ap (λ (c : Cell). is_some c.frame) same ∙ f)))
    (λ rest. ⊎_elim
    (λ d. false≢true (sym seal.blocked.clean ∙ (ap (λ (c : Cell). c.dirty) same ∙ d)))
    (λ o. let (letter, mail, first, other) = o in false≢true (sym other ∙ (EndsInConfirm-only t.number (letter ∷ mail) (subst (EndsInConfirm t.number) first seal.letters)).0))
    rest)
    mv.cause

abbrev woken_notes : World → ℕ → Bool → List Note
woken_notes w a reported = if reported then w.notes ++ Unblock a ∷ [] else w.notes

moved_sealed : (w w' : World) (a : ℕ) → Moves w a w' → (t : Token) → IsSealed w.cell w.mail w.loaded w.notes t → IsSealed w'.cell w'.mail w'.loaded w'.notes t
moved_sealed w w' a mv t s m i =
    let seal = s m i in
    let ne : m ≢ a = λ e. member_stays w w' a mv t s (subst (λ x. has t.members x ≡ true) e i) in
    let outside : has t.members a ≡ false = false_from_ne_true (has t.members a) (member_stays w w' a mv t s) in
    let away = mv.apart t.members (λ k j. (some_not_none (s k j).blocked.here, (s k j).unloaded, (s k j).held)) outside m i in
    let here = some_not_none seal.blocked.here in
    let same : w'.cell m ≡ w.cell m = ⊎_elim (λ e. e) (λ (new : IsFresh (w.cell m) (w'.cell m)). absurd (here new.absent)) (mv.others m ne) in
    let held : (b : ℕ) → has t.members b ≡ false → held_on (w'.cell b) m ≡ 0 = λ b out. ⊎_elim
    (λ (e : b ≡ a). subst (λ x. held_on (w'.cell x) m ≡ 0) (sym e) (ap (λ o. held_on o m) mv.there ∙ away.2))
    (λ (other : b ≢ a). ⊎_elim (λ (e : w'.cell b ≡ w.cell b). ap (λ o. held_on o m) e ∙ seal.held b out) (λ (new : IsFresh (w.cell b) (w'.cell b)). ap (λ o. held_on o m) new.present ∙ new.empty m) (mv.others b other))
    (cases_eq b a) in
    let loaded : w'.loaded m ≡ 0 = away.1 in
    subst (λ l. IsSealedMember t m w'.cell l (w'.loaded m) w'.notes) (sym (away.0))
    (subst (λ ns. IsSealedMember t m w'.cell (w.mail m) (w'.loaded m) ns) (sym mv.notes)
    (cond_both mv.old.reported (w.notes ++ Unblock a ∷ []) w.notes (λ ns. IsSealedMember t m w'.cell (w.mail m) (w'.loaded m) ns)
    (λ _. sealed_stays t m w.cell w'.cell (w.mail m) (w.loaded m) (w'.loaded m) w.notes (Unblock a ∷ []) seal same held loaded (IsSilentOn-push m w.notes (Unblock a) seal.silent (λ e. ne (sym e))) refl)
    (λ _. record { blocked = subst IsBlocked (sym same) seal.blocked; letters = seal.letters; silent = seal.silent; held = held; unloaded = loaded; one = seal.one })))

-- a spoiled member that leaves its second case comes into the first
moved_cause : (w w' : World) (a : ℕ) → Moves w a w' → (t : Token) (m : ℕ) → trace_count t m (w.mail m) w.notes ≤ 1 → is_reporting (w.cell m) ≡ true → other_before_confirm t.number (w.mail m) ≡ true
    → (unblocks_before_ack t.number m w'.notes ≡ true) ⊎ ((is_reporting (w'.cell m) ≡ true) × (other_before_confirm t.number (w'.mail m) ≡ true))
moved_cause w w' a mv t m once r wt = ⊎_elim
    (λ (e : m ≡ a). inl (subst (λ ns. unblocks_before_ack t.number m ns ≡ true) (sym mv.notes)
    (subst (λ b. unblocks_before_ack t.number m (woken_notes w a b) ≡ true) (sym (ap is_reporting (sym mv.here ∙ ap w.cell (sym e)) ∙ r))
    (subst (λ x. unblocks_before_ack t.number m (w.notes ++ Unblock x ∷ []) ≡ true) e
    (unblocks_before_ack-push t.number m w.notes (omega (arith, once, other_before_confirm-some t.number (w.mail m) wt)))))))
    (λ (ne : m ≢ a). let same : w'.cell m ≡ w.cell m = ⊎_elim (λ e. e) (λ (new : IsFresh (w.cell m) (w'.cell m)). absurd (some_not_none (reporter_present (w.cell m) r).1 new.absent)) (mv.others m ne) in
    let (come, grown, plain) = mv.sends m ne in
    inr (ap is_reporting same ∙ r, subst (λ l. other_before_confirm t.number l ≡ true) (sym grown) (other_before_confirm-append t.number (w.mail m) come wt)))
    (cases_eq m a)

moved_spoiled : (w w' : World) (a : ℕ) → Moves w a w' → (t : Token) → ((m : ℕ) → has t.members m ≡ true → trace_count t m (w.mail m) w.notes ≤ 1)
    → IsSpoiled w.cell w.mail w.notes t → IsSpoiled w'.cell w'.mail w'.notes t
moved_spoiled w w' a mv t once (m, i, s) = (
  m,
  i,
  record {
    unnoted = s.unnoted;
    cause = ⊎_elim
        (λ l. inl (subst (λ ns. unblocks_before_ack t.number m ns ≡ true) (sym mv.notes)
        (cond_both mv.old.reported (w.notes ++ Unblock a ∷ []) w.notes (λ ns. unblocks_before_ack t.number m ns ≡ true) (λ _. unblocks_before_ack-append t.number m w.notes (Unblock a ∷ []) l) (λ _. l))))
        (λ l. moved_cause w w' a mv t m (once m i) l.0 l.1)
        s.cause;
  },
)

pub moved_acks : (w w' : World) (a : ℕ) → Moves w a w' → (n b : ℕ) → ack_count n b w'.notes ≡ ack_count n b w.notes
moved_acks w w' a mv n b = subst (λ ns. ack_count n b ns ≡ ack_count n b w.notes) (sym mv.notes)
    (cond_both mv.old.reported (w.notes ++ Unblock a ∷ []) w.notes (λ ns. ack_count n b ns ≡ ack_count n b w.notes) (λ _. omega (arith, ack_count-append n b w.notes (Unblock a ∷ []))) (λ _. refl))

pub moved_confirms : (w w' : World) (a : ℕ) → Moves w a w' → (n b : ℕ) → confirm_count n (w'.mail b) ≤ confirm_count n (w.mail b)
moved_confirms w w' a mv n b = ⊎_elim
    (λ (e : b ≡ a). subst (λ x. confirm_count n (w'.mail x) ≤ confirm_count n (w.mail x)) (sym e)
    (let (gone, rest, come, was, is, plain) = mv.own in
    omega (arith, ap (confirm_count n) was, ap (confirm_count n) is, confirm_count-append n gone rest, confirm_count-append n rest come, confirm_count-none n come plain)))
    (λ (ne : b ≢ a). let (come, grown, plain) = mv.sends b ne in
    omega (arith, ap (confirm_count n) grown, confirm_count-append n (w.mail b) come, confirm_count-none n come plain))
    (cases_eq b a)

pub moves_tokens : (w w' : World) (a : ℕ) → Moves w a w' → TokensAreSound w → TokensAreSound w'
moves_tokens w w' a mv k = subst (λ d. SoundTokens d w'.cell w'.mail w'.loaded w'.notes) (sym mv.detector) record {
  apart = k.apart;
  kept = k.kept;
  unique = k.unique;
  numbers = k.numbers;
  letters = λ b n lt. omega (arith, k.letters b n lt, moved_confirms w w' a mv n b);
  heard = λ b n lt. moved_acks w w' a mv n b ∙ k.heard b n lt;
  once = λ t i m j. omega (arith, k.once t i m j, moved_confirms w w' a mv t.number m, moved_acks w w' a mv t.number m);
  state = λ t i. ⊎_elim (λ s. inl (moved_sealed w w' a mv t s)) (λ s. inr (moved_spoiled w w' a mv t (k.once t i) s)) (k.state t i);
}
