-- What the detector leaves as it hears a note and scans.
use Rattle.std.proofs.Common.{◌≡◌, ◌≢◌, ℕ, suc, ◌==◌, not, cond, Bool, true, false, List, [], ◌∷◌, filter, Option, Some, None, Contains, ⊎_elim, eqb-true, ne_eqb, refl, sym, ap, ◌∙◌}
use Rattle.std.specs.List.{find}
use Rattle.std.specs.Prelude.{if◌then◌else◌, option_map}
use Rattle.letter_kinds.specs.Detector.{Detector, Token, after_scan, has, hear_note}
use Rattle.letter_kinds.specs.Reports.{kept_report, report_told}
use Rattle.letter_kinds.specs.declared.note.Note.{Note}
use Rattle.letter_kinds.specs.declared.note.Note.TheVariants as notes
use Rattle.detector_laws.proofs.Hear.{kept_report-drop, kept_report-keep}
use Rattle.detector_laws.proofs.Members.{Contains-from_find, contained_each, first_or_later, none_in_empty}
use Rattle.detector_tokens.specs.Open.{new_token, token_of}
use Rattle.machine_rules.specs.Detect.{ask_all}
use Rattle.machine_rules.specs.State.{State}
use Rattle.orca_parts.specs.Touched.{teller, told_token}
use Rattle.book_picture.specs.Leaving.{LeavesOthers}
use Rattle.book_picture.proofs.Seats.{asked_leave, not_one}
use Rattle.book_picture.proofs.Tokens.{found_acked, found_before, found_kept}

-- ---- hear

-- two tokens have no member in common
abbrev pub AreApart : List Token → Type 0
AreApart tokens = (t u : Token) → Contains tokens t → Contains tokens u
    → (m : ℕ) → has t.members m ≡ true → has u.members m ≡ true → t.number ≡ u.number

-- where a token passes a test one is found
found_some : (p : Token → Bool) (ts : List Token) (t : Token) → Contains ts t → p t ≡ true → find p ts ≢ None
found_some p [] t at passes none = none_in_empty t at
found_some p (u ∷ us) t at passes none = by (p u) refl (λ later off. found_some p us t later passes off)
  where
    by : (b : Bool) → p u ≡ b → (Contains us t → find p us ≢ None) → ⊥
    by true e more = let z : Some u ≡ None = sym (ap (λ (x : Bool). cond x (Some u) (find p us)) e) ∙ none in cc
    by false e more = ⊎_elim
        (λ same. let z : true ≡ false = sym passes ∙ ap p same ∙ e in cc)
        (λ later. more later (sym (ap (λ (x : Bool). cond x (Some u) (find p us)) e) ∙ none))
        (first_or_later u us t at)

-- who has work again cancels the token of which it is a member alone
cancelled : (a n : ℕ) (ts : List Token) → AreApart ts → option_map (λ t. t.number) (token_of a ts) ≢ Some n
    → find (λ t. t.number == n) (filter (λ t. not (has t.members a)) ts) ≡ find (λ t. t.number == n) ts
cancelled a n ts apart other =
    found_kept (λ t. t.number == n) (λ t. not (has t.members a)) ts
    (contained_each (λ t. (t.number == n) ≡ true → not (has t.members a) ≡ true) ts (λ t at is. by t at is (has t.members a) refl))
  where
    its : (t : Token) → Contains ts t → (t.number == n) ≡ true → has t.members a ≡ true → (o : Option Token) → token_of a ts ≡ o → ⊥
    its t at is member None none = found_some (λ u. has u.members a) ts t at member none
    its t at is member (Some u) found =
        let one = Contains-from_find (λ v. has v.members a) ts u found in
        other (ap (option_map (λ v. v.number)) found ∙ ap Some (apart u t one.0 at a one.1 member ∙ eqb-true t.number n is))

    by : (t : Token) → Contains ts t → (t.number == n) ≡ true → (b : Bool) → has t.members a ≡ b → not (has t.members a) ≡ true
    by t at is true member = absurd (its t at is member (token_of a ts) refl)
    by t at is false out = ap not out

-- the note is another actor's
apart_from : (b a : ℕ) → has (b ∷ []) a ≡ false → (b == a) ≡ false
apart_from b a out = ne_eqb b a (λ same. not_one b a out (sym same))

pub heard_leaves : (s : State) (note : Note) (later : List Note) → AreApart s.detector.tokens
    → LeavesOthers (teller note ∷ []) (told_token s.detector note) s (record s { detector = hear_note note s.detector; notes = later })
heard_leaves s (notes.Block b count held) later apart = record {
  seats = λ a out. refl;
  reports = λ a out.
      kept_report-keep (report_told b count held) s.detector.kept a
      ∙ ap (λ (x : Bool). if x then Some (report_told b count held) else kept_report s.detector.kept a) (apart_from b a out);
  tokens = λ n other. refl;
}
heard_leaves s (notes.Unblock b) later apart = record {
  seats = λ a out. refl;
  reports = λ a out.
      kept_report-drop b s.detector.kept a ∙ ap (λ (x : Bool). if x then None else kept_report s.detector.kept a) (apart_from b a out);
  tokens = λ n other. cancelled b n s.detector.tokens apart other;
}
heard_leaves s (notes.Ack number b) later apart = record {
  seats = λ a out. refl;
  reports = λ a out. refl;
  tokens = λ n other. found_acked number b n (λ same. other (ap Some same)) s.detector.tokens;
}

-- ---- scan

-- the token that a scan opens which found these members
abbrev opened_for : List ℕ → Detector → Option ℕ
opened_for [] d = None
opened_for (m ∷ ms) d = Some (suc d.opened)

-- the state after it
abbrev pub scanned : State → List ℕ → State
scanned s closed =
    record s { actors = ask_all closed (suc s.detector.opened) s.actors; detector = after_scan s.detector closed }

pub scanned_leaves : (s : State) (closed : List ℕ) → LeavesOthers closed (opened_for closed s.detector) s (scanned s closed)
scanned_leaves s [] = record { seats = λ a out. refl; reports = λ a out. refl; tokens = λ n other. refl }
scanned_leaves s (m ∷ ms) = record {
  seats = λ a out. asked_leave (m ∷ ms) (suc s.detector.opened) s.actors a out;
  reports = λ a out. refl;
  tokens = λ n other. found_before n s.detector.tokens (new_token (m ∷ ms) s.detector) (λ same. other (ap Some same));
}
