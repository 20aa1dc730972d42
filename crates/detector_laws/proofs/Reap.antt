-- A reap takes a sealed token, and keeps what holds of reports and of the other tokens.
use Rattle.std.proofs.Common.{◌≡◌, ℕ, ◌≤◌, ◌≢◌, ◌==◌, not, true, false, inl, inr, ⊎_elim, List, [], ◌∷◌, filter, None, arith, refl, ap, sym, subst, ◌∙◌, eq-eqb, ne_eqb, Option, Contains}
use Rattle.std.proofs.lemmas.Bool.{cases_eq, cases_Bool, false≢true, not-true, false_from_ne_true}
use Rattle.std.proofs.lemmas.Bool.Decides.{nat_tests}
use Rattle.letter_kinds.proofs.Acked.{acked_each}
use Rattle.letter_kinds.specs.Detector.{Detector, Token, has, close_token}
use Rattle.letter_kinds.specs.Reports.{kept_report}
use Rattle.letter_kinds.specs.declared.note.Report.{Report}
use Rattle.letter_kinds.proofs.Members.{only_member}
use Rattle.machine_rules.specs.Cell.{Cell}
use Rattle.detector_laws.proofs.ActorReports.{off}
use Rattle.detector_laws.proofs.Cells.{blocked_reports}
use Rattle.detector_laws.proofs.Letters.{confirm_count-append, confirm_count-none, other_before_confirm-append}
use Rattle.detector_laws.proofs.Members.{Contains-from_filter}
use Rattle.detector_laws.proofs.Notes.{with_notes-silent}
use Rattle.detector_laws.specs.Cells.{held_on, is_reporting}
use Rattle.detector_laws.specs.Confirms.{confirm_count, other_before_confirm}
use Rattle.detector_laws.specs.Events.{Departs, Leaves, Reaps}
use Rattle.detector_laws.specs.Reports.{with_notes, told_by_kept, told_of, IsSilentOn, IsBlocked, IsAsTold, ExactReports, Told}
use Rattle.detector_laws.specs.Tokens.{IsSealedMember, IsSealed, IsSpoiled, SoundTokens}
use Rattle.detector_laws.specs.World.{World, ReportsAreExact, TokensAreSound}

pub kept_report-out : (ms : List ℕ) (ks : List Report) (a : ℕ) → has ms a ≡ true → kept_report (filter (λ k. not (has ms k.actor)) ks) a ≡ None
kept_report-out ms [] a h = refl
kept_report-out ms (k ∷ ks) a h = ⊎_elim
    (λ (e : k.actor ≡ a). let t : has ms k.actor ≡ true = ap (has ms) e ∙ h in grind (arith, kept_report-out ms ks a h))
    (λ (ne : k.actor ≢ a). grind (arith, nat_tests, kept_report-out ms ks a h))
    (cases_eq k.actor a)

pub kept_report-in : (ms : List ℕ) (ks : List Report) (a : ℕ) → has ms a ≡ false → kept_report (filter (λ k. not (has ms k.actor)) ks) a ≡ kept_report ks a
kept_report-in ms [] a h = refl
kept_report-in ms (k ∷ ks) a h = ⊎_elim
    (λ (e : k.actor ≡ a). let t : has ms k.actor ≡ false = ap (has ms) e ∙ h in grind (arith, kept_report-in ms ks a h))
    (λ (ne : k.actor ≢ a). grind (arith, nat_tests, kept_report-in ms ks a h))
    (cases_eq k.actor a)

-- only a sealed token is reaped
pub reaped_sealed : (w w' : World) (t : Token) → Reaps w t w' → TokensAreSound w → IsSealed w.cell w.mail w.loaded w.notes t
reaped_sealed w w' t r k = ⊎_elim
    (λ s. s)
    (λ s. let (m, i, p) = s in absurd (false≢true (sym p.unnoted ∙ acked_each t r.acked m i)))
    (k.state t r.is_open)

reaped_last : (w w' : World) (t : Token) → Reaps w t w' → ReportsAreExact w → IsSealed w.cell w.mail w.loaded w.notes t → (a : ℕ) → IsAsTold (w'.cell a) a (told_of a (close_token t w.detector).kept w.notes)
reaped_last w w' t r h s a = ⊎_elim
    (λ (i : has t.members a ≡ true).
    subst (IsAsTold (w'.cell a) a) (sym (with_notes-silent a (told_by_kept (kept_report (close_token t w.detector).kept a)) w.notes (s a i).silent ∙ ap told_by_kept (kept_report-out t.members w.detector.kept a i))) (ap is_reporting (r.departs.clears a i).0))
    (λ (o : has t.members a ≡ false).
    subst (λ q. IsAsTold (w'.cell a) a (with_notes a (told_by_kept q) w.notes)) (sym (kept_report-in t.members w.detector.kept a o))
    (subst (λ c. IsAsTold c a (told_of a w.detector.kept w.notes)) (sym (r.departs.stays a o)) (h.last a)))
    (cases_Bool (has t.members a))

reaped_unmade : (w w' : World) (t : Token) → Reaps w t w' → ReportsAreExact w → IsSealed w.cell w.mail w.loaded w.notes t → (a : ℕ) → w'.made ≤ a
    → (kept_report (close_token t w.detector).kept a ≡ None) × IsSilentOn a w.notes
reaped_unmade w w' t r h s a past = ⊎_elim
    (λ (i : has t.members a ≡ true). (kept_report-out t.members w.detector.kept a i, (s a i).silent))
    (λ (o : has t.members a ≡ false). let before = h.unmade a (let z = r.departs.made in omega arith) in
    (kept_report-in t.members w.detector.kept a o ∙ before.0, before.1))
    (cases_Bool (has t.members a))

pub reap_reports : (w w' : World) (t : Token) → Reaps w t w' → ReportsAreExact w → TokensAreSound w → ReportsAreExact w'
reap_reports w w' t r h k =
    let s = reaped_sealed w w' t r k in
    subst (λ d. ExactReports w'.made w'.cell d.kept w'.notes) (sym r.detector)
    (subst (λ ns. ExactReports w'.made w'.cell (close_token t w.detector).kept ns) (sym r.departs.notes)
    record { last = reaped_last w w' t r h s; unmade = reaped_unmade w w' t r h s })

-- a token that stays has no member of the reaped one
apart_from : (w : World) (t u : Token) → TokensAreSound w → Contains w.detector.tokens t → Contains w.detector.tokens u → not (u.number == t.number) ≡ true → (m : ℕ) → has u.members m ≡ true → has t.members m ≡ false
apart_from w t u k i j ne m h = ⊎_elim
    (λ (y : has t.members m ≡ true). absurd (false≢true (sym (not_same u.number t.number ne) ∙ eq-eqb u.number t.number (k.apart u t j i m h y))))
    (λ f. f)
    (cases_Bool (has t.members m))
  where
    not_same : (a b : ℕ) → not (a == b) ≡ true → (a == b) ≡ false
    not_same a b h = not-true (a == b) h

pub reaped_confirms : (w w' : World) (gone : List ℕ) → Departs w gone w' → (n b : ℕ) → confirm_count n (w'.mail b) ≤ confirm_count n (w.mail b)
reaped_confirms w w' gone r n b = ⊎_elim
    (λ (i : has gone b ≡ true). omega (arith, ap (confirm_count n) (r.clears b i).1))
    (λ (o : has gone b ≡ false). let (come, grown, plain) = r.sends b o in
    omega (arith, ap (confirm_count n) grown, confirm_count-append n (w.mail b) come, confirm_count-none n come plain))
    (cases_Bool (has gone b))

stayed_sealed : (w w' : World) (gone : List ℕ) (u : Token) → Departs w gone w' → ((m : ℕ) → has u.members m ≡ true → has gone m ≡ false) → IsSealed w.cell w.mail w.loaded w.notes u → IsSealed w'.cell w'.mail w'.loaded w.notes u
stayed_sealed w w' gone u r out s m i =
    let seal = s m i in
    let unheld = λ (b : ℕ) (j : has gone b ≡ true). seal.held b (false_from_ne_true (has u.members b) (λ y. false≢true (sym (out b y) ∙ j))) in
    subst (λ l. IsSealedMember u m w'.cell l (w'.loaded m) w.notes) (sym (r.sends_held m (out m i) unheld))
    record {
      blocked = subst IsBlocked (sym (r.stays m (out m i))) seal.blocked;
      letters = seal.letters;
      silent = seal.silent;
      held = λ b o. ⊎_elim
          (λ (j : has gone b ≡ true). ap (λ o. held_on o m) (r.clears b j).0)
          (λ (j : has gone b ≡ false). ap (λ o. held_on o m) (r.stays b j) ∙ seal.held b o)
          (cases_Bool (has gone b));
      unloaded = r.unloaded m seal.unloaded;
      one = seal.one;
    }

-- who goes has no report out
stayed_spoiled : (w w' : World) (gone : List ℕ) (u : Token) → Departs w gone w' → ((m : ℕ) → has u.members m ≡ true → is_reporting (w.cell m) ≡ true → has gone m ≡ false)
    → IsSpoiled w.cell w.mail w.notes u → IsSpoiled w'.cell w'.mail w.notes u
stayed_spoiled w w' gone u r out (m, i, p) = (
  m,
  i,
  record {
    unnoted = p.unnoted;
    cause = ⊎_elim
        (λ l. inl l)
        (λ l. let (come, grown, plain) = r.sends m (out m i l.0) in
        inr (ap is_reporting (r.stays m (out m i l.0)) ∙ l.0, subst (λ x. other_before_confirm u.number x ≡ true) (sym grown) (other_before_confirm-append u.number (w.mail m) come l.1)))
        p.cause;
  },
)

pub reap_tokens : (w w' : World) (t : Token) → Reaps w t w' → TokensAreSound w → TokensAreSound w'
reap_tokens w w' t r k =
    let is = λ (u : Token) (i : Contains (close_token t w.detector).tokens u). Contains-from_filter (λ v. not (v.number == t.number)) u w.detector.tokens i in
    let out = λ (u : Token) (i : Contains (close_token t w.detector).tokens u). apart_from w t u k r.is_open (is u i).0 (is u i).1 in
    subst (λ d. SoundTokens d w'.cell w'.mail w'.loaded w'.notes) (sym r.detector)
    (subst (λ ns. SoundTokens (close_token t w.detector) w'.cell w'.mail w'.loaded ns) (sym r.departs.notes)
    record {
      apart = λ u v i j. k.apart u v (is u i).0 (is v j).0;
      kept = λ u i m h. let (q, e) = k.kept u (is u i).0 m h in (q, kept_report-in t.members w.detector.kept m (out u i m h) ∙ e);
      unique = λ u v i j. k.unique u v (is u i).0 (is v j).0;
      numbers = λ u i. k.numbers u (is u i).0;
      letters = λ b n lt. omega (arith, k.letters b n lt, reaped_confirms w w' t.members r.departs n b);
      heard = k.heard;
      once = λ u i m h. omega (arith, k.once u (is u i).0 m h, reaped_confirms w w' t.members r.departs u.number m);
      state = λ u i. ⊎_elim (λ s. inl (stayed_sealed w w' t.members u r.departs (out u i) s)) (λ s. inr (stayed_spoiled w w' t.members u r.departs (λ m h reports. out u i m h) s)) (k.state u (is u i).0);
    })

-- ---- an actor that has no report out leaves

-- a member that has a report out is not the one that leaves
pub not_leaving : (w w' : World) (a : ℕ) → Leaves w a w' → (m : ℕ) → is_reporting (w.cell m) ≡ true → has (a ∷ []) m ≡ false
not_leaving w w' a l m out = ⊎_elim
    (λ (e : a ≡ m). absurd (false≢true (sym l.unreported ∙ (ap is_reporting (sym l.here ∙ ap w.cell e) ∙ out))))
    (λ ne. rw (ne_eqb a m ne) refl)
    (cases_eq a m)

-- what was told of one with no report out is that
untold : (c : Option Cell) (a : ℕ) (told : Told) → IsAsTold c a told → is_reporting c ≡ false → IsAsTold None a told
untold c a told h e = subst (IsAsTold None a) (sym (off c a told h e)) refl

pub leave_reports : (w w' : World) (a : ℕ) → Leaves w a w' → ReportsAreExact w → ReportsAreExact w'
leave_reports w w' a l h =
    subst (λ (d : Detector). ExactReports w'.made w'.cell d.kept w'.notes) (sym l.detector)
    (subst (λ ns. ExactReports w'.made w'.cell w.detector.kept ns) (sym l.departs.notes)
    record {
      last = λ b. ⊎_elim
          (λ (i : has (a ∷ []) b ≡ true).
          let told = told_of b w.detector.kept w.notes in
          let quiet : is_reporting (w.cell b) ≡ false = subst (λ m. is_reporting (w.cell m) ≡ false) (only_member a b i) (ap is_reporting l.here ∙ l.unreported) in
          subst (λ c. IsAsTold c b told) (sym (l.departs.clears b i).0) (untold (w.cell b) b told (h.last b) quiet))
          (λ (o : has (a ∷ []) b ≡ false). subst (λ c. IsAsTold c b (told_of b w.detector.kept w.notes)) (sym (l.departs.stays b o)) (h.last b))
          (cases_Bool (has (a ∷ []) b));
      unmade = λ b past. h.unmade b (let z = l.departs.made in omega arith);
    })

pub leave_tokens : (w w' : World) (a : ℕ) → Leaves w a w' → TokensAreSound w → TokensAreSound w'
leave_tokens w w' a l k =
    let r = l.departs in
    subst (λ d. SoundTokens d w'.cell w'.mail w'.loaded w'.notes) (sym l.detector)
    (subst (λ ns. SoundTokens w.detector w'.cell w'.mail w'.loaded ns) (sym r.notes)
    record {
      apart = k.apart;
      kept = k.kept;
      unique = k.unique;
      numbers = k.numbers;
      letters = λ b n lt. omega (arith, k.letters b n lt, reaped_confirms w w' (a ∷ []) r n b);
      heard = k.heard;
      once = λ u i m h. omega (arith, k.once u i m h, reaped_confirms w w' (a ∷ []) r u.number m);
      state = λ u i. ⊎_elim
          (λ s. inl (stayed_sealed w w' (a ∷ []) u r (λ m h. not_leaving w w' a l m (blocked_reports (s m h).blocked)) s))
          (λ s. inr (stayed_spoiled w w' (a ∷ []) u r (λ m h out. not_leaving w w' a l m out) s))
          (k.state u i);
    })
