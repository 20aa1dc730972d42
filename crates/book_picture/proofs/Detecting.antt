-- What the detector's events leave.
use Rattle.std.proofs.Common.{◌≡◌, ℕ, suc, ◌==◌, not, Bool, true, List, [], ◌∷◌, ◌++◌, Option, Some, None, eqb-true, ne_eqb, refl, sym, ap, subst, ◌∙◌}
use Rattle.std.specs.Option.{option_map_or}
use Rattle.std.specs.Prelude.{if◌then◌else◌, option_map}
use Rattle.behaviour_code.specs.declared.code.Program.{Program}
use Rattle.event_rule.specs.Runs.{Goes, NotEnabled}
use Rattle.event_rule.specs.declared.event.Event.TheVariants.{Hear, Scan, Reap}
use Rattle.letter_kinds.specs.Detector.{Token, close_token, closed_set, has}
use Rattle.letter_kinds.specs.declared.note.Note.{Note}
use Rattle.detector_laws.proofs.Members.{contained_each}
use Rattle.detector_laws.proofs.Named.{numbered_is_open}
use Rattle.detector_laws.proofs.Reap.{kept_report-in}
use Rattle.machine_rules.proofs.Guards.{acked_open}
use Rattle.machine_rules.specs.Detect.{empty_seats, hear, reap_decs, scan}
use Rattle.machine_rules.specs.Next.{next}
use Rattle.machine_rules.specs.Options.{Options}
use Rattle.machine_rules.specs.State.{State}
use Rattle.count_laws.proofs.away.Untouched.{emptied_other}
use Rattle.actor_cell.specs.Outs.{decs_to}
use Rattle.actor_cell.specs.Pushing.{push_all}
use Rattle.orca_parts.specs.Fits.{CanHearFirst, CanOpenThen, CanScan, FitsReap}
use Rattle.orca_parts.specs.Parts.{state_of}
use Rattle.orca_parts.specs.Touched.{first_teller, first_told, receivers, teller, told_token}
use Rattle.orca_parts.specs.declared.parts.Parts.{Parts}
use Rattle.orca_parts.proofs.Stepped.{reap_goes}
use Rattle.book_picture.specs.Leaving.{LeavesOthers}
use Rattle.book_picture.proofs.Acting.{there}
use Rattle.book_picture.proofs.Noting.{AreApart, heard_leaves, scanned, scanned_leaves}
use Rattle.book_picture.proofs.Seats.{decs_leave, parted}
use Rattle.book_picture.proofs.Tokens.{found_kept}

module _ (options : Options) (program : Program) (m : Parts) (t : State) where
  abbrev s : State
  s = state_of program options m

  pub hear_leaves : AreApart m.detector.state.tokens → CanHearFirst m.notes.items m.detector → next s Hear ≡ Goes t
      → LeavesOthers (first_teller m.notes.items) (first_told m.detector.state m.notes.items) s t
  hear_leaves apart can seen = by m.notes.items refl can
    where
      by : (waiting : List Note) → m.notes.items ≡ waiting → CanHearFirst waiting m.detector
          → LeavesOthers (first_teller waiting) (first_told m.detector.state waiting) s t
      by [] is never = absurd never
      by (note ∷ later) is fits =
          there (LeavesOthers (teller note ∷ []) (told_token m.detector.state note) s) (next s Hear) _ t (ap (hear s) is) seen
          (heard_leaves s note later apart)

  pub scan_leaves : CanScan m.token m.table.slots m.detector → next s Scan ≡ Goes t
      → LeavesOthers (option_map_or (λ u. u.members) m.token []) (option_map (λ u. u.number) m.token) s t
  scan_leaves can seen =
      there (LeavesOthers (option_map_or (λ u. u.members) m.token []) (option_map (λ u. u.number) m.token) s) (next s Scan) _ t
      (ap (λ (x : Bool). if x then scan s else NotEnabled) can.news) seen (by m.token can.open_then)
    where
      by : (token : Option Token) → CanOpenThen token m.table.slots m.detector
          → LeavesOthers (option_map_or (λ u. u.members) token []) (option_map (λ u. u.number) token) s (scanned s (closed_set s.detector))
      by None closed = subst (λ ms. LeavesOthers [] None s (scanned s ms)) (sym closed) (scanned_leaves s [])
      by (Some token) opens =
          subst (λ (u : Token). LeavesOthers u.members (Some u.number) s (scanned s (closed_set s.detector))) (sym opens.token_is)
          (subst (λ ms. LeavesOthers (opens.first ∷ opens.rest) (Some (suc s.detector.opened)) s (scanned s ms)) (sym opens.closed)
          (scanned_leaves s (opens.first ∷ opens.rest)))

  -- ---- reap

  pub reap_leaves : (number : ℕ) → FitsReap number m.members.items m.letters.items m → next s (Reap number) ≡ Goes t
      → LeavesOthers (m.members.items ++ receivers m.letters.items) (Some number) s t
  reap_leaves number fits seen =
      let d = s.detector in
      let token = fits.token in
      let members = m.members.items in
      let letters = m.letters.items in
      let rest = empty_seats token.members s.actors in
      let named = (numbered_is_open d number token (acked_open number d token fits.acked).0).1 in
      there (LeavesOthers (members ++ receivers letters) (Some number) s) (next s (Reap number)) _ t
      (reap_goes s number token letters (push_all (decs_to letters) rest) (close_token token d) fits.acked (fits.decs ∙ ap (λ ms. reap_decs ms ms s.actors) (sym fits.its)) refl refl)
      seen
      (record {
        seats = λ a out.
            let apart = parted members (receivers letters) a out in
            decs_leave letters rest a apart.1 ∙ emptied_other token.members s.actors a (ap (λ ms. has ms a) fits.its ∙ apart.0);
        reports = λ a out.
            kept_report-in token.members d.kept a
            (ap (λ ms. has ms a) fits.its ∙ (parted members (receivers letters) a out).0);
        tokens = λ n other.
            found_kept (λ u. u.number == n) (λ u. not (u.number == token.number)) d.tokens
            (contained_each (λ u. (u.number == n) ≡ true → not (u.number == token.number) ≡ true) d.tokens
            (λ u at is. ap not (ne_eqb u.number token.number (λ same. other (ap Some (sym named ∙ sym same ∙ eqb-true u.number n is))))));
      })
