-- Every event keeps that members alone are asked and acknowledge.
use Rattle.std.proofs.Common.{◌≡◌, ℕ, suc, ◌≤◌, ◌≢◌, ◌==◌, not, ◌&&◌, is_some, true, false, ⊎_elim, List, [], ◌∷◌, ◌++◌, arith, refl, ap, sym, subst, ◌∙◌, Contains}
use Rattle.std.proofs.lemmas.Bool.{cases_Bool, cases_eq, cond_both}
use Rattle.std.proofs.lemmas.Bool.Decides.{nat_tests}
use Rattle.letter_kinds.specs.Detector.{Detector, Token, after_scan, closed_set, has, hear_note, note_ack}
use Rattle.letter_kinds.specs.Reports.{block_note}
use Rattle.letter_kinds.specs.Letters.{Letter, Confirm}
use Rattle.letter_kinds.specs.declared.note.Note.{Note}
use Rattle.letter_kinds.specs.declared.note.Note.TheVariants.{Block, Unblock, Ack}
use Rattle.letter_kinds.specs.declared.note.Report.{Report}
use Rattle.detector_laws.proofs.ActorTokens.{confirm_count-tail, moved_acks, moved_confirms, not_counted, other_test, wrong_number}
use Rattle.detector_laws.proofs.HearTokens.{tail_acks}
use Rattle.detector_laws.proofs.Letters.{confirm_count-append}
use Rattle.detector_laws.proofs.Maps.{at_cases}
use Rattle.reach_walk.proofs.Elements.{Contains-from_map}
use Rattle.detector_laws.proofs.Members.{Contains-from_filter, earlier_or_last}
use Rattle.detector_laws.proofs.Notes.{ack_count-append}
use Rattle.detector_laws.proofs.Reap.{reaped_confirms}
use Rattle.detector_laws.proofs.Scan.{confirmed_out, other_confirm}
use Rattle.detector_laws.specs.Acknowledged.{OnlyMembersAcknowledge}
use Rattle.detector_laws.specs.Cells.{is_reporting}
use Rattle.detector_laws.specs.Confirms.{confirm_count}
use Rattle.detector_laws.specs.Events.{Departs, Leaves, Moves, Reaps}
use Rattle.detector_laws.specs.Laws.{MembersAloneAcknowledge}
use Rattle.detector_laws.specs.Tokens.{ack_count}
use Rattle.detector_laws.specs.World.{MembersAcknowledge, TokensAreSound, World, confirms_of, hear_in_world, scan_in_world, take_confirm}

-- ---- no further tokens, Confirms and Acks

-- each of the tokens was open, with the same number and members
abbrev WereOpen : List Token → List Token → Type 0
WereOpen before after = (t : Token) → Contains after t → (u : Token) × Contains before u × (t.number ≡ u.number) × (t.members ≡ u.members)

still_open : (tokens : List Token) → WereOpen tokens tokens
still_open tokens t i = (t, i, refl, refl)

fewer : (d e : Detector) (mail mail' : ℕ → List Letter) (notes notes' : List Note) → OnlyMembersAcknowledge d mail notes → WereOpen d.tokens e.tokens
    → ((n a : ℕ) → confirm_count n (mail' a) ≤ confirm_count n (mail a)) → ((n a : ℕ) → ack_count n a notes' ≤ ack_count n a notes)
    → OnlyMembersAcknowledge e mail' notes'
fewer d e mail mail' notes notes' k were letters heard = record {
  asked = λ t i a out. let (u, j, number, members) = were t i in
      subst (λ n. confirm_count n (mail' a) ≡ 0) (sym number)
      (omega (arith, letters u.number a, k.asked u j a (subst (λ ms. has ms a ≡ false) members out)));
  acks = λ t i a out. let (u, j, number, members) = were t i in
      subst (λ n. ack_count n a notes' ≡ 0) (sym number)
      (omega (arith, heard u.number a, k.acks u j a (subst (λ ms. has ms a ≡ false) members out)));
}

-- ---- events of the detector

heard_open : (n : Note) (d : Detector) → WereOpen d.tokens (hear_note n d).tokens
heard_open (Block b count held) d = still_open d.tokens
heard_open (Unblock b) d = λ t i. (t, (Contains-from_filter (λ u. not (has u.members b)) t d.tokens i).0, refl, refl)
heard_open (Ack number b) d = λ t i. let (u, j, e) = Contains-from_map (note_ack number b) d.tokens t i in
    (u, j, ap (λ (x : Token). x.number) (sym e), ap (λ (x : Token). x.members) (sym e))

pub hear_members : (w : World) (n : Note) (ns : List Note) → w.notes ≡ n ∷ ns → MembersAcknowledge w → MembersAcknowledge (hear_in_world w n ns)
hear_members w n ns e k =
    fewer w.detector (hear_note n w.detector) w.mail w.mail w.notes ns k (heard_open n w.detector) (λ t a. omega arith)
    (λ t a. omega (arith, tail_acks t a n ns, ap (ack_count t a) e))

-- a scan asks the members of a token that it opens, under a new number
scanned_members : (w : World) (set : List ℕ) → TokensAreSound w → MembersAcknowledge w
    → OnlyMembersAcknowledge (after_scan w.detector set) (confirms_of set (suc w.detector.opened) w.cell w.mail) w.notes
scanned_members w [] sound k = record { asked = k.asked; acks = k.acks }
scanned_members w (x ∷ xs) sound k =
    let n = suc w.detector.opened in
    let set = x ∷ xs in
    let new : Token = record { number = n; members = set; acked = [] } in
    let split = earlier_or_last w.detector.tokens new in
    record {
      asked = λ t i a out. ⊎_elim
          (λ old. cond_both (has set a && is_some (w.cell a)) (w.mail a ++ Confirm n ∷ []) (w.mail a) (λ l. confirm_count t.number l ≡ 0)
          (λ _. let le : t.number ≤ w.detector.opened = sound.numbers t old in
          omega (arith, confirm_count-append t.number (w.mail a) (Confirm n ∷ []), k.asked t old a out, other_confirm t.number n (λ e. omega arith)))
          (λ _. k.asked t old a out))
          (λ e. subst (λ u. has u.members a ≡ false → confirm_count u.number (confirms_of set n w.cell w.mail a) ≡ 0) (sym e)
          (λ none. ap (confirm_count n) (confirmed_out set n w.cell w.mail a none) ∙ sound.letters a n (omega arith)) out)
          (split t i);
      acks = λ t i a out. ⊎_elim
          (λ old. k.acks t old a out)
          (λ e. subst (λ u. ack_count u.number a w.notes ≡ 0) (sym e) (sound.heard a n (omega arith)))
          (split t i);
    }

pub scan_members : (w : World) → TokensAreSound w → MembersAcknowledge w → MembersAcknowledge (scan_in_world w)
scan_members w = scanned_members w (closed_set w.detector)

departed_acks : (w w' : World) (gone : List ℕ) → Departs w gone w' → (n a : ℕ) → ack_count n a w'.notes ≤ ack_count n a w.notes
departed_acks w w' gone r n a = omega (arith, ap (ack_count n a) r.notes)

pub reap_members : (w w' : World) (t : Token) → Reaps w t w' → MembersAcknowledge w → MembersAcknowledge w'
reap_members w w' t r k =
    fewer w.detector w'.detector w.mail w'.mail w.notes w'.notes k
    (subst (λ (d : Detector). WereOpen w.detector.tokens d.tokens) (sym r.detector)
    (λ u i. (u, (Contains-from_filter (λ v. not (v.number == t.number)) u w.detector.tokens i).0, refl, refl)))
    (reaped_confirms w w' t.members r.departs) (departed_acks w w' t.members r.departs)

-- ---- events of actors

same_open : (w w' : World) → w'.detector ≡ w.detector → WereOpen w.detector.tokens w'.detector.tokens
same_open w w' e = subst (λ (d : Detector). WereOpen w.detector.tokens d.tokens) (sym e) (still_open w.detector.tokens)

pub leave_members : (w w' : World) (a : ℕ) → Leaves w a w' → MembersAcknowledge w → MembersAcknowledge w'
leave_members w w' a l k =
    fewer w.detector w'.detector w.mail w'.mail w.notes w'.notes k (same_open w w' l.detector)
    (reaped_confirms w w' (a ∷ []) l.departs) (departed_acks w w' (a ∷ []) l.departs)

pub moves_members : (w w' : World) (a : ℕ) → Moves w a w' → MembersAcknowledge w → MembersAcknowledge w'
moves_members w w' a mv k =
    fewer w.detector w'.detector w.mail w'.mail w.notes w'.notes k (same_open w w' mv.detector)
    (moved_confirms w w' a mv) (λ n b. omega (arith, moved_acks w w' a mv n b))

pub block_members : (w : World) (r : Report) → MembersAcknowledge w → OnlyMembersAcknowledge w.detector w.mail (w.notes ++ block_note r ∷ [])
block_members w r k =
    fewer w.detector w.detector w.mail w.mail w.notes (w.notes ++ block_note r ∷ []) k (still_open w.detector.tokens) (λ n a. omega arith)
    (λ n a. omega (arith, ack_count-append n a w.notes (block_note r ∷ [])))

-- who takes a Confirm was asked, so it is a member of the token that it acknowledges
taken_ack : (t : Token) (u a b : ℕ) (ls : List Letter) → (has t.members a ≡ false → confirm_count t.number (Confirm u ∷ ls) ≡ 0) → has t.members b ≡ false
    → ack_count t.number b (Ack u a ∷ []) ≡ 0
taken_ack t u a b ls unasked out = ⊎_elim
    (λ (e : b ≡ a). wrong_number t.number u a b (not_counted t.number u ls (unasked (subst (λ x. has t.members x ≡ false) e out))))
    (λ (ne : b ≢ a). other_test t u a b ne)
    (cases_eq b a)

pub confirm_members : (w : World) (a u : ℕ) (ls : List Letter) → w.mail a ≡ Confirm u ∷ ls → MembersAcknowledge w → MembersAcknowledge (take_confirm w a u ls)
confirm_members w a u ls e k =
    let unasked = λ (t : Token) (i : Contains w.detector.tokens t) (out : has t.members a ≡ false). ap (confirm_count t.number) (sym e) ∙ k.asked t i a out in
    record {
      asked = λ t i. at_cases (λ b l. has t.members b ≡ false → confirm_count t.number l ≡ 0) w.mail a ls
          (λ out. confirm_count-tail t.number u ls (unasked t i out)) (λ b _. k.asked t i b);
      acks = λ t i b out. cond_both (is_reporting (w.cell a)) (w.notes ++ Ack u a ∷ []) w.notes (λ ns. ack_count t.number b ns ≡ 0)
          (λ _. omega (arith, k.acks t i b out, ack_count-append t.number b w.notes (Ack u a ∷ []), taken_ack t u a b ls (unasked t i) out))
          (λ _. k.acks t i b out);
    }

-- ---- what is heard

first_counts : (n u a : ℕ) (ns : List Note) → ack_count n a (Ack u a ∷ ns) ≡ 0 → n ≢ u
first_counts n u a ns e same = grind (arith, nat_tests)

pub members_alone : MembersAloneAcknowledge
members_alone w u a ns k first t i same = ⊎_elim
    (λ (member : has t.members a ≡ true). member)
    (λ (out : has t.members a ≡ false). absurd (first_counts t.number u a ns (ap (ack_count t.number a) (sym first) ∙ k.members.acks t i a out) same))
    (cases_Bool (has t.members a))
