-- Where a report is kept, its actor is ready to be sealed or spoils a token.
use Rattle.std.proofs.Common.{◌≡◌, ℕ, ◌≢◌, ◌==◌, Bool, true, false, ◌||◌, ◌⊎◌, inl, inr, ⊎_elim, List, [], ◌∷◌, ◌++◌, Option, arith, refl, sym, subst}
use Rattle.std.proofs.lemmas.Bool.{cases_eq, cases_Bool, or_parts, eqb-false}
use Rattle.std.proofs.lemmas.Bool.Decides.{nat_tests}
use Rattle.letter_kinds.specs.Letters.{Letter, Confirm}
use Rattle.letter_kinds.specs.declared.note.Note.{Note}
use Rattle.letter_kinds.specs.declared.note.Note.TheVariants.{Block, Unblock, Ack}
use Rattle.letter_kinds.specs.declared.note.Report.{Report}
use Rattle.machine_rules.specs.Cell.{Cell}
use Rattle.detector_laws.proofs.Cells.{IsTrue, blocked_reports}
use Rattle.detector_laws.proofs.Hear.{with_notes-contradictory}
use Rattle.detector_laws.proofs.Notes.{with_note-other_block, with_note-other_unblock}
use Rattle.detector_laws.specs.Cells.{is_reporting}
use Rattle.detector_laws.specs.Confirms.{is_confirm, EndsInConfirm, OnlyConfirms, confirm_count, has_confirm, other_before_confirm}
use Rattle.detector_laws.specs.Reports.{Reported, Contradictory, with_note, with_notes, IsSilentOn, IsAsTold}
use Rattle.detector_laws.specs.Tokens.{ack_count, unblocks_before_ack}

-- an Unblock of m is among the notes
abbrev unblocked : ℕ → List Note → Bool
unblocked m [] = false
unblocked m (Block b count held ∷ ns) = unblocked m ns
unblocked m (Unblock b ∷ ns) = (b == m) || unblocked m ns
unblocked m (Ack u b ∷ ns) = unblocked m ns

unblocked_before_ack : (n m : ℕ) (ns : List Note) → unblocked m ns ≡ true → ack_count n m ns ≡ 0 → unblocks_before_ack n m ns ≡ true
unblocked_before_ack n m [] h k = absurd (cc)
unblocked_before_ack n m (Block b count held ∷ ns) h k = unblocked_before_ack n m ns h k
unblocked_before_ack n m (Unblock b ∷ ns) h k = grind (arith, unblocked_before_ack n m ns)
unblocked_before_ack n m (Ack u b ∷ ns) h k = grind (arith, unblocked_before_ack n m ns)

wrong_step : (m : ℕ) (r : Report) (b count : ℕ) (held : List (ℕ × ℕ)) → b ≡ m → with_note m (Reported r) (Block b count held) ≡ Contradictory
wrong_step m r b count held e = grind (arith, nat_tests)

-- with a report kept and no Unblock behind, a further Block would be wrong
still_on : (m : ℕ) (r : Report) (ns : List Note) → unblocked m ns ≡ false → ((with_notes m (Reported r) ns ≡ Reported r) × IsSilentOn m ns) ⊎ (with_notes m (Reported r) ns ≡ Contradictory)
still_on m r [] h = inl (refl, tt)
still_on m r (Block b count held ∷ ns) h = ⊎_elim
    (λ (e : b ≡ m). inr (subst (λ s. with_notes m s ns ≡ Contradictory) (sym (wrong_step m r b count held e)) (with_notes-contradictory m ns)))
    (λ (ne : b ≢ m). ⊎_elim
    (λ k. inl (subst (λ s. with_notes m s ns ≡ Reported r) (sym (with_note-other_block m (Reported r) b count held ne)) k.0, (ne, k.1)))
    (λ k. inr (subst (λ s. with_notes m s ns ≡ Contradictory) (sym (with_note-other_block m (Reported r) b count held ne)) k))
    (still_on m r ns h))
    (cases_eq b m)
still_on m r (Unblock b ∷ ns) h =
    let two = or_parts (b == m) (unblocked m ns) h in
    let ne : b ≢ m = eqb-false b m two.0 in
    ⊎_elim
    (λ k. inl (subst (λ s. with_notes m s ns ≡ Reported r) (sym (with_note-other_unblock m (Reported r) b ne)) k.0, (ne, k.1)))
    (λ k. inr (subst (λ s. with_notes m s ns ≡ Contradictory) (sym (with_note-other_unblock m (Reported r) b ne)) k))
    (still_on m r ns two.1)
still_on m r (Ack u b ∷ ns) h = still_on m r ns h

has_confirm-push : (n : ℕ) (ls : List Letter) → has_confirm n (ls ++ Confirm n ∷ []) ≡ true
has_confirm-push n [] = grind (arith, nat_tests)
has_confirm-push n (l ∷ ls) = grind (arith, has_confirm-push n ls)

only_or_before_confirm : (n : ℕ) (ls : List Letter) → confirm_count n ls ≡ 0 → OnlyConfirms ls ⊎ (other_before_confirm n (ls ++ Confirm n ∷ []) ≡ true)
only_or_before_confirm n [] h = inl tt
only_or_before_confirm n (l ∷ ls) h = ⊎_elim
    (λ (yes : is_confirm l ≡ true). ⊎_elim (λ k. inl (yes, k)) (λ k. inr (grind (arith, nat_tests))) (only_or_before_confirm n ls (omega arith)))
    (λ (no : is_confirm l ≡ false). inr (rw no (has_confirm-push n ls)))
    (cases_Bool (is_confirm l))

pub only-EndsInConfirm : (n : ℕ) (ls : List Letter) → OnlyConfirms ls → EndsInConfirm n (ls ++ Confirm n ∷ [])
only-EndsInConfirm n [] h = grind (arith, nat_tests)
only-EndsInConfirm n (l ∷ []) h = (h.0, grind (arith, nat_tests))
only-EndsInConfirm n (l ∷ (m ∷ ls)) h = (h.0, only-EndsInConfirm n (m ∷ ls) h.1)

-- a member whose report tells what is
pub record IsReady (cell : ℕ → Option Cell) (mail : ℕ → List Letter) (notes : List Note) (r : Report) : Type 0 where
  pub told : IsTrue cell r
  pub silent : IsSilentOn r.actor notes
  pub only : OnlyConfirms (mail r.actor)

abbrev pub Spoils : (ℕ → Option Cell) → (ℕ → List Letter) → List Note → ℕ → Report → Type 0
Spoils cell mail notes n r = (unblocks_before_ack n r.actor notes ≡ true) ⊎ ((is_reporting (cell r.actor) ≡ true) × (other_before_confirm n (mail r.actor ++ Confirm n ∷ []) ≡ true))

pub ready_or_spoils : (cell : ℕ → Option Cell) (mail : ℕ → List Letter) (notes : List Note) (n : ℕ) (r : Report) → IsAsTold (cell r.actor) r.actor (with_notes r.actor (Reported r) notes)
    → ack_count n r.actor notes ≡ 0 → confirm_count n (mail r.actor) ≡ 0 → IsReady cell mail notes r ⊎ Spoils cell mail notes n r
ready_or_spoils cell mail notes n r last a0 c0 = ⊎_elim
    (λ (t : unblocked r.actor notes ≡ true). inr (inl (unblocked_before_ack n r.actor notes t a0)))
    (λ (f : unblocked r.actor notes ≡ false). ⊎_elim
    (λ on. let now : IsTrue cell r = subst (IsAsTold (cell r.actor) r.actor) on.0 last in
    ⊎_elim
    (λ only. inl record { told = now; silent = on.1; only = only })
    (λ wt. inr (inr (blocked_reports now.0, wt)))
    (only_or_before_confirm n (mail r.actor) c0))
    (λ wrong. absurd (subst (IsAsTold (cell r.actor) r.actor) wrong last))
    (still_on r.actor r notes f))
    (cases_Bool (unblocked r.actor notes))
