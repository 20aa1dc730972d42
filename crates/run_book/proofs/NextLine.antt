-- The next line of a text: its entry, or its fault.
use Rattle.std.proofs.Common.{◌≡◌, ◌≢◌, ℕ, ◌+◌, ◌-◌, ◌<◌, ◌≤◌, nat_lt, List, [], ◌∷◌, ◌++◌, length, get_or, take, drop, refl, ap, sym, ◌∙◌, subst, arith, codes, length-append, length-drop, drop_of_length-le}
use Rattle.std.proofs.lemmas.Bool.{ltb-false, ltb-true}
use Rattle.std.proofs.lemmas.List.{get_or-drop, get_or_at, take_rest}
use Rattle.event_rule.specs.declared.event.Event.{Event}
use Rattle.text_lines.specs.Lines.{lines_of}
use Rattle.text_lines.proofs.Splitting.{next_line_at}
use Rattle.run_book.specs.Reading.{IsFirstFault}
use Rattle.run_book.specs.Progress.{IsLowestFault, IsNext, IsReadTo}
use Rattle.run_book.specs.declared.header.Header.{Header}
use Rattle.run_book.proofs.Faults.{first_fault}
use Rattle.run_book.proofs.Steps.{one_more}

-- a text with no line feed from a place on does not end in one
pub not_fed : (bytes : List ℕ) (from : ℕ) → from < length bytes →
    ((k : ℕ) → k < length bytes - from → get_or (drop from bytes) k 0 ≢ 10) →
    (before : List ℕ) → bytes ≢ before ++ codes "\n"
not_fed bytes from inside none before e =
    let size : length bytes ≡ length before + 1 = ap length e ∙ length-append before (10 ∷ []) in
    let place : from + (length before - from) ≡ length before = omega (arith, size) in
    none (length before - from) (omega (arith, size))
    (get_or-drop from bytes (length before - from) 0 ∙ ap (λ (i : ℕ). get_or bytes i 0) place
    ∙ ap (λ (l : List ℕ). get_or l (length before) 0) e
    ∙ get_or_at before 10 [] 0 (length before) refl)

module _ (bytes : List ℕ) (h : Header) (entries : List Event) (from n before : ℕ)
    (r : IsReadTo bytes h entries from) (inside : from < length bytes)
    (within : n ≤ length (take (length bytes - from) (drop from bytes))) (none : (k : ℕ) → k < n →
    get_or (take (length bytes - from) (drop from bytes)) k 0 ≢ 10)
    (found : n < length (take (length bytes - from) (drop from bytes)) →
    get_or (take (length bytes - from) (drop from bytes)) n 0 ≡ 10) (told : before
    ≡ length entries) where
  rest : take (length bytes - from) (drop from bytes) ≡ drop from bytes
  rest = take_rest bytes from

  place : from + n - from ≡ n
  place = omega arith

  pub read_on : (more : List Event) (e : Event) →
      IsNext h.leaves (take (from + n - from) (drop from bytes)) before
      (nat_lt (from + n) (length bytes)) e →
      more ≡ entries ++ e ∷ [] → IsReadTo bytes h more (from + n + 1)
  read_on more e next pushed =
      let short : from + n < length bytes = ltb-true (from + n) (length bytes) next.feed in
      let behind : n < length (drop from bytes) = omega (arith, length-drop from bytes) in
      one_more bytes (take (from + n - from) (drop from bytes)) h entries more from n
      (from + n + 1) e r (ap (λ (k : ℕ). take k (drop from bytes)) place) behind
      (rw rest at (found (rw rest behind))) next.entry (omega (arith, next.room)) pushed
      (omega arith) (omega arith)

  pub fault_here : (number kind : ℕ) → number ≡ length entries →
      IsLowestFault h.leaves (take (from + n - from) (drop from bytes)) before
      (nat_lt (from + n) (length bytes)) kind →
      IsFirstFault bytes (number + 2) kind
  fault_here number kind counted f =
      let line = subst (λ (k : ℕ). IsLowestFault h.leaves (take k (drop from bytes)) before
      (nat_lt (from + n) (length bytes)) kind) place f in
      let here = subst (λ (k : ℕ). IsLowestFault h.leaves (take n (drop from bytes)) k
      (nat_lt (from + n) (length bytes)) kind) told line in
      subst (λ (k : ℕ). IsFirstFault bytes (k + 2) kind) (sym counted)
      (first_fault bytes h entries from r (take n (drop from bytes))
      (lines_of (drop (from + n + 1) bytes)) (next_line_at bytes from n inside within none found)
      (nat_lt (from + n) (length bytes)) kind here (λ last.
      let long : length bytes ≤ from + n = ltb-false (from + n) (length bytes) last in (
        ap lines_of (drop_of_length-le bytes (omega arith)),
        not_fed bytes from inside
            (λ k small. (rw rest at none) k (omega arith)),
      )))
