-- The faults of the first line, and what is written.
use Rattle.std.proofs.Common.{◌≡◌, ◌≢◌, ℕ, ◌<◌, ◌≤◌, true, List, [], ◌∷◌, length, get_or, take, All, refl, ap, sym, ◌∙◌, subst, arith, take_all, drop_of_length-le, inl, inr, Some, None}
use Rattle.std.specs.List.{slice_get}
use Rattle.std.proofs.lemmas.Bool.{cases_lt}
use Rattle.std.proofs.lemmas.Option.{same_Some}
use Rattle.orca_names.specs.declared.limits.TheConstants.{BOOK_LIMIT}
use Rattle.text_lines.specs.Lines.{lines_of}
use Rattle.text_lines.proofs.Splitting.{next_line}
use Rattle.run_book.specs.Books.{BookValue, IsWeight, book_text, first_line}
use Rattle.run_book.specs.Reading.{Begins, HasFault, IsBookText, IsFirstFault, MayFollow, Says, TellsNone}
use Rattle.run_book.specs.declared.errors.BookErr.{BookErr}
use Rattle.run_book.specs.declared.errors.BookErr.TheVariants as E
use Rattle.run_book.specs.declared.header.Header.{Header}
use Rattle.run_book.proofs.Faults.{by_kind}
use Rattle.run_book.proofs.NextLine.{not_fed}

from_one : (bytes : List ℕ) (number kind : ℕ) → HasFault bytes number kind → 1 ≤ number
from_one bytes number kind =
    by_kind (λ _. 1 ≤ number) bytes number kind (λ f. omega (arith, f.at))
    (λ f. omega (arith, f.at)) (λ f. omega (arith, f.at)) (λ f. f.some)

-- a fault of the first line is the first where it is the lowest there
first_one : (bytes : List ℕ) (kind : ℕ) → HasFault bytes 1 kind →
    ((other : ℕ) → HasFault bytes 1 other → kind ≤ other) → IsFirstFault bytes 1 kind
first_one bytes kind f lowest = record {
  there = f;
  first = λ number other g. elim (cases_lt 1 number) [
    | inl behind ↦ inl behind
    | inr upto ↦ let same : 1 ≡ number = omega (arith, from_one bytes number other g) in
        inr (same, lowest other (subst (λ (m : ℕ). HasFault bytes m other) (sym same) g))
  ];
}

empty_is : (bytes : List ℕ) → length bytes ≤ 0 → bytes ≡ []
empty_is [] h = refl
empty_is (b ∷ bytes) h = absurd (omega arith)

module _ (bytes : List ℕ) (n : ℕ) (within : n ≤ length bytes) (none : (k : ℕ) → k < n →
    get_or bytes k 0 ≢ 10) (found : n < length bytes → get_or bytes n 0 ≡ 10) where
  the_first : (first : List ℕ) → slice_get (lines_of bytes) 0 ≡ Some first → take n bytes ≡ first
  the_first first is = elim (cases_lt 0 (length bytes)) [
    | inl some ↦ same_Some (take n bytes) first
        (sym (ap (λ (ls : List (List ℕ)). slice_get ls 0)
        (next_line bytes n some within none found)) ∙ is)
    | inr empty ↦ let no : None ≡ Some first =
        sym (ap (λ (l : List ℕ). slice_get (lines_of l) 0) (empty_is bytes empty)) ∙ is in cc
  ]

  pub header_fault : ((h : Header) → ¬ Says (take n bytes) h) → IsFirstFault bytes 1 1
  header_fault refused = first_one bytes 1
      (inl (
        refl,
        record {
          at = refl;
          none =
              λ h b. refused h (subst (λ (l : List ℕ). Says l h) (sym (the_first b.0 b.1)) b.2);
        },
      ))
      (λ other. by_kind (λ k. 1 ≤ k) bytes 1 other (λ f. omega arith) (λ f. omega arith)
      (λ f. omega arith) (λ f. omega arith))

  says_something : (h : Header) → Says [] h → ⊥
  says_something h (inl old) = cc old.0
  says_something h (inr new) = cc new.spelled

  pub feed_fault : (h : Header) → Says (take n bytes) h → n ≡ length bytes → IsFirstFault bytes 1 4
  feed_fault h says last = elim (cases_lt 0 (length bytes)) [
    | inl some ↦ unfed some
    | inr empty ↦ absurd
        (says_something h (subst (λ (l : List ℕ). Says l h) (take_all n bytes (omega arith)
        ∙ empty_is bytes empty) says))
  ]
    where
      unfed : 0 < length bytes → IsFirstFault bytes 1 4
      unfed some =
          let lines = next_line bytes n some within none found
          ∙ ap (λ (l : List ℕ). take n bytes ∷ lines_of l)
          (drop_of_length-le bytes (omega arith)) in
          let begun : Begins bytes h =
          (take n bytes, ap (λ (ls : List (List ℕ)). slice_get ls 0) lines, says) in
          first_one bytes 4
          (inr (inr (inr (
            refl,
            record {
              some = omega arith;
              at = sym (ap length lines);
              none =
                  not_fed bytes 0 some (λ k small. none k (omega arith));
            },
          ))))
          (λ other. by_kind (λ k. 4 ≤ k) bytes 1 other (λ f. absurd (f.none h begun))
          (λ f. omega (arith, f.at)) (λ f. omega (arith, f.at)) (λ f. omega arith))

-- what is written of a book is a text of it
pub written : (b : BookValue) → IsWeight b.weight → All (MayFollow true) b.entries →
    length b.entries ≤ BOOK_LIMIT → IsBookText (book_text b) b
written b weight entries few = record {
  header = record { weight = b.weight; trace = b.trace; leaves = true };
  first = first_line b.weight b.trace;
  says = inr (record { spelled = refl; weight = weight; leaves = refl });
  weight = refl;
  trace = refl;
  entries = entries;
  few = few;
  whole = refl;
}

-- a book's text is refused for want of memory alone
pub refused_for_memory : (bytes : List ℕ) (b : BookValue) (e : BookErr) → IsBookText bytes b →
    TellsNone bytes e → e ≡ E.NoMemory
refused_for_memory bytes b (E.Fault line kind) t none = absurd (none b t)
refused_for_memory bytes b E.NoMemory t none = refl
