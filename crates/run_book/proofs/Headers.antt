-- What a first line says.
use Rattle.std.proofs.Common.{◌≡◌, ◌≢◌, ℕ, ◌<◌, ◌^◌, List, ◌++◌, codes, decimal, sym, ◌∙◌, arith, append-nil}
use Rattle.std.proofs.lemmas.List.{append_cancel_left}
use Rattle.orca_names.specs.declared.trace.Trace.{Trace}
use Rattle.orca_names.specs.declared.trace.Trace.TheVariants.{Deep, Roots}
use Rattle.run_book.specs.Books.{IsWeight, trace_text}
use Rattle.run_book.specs.Reading.{SaysNew}
use Rattle.run_book.specs.declared.header.Header.{Header}
use Rattle.run_book.proofs.Numerals.{no_roots}

-- a numeral with the word for a tracing is taken apart in one way
same_numeral : (word : List ℕ) (found trace : Trace) (w : ℕ) → w < 2 ^ 64 →
    ((front : List ℕ) → word ++ trace_text found ≡ front ++ codes " roots" → word ≡ front) →
    word ++ trace_text found ≡ decimal w ++ trace_text trace → word ≡ decimal w
same_numeral word found Roots w small roots e = roots (decimal w) e
same_numeral word Deep Deep w small roots e = sym (append-nil word) ∙ e ∙ append-nil (decimal w)
same_numeral word Roots Deep w small roots e =
    absurd (no_roots w word small (sym (append-nil (decimal w)) ∙ sym e))

pub no_new_header : (line rest word : List ℕ) (trace : Trace) (h : Header) →
    line ≡ codes "book 2 " ++ rest → rest ≡ word ++ trace_text trace →
    ((front : List ℕ) → rest ≡ front ++ codes " roots" → word ≡ front) →
    ((w : ℕ) → IsWeight w → word ≢ decimal w) → ¬ SaysNew line h
no_new_header line rest word trace h begins whole roots none says =
    let e : rest ≡ decimal h.weight ++ trace_text h.trace =
    append_cancel_left (codes "book 2 ") rest (decimal h.weight ++ trace_text h.trace)
    (sym begins ∙ says.spelled) in
    none h.weight says.weight
    (same_numeral word trace h.trace h.weight (omega (arith, says.weight.1))
    (λ front back. roots front (whole ∙ back)) (sym whole ∙ e))
