-- A text is of one book.
use Rattle.std.proofs.Common.{◌≡◌, ℕ, ◌<◌, ◌^◌, ◌==◌, Bool, if◌then◌else◌, List, [], ◌∷◌, ◌++◌, length, get_or, map, drop, All, refl, ap, ap₂, sym, ◌∙◌, subst, arith, codes, decimal, append-nil, drop_of_length-le, inl, inr}
use Rattle.std.specs.Str.Parse.{digits_value}
use Rattle.std.proofs.lemmas.Fmt.{decimal_injective, decimal_is_IsNumeral}
use Rattle.std.proofs.lemmas.List.{append_cancel_left, append_cancel_right}
use Rattle.std.proofs.lemmas.List.Elements.{All-head, All-tail}
use Rattle.orca_names.specs.declared.trace.Trace.{Trace}
use Rattle.orca_names.specs.declared.trace.Trace.TheVariants.{Deep, Roots}
use Rattle.event_rule.specs.declared.event.Event.{Event}
use Rattle.event_rule.specs.declared.event.Event.TheVariants.{Take, Go, Collect, Leave, Block, Hear, Scan, Reap}
use Rattle.event_rule.specs.Events.{event_text}
use Rattle.text_lines.specs.Lines.{lines_of}
use Rattle.run_book.specs.Books.{BookValue, trace_text}
use Rattle.run_book.specs.Reading.{AreAlike, IsBookText, MayFollow, Says, SaysNew, SaysOld}
use Rattle.run_book.specs.declared.header.Header.{Header}
use Rattle.run_book.proofs.Lines.{lines_read}
use Rattle.run_book.proofs.Numerals.{no_roots}
use Rattle.run_book.proofs.Steps.{read_whole}

-- ---- the first line

numerals_same : (v w : ℕ) (s t : Trace) → v < 2 ^ 64 → w < 2 ^ 64 →
    decimal v ++ trace_text s ≡ decimal w ++ trace_text t → (v ≡ w) × (s ≡ t)
numerals_same v w Deep Deep small little e = (
  decimal_injective v w small little (sym (append-nil (decimal v)) ∙ e
      ∙ append-nil (decimal w)),
  refl,
)
numerals_same v w Roots Roots small little e = (
  decimal_injective v w small little
      (append_cancel_right (decimal v) (decimal w) (codes " roots") e),
  refl,
)
numerals_same v w Deep Roots small little e =
    absurd (no_roots v (decimal w) small (sym (append-nil (decimal v)) ∙ e))
numerals_same v w Roots Deep small little e =
    absurd (no_roots w (decimal v) little (sym (append-nil (decimal w)) ∙ sym e))

old_and_new : (line : List ℕ) (g h : Header) → SaysOld line g → SaysNew line h → ⊥
old_and_new line g h old new =
    let five : 49 ≡ 50 = ap (λ (bytes : List ℕ). get_or bytes 5 0) (sym old.0 ∙ new.spelled) in
    omega (arith, five)

-- two that a first line says are alike
abbrev SaidAlike : Header → Header → Type 0
SaidAlike g h = (g.weight ≡ h.weight) × (g.trace ≡ h.trace) × (g.leaves ≡ h.leaves)

pub said_same : (line : List ℕ) (g h : Header) → Says line g → Says line h → SaidAlike g h
said_same line g h (inl one) (inl other) =
    let same = one.1 ∙ sym other.1 in (
      ap (λ (x : Header). x.weight) same,
      ap (λ (x : Header). x.trace) same,
      ap
          (λ (x : Header). x.leaves) same,
    )
said_same line g h (inl one) (inr other) = absurd (old_and_new line g h one other)
said_same line g h (inr one) (inl other) = absurd (old_and_new line h g other one)
said_same line g h (inr one) (inr other) =
    let same = numerals_same g.weight h.weight g.trace h.trace (omega (arith, one.weight.1))
    (omega (arith, other.weight.1))
    (append_cancel_left (codes "book 2 ") (decimal g.weight ++ trace_text g.trace)
    (decimal h.weight ++ trace_text h.trace) (sym one.spelled ∙ other.spelled)) in
    (same.0, same.1, one.leaves ∙ sym other.leaves)

-- ---- the entries

-- the number behind so many bytes
abbrev number_from : ℕ → List ℕ → ℕ
number_from n line = digits_value 10 (drop n line)

-- the entry that has a line, told by its first letter
abbrev entry_back : List ℕ → Event
entry_back [] = Hear
entry_back (b ∷ line) =
    if b == 116 then Take (number_from 4 line)
    else (if b == 103 then Go (number_from 2 line)
    else (if b == 99 then Collect (number_from 7 line)
    else (if b == 108 then Leave (number_from 5 line)
    else (if b == 98 then Block (number_from 5 line)
    else (if b == 114 then Reap (number_from 4 line)
    else (if b == 115 then Scan else Hear))))))

read_back : (n : ℕ) → n < 2 ^ 64 → digits_value 10 (decimal n) ≡ n
read_back n h = (decimal_is_IsNumeral n h).1

entry_again : (leaves : Bool) (e : Event) → MayFollow leaves e → entry_back (event_text e) ≡ e
entry_again leaves (Take a) h = ap Take (read_back a (omega arith))
entry_again leaves (Go a) h = ap Go (read_back a (omega arith))
entry_again leaves (Collect a) h = ap Collect (read_back a (omega arith))
entry_again leaves (Leave a) h = ap Leave (read_back a (omega (arith, h.0)))
entry_again leaves (Block a) h = ap Block (read_back a (omega arith))
entry_again leaves Hear h = refl
entry_again leaves Scan h = refl
entry_again leaves (Reap token) h = ap Reap (read_back token h)

entries_again : (leaves : Bool) (entries : List Event) → All (MayFollow leaves) entries →
    map entry_back (map event_text entries) ≡ entries
entries_again leaves [] h = refl
entries_again leaves (e ∷ entries) h =
    ap₂ (λ (x : Event) (xs : List Event). x ∷ xs)
    (entry_again leaves e (All-head (MayFollow leaves) e entries h))
    (entries_again leaves entries (All-tail (MayFollow leaves) e entries h))

-- ---- the whole

abbrev head_of : List (List ℕ) → List ℕ
head_of [] = []
head_of (line ∷ lines) = line

abbrev rest_of : List (List ℕ) → List (List ℕ)
rest_of [] = []
rest_of (line ∷ lines) = lines

pub all_lines : (bytes : List ℕ) (b : BookValue) (t : IsBookText bytes b) →
    lines_of bytes ≡ t.first ∷ map event_text b.entries
all_lines bytes b t =
    let none : drop (length bytes) bytes ≡ [] = drop_of_length-le bytes (omega arith) in
    lines_read bytes t.header b.entries (length bytes) (read_whole bytes b t)
    ∙ ap (λ (rest : List ℕ). t.first ∷ (map event_text b.entries ++ lines_of rest)) none
    ∙ ap (λ (ls : List (List ℕ)). t.first ∷ ls) (append-nil (map event_text b.entries))

pub one_book : (bytes : List ℕ) (a b : BookValue) → IsBookText bytes a → IsBookText bytes b →
    AreAlike a b
one_book bytes a b s t =
    let lines = sym (all_lines bytes a s) ∙ all_lines bytes b t in
    let said = said_same t.first s.header t.header
    (subst (λ (line : List ℕ). Says line s.header) (ap head_of lines) s.says) t.says in
    record {
      entries = sym (entries_again s.header.leaves a.entries s.entries)
          ∙ ap (λ (ls : List (List ℕ)). map entry_back (rest_of ls)) lines
          ∙ entries_again t.header.leaves b.entries t.entries;
      weight = s.weight ∙ said.0 ∙ sym t.weight;
      trace = s.trace ∙ said.1 ∙ sym t.trace;
    }
