-- The lines of what is written.
use Rattle.std.proofs.Common.{◌≡◌, ℕ, ◌<◌, ◌^◌, ◌==◌, Bool, true, false, if◌then◌else◌, List, [], ◌∷◌, ◌++◌, map, drop, All, refl, ap, sym, ◌∙◌, subst, arith, ne_eqb, codes, decimal, append_assoc, take-append-drop, inl, inr}
use Rattle.std.specs.List.{flat_map, slice_split}
use Rattle.std.specs.Str.Parse.{AllDigits}
use Rattle.std.proofs.lemmas.List.Elements.{All-nil, All-cons, All-append, All-head, All-tail}
use Rattle.std.proofs.lemmas.List.Splits.{slice_split_at, length-slice_split}
use Rattle.std.proofs.lemmas.Str.Parse.{digit_from_value}
use Rattle.orca_names.specs.declared.trace.Trace.{Trace}
use Rattle.orca_names.specs.declared.trace.Trace.TheVariants.{Deep, Roots}
use Rattle.event_rule.specs.declared.event.Event.{Event}
use Rattle.event_rule.specs.declared.event.Event.TheVariants.{Take, Go, Collect, Leave, Block, Hear, Scan, Reap}
use Rattle.event_rule.specs.Events.{event_text}
use Rattle.text_lines.specs.Lines.{lines_of, without_empty_last}
use Rattle.text_lines.proofs.Splitting.{more_pieces}
use Rattle.run_book.specs.Books.{entry_line, trace_text}
use Rattle.run_book.specs.Reading.{MayFollow, Says}
use Rattle.run_book.specs.Progress.{IsReadTo}
use Rattle.run_book.specs.declared.header.Header.{Header}
use Rattle.run_book.proofs.Numerals.{digits}

-- a byte that is no line feed, and bytes of which none is
abbrev IsFree : ℕ → Type 0
IsFree b = (b == 10) ≡ false

abbrev pub HasNoFeed : List ℕ → Type 0
HasNoFeed bytes = All IsFree bytes

digits_alone : (ds : List ℕ) → AllDigits 10 ds → HasNoFeed ds
digits_alone [] h = All-nil IsFree
digits_alone (d ∷ ds) h =
    let range = digit_from_value d h.0 in
    All-cons IsFree d ds (ne_eqb d 10 (λ e. omega (arith, range.0))) (digits_alone ds h.1)

numeral : (n : ℕ) → n < 2 ^ 64 → HasNoFeed (decimal n)
numeral n h = digits_alone (decimal n) (digits n h)

-- bytes of which each is tested
abbrev is_free : List ℕ → Bool
is_free [] = true
is_free (b ∷ bs) = if b == 10 then false else is_free bs

by_test : (b : ℕ) (bs : List ℕ) (t : Bool) → (b == 10) ≡ t →
    (if t then false else is_free bs) ≡ true → (is_free bs ≡ true → HasNoFeed bs) → HasNoFeed (b ∷ bs)
by_test b bs true is h more = cc
by_test b bs false is h more = All-cons IsFree b bs is (more h)

tested : (bs : List ℕ) → is_free bs ≡ true → HasNoFeed bs
tested [] h = All-nil IsFree
tested (b ∷ bs) h = by_test b bs (b == 10) refl h (tested bs)

behind : (words : List ℕ) (n : ℕ) → is_free words ≡ true → n < 2 ^ 64 → HasNoFeed (words ++ decimal n)
behind words n free h = All-append IsFree words (decimal n) (tested words free) (numeral n h)

pub entry_alone : (leaves : Bool) (e : Event) → MayFollow leaves e → HasNoFeed (event_text e)
entry_alone leaves (Take a) h = behind (codes "take ") a refl (omega arith)
entry_alone leaves (Go a) h = behind (codes "go ") a refl (omega arith)
entry_alone leaves (Collect a) h = behind (codes "collect ") a refl (omega arith)
entry_alone leaves (Leave a) h = behind (codes "leave ") a refl (omega (arith, h.0))
entry_alone leaves (Block a) h = behind (codes "block ") a refl (omega arith)
entry_alone leaves Hear h = tested (codes "hear") refl
entry_alone leaves Scan h = tested (codes "scan") refl
entry_alone leaves (Reap token) h = behind (codes "reap ") token refl h

tracing_alone : (trace : Trace) → HasNoFeed (trace_text trace)
tracing_alone Deep = All-nil IsFree
tracing_alone Roots = tested (codes " roots") refl

pub header_alone : (first : List ℕ) (h : Header) → Says first h → HasNoFeed first
header_alone first h (inl old) = subst HasNoFeed (sym old.0) (tested (codes "book 1") refl)
header_alone first h (inr new) =
    subst HasNoFeed (sym new.spelled)
    (All-append IsFree (codes "book 2 " ++ decimal h.weight) (trace_text h.trace)
    (behind (codes "book 2 ") h.weight refl (omega (arith, new.weight.1)))
    (tracing_alone h.trace))

line_before : (line rest : List ℕ) → HasNoFeed line →
    lines_of (line ++ 10 ∷ rest) ≡ line ∷ lines_of rest
line_before line rest h =
    ap without_empty_last (slice_split_at (λ b. b == 10) line 10 rest h refl)
    ∙ more_pieces line (slice_split (λ b. b == 10) rest)
    (omega (arith, length-slice_split (λ b. b == 10) rest))

regrouped : (line back rest : List ℕ) →
    (line ++ (10 ∷ []) ++ back) ++ rest ≡ line ++ 10 ∷ (back ++ rest)
regrouped line back rest = append_assoc (line ++ (10 ∷ [])) back rest
    ∙ append_assoc line (10 ∷ []) (back ++ rest)

first_of_lines : (line back rest : List ℕ) → HasNoFeed line →
    lines_of ((line ++ (10 ∷ []) ++ back) ++ rest) ≡ line ∷ lines_of (back ++ rest)
first_of_lines line back rest h = ap lines_of (regrouped line back rest)
    ∙ line_before line (back ++ rest) h

entries_lines : (leaves : Bool) (entries : List Event) (rest : List ℕ) →
    All (MayFollow leaves) entries →
    lines_of (flat_map entry_line entries ++ rest) ≡ map event_text entries ++ lines_of rest
entries_lines leaves [] rest h = refl
entries_lines leaves (e ∷ entries) rest h =
    first_of_lines (event_text e) (flat_map entry_line entries) rest
    (entry_alone leaves e (All-head (MayFollow leaves) e entries h))
    ∙ ap (λ (ls : List (List ℕ)). event_text e ∷ ls)
    (entries_lines leaves entries rest (All-tail (MayFollow leaves) e entries h))

-- the lines of a text that is read so far: those that were read, and those of the rest
pub lines_read : (bytes : List ℕ) (h : Header) (entries : List Event) (from : ℕ)
    (r : IsReadTo bytes h entries from) →
    lines_of bytes ≡ r.first ∷ (map event_text entries ++ lines_of (drop from bytes))
lines_read bytes h entries from r =
    let parts : (r.first ++ codes "\n" ++ flat_map entry_line entries) ++ drop from bytes ≡ bytes =
    subst (λ (front : List ℕ). front ++ drop from bytes ≡ bytes) r.whole
    (take-append-drop from bytes) in
    ap lines_of (sym parts)
    ∙ first_of_lines r.first (flat_map entry_line entries) (drop from bytes)
    (header_alone r.first h r.says)
    ∙ ap (λ (ls : List (List ℕ)). r.first ∷ ls)
    (entries_lines h.leaves entries (drop from bytes) r.follow)
