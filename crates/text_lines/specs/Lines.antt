-- The lines of a text, and what may be wrong with a line by itself.
use Rattle.std.specs.Prelude.{ℕ, ◌+◌, ◌≡◌, Bool, List, [], ◌∷◌, ◌==◌, ◌||◌, ◌&&◌, Option, Some, None, nat_lt, nat_le, not, if◌then◌else◌, length, slice_range, ⊤}
use Rattle.std.specs.List.{slice_split, list_any}
use Rattle.orca_names.specs.declared.limits.TheConstants.{LINE_LIMIT}
use Rattle.text_lines.specs.declared.LineKind.{LineKind}
use Rattle.text_lines.specs.declared.LineKind.TheVariants.{NotAscii, LongLine}
use Rattle.text_lines.specs.declared.LineSpan.{LineSpan}

-- the pieces, without a last one that is empty
abbrev pub without_empty_last : List (List ℕ) → List (List ℕ)
without_empty_last [] = []
without_empty_last ([] ∷ []) = []
without_empty_last ((b ∷ bs) ∷ []) = (b ∷ bs) ∷ []
without_empty_last (piece ∷ next ∷ pieces) = piece ∷ without_empty_last (next ∷ pieces)

-- a line ends with a line feed; a last piece that is not empty is a line too
abbrev pub lines_of : List ℕ → List (List ℕ)
lines_of bytes = without_empty_last (slice_split (λ b. b == 10) bytes)

-- a tab, a carriage return or a blank
abbrev pub is_space : ℕ → Bool
is_space b = (b == 9) || (b == 13) || (b == 32)

-- a byte that may stand in a line
abbrev pub is_allowed : ℕ → Bool
is_allowed b = is_space b || (nat_le 33 b && nat_le b 126)

-- the lowest fault of a line by itself: a byte that is not allowed, then too many bytes
abbrev pub line_fault : List ℕ → Option LineKind
line_fault line =
    if list_any (λ b. not (is_allowed b)) line then Some NotAscii
    else (if nat_lt LINE_LIMIT (length line) then Some LongLine else None)

-- a line, with its fault
abbrev pub with_fault : List ℕ → List ℕ × Option LineKind
with_fault line = (line, line_fault line)

-- the line at a span, with the fault that the span tells
abbrev pub line_at : List ℕ → LineSpan → List ℕ × Option LineKind
line_at bytes span = (slice_range bytes span.from span.to, span.fault)

-- the first span begins at this place, and each next one behind the line feed of the one before it
abbrev pub FollowFrom : ℕ → List LineSpan → Type 0
FollowFrom place [] = ⊤
FollowFrom place (span ∷ spans) = (span.from ≡ place) × FollowFrom (span.to + 1) spans
