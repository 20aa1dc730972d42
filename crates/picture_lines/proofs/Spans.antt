-- The lines at spans are those of the text.
use Rattle.std.proofs.Common.{◌≡◌, ℕ, List, map, ap, sym, ◌∙◌}
use Rattle.std.specs.Prelude.{slice_range}
use Rattle.std.proofs.lemmas.Simd.{map-map}
use Rattle.text_lines.specs.Lines.{line_at, lines_of, with_fault}
use Rattle.text_lines.specs.declared.LineKind.{LineKind}
use Rattle.text_lines.specs.declared.LineSpan.{LineSpan}
use Rattle.std.specs.declared.option.Option.{Option}
use Rattle.picture_rules.specs.Pictures.{text_line}
use Rattle.picture_rules.specs.Words.{Line}

abbrev told : List ℕ × Option LineKind → Line
told p = text_line p.0

pub spans_told : (text : List ℕ) (spans : List LineSpan) → map (line_at text) spans ≡ map with_fault (lines_of text)
    → map (λ s. text_line (slice_range text s.from s.to)) spans ≡ map text_line (lines_of text)
spans_told text spans e = sym (map-map told (line_at text) spans) ∙ ap (map told) e ∙ map-map told with_fault (lines_of text)
