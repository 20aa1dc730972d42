use Rattle.std.proofs.Common.{◌≡◌, ◌≢◌, ◌++◌, ◌∷◌, [], codes, length, map, List, ℕ, OnOk, string_bytes, ap, append_assoc, refl, subst, sym, ◌∙◌}
use Rattle.std.proofs.lemmas.List.{append-nil}
use Rattle.std.proofs.lemmas.Simd.{map-map}
use Rattle.orca_names.specs.declared.names.Thing.{Thing}
use Rattle.behaviour_text.specs.Text.{line_of, rest_of_line}
use Rattle.letter_kinds.specs.Load.{as_load, as_loaded}
use Rattle.row_store.specs.Memory.{remembered}
use Rattle.row_store.specs.Told.{Lying, lies_as}
use Rattle.picture_rules.specs.Words.{text_of_lines, thing_word}
use Rattle.picture_rules.specs.Seats.{loads_lines}
use Rattle.picture_lines.proofs.letters.push_loads.Goals as goal

-- the words of a load's things
abbrev words : {X : Type 0} → List (Thing × X) → List (List ℕ)
words load = map (λ l. thing_word l.0) load

-- a load that is not empty takes one line
loads_line : (load : List (Thing × Lying)) → length load ≢ 0
    → text_of_lines (loads_lines (as_load load)) ≡ line_of (codes "loads" ∷ words load)
loads_line [] some = absurd (some refl)
loads_line (e ∷ load) some =
    append-nil (line_of (codes "loads" ∷ thing_word e.0 ∷ words (as_load load)))
    ∙ ap (λ ws. line_of (codes "loads" ∷ thing_word e.0 ∷ ws)) (map-map (λ l. thing_word l.0) as_loaded load)

pub returns : goal.returns
returns c =
    let load = c.args.load.now in
    let out = string_bytes c.args.out.now in
    let things = c.parts.result.0.now in
    let seen : words things ≡ words load =
    sym (map-map (λ (l : Thing × Lying). thing_word l.0) (lies_as (remembered c.parts.result.1.now)) things) ∙ ap words c.parts.ensures.load in
    subst (λ t. OnOk c.end_with_things.result (string_bytes c.end_with_things.new.out ≡ t))
    (ap (λ b. b ++ rest_of_line (words things)) c.in_ok-push_str.ensures.bytes
    ∙ append_assoc out (codes "loads") (rest_of_line (words things))
    ∙ ap (λ ws. out ++ line_of (codes "loads" ∷ ws)) seen
    ∙ ap (λ t. out ++ t) (sym (loads_line load (λ none. c.if-len-eq0.false (c.len.ensures ∙ none)))))
    c.end_with_things.ensures
