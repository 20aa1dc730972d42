use Rattle.std.proofs.Common.{◌≡◌, ℕ, List, [], ◌∷◌, ◌++◌, Ok, Err, OnOk, ap, sym, ◌∙◌, append_assoc}
use Rattle.std.specs.Prelude.{codes}
use Rattle.std.specs.Fmt.{decimal}
use Rattle.std.specs.declared.result.Result.{Result}
use Rattle.std.proofs.lemmas.List.{append-nil}
use Rattle.behaviour_text.specs.Text.{line_of}
use Rattle.picture_rules.specs.Pictures.{trace_word}
use Rattle.picture_rules.specs.Words.{Line, text_of_lines}
use Rattle.picture_lines.proofs.heading.push_options.Goals as goal

on_more : {T E : Type 0} (r : Result T E) (out now later a b t : List ℕ) → now ≡ out ++ a → OnOk r (later ≡ now ++ b) → a ++ b ≡ t
    → OnOk r (later ≡ out ++ t)
on_more (Ok x) out now later a b t e f g = f ∙ ap (λ n. n ++ b) e ∙ append_assoc out a b ∙ ap (λ u. out ++ u) g
on_more (Err x) out now later a b t e f g = tt

three_lines : (x y z : Line) → (line_of x ++ line_of y) ++ line_of z ≡ text_of_lines (x ∷ y ∷ z ∷ [])
three_lines x y z = append_assoc (line_of x) (line_of y) (line_of z) ∙ ap (λ t. line_of x ++ (line_of y ++ t)) (sym (append-nil (line_of z)))

pub returns : goal.returns
returns c =
    let o = c.args.options.now in
    on_more c.push_trace.result _ _ _ _ _ _ c.in_ok-write.ensures.bytes c.push_trace.ensures
    (three_lines (codes "picture" ∷ codes "1" ∷ []) (codes "weight" ∷ decimal o.weight ∷ []) (codes "trace" ∷ trace_word o.trace ∷ []))
