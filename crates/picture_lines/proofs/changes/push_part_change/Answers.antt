use Rattle.std.proofs.Common.{rules, ◌≡◌, ◌++◌, ◌∷◌, [], OnOk, List, ℕ, length, ap, sym, subst, ◌∙◌, string_bytes}
use Rattle.std.specs.Prelude.{bytes_eq}
use Rattle.std.specs.Fmt.{decimal}
use Rattle.std.proofs.lemmas.Bool.{eqb-true}
use Rattle.picture_rules.specs.Words.{text_of_lines}
use Rattle.picture_lines.proofs.Gone.{gone_told}
use Rattle.picture_lines.proofs.changes.push_part_change.Goals as goal

pub returns-then-is_empty : goal.returns-then-is_empty
returns-then-is_empty c b a e f =
    let other = ap (λ x. bytes_eq x (text_of_lines a)) (sym e) ∙ ap (λ x. bytes_eq c.args.before.now x) (sym f) ∙ sym c.eq.ensures ∙ c.if-eq.false in
    let empty = ap length (sym f) ∙ eqb-true (length c.args.after.now) 0 (sym c.is_empty.ensures ∙ c.if-is_empty.true) in
    let told = gone_told b a (c.args.gone.now ∷ decimal c.args.number ∷ []) other empty in
    subst (λ (t : List ℕ). OnOk c.write.result (string_bytes c.write.new.self ≡ string_bytes c.args.out.now ++ t)) (sym told) (search rules)
