use Rattle.std.proofs.Common.{◌≡◌, ◌++◌, ◌∷◌, [], OnOk, ℕ, subst, ◌∙◌, string_bytes}
use Rattle.std.specs.Prelude.{codes}
use Rattle.std.specs.Fmt.{decimal}
use Rattle.picture_rules.specs.Parts.{part_change}
use Rattle.picture_rules.specs.Words.{text_of_lines}
use Rattle.picture_lines.proofs.changes.push_report_change.Goals as goal

pub returns : goal.returns
returns c b a e f =
    subst (λ (n : ℕ). OnOk c.push_part_change.result (string_bytes c.push_part_change.new.out ≡ string_bytes c.args.out.now
    ++ text_of_lines (part_change (codes "withdrawn" ∷ decimal n ∷ []) b a))) (c.from.ensures ∙ c.actor.view_is) (c.push_part_change.ensures b a e f)
