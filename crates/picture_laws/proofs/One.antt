-- A book has one picture.
use Rattle.std.proofs.Common.{◌≡◌, ◌↔◌, Bool, true, false, List, [], ◌∷◌, ◌++◌, refl, ap, sym, ◌∙◌, subst}
use Rattle.std.specs.Prelude.{IsTrue}
use Rattle.event_rule.proofs.Steps.{goes_to}
use Rattle.event_rule.specs.Runs.{IsQuiet}
use Rattle.event_rule.specs.declared.event.Event.{Event}
use Rattle.machine_rules.specs.Next.{next}
use Rattle.machine_rules.specs.State.{State, first_state}
use Rattle.picture_rules.specs.Parts.{state_lines}
use Rattle.picture_rules.specs.Pictures.{Tell, end_line, entry_lines, head_lines}
use Rattle.picture_rules.specs.Words.{Line, text_of_lines}
use Rattle.picture_laws.specs.Alphabet.{HasOnePicture}

one_way : (s t : State) (book : List Event) (xs ys : List Line) → Tell s book t xs → Tell s book t ys → xs ≡ ys
one_way s t [] xs ys one other = one.1 ∙ sym other.1
one_way s t (e ∷ book) xs ys one other =
    let same = goes_to one.0 other.0 (sym one.2 ∙ other.2) in
    let later = one_way other.0 t book one.1 other.1 (subst (λ (u : State). Tell u book t one.1) same one.4) other.4 in
    one.3 ∙ ap (λ u. entry_lines e s u ++ one.1) same ∙ ap (λ ls. entry_lines e s other.0 ++ ls) later ∙ sym other.3

one_answer : (P : Type 0) (a b : Bool) → (IsTrue a ↔ P) → (IsTrue b ↔ P) → a ≡ b
one_answer P true true f g = refl
one_answer P false false f g = refl
one_answer P true false f g = let x : false ≡ true = g.1 (f.0 refl) in absurd cc
one_answer P false true f g = let x : false ≡ true = f.1 (g.0 refl) in absurd cc

pub one_picture : HasOnePicture
one_picture program options book t bytes other p q =
    let start = first_state program options in
    let entries = one_way start t book p.entries q.entries p.told q.told in
    let quiet = one_answer (IsQuiet next t) p.is_quiet q.is_quiet p.end q.end in
    p.whole
    ∙ ap (λ ls. text_of_lines (head_lines program options ++ state_lines start ++ ls ++ end_line p.is_quiet ∷ [])) entries
    ∙ ap (λ b. text_of_lines (head_lines program options ++ state_lines start ++ q.entries ++ end_line b ∷ [])) quiet
    ∙ sym q.whole
