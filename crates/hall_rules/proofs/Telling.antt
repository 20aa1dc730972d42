-- What a look finds is what it tells.
use Rattle.std.proofs.Common.{◌≡◌, ◌==◌, Bool, true, false, List, [], ◌∷◌, length, sym, refl, ◌∙◌, arith}
use Rattle.std.specs.Prelude.{◌↔◌}
use Rattle.std.proofs.lemmas.Bool.Decides.{nat_tests}
use Rattle.event_rule.specs.Events.{is_of_detector}
use Rattle.orca_core.specs.Firsts.{is_free, next_of_kind}
use Rattle.work_board.specs.declared.answers.Look.{Look}
use Rattle.work_board.specs.declared.answers.Look.TheVariants.{Actor, Detector, Others, Rest, Stop}
use Rattle.hall_rules.specs.Answers.{Finds, TellsWork, is_over}
use Rattle.hall_rules.specs.Claims.{is_claimed}
use Rattle.hall_rules.specs.Halls.{HallValue, hall_state}

pub tells : (h : HallValue) → is_over h ≡ false → (idle : Bool) → (idle ≡ true ↔ h.claims ≡ []) → (answer : Look)
    → Finds (next_of_kind (is_free (is_claimed h.claims)) []) (next_of_kind is_of_detector []) (hall_state h) idle answer
    → TellsWork h answer
tells h on idle none (Actor a) is = (on, is)
tells h on idle none (Detector e) is = (on, is.0, is.1)
tells h on idle none Others is = (on, (is.0, is.1), λ empty. let clash : true ≡ false = sym (none.1 empty) ∙ is.2 in cc)
tells h on idle none Rest is = (on, (is.0, is.1), none.0 is.2)
tells h on idle none Stop is = absurd is

pub counts_none : {A : Type 0} (xs : List A) → (length xs == 0) ≡ true ↔ xs ≡ []
counts_none [] = (λ is. refl, λ is. refl)
counts_none (x ∷ xs) = (
  λ is. absurd (let zero : length (x ∷ xs) ≡ 0 = grind (arith, nat_tests) in omega arith),
  λ is. absurd (cc),
)
