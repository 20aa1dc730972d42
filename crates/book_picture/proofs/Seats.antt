-- Seats of others stay where some change and letters come.
use Rattle.std.proofs.Common.{◌≡◌, ◌≢◌, ℕ, ◌==◌, false, List, [], ◌∷◌, ◌++◌, refl, sym, ◌∙◌}
use Rattle.std.proofs.lemmas.Bool.{or_parts}
use Rattle.std.proofs.lemmas.List.Folds.{list_any-append}
use Rattle.letter_kinds.specs.Counting.{Amount}
use Rattle.letter_kinds.specs.Detector.{has}
use Rattle.letter_kinds.specs.Letters.{Confirm, Dec}
use Rattle.machine_rules.specs.Actors.{Actors, push_letter, seat_at}
use Rattle.machine_rules.specs.Detect.{ask_all}
use Rattle.machine_rules.proofs.Posting.{push_other}
use Rattle.count_laws.proofs.away.Untouched.{spared_first}
use Rattle.actor_cell.specs.Outs.{decs_to}
use Rattle.actor_cell.specs.Pushing.{push_all}
use Rattle.orca_parts.specs.Touched.{receivers}

-- who is in neither of two lists
pub parted : (xs ys : List ℕ) (a : ℕ) → has (xs ++ ys) a ≡ false → (has xs a ≡ false) × (has ys a ≡ false)
parted xs ys a out = or_parts (has xs a) (has ys a) (sym (list_any-append (λ x. x == a) xs ys) ∙ out)

-- who is not one
pub not_one : (a b : ℕ) → has (a ∷ []) b ≡ false → b ≢ a
not_one a b out = (spared_first a [] b out).0

-- Decs leave the seats of others than their owners
pub decs_leave : (groups : List (ℕ × List Amount)) (actors : Actors) (a : ℕ) → has (receivers groups) a ≡ false
    → seat_at (push_all (decs_to groups) actors) a ≡ seat_at actors a
decs_leave [] actors a out = refl
decs_leave (g ∷ groups) actors a out =
    let z = spared_first g.0 (receivers groups) a out in
    decs_leave groups (push_letter g.0 (Dec g.1) actors) a z.1 ∙ push_other actors g.0 (Dec g.1) a z.0

-- and Confirms those of others than members
pub asked_leave : (members : List ℕ) (token : ℕ) (actors : Actors) (a : ℕ) → has members a ≡ false
    → seat_at (ask_all members token actors) a ≡ seat_at actors a
asked_leave [] token actors a out = refl
asked_leave (m ∷ members) token actors a out =
    let z = spared_first m members a out in
    asked_leave members token (push_letter m (Confirm token) actors) a z.1 ∙ push_other actors m (Confirm token) a z.0
