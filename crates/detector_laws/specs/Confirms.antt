-- Confirms among the letters that wait for an actor.
use Rattle.std.specs.Prelude.{ℕ, ◌+◌, ◌≡◌, ◌==◌, ◌||◌, if◌then◌else◌, Bool, true, false, List, [], ◌∷◌, ⊤}
use Rattle.letter_kinds.specs.Letters.{Letter, App, Inc, Dec, Confirm}

-- ---- one letter

-- a letter of the detector
abbrev pub is_confirm : Letter → Bool
is_confirm (App behaviour args load rows) = false
is_confirm (Inc things) = false
is_confirm (Dec things) = false
is_confirm (Confirm token) = true

-- the Confirm of this token
abbrev pub confirms : ℕ → Letter → Bool
confirms token (App behaviour args load rows) = false
confirms token (Inc things) = false
confirms token (Dec things) = false
confirms token (Confirm other) = other == token

-- ---- all letters of an actor

-- how many are Confirms of the token
abbrev pub confirm_count : ℕ → List Letter → ℕ
confirm_count token [] = 0
confirm_count token (letter ∷ mail) =
    (if confirms token letter then 1 else 0) + confirm_count token mail

-- a Confirm of the token is among them
abbrev pub has_confirm : ℕ → List Letter → Bool
has_confirm token [] = false
has_confirm token (letter ∷ mail) = confirms token letter || has_confirm token mail

-- a letter other than a Confirm stands before the Confirm of the token
abbrev pub other_before_confirm : ℕ → List Letter → Bool
other_before_confirm token [] = false
other_before_confirm token (letter ∷ mail) =
    if is_confirm letter
    then (if confirms token letter then false else other_before_confirm token mail)
    else has_confirm token mail

-- all are Confirms
abbrev pub OnlyConfirms : List Letter → Type 0
OnlyConfirms [] = ⊤
OnlyConfirms (letter ∷ mail) = (is_confirm letter ≡ true) × OnlyConfirms mail

-- none is a Confirm
abbrev pub NoConfirms : List Letter → Type 0
NoConfirms [] = ⊤
NoConfirms (letter ∷ mail) = (is_confirm letter ≡ false) × NoConfirms mail

-- all are Confirms, and the last of them is the token's
abbrev pub EndsInConfirm : ℕ → List Letter → Type 0
EndsInConfirm token [] = ⊤
EndsInConfirm token (letter ∷ []) = confirms token letter ≡ true
EndsInConfirm token (letter ∷ (later ∷ mail)) =
    (is_confirm letter ≡ true) × EndsInConfirm token (later ∷ mail)
