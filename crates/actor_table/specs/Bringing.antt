-- What the letters that wait tell of rows is what they bring as the rules have them. Who is gone has no
-- letters.
use Rattle.std.specs.Prelude.{◌≡◌, ⊤, List, [], ◌∷◌}
use Rattle.letter_kinds.specs.Letters.{Letter, App, Inc, Dec, Confirm}
use Rattle.letter_kinds.specs.Load.{as_load}
use Rattle.letter_kinds.specs.Telling.{Brought, nothing_brought}
use Rattle.actor_table.specs.declared.slot.Slot.{Slot}
use Rattle.actor_table.specs.declared.slot.Place.TheVariants.{Gone}

-- what the letter brings as the rules have it, it tells
abbrev pub Brings : Letter → Brought → Type 0
Brings (App behaviour args load rows) b = (as_load b.load ≡ load) × (as_load b.rows ≡ rows)
Brings (Inc things) b = b ≡ nothing_brought
Brings (Dec things) b = b ≡ nothing_brought
Brings (Confirm token) b = b ≡ nothing_brought

-- so does each of the letters
abbrev pub AreBrought : List Letter → List Brought → Type 0
AreBrought [] [] = ⊤
AreBrought (letter ∷ letters) (b ∷ brought) = Brings letter b × AreBrought letters brought
AreBrought [] (b ∷ brought) = ⊥
AreBrought (letter ∷ letters) [] = ⊥

-- so does each that waits for an actor, and for one that is gone none waits
pub record BringsIts (x : Slot) : Type 0 where
  pub brought : AreBrought x.mail.letters x.mail.brought
  pub none : x.place ≡ Gone → x.mail.brought ≡ []
