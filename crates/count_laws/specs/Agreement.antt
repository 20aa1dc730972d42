-- The two machines agree: an actor that is present is the same in both.
use Rattle.std.specs.Prelude.{ℕ, ◌≡◌, ◌≢◌, ◌⊎◌, false, true, List, [], ◌∷◌, get_or, length, map, Option, None}
use Rattle.orca_names.specs.declared.row.Fields.{Fields}
use Rattle.turn_rules.specs.declared.act.Frame.{Frame}
use Rattle.letter_kinds.specs.Letters.{Letter, App, Inc, Dec, Confirm}
use Rattle.plain_rules.specs.declared.PlainActor.{PlainActor}
use Rattle.plain_rules.specs.declared.PlainLetter.{PlainLetter}
use Rattle.machine_rules.specs.Actors.{Actors, seat, seat_at}
use Rattle.machine_rules.specs.Cell.{Cell}

-- what both machines keep of an actor
pub record Person : Type 0 where
  pub kind : ℕ
  pub fields : Fields
  pub frame : Option Frame
  pub letters : List PlainLetter
  -- how many objects it made
  pub serial : ℕ

-- an actor that was never made
abbrev pub nobody : Person
nobody = record {
  kind = 0;
  fields = record { values = []; pinned = false };
  frame = None;
  letters = [];
  serial = 0;
}

abbrev pub person_at : List Person → ℕ → Person
person_at people a = get_or people a nobody

abbrev pub person_of_plain : PlainActor → Person
person_of_plain x = record {
  kind = x.kind;
  fields = x.fields;
  frame = x.frame;
  letters = x.letters;
  serial = length x.rows;
}

abbrev pub people_of : List PlainActor → List Person
people_of actors = map person_of_plain actors

-- the application letters, without their loads
abbrev pub app_letters : List Letter → List PlainLetter
app_letters [] = []
app_letters (App behaviour args load rows ∷ mail) =
    record { behaviour = behaviour; args = args } ∷ app_letters mail
app_letters (Inc things ∷ mail) = app_letters mail
app_letters (Dec things ∷ mail) = app_letters mail
app_letters (Confirm token ∷ mail) = app_letters mail

abbrev pub person_of : Cell → List Letter → Person
person_of c mail = record {
  kind = c.kind;
  fields = c.fields;
  frame = c.frame;
  letters = app_letters mail;
  serial = c.holdings.next;
}

-- a root is pinned, has a frame or has a letter
abbrev pub IsRootPerson : Person → Type 0
IsRootPerson p = (p.fields.pinned ≡ true) ⊎ ((p.frame ≢ None) ⊎ (p.letters ≢ []))

-- who is present is the same in both machines; who is gone is no root of the plain one
pub record Agrees (people : List Person) (actors : Actors) : Type 0 where
  pub present : (a : ℕ) (c : Cell) (mail : List Letter) → seat_at actors a ≡ seat c mail
      → person_at people a ≡ person_of c mail
  pub absent : (a : ℕ) → seat_at actors a ≡ None → ¬ IsRootPerson (person_at people a)
