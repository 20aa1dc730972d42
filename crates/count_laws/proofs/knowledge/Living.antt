-- What lives in the machine that frees nothing, as proofs go through it.
use Rattle.std.proofs.Common.{◌≡◌, ◌⊎◌, ℕ, Option, Some, List, ◌∷◌}
use Rattle.orca_names.specs.declared.names.ObjName.{ObjName}
use Rattle.orca_names.specs.declared.names.Thing.{Thing}
use Rattle.orca_names.specs.declared.names.Thing.TheVariants.{Actor, Obj}
use Rattle.letter_kinds.specs.Holdings.{Row}
use Rattle.plain_rules.specs.declared.PlainLetter.{PlainLetter}
use Rattle.count_laws.specs.Agreement.{Person, person_at, IsRootPerson}
use Rattle.count_laws.specs.Known.{Names, InFrame}

-- some letter's arguments name it
pub data Letters : List PlainLetter → Thing → Type 0 where
  here : {l : PlainLetter} {ls : List PlainLetter} {x : Thing} → Names l.args x → Letters (l ∷ ls) x
  later : {l : PlainLetter} {ls : List PlainLetter} {x : Thing} → Letters ls x → Letters (l ∷ ls) x

abbrev pub Holds : Person → Thing → Type 0
Holds p x = Names p.fields.values x ⊎ (InFrame p.frame x ⊎ Letters p.letters x)

pub data Lives (all : Thing → Option Row) (ps : List Person) : Thing → Type 0 where
  stands : {a : ℕ} → IsRootPerson (person_at ps a) → Lives all ps (Actor a)
  holds : {a : ℕ} {x : Thing} → Lives all ps (Actor a) → Holds (person_at ps a) x → Lives all ps x
  row : {n : ObjName} {x : Thing} {r : Row} → Lives all ps (Obj n) → all (Obj n) ≡ Some r → Names r x → Lives all ps x
  owner : {n : ObjName} → Lives all ps (Obj n) → Lives all ps (Actor n.owner)
