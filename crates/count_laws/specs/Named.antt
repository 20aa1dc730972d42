-- What actors name and reach, and that none of it was freed.
use Rattle.std.specs.Prelude.{ℕ, ◌<◌, ◌≡◌, Contains, List, Option, Some, flat_map, sum_by}
use Rattle.orca_names.specs.declared.names.ObjName.{ObjName}
use Rattle.orca_names.specs.declared.names.Thing.{Thing}
use Rattle.orca_names.specs.declared.names.Thing.TheVariants.{Obj}
use Rattle.reach_walk.specs.Reach.{thing_row}
use Rattle.letter_kinds.specs.Holdings.{Row}
use Rattle.letter_kinds.specs.Sums.{brought_by, dec_of, inc_of, load_count}
use Rattle.letter_kinds.specs.Letters.{Letter}
use Rattle.machine_rules.specs.Actors.{Actors, Every}
use Rattle.machine_rules.specs.Cell.{Cell, row_by, row_by_roots}
use Rattle.machine_rules.specs.Left.{IsLeft}
use Rattle.orca_names.specs.declared.trace.Trace.{Trace}
use Rattle.count_laws.specs.Agreement.{app_letters}
use Rattle.count_laws.specs.Known.{Names, ReachesThrough, StartsWalks}

-- a present actor names it: in its fields, its registers or its table; in a waiting letter's
-- arguments or in what it loads; or in an Inc or a Dec
pub data IsNamedBy (a : ℕ) (c : Cell) (mail : List Letter) (x : Thing) : Type 0 where
  by_root : StartsWalks c x → IsNamedBy a c mail x
  by_argument : Names (flat_map (λ l. l.args) (app_letters mail)) x → IsNamedBy a c mail x
  by_load : 0 < sum_by (load_count x) mail → IsNamedBy a c mail x
  by_inc : 0 < sum_by (inc_of x) mail → IsNamedBy a c mail x
  by_dec : 0 < sum_by (dec_of x) mail → IsNamedBy a c mail x

-- all that actors name is left, so nothing freed is named
abbrev pub NamesNothingFreed : Actors → Type 0
NamesNothingFreed actors =
    Every (λ a c mail. (x : Thing) → IsNamedBy a c mail x → IsLeft actors x) actors

-- so is all that they reach from their fields, registers and tables through the rows that they have
abbrev pub ReachesNothingFreed : Trace → Actors → Type 0
ReachesNothingFreed trace actors =
    Every (λ a c mail. (x : Thing) → ReachesThrough (thing_row (row_by trace a c)) (StartsWalks c) x
    → IsLeft actors x) actors

-- ---- root-only tracing: all rows that actors have, and those that letters bring

-- a present actor has the row of it, or a row that names it; or a waiting letter brings it, or a
-- row that names it
pub data IsInRowsOf (a : ℕ) (c : Cell) (mail : List Letter) : Thing → Type 0 where
  has_row : (n : ObjName) (row : Row) → row_by_roots a c n ≡ Some row → IsInRowsOf a c mail (Obj n)
  in_row : {x : Thing} (n : ObjName) (row : Row) → row_by_roots a c n ≡ Some row → Names row x
      → IsInRowsOf a c mail x
  brought : {x : Thing} (row : Option Row) → Contains (brought_by mail) (x, row)
      → IsInRowsOf a c mail x
  in_brought : {x : Thing} (y : Thing) (row : Row) → Contains (brought_by mail) (y, Some row)
      → Names row x
      → IsInRowsOf a c mail x

-- all that is left; so no row that an actor keeps or a letter brings is of what was freed, or names
-- it
abbrev pub RowsNameNothingFreed : Actors → Type 0
RowsNameNothingFreed actors =
    Every (λ a c mail. (x : Thing) → IsInRowsOf a c mail x → IsLeft actors x) actors
