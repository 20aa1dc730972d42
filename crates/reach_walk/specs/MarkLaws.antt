-- What holds of marks and of loads.
use Rattle.std.specs.Prelude.{◌≡◌, List, Option, All}
use Rattle.std.specs.List.Sorted.{IsStrictlySortedBy}
use Rattle.orca_names.specs.Names.{thing_cmp, times_among}
use Rattle.orca_names.specs.declared.names.ObjName.{ObjName}
use Rattle.orca_names.specs.declared.names.Thing.{Thing}
use Rattle.orca_names.specs.declared.names.Value.{Value}
use Rattle.reach_walk.specs.Marks.{Covers, marks_of, load_of}
use Rattle.reach_walk.specs.Reach.{named_by, row_edges, AreReached, Reaches, thing_row}

-- the things that the values reach through rows, no others, in the order of things, each once
pub record AreMarks (rows : ObjName → Option (List Value)) (roots : List Value)
    (things : List Thing) : Type 0 where
  pub exact : AreReached (row_edges rows) (named_by roots) things
  pub rising : IsStrictlySortedBy thing_cmp things

-- the marks are such a list
abbrev pub MarksAreExact : Type 0
MarksAreExact =
    (rows : ObjName → Option (List Value)) (all : List ObjName) (roots : List Value)
    → Covers all rows → AreMarks rows roots (marks_of rows all roots)

-- the marks are the only such list
abbrev pub MarksAreUnique : Type 0
MarksAreUnique =
    (rows : ObjName → Option (List Value)) (all : List ObjName) (roots : List Value)
    (things : List Thing) → Covers all rows → AreMarks rows roots things
    → things ≡ marks_of rows all roots

-- each thing that the arguments reach stands once in the load, no other does, and each has its row
pub record IsExactLoad (rows : ObjName → Option (List Value)) (args : List Value)
    (load : List (Thing × Option (List Value))) : Type 0 where
  pub once : (x : Thing) → Reaches (row_edges rows) (named_by args) x → times_among x load ≡ 1
  pub no_other : (x : Thing) → (Reaches (row_edges rows) (named_by args) x → ⊥)
      → times_among x load ≡ 0
  pub with_rows : All (λ e. e.1 ≡ thing_row rows e.0) load

-- so is each load
abbrev pub LoadsAreExact : Type 0
LoadsAreExact =
    (rows : ObjName → Option (List Value)) (all : List ObjName) (args : List Value)
    → Covers all rows → IsExactLoad rows args (load_of rows all args)
