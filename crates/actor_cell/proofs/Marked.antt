-- What a collection marks, by the rows in both tables.
use Rattle.std.proofs.Common.{◌≡◌, ℕ, Bool, Option, ◌∙◌, refl, List}
use Rattle.orca_names.specs.declared.names.ObjName.{ObjName}
use Rattle.orca_names.specs.declared.names.Value.{Value}
use Rattle.reach_walk.specs.Marks.{Covers, marks_of}
use Rattle.reach_walk.proofs.MarkLaws.{marks-exact, marks-unique}
use Rattle.letter_kinds.specs.Counting.{by_owner, given_back}
use Rattle.letter_kinds.specs.Holdings.{Row, known_objects, row_of}
use Rattle.object_heap.specs.Heap.{Heap}
use Rattle.foreign_table.specs.Table.{Table}
use Rattle.known_rows.specs.Holdings.{holdings_of}
use Rattle.known_rows.specs.Known.{names_known, row_known, row_known-row_of, row_known-within}
use Rattle.letter_kinds.proofs.Known.{known_objects-cover}
use Rattle.orca_names.specs.declared.names.Thing.{Thing}

module _ (count : ℕ) (heap : Heap) (foreign : Table) where
  abbrev rows : ObjName → Option Row
  rows = row_of heap.owner (holdings_of count heap foreign)

  names_cover : Covers (names_known heap foreign) rows
  names_cover n row e = row_known-within heap foreign n row (row_known-row_of count heap foreign n ∙ e)

  -- the marks are those of the definition, by whichever names of objects
  pub marks_same : (roots : List Value) → marks_of (row_known heap foreign) (names_known heap foreign) roots
      ≡ marks_of rows (known_objects heap.owner (holdings_of count heap foreign)) roots
  marks_same roots =
      (λ i. marks_of (λ n. row_known-row_of count heap foreign n i) (names_known heap foreign) roots)
      ∙ marks-unique rows (known_objects heap.owner (holdings_of count heap foreign)) roots (marks_of rows (names_known heap foreign) roots)
      (known_objects-cover heap.owner (holdings_of count heap foreign)) (marks-exact rows (names_known heap foreign) roots names_cover)

  -- what goes back is no matter of the actor's own count
  pub back_same : (marked : Thing → Bool) → by_owner (given_back marked (holdings_of 0 heap foreign)) ≡ by_owner (given_back marked (holdings_of count heap foreign))
  unfolding given_back
  back_same marked = refl
