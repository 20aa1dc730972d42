-- The rows that a collection forgets.
use Rattle.std.proofs.Common.{◌≡◌, Bool, false, not, refl, sym, ap, ◌∙◌}
use Rattle.std.specs.FinMap as m
use Rattle.orca_names.specs.declared.names.Thing.{Thing}
use Rattle.orca_names.specs.declared.trace.Trace.{Trace}
use Rattle.orca_names.specs.declared.trace.Trace.TheVariants.{Deep, Roots}
use Rattle.letter_kinds.specs.Counting.{by_owner, given_back}
use Rattle.letter_kinds.specs.Holdings.{Holdings}
use Rattle.foreign_table.specs.Back.{BackRises, goes_back}
use Rattle.foreign_table.proofs.BackLemmas.{all_stay}
use Rattle.known_rows.specs.Holdings.{holdings_of}
use Rattle.local_sweep.proofs.GivenBack.{back_rises, kept_entries}
use Rattle.row_table.specs.Table.{Rows, as_held, row_in, rows_in, uncounted}
use Rattle.foreign_table.proofs.Mapped.{mapped-kept}
use Rattle.row_table.proofs.Mapped.{rows_back}
use Rattle.machine_rules.specs.Collect.{is_in_use, without_unused}
use Rattle.actor_cell.specs.declared.cell.Cell.{Cell}
use Rattle.actor_cell.specs.Cells.{as_cell}
use Rattle.actor_cell.specs.Sweeps.{unused_of}

-- what is kept of the entries is kept of the rows
kept_rows : (marked : Thing → Bool) (h : Holdings) (known : Rows) → h.foreign ≡ uncounted known
    → m.retain_keys known (λ x. not (goes_back (by_owner (given_back marked h)) x)) ≡ m.retain_keys known marked
kept_rows marked h known is =
    let stays : Thing → Bool = λ x. not (goes_back (by_owner (given_back marked h)) x) in
    ap (λ rows. m.retain_keys rows stays) (sym (rows_back known)) ∙ sym (mapped-kept (λ x. row_in) (uncounted known) stays)
    ∙ ap rows_in (ap (λ t. m.retain_keys t stays) (sym is) ∙ kept_entries marked h ∙ ap (λ t. m.retain_keys t marked) is)
    ∙ mapped-kept (λ x. row_in) (uncounted known) marked ∙ ap (λ rows. m.retain_keys rows marked) (rows_back known)

module _ (c : Cell) where
  -- they stand in order
  pub unused_rises : (trace : Trace) → BackRises (unused_of trace c)
  unused_rises Deep = record { owners = tt; things = tt }
  unused_rises Roots = back_rises (is_in_use c.heap.owner (as_cell c)) (holdings_of 0 c.heap (as_held c.known))

  -- the others stay
  pub used_stay : (trace : Trace) → m.retain_keys c.known.rows (λ x. not (goes_back (unused_of trace c) x)) ≡ (without_unused trace c.heap.owner (as_cell c)).known
  used_stay Deep = all_stay c.known.rows
  used_stay Roots = kept_rows (is_in_use c.heap.owner (as_cell c)) (holdings_of 0 c.heap (as_held c.known)) c.known.rows refl

  -- all else is as before
  pub swept_is : (trace : Trace) (h : Holdings) (known : Rows) → known ≡ (without_unused trace c.heap.owner (as_cell c)).known
      → record (as_cell c) { holdings = h; known = known; dirty = false } ≡ record (without_unused trace c.heap.owner (as_cell c)) { holdings = h; dirty = false }
  swept_is Deep h known is = λ i. record (as_cell c) { holdings = h; known = is i; dirty = false }
  swept_is Roots h known is = λ i. record (as_cell c) { holdings = h; known = is i; dirty = false }
