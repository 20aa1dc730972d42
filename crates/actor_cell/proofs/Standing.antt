-- What the words hold of the rows that calls read, and what loads of these rows tell.
use Rattle.std.proofs.Common.{◌≡◌, ◌==◌, ◌++◌, inl, inr, ⊎_elim, ℕ, Bool, true, false, cond, List, [], Option, Some, None, map, refl, sym, ap, subst, ◌∙◌}
use Rattle.std.specs.Prelude.{if◌then◌else◌, is_some}
use Rattle.std.proofs.lemmas.List.Elements.{Contains-append_cases}
use Rattle.orca_names.specs.declared.names.ObjName.{ObjName}
use Rattle.orca_names.specs.declared.names.Thing.{Thing}
use Rattle.orca_names.specs.declared.names.Thing.TheVariants.{Obj}
use Rattle.row_store.specs.Standing.{Stand}
use Rattle.row_store.specs.Told.{Lying, thing_lies}
use Rattle.row_store.specs.Words.{Words}
use Rattle.letter_kinds.specs.Holdings.{Row, row_of, with_made}
use Rattle.letter_kinds.specs.Telling.{HoldsTold, Telling, TellsNothing, TellsOnly, Told, in_block}
use Rattle.object_heap.specs.Heap.{Heap, own_block, own_row}
use Rattle.foreign_table.specs.Table.{Table, known_block, known_row}
use Rattle.row_table.specs.Table.{as_held}
use Rattle.known_rows.specs.Holdings.{holdings_of}
use Rattle.known_rows.specs.InTurn.{made_in_turn, turn_block}
use Rattle.known_rows.specs.Known.{block_known, row_known, row_known-row_of}
use Rattle.known_rows.proofs.Made.{or_before, row_of-made}
use Rattle.root_trace.proofs.Lying.{lying_tells}
use Rattle.actor_cell.specs.declared.cell.Cell.{Cell}
use Rattle.actor_cell.specs.Tells.{Tells}
use Rattle.actor_cell.proofs.Brought.{brought_row}

-- each of these rows that lies in a block is told so
abbrev pub AreTold : Telling → (ObjName → Option Row) → (ObjName → Option ℕ) → Type 0
AreTold tells rows blocks = (n : ObjName) (row : Row) (block : ℕ) → rows n ≡ Some row → blocks n ≡ Some block → tells n row block

module _ (tells : Telling) (rows : ObjName → Option Row) (blocks : ObjName → Option ℕ) (are : AreTold tells rows blocks) where
  -- then the words that hold what is told hold these rows
  pub told_stand : (known : Words) → HoldsTold known tells → Stand rows blocks known
  told_stand known holds = record {
    is_row = λ n row block e f. (holds n row block (are n row block e f)).0;
    holds = λ n row block e f. (holds n row block (are n row block e f)).1;
  }

  -- and a load of these rows tells no more
  pub told_lying : (things : List Thing) (load : List (Thing × Lying)) → load ≡ map (λ x. (x, thing_lies rows blocks x)) things → TellsOnly tells [] (Told load)
  told_lying things load is =
      subst (λ load. TellsOnly tells [] (Told load)) (sym is)
      (λ n row block among. let it = lying_tells rows blocks things n row block among in inl (are n row block it.0 it.1))

-- what the turn made lies in no block, so that what lies in one in the turn lay so before
module _ (made : List Row) (heap : Heap) (foreign : Table) where
  abbrev pub in_turn : ObjName → Option Row
  in_turn n = row_of heap.owner (with_made made (holdings_of 0 heap foreign)) n

  lay_before : (n : ObjName) (row : Row) (block : ℕ) (o : Option Row) → made_in_turn heap.owner heap.next made n ≡ o → in_turn n ≡ Some row
      → (if is_some o then None else block_known heap foreign n) ≡ Some block → (row_known heap foreign n ≡ Some row) × (block_known heap foreign n ≡ Some block)
  lay_before n row block None e r l =
      let h = holdings_of 0 heap foreign in
      (row_known-row_of 0 heap foreign n ∙ ap (λ m. or_before m (row_of heap.owner h n)) (sym e) ∙ sym (row_of-made heap.owner made h n) ∙ r, l)
  lay_before n row block (Some own) e r l = cc

  pub turn_told : (tells : Telling) → AreTold tells (row_known heap foreign) (block_known heap foreign) → AreTold tells in_turn (turn_block made heap foreign)
  turn_told tells are n row block e f =
      let was = lay_before n row block (made_in_turn heap.owner heap.next made n) refl e f in
      are n row block was.0 was.1

module _ (c : Cell) where
  -- its own objects' rows
  pub own_told : AreTold (Tells c) (own_row c.heap) (own_block c.heap)
  own_told n row block e f = inl (e, f)

  -- with those of what it holds
  pub held_told : AreTold (Tells c) (row_known c.heap c.foreign) (block_known c.heap c.foreign)
  held_told n row block e f = by (n.owner == c.heap.owner) e f
    where
      by : (b : Bool) → cond b (own_row c.heap n) (known_row c.foreign n) ≡ Some row → cond b (own_block c.heap n) (known_block c.foreign n) ≡ Some block → Tells c n row block
      by true r l = inl (r, l)
      by false r l = inr (inl (r, l))

  -- with those that letters brought
  pub brought_told : AreTold (Tells c) (row_known c.heap (as_held c.known)) (block_known c.heap (as_held c.known))
  brought_told n row block e f = by (n.owner == c.heap.owner) e f
    where
      by : (b : Bool) → cond b (own_row c.heap n) (known_row (as_held c.known) n) ≡ Some row
          → cond b (own_block c.heap n) (known_block (as_held c.known) n) ≡ Some block → Tells c n row block
      by true r l = inl (r, l)
      by false r l = inr (inr (sym (brought_row c.known.rows (Obj n)) ∙ r, l))

  -- by tables that are these, in a turn
  module _ (made : List Row) (heap : Heap) (foreign : Table) (own : heap ≡ c.heap) where
    pub turn_held : foreign ≡ c.foreign → AreTold (Tells c) (in_turn made heap foreign) (turn_block made heap foreign)
    turn_held held =
        turn_told made heap foreign (Tells c)
        (subst (λ h. AreTold (Tells c) (row_known h foreign) (block_known h foreign)) (sym own)
        (subst (λ t. AreTold (Tells c) (row_known c.heap t) (block_known c.heap t)) (sym held) held_told))

    pub turn_brought : foreign ≡ as_held c.known → AreTold (Tells c) (in_turn made heap foreign) (turn_block made heap foreign)
    turn_brought brought =
        turn_told made heap foreign (Tells c)
        (subst (λ h. AreTold (Tells c) (row_known h foreign) (block_known h foreign)) (sym own)
        (subst (λ t. AreTold (Tells c) (row_known c.heap t) (block_known c.heap t)) (sym brought) brought_told))

-- ---- what is told of loads

-- of nothing
pub nothing_told : (tells : Telling) → TellsOnly tells [] (Told [])
nothing_told tells n row block among = inr among

-- where nothing is told
pub none_told : (tells new : Telling) → TellsNothing new → TellsOnly tells [] new
none_told tells new none n row block told = absurd (none n row block told)

-- of two
pub both_told : (tells : Telling) (load rows : List (Thing × Lying)) → TellsOnly tells [] (Told load) → TellsOnly tells [] (Told rows) → TellsOnly tells [] (Told (load ++ rows))
both_told tells load rows one other n row block among = ⊎_elim (one n row block) (other n row block) (Contains-append_cases load rows (in_block n row block) among)
