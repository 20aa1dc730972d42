use Rattle.std.proofs.Common.{◌≡◌, ℕ, List, sym, subst, arith}
use Rattle.orca_names.specs.declared.names.Value.{Value}
use Rattle.row_store.specs.Standing.{Stand}
use Rattle.row_store.specs.Words.{HoldsRow, IsRow, Words, with_row}
use Rattle.row_store.proofs.Blocks.{can_put_all, put_holds}
use Rattle.table_check.specs.One.{one_has, one_has_it}
use Rattle.table_check.proofs.walk_tests.words_with.Goals as goal

pub put-requires : goal.put-requires
put-requires c = can_put_all 1 _ (omega (arith, c.in_ok-words.ensures.len))

-- once it is put, the row stands in block 1
put_stands : (row : List Value) (before after : Words) → IsRow row → after ≡ with_row 1 row before
    → Stand (one_has row) (one_has 1) after
put_stands row before after is put = record {
  is_row = λ n its block e f. subst IsRow (one_has_it row its n e) is;
  holds = λ n its block e f.
      subst (λ (known : Words). HoldsRow block its known) (sym put)
      (subst (λ (b : ℕ). HoldsRow b its (with_row 1 row before)) (one_has_it 1 block n f)
      (subst (λ (r : List Value). HoldsRow 1 r (with_row 1 row before)) (one_has_it row its n e) (put_holds 1 row before)));
}

pub returns : goal.returns
returns c = put_stands c.args.table.now.row _ _ c.put.ensures.row c.put.ensures.known
