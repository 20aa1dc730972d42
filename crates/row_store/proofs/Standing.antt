-- What rows stand in blocks.
use Rattle.std.proofs.Common.{◌≡◌, ◌≢◌, ℕ, List, Option, Some, None, IsSome, sym, subst, ◌∙◌}
use Rattle.std.specs.FinMap as m
use Rattle.orca_names.specs.declared.names.ObjName.{ObjName}
use Rattle.orca_names.specs.declared.names.Value.{Value}
use Rattle.row_store.specs.Standing.{AreRemembered, Stand}
use Rattle.row_store.specs.Words.{IsRow, Words, with_row}
use Rattle.row_store.proofs.Blocks.{put_keeps}

-- where no row lies in a block, whatever is known
pub none_stand : (rows : ObjName → Option (List Value)) (blocks : ObjName → Option ℕ) (known : Words)
    → ((n : ObjName) → blocks n ≡ None) → Stand rows blocks known
none_stand rows blocks known none = record {
  is_row = λ n row block e f. let is = none n in cc;
  holds = λ n row block e f. let is = none n in cc;
}

-- and whatever is remembered
pub none_remembered : (rows memory : ObjName → Option (List Value)) (blocks : ObjName → Option ℕ)
    → ((n : ObjName) → blocks n ≡ None) → AreRemembered rows blocks memory
none_remembered rows memory blocks none = record {
  there = λ n some. let is = subst IsSome (none n) some in cc;
  same = λ n some. let is = subst IsSome (none n) some in cc;
}

module _ (rows : ObjName → Option (List Value)) (blocks : ObjName → Option ℕ) (known : Words)
    (stand : Stand rows blocks known) where
  -- some of the rows
  pub fewer_stand : (some : ObjName → Option (List Value)) (lie : ObjName → Option ℕ)
      → ((n : ObjName) (row : List Value) (block : ℕ) → some n ≡ Some row → lie n ≡ Some block
      → (rows n ≡ Some row) × (blocks n ≡ Some block))
      → Stand some lie known
  fewer_stand some lie are = record {
    is_row = λ n row block e f. let r = are n row block e f in stand.is_row n row block r.0 r.1;
    holds = λ n row block e f. let r = are n row block e f in stand.holds n row block r.0 r.1;
  }

  -- more words are known
  pub more_known : (more : Words) → ((at w : ℕ) → m.get known at ≡ Some w → m.get more at ≡ Some w)
      → Stand rows blocks more
  more_known more grown = record {
    is_row = stand.is_row;
    holds = λ n row block e f. record { lies = λ i w g. grown _ w ((stand.holds n row block e f).lies i w g) };
  }

  -- a row is put into another block
  pub put_stand : (at : ℕ) (put : List Value) → IsRow put
      → ((n : ObjName) (row : List Value) → rows n ≡ Some row → blocks n ≢ Some at)
      → Stand rows blocks (with_row at put known)
  put_stand at put is free = record {
    is_row = stand.is_row;
    holds = λ n row block e f.
        put_keeps at block put row known (λ same. free n row e (f ∙ λ j. Some (sym same j))) is.few
        (stand.is_row n row block e f).few (stand.holds n row block e f);
  }
