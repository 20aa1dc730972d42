use Rattle.std.proofs.Common.{◌≡◌, ◌≤◌, ℕ, List, length, replicate, sym, ap, ◌∙◌, subst, arith}
use Rattle.std.proofs.lemmas.List.{length-replicate}
use Rattle.orca_names.specs.declared.names.Value.{Value}
use Rattle.row_store.specs.Vectors.{places_in}
use Rattle.row_store.specs.Words.{CanPut, HoldsRow, IsRow, Words, with_row}
use Rattle.row_store.proofs.Blocks.{can_put_all, put_holds, put_keeps}
use Rattle.worker_check.proofs.row_tests.there_and_back.Goals as goal

two_blocks : (block : ℕ) (ws : List ℕ) → ws ≡ replicate 34 0 → block ≤ 1 → CanPut block (places_in ws)
two_blocks block ws e l =
    let n : length ws ≡ 34 = ap length e ∙ length-replicate {A = ℕ} 34 0 in can_put_all block ws (omega arith)

later : (block : ℕ) (ps qs : List ℕ) → qs ≡ ps → CanPut block ps → CanPut block qs
later block ps qs e can = subst (CanPut block) (sym e) can

pub put-requires : goal.put-requires
put-requires c = two_blocks 0 _ c.in_ok-words.ensures (omega arith)

pub put-requires-2 : goal.put-requires-2
put-requires-2 c = later 1 _ _ c.put.ensures.places (two_blocks 1 _ c.in_ok-words.ensures (omega arith))

pub put-requires-3 : goal.put-requires-3
put-requires-3 c =
    later 1 _ _ (c.put-2.ensures.places ∙ c.put.ensures.places) (two_blocks 1 _ c.in_ok-words.ensures (omega arith))

apart : (let one : ℕ = 1 in let none : ℕ = 0 in one ≡ none) → ⊥
apart z = omega arith

first_stays : (one other : List Value) (known a b d : Words) → IsRow one → IsRow other
    → a ≡ with_row 0 one known → b ≡ with_row 1 one a → d ≡ with_row 1 other b → HoldsRow 0 one d
first_stays one other known a b d is its e f g =
    subst (HoldsRow 0 one) (sym g) (put_keeps 1 0 other one b apart its.few is.few
    (subst (HoldsRow 0 one) (sym f) (put_keeps 1 0 one one a apart is.few is.few
    (subst (HoldsRow 0 one) (sym e) (put_holds 0 one known)))))

second_is_there : (other : List Value) (b d : Words) → d ≡ with_row 1 other b → HoldsRow 1 other d
second_is_there other b d g = subst (HoldsRow 1 other) (sym g) (put_holds 1 other b)

pub read-first-requires : goal.read-first-requires
read-first-requires c = (
  c.args.one.now,
  c.put.ensures.row,
  first_stays _ _ _ _ _ _ c.put.ensures.row c.put-3.ensures.row c.put.ensures.known c.put-2.ensures.known c.put-3.ensures.known,
)

pub read-second-requires : goal.read-second-requires
read-second-requires c = (
  c.args.other.now,
  c.put-3.ensures.row,
  subst (HoldsRow 1 c.args.other.now) (sym c.read-first.ensures.same.known) (second_is_there _ _ _ c.put-3.ensures.known),
)

pub returns : goal.returns
returns c = (
  c.read-first.ensures.row c.args.one.now
      (first_stays _ _ _ _ _ _ c.put.ensures.row c.put-3.ensures.row c.put.ensures.known c.put-2.ensures.known c.put-3.ensures.known),
  c.read-second.ensures.row c.args.other.now
      (subst (HoldsRow 1 c.args.other.now) (sym c.read-first.ensures.same.known) (second_is_there _ _ _ c.put-3.ensures.known)),
)
