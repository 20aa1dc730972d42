-- What a go leads to, step by step.
use Rattle.std.proofs.Common.{◌≡◌, ℕ, zero, suc, ◌+◌, ◌-◌, Option, Some, List, [], ◌∷◌, drop, length, refl, ap, ◌∙◌, arith}
use Rattle.std.specs.Prelude.{slice_get}
use Rattle.std.proofs.lemmas.List.{drop-drop}
use Rattle.turn_rules.specs.declared.act.Frame.{Frame}
use Rattle.turn_rules.specs.Segment.{Turn}
use Rattle.letter_kinds.specs.Letters.{Letter}
use Rattle.letter_kinds.specs.Counting.{send}
use Rattle.letter_kinds.specs.Holdings.{Row, add_rows}
use Rattle.object_heap.specs.Heap.{Heap, add_blocks, with_new}
use Rattle.machine_rules.specs.Cell.{Cell}
use Rattle.actor_cell.specs.Moves.{Post}
use Rattle.actor_cell.specs.Goes.{cell_by, cell_kept, frame_left, load_in}
use Rattle.actor_cell.specs.Tells.{blocks_for}

-- ---- rows that were made, one by one

head_behind : (i : ℕ) (blocks : List ℕ) → slice_get (drop i blocks) 0 ≡ slice_get blocks i
head_behind zero blocks = refl
head_behind (suc i) [] = refl
head_behind (suc i) (b ∷ blocks) = head_behind i blocks

-- one row more has the next block, where there is one
pub next_block : (row : Row) (made : List Row) (blocks : List ℕ) (i : ℕ)
    → blocks_for (row ∷ made) (drop i blocks) ≡ slice_get blocks i ∷ blocks_for made (drop (i + 1) blocks)
next_block row made blocks i = λ j. head_behind i blocks j ∷ blocks_for made (drop-drop 1 i blocks j)

pub with_new-nil : (h : Heap) → with_new [] [] h ≡ h
unfolding add_rows add_blocks
with_new-nil h =
    let next : h.next + 0 ≡ h.next = omega arith in
    let spare : h.spare - 0 ≡ h.spare = omega arith in
    λ i. record h { next = next i; spare = spare i }

pub with_new-cons : (row : Row) (block : Option ℕ) (made : List Row) (blocks : List (Option ℕ)) (h : Heap)
    → with_new made blocks (with_new (row ∷ []) (block ∷ []) h) ≡ with_new (row ∷ made) (block ∷ blocks) h
unfolding add_rows add_blocks
with_new-cons row block made blocks h =
    let next : (h.next + 1) + length made ≡ h.next + suc (length made) = omega arith in
    let spare : (h.spare - 1) - length made ≡ h.spare - suc (length made) = omega arith in
    let first : h.next + 1 ≡ suc h.next = omega arith in
    λ i. record h {
      next = next i;
      spare = spare i;
      rows = ap (λ n. add_rows n made (add_rows h.next (row ∷ []) h.rows)) first i;
      blocks = ap (λ n. add_blocks n blocks (add_blocks h.next (block ∷ []) h.blocks)) first i;
    }

-- ---- what is done, step by step

module _ (me : ℕ) (start kept stopped after : Cell) (frame : Frame) (turn : Turn) (place : ℕ) where
  pub stops : kept ≡ cell_kept turn start.frame start → stopped ≡ record kept { frame = Some (frame_left frame turn place) }
      → stopped ≡ cell_kept turn (Some (frame_left frame turn place)) start
  stops keeps stop =
      let there : Cell → Cell = λ k. record k { frame = Some (frame_left frame turn place) } in
      stop ∙ ap there keeps

  pub sends : (to : ℕ) (letter : Letter) → kept ≡ cell_kept turn start.frame start → stopped ≡ record kept { frame = Some (frame_left frame turn place) }
      → after ≡ record stopped { holdings = send me (load_in letter) stopped.holdings } → after ≡ cell_by me start frame turn place (Post to letter)
  sends to letter keeps stop send_it =
      let sent : Cell → Cell = λ c. record c { holdings = send me (load_in letter) c.holdings } in
      send_it ∙ ap sent (stops keeps stop)
