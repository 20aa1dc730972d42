-- The law of blocks.
use Rattle.std.proofs.Common.{◌≡◌, ℕ, zero, suc, ◌≤◌, true, false, List, [], ◌∷◌, length, map, slice_get, Option, Some, None, refl, sym, ap, subst, ◌∙◌, arith, ⊎_elim}
use Rattle.std.specs.Option.{option_map_or}
use Rattle.std.proofs.lemmas.List.{length-map}
use Rattle.orca_names.specs.declared.names.ObjName.{ObjName}
use Rattle.orca_names.specs.declared.names.Thing.TheVariants.{Obj}
use Rattle.letter_kinds.specs.Holdings.{Holdings, has_own, nothing_held}
use Rattle.letter_kinds.specs.Letters.{Letter}
use Rattle.machine_rules.specs.Cell.{Cell, first_cell}
use Rattle.machine_rules.specs.State.{start_letters}
use Rattle.count_laws.proofs.balance.Seats.{some_seat}
use Rattle.machine_rules.proofs.Stepping.{step_of}
use Rattle.machine_rules.specs.Actors.{Actors, Seat, seat, seat_at}
use Rattle.machine_rules.specs.Left.{IsLeft}
use Rattle.count_laws.proofs.gone.Staying.{stays}
use Rattle.count_laws.specs.Gone.{HasName}
use Rattle.block_table.specs.Blocks.{OneBlockEach, Blocks, count_free, fill, free_blocks}
use Rattle.row_laws.specs.Blocks.{AreBlocksOf, is_left, kept_of, made_by}
use Rattle.row_laws.specs.Laws.{BlocksStay, NoBlockIsTakenEarly, StartsFree}
use Rattle.block_table.proofs.Filling.{Among, fill_all, fill_cases, fill_old, fill_once, fill_size}
use Rattle.row_laws.proofs.Filling.{kept_cases, kept_here, kept_room}
use Rattle.row_laws.proofs.Steps.{Moves, bare, moves}

-- what is left is told so, and what is told so is left
pub left_to : (t : Actors) (n : ObjName) → IsLeft t (Obj n) → is_left t n ≡ true
left_to t n left =
    ap (λ o. option_map_or (λ (x : Seat). has_own x.cell.holdings (Obj n)) o false) left.present ∙ left.kept

pub left_from : (t : Actors) (n : ObjName) → is_left t n ≡ true → IsLeft t (Obj n)
left_from t n is = by (seat_at t n.owner) refl is
  where
    by : (o : Option Seat) → seat_at t n.owner ≡ o → option_map_or (λ (x : Seat). has_own x.cell.holdings (Obj n)) o false ≡ true → IsLeft t (Obj n)
    by None at e = cc
    by (Some o) at e = record { seat = o; present = at; kept = e }

module _ (s t : Actors) (ns : List ObjName) (blocks : Blocks) (moves : Moves s t ns) (room : length ns ≤ count_free blocks)
    (named : (n : ObjName) → IsLeft s (Obj n) → HasName s (Obj n)) (are : AreBlocksOf s blocks) where
  abbrev stayed : Blocks
  stayed = map (kept_of t) blocks

  stayed_once : OneBlockEach stayed
  stayed_once j k n e f = are.once j k n (kept_cases t blocks j n e).0 (kept_cases t blocks k n f).0

  came_new : (n : ObjName) → Among ns n → (k : ℕ) → slice_get stayed k ≡ Some (Some n) → ⊥
  came_new n came k e = moves.new n came (named n (are.left k n (kept_cases t blocks k n e).0))

  are_after : AreBlocksOf t (fill ns stayed)
  are_after = record {
    left = λ k n e. ⊎_elim
        (λ old. left_from t n (kept_cases t blocks k n old).1)
        (λ came. moves.made n came)
        (fill_cases ns stayed k n e);
    has = λ n left. ⊎_elim
        (λ was. let at = are.has n was in (at.0, fill_old ns stayed at.0 n (kept_here t blocks at.0 n at.1 (left_to t n left))))
        (λ came. fill_all ns stayed (let more = kept_room t blocks in omega arith) n came)
        (moves.comes n left);
    once = fill_once ns stayed moves.apart stayed_once came_new;
  }

keeps_block : (t : Actors) (ns : List ObjName) (blocks : Blocks) (k : ℕ) (n : ObjName) → slice_get blocks k ≡ Some (Some n)
    → IsLeft t (Obj n) → slice_get (fill ns (map (kept_of t) blocks)) k ≡ Some (Some n)
keeps_block t ns blocks k n e left = fill_old ns (map (kept_of t) blocks) k n (kept_here t blocks k n e (left_to t n left))

pub blocks_stay : BlocksStay
blocks_stay s t e blocks goes room has =
    let step = step_of s t e goes in
    let m = moves s.options.trace s step in record {
      has = record {
        named = λ n left. ⊎_elim
            (λ was. (stays s.options.trace s step (Obj n) (has.named n was)).0)
            (λ came. m.names n came)
            (m.comes n left);
        are = are_after s.actors t.actors (made_by s e t) blocks m room has.named has.are;
      };
      size = fill_size (made_by s e t) (map (kept_of t.actors) blocks) ∙ length-map blocks (kept_of t.actors);
      same = λ k n at left. keeps_block t.actors (made_by s e t) blocks k n at left;
    }

pub no_block_is_taken_early : NoBlockIsTakenEarly
no_block_is_taken_early s t e blocks goes nothing k a n c mail at present named =
    keeps_block t.actors (made_by s e t) blocks k n at (nothing a c mail present (Obj n) named)

none_used : (count k : ℕ) (n : ObjName) → slice_get (free_blocks count) k ≡ Some (Some n) → ⊥
none_used zero k n e = cc
none_used (suc count) zero n e = cc
none_used (suc count) (suc k) n e = none_used count k n e

-- one actor that has no object
none_left : (c : Cell) (mail : List Letter) (w : ℕ) → c.holdings ≡ nothing_held w → (n : ObjName)
    → IsLeft (seat c mail ∷ []) (Obj n) → ⊥
none_left c mail w is n left = at n.owner left.present
  where
    at : (a : ℕ) → seat_at (seat c mail ∷ []) a ≡ Some left.seat → ⊥
    at zero e =
        let same = some_seat c left.seat.cell mail left.seat.mail e in
        bare w n (subst (λ (h : Holdings). has_own h (Obj n) ≡ true) (ap (λ (q : Cell). q.holdings) (sym same.0) ∙ is) left.kept)
    at (suc a) e = cc

pub starts_free : StartsFree
starts_free program options count =
    let none = none_left (first_cell program) (start_letters program) 0 refl in record {
      named = λ n left. absurd (none n left);
      are = record {
        left = λ k n e. absurd (none_used count k n e);
        has = λ n left. absurd (none n left);
        once = λ j k n e f. absurd (none_used count j n e);
      };
    }
