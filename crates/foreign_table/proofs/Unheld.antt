-- How many things are not held, one by one and as entries come.
use Rattle.std.proofs.Common.{◌≡◌, ℕ, ◌+◌, ◌<◌, ◌≤◌, Bool, true, false, cond, List, [], ◌∷◌, length, get_or, drop, Option, Some, None, refl, sym, ap, ◌∙◌, arith}
use Rattle.std.specs.Prelude.{is_some}
use Rattle.std.specs.FinMap as m
use Rattle.std.specs.Ordering.{eq_by_cmp}
use Rattle.std.proofs.Math.Seq.{drop-length}
use Rattle.std.proofs.lemmas.List.{drop_more}
use Rattle.std.proofs.lemmas.List.Sums.{sum_by-cons}
use Rattle.orca_names.specs.Names.{thing_cmp}
use Rattle.orca_names.specs.declared.names.Thing.{Thing}
use Rattle.orca_names.proofs.ThingOrder.{thing_total}
use Rattle.letter_kinds.specs.Holdings.{Entries, Row}
use Rattle.foreign_table.specs.Mapped.{mapped}
use Rattle.foreign_table.specs.Table.{Table, count_on, count_unheld, entered}
use Rattle.foreign_table.proofs.Mapped.{some-mapped}

-- one where there is no entry
abbrev one_if_none : {X : Type 0} → Option X → ℕ
one_if_none o = cond (is_some o) 0 1

module _ {X : Type 0} (entries : m.FinMap thing_cmp X) where
  abbrev unheld : Thing × ℕ → ℕ
  unheld e = one_if_none (m.get entries e.0)

  first_unheld : (e : Thing × ℕ) (things : List (Thing × ℕ)) → count_unheld (e ∷ things) entries ≡ unheld e + count_unheld things entries
  first_unheld e things = sum_by-cons unheld e things

  pub unheld_step : (things : List (Thing × ℕ)) (i : ℕ) (e : Thing × ℕ) → i < length things → e ≡ get_or things i e
      → count_unheld (drop i things) entries ≡ unheld e + count_unheld (drop (i + 1) things) entries
  unheld_step things i e l is =
      let rest : drop i things ≡ e ∷ drop (i + 1) things = drop_more things i e l ∙ ap (λ x. x ∷ drop (i + 1) things) (sym is) in
      ap (λ xs. count_unheld xs entries) rest ∙ first_unheld e (drop (i + 1) things)

  -- at the end none is left to be counted
  pub unheld_past : (things : List (Thing × ℕ)) (i : ℕ) → i ≡ length things → count_unheld (drop i things) entries ≡ 0
  unheld_past things i e = ap (λ xs. count_unheld xs entries) (ap (λ n. drop n things) e ∙ drop-length things)

-- an entry more leaves no more of them
unheld_less : (entries : Entries) (x : Thing) (v : ℕ × Option Row) (things : List (Thing × ℕ)) → count_unheld things (m.insert entries x v) ≤ count_unheld things entries
unheld_less entries x v [] = omega arith
unheld_less entries x v (e ∷ things) =
    let rest = unheld_less entries x v things in
    let found = m.get-insert thing_total entries x v e.0 in
    let first : unheld (m.insert entries x v) e ≤ unheld entries e = less (eq_by_cmp thing_cmp e.0 x) (m.get (m.insert entries x v) e.0) (m.get entries e.0) found in
    omega (arith, rest, first, first_unheld entries e things, first_unheld (m.insert entries x v) e things)
  where
    less : (same : Bool) (now before : Option (ℕ × Option Row)) → now ≡ cond same (Some v) before → one_if_none now ≤ one_if_none before
    less true now before f = let here = ap one_if_none f in omega (arith, here)
    less false now before f = let here = ap one_if_none f in omega (arith, here)

-- where there is room for all of them, there is room for the first, and then for the others
module _ (t : Table) (e : Thing × ℕ) (things : List (Thing × ℕ)) (room : count_unheld (e ∷ things) t.entries ≤ t.spare) where
  pub room_first : m.get t.entries e.0 ≡ None → 0 < t.spare
  room_first none =
      let one = ap one_if_none none in
      omega (arith, room, first_unheld t.entries e things, one)

  pub room_left : (change : ℕ → ℕ) (row : Option Row) (block : Option ℕ) → count_unheld things (entered change e.0 row block t).entries ≤ (entered change e.0 row block t).spare
  room_left change row block =
      let less = unheld_less t.entries e.0 (change (count_on t e.0), row) things in
      omega (arith, room, first_unheld t.entries e things, less)

-- what is made of values does not matter
pub unheld-mapped : {X Y : Type 0} (f : Thing → X → Y) (t : m.FinMap thing_cmp X) (things : List (Thing × ℕ)) → count_unheld things (mapped f t) ≡ count_unheld things t
unheld-mapped f t [] = refl
unheld-mapped f t (e ∷ things) =
    let first = ap {B = ℕ} (λ b. cond b 0 1) (some-mapped f t e.0) in
    omega (arith, first_unheld (mapped f t) e things, first_unheld t e things, unheld-mapped f t things, first)
