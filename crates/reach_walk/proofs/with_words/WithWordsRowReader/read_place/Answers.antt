use Rattle.std.proofs.Common.{◌≡◌, ◌≤◌, ◌<◌, ℕ, List, Option, None, Some, get_or, length, ap, subst, sym, ◌∙◌}
use Rattle.std.specs.Prelude.{IfSome, MatchOption, option_and_then, option_map, slice_get}
use Rattle.std.proofs.lemmas.Option.{slice_get-get_or, slice_get_past}
use Rattle.row_store.specs.Lent.{IsLent}
use Rattle.reach_walk.proofs.Blocks.{row_lies}
use Rattle.reach_walk.proofs.with_words.WithWordsRowReader.read_place.Goals as goal

got : {X Y : Type 0} (f : Y → X) (Q : Y → Type 0) (xs : List X) (i : ℕ) (r : Option Y)
    → IfSome r (λ y. f y ≡ get_or xs i (f y))
    → MatchOption r (length xs ≤ i) (λ y. (i < length xs) × Q y) → option_map f r ≡ slice_get xs i
got f Q xs i None is past = sym (slice_get_past xs i past)
got f Q xs i (Some y) is there = ap Some is ∙ sym (slice_get-get_or xs i (f y) there.0)

pub read_block_place-requires : goal.read_block_place-requires
read_block_place-requires g c =
    let s = c.args.self.now in
    let n = c.args.n in
    let its = g.R.BlockRows.rows s.rows.now in
    let blocks = g.R.BlockRows.blocks s.rows.now in
    let lies = row_lies its blocks (g.W.RowWords.known s.words.now) s.stand n c.in-In.block (subst (IsLent (its n) (blocks n)) c.in-In.is c.row_of.ensures) in
    (lies.0, lies.2, lies.3)

pub returns-in-Nothing-clause-value : goal.returns-in-Nothing-clause-value
returns-in-Nothing-clause-value g c =
    let s = c.args.self.now in
    let n = c.args.n in
    let lent = subst (IsLent (g.R.BlockRows.rows s.rows.now n) (g.R.BlockRows.blocks s.rows.now n)) c.in-Nothing.is c.row_of.ensures in
    ap (option_and_then (λ row. slice_get row c.args.i)) (sym lent.0)

pub returns-in-Here-clause-value : goal.returns-in-Here-clause-value
returns-in-Here-clause-value g c =
    let s = c.args.self.now in
    let n = c.args.n in
    let lent = subst (IsLent (g.R.BlockRows.rows s.rows.now n) (g.R.BlockRows.blocks s.rows.now n)) c.in-Here.is c.row_of.ensures in
    c.copied.ensures
    ∙ got (λ x. x.now) _ c.in-Here.values.now c.args.i c.get.result c.get.ensures.lookup.1 c.get.ensures.lookup.3
    ∙ ap (option_and_then (λ row. slice_get row c.args.i)) (sym lent.0)

pub returns-in-In-clause-value : goal.returns-in-In-clause-value
returns-in-In-clause-value g c =
    let s = c.args.self.now in
    let n = c.args.n in
    let its = g.R.BlockRows.rows s.rows.now in
    let blocks = g.R.BlockRows.blocks s.rows.now in
    let lies = row_lies its blocks (g.W.RowWords.known s.words.now) s.stand n c.in-In.block (subst (IsLent (its n) (blocks n)) c.in-In.is c.row_of.ensures) in
    c.read_block_place.ensures.value lies.0 lies.3 ∙ ap (option_and_then (λ row. slice_get row c.args.i)) (sym lies.1)
