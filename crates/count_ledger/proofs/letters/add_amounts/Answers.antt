use Rattle.std.proofs.Common.{◌≡◌, ◌≢◌, ◌==◌, ℕ, false, ◌<◌, ◌+◌, [], get_or, length, take, sym, ap, ◌∙◌, arith}
use Rattle.std.proofs.lemmas.Bool.{eq-eqb, eqb-true}
use Rattle.orca_names.specs.Names.{owner_of}
use Rattle.letter_kinds.specs.Sums.{amount_of}
use Rattle.count_ledger.specs.Lines.{only, own_only, raised, raised_by}
use Rattle.count_ledger.proofs.Adding.{map_same, none_added, still_rise, still_room, then_added}
use Rattle.count_ledger.proofs.Said.{amount_none, others_amount, own_amount_le, own_amount_more, own_none}
use Rattle.count_ledger.proofs.letters.add_amounts.Goals as goal
use Rattle.count_ledger.proofs.letters.add_amounts.Goals.{then-eq, else-eq}

pub loop-amount-init : goal.loop-amount-init
loop-amount-init c =
    let a = c.args.owner in
    let none = own_none a (λ x. amount_of x []) amount_none in
    sym (none_added c.args.column c.args.sums.now (own_only a (λ x. amount_of x [])) none)

pub add-requires-clause-rising : goal.add-requires-clause-rising
add-requires-clause-rising c =
    let said = own_only c.args.owner (λ x. amount_of x (take c.loop-amount.amount-index c.args.things.now)) in
    still_rise c.args.column c.args.sums.now c.loop-amount.sums said c.loop-amount.invariant c.requires.rising

pub add-requires-clause-room : goal.add-requires-clause-room
add-requires-clause-room c =
    let things = c.args.things.now in
    let a = c.args.owner in
    let i = c.loop-amount.amount-index in
    let e = c.amount-item.result in
    let inside : i < length things = omega (arith, ap length c.as_slice-amount-items.ensures) in
    let is = c.amount-item.is ∙ ap (λ xs. get_or xs i e) c.as_slice-amount-items.ensures in
    let mine = sym c.owner.ensures ∙ eqb-true c.owner.result a (sym c.if-eq.ensures) in
    still_room c.args.column c.args.sums.now c.loop-amount.sums
    (own_only a (λ x. amount_of x (take i things))) c.loop-amount.invariant
    (only e.0 e.1) (own_only a (λ x. amount_of x things)) (own_amount_le a things i e inside is mine)
    c.requires.room

-- a test that fails tells owners apart
not_mine : (m a : ℕ) → (m == a) ≡ false → m ≢ a
not_mine m a apart same = let alike = eq-eqb m a same in cc

pub loop-amount-preserved : goal.loop-amount-preserved
loop-amount-preserved c =
    let things = c.args.things.now in
    let a = c.args.owner in
    let i = c.loop-amount.amount-index in
    let e = c.amount-item.result in
    let inside : i < length things = omega (arith, ap length c.as_slice-amount-items.ensures) in
    let is = c.amount-item.is ∙ ap (λ xs. get_or xs i e) c.as_slice-amount-items.ensures in
    elim c.if-eq.branch [
      | then-eq w ↦
          let mine = sym c.owner.ensures ∙ eqb-true c.owner.result a (sym w.if-eq.ensures) in
          w.sums-is
          ∙ then_added c.args.column c.args.sums.now c.loop-amount.sums
          (own_only a (λ x. amount_of x (take i things)))
          c.loop-amount.invariant (only e.0 e.1) (own_only a (λ x. amount_of x (take (i + 1) things)))
          w.add.new.sums
          w.add.ensures (own_amount_more a things i e inside is mine)
      | else-eq w ↦
          let other = not_mine (owner_of e.0) a
          (ap (λ n. n == a) (sym c.owner.ensures) ∙ sym c.eq.ensures ∙ w.if-eq.false) in
          w.sums-is ∙ c.loop-amount.invariant
          ∙ map_same (raised_by c.args.column (own_only a (λ x. amount_of x (take i things))))
          (raised_by c.args.column (own_only a (λ x. amount_of x (take (i + 1) things))))
          (λ s. ap (λ n. raised c.args.column n s) (others_amount a things i e inside is other s.thing))
          c.args.sums.now
    ]
