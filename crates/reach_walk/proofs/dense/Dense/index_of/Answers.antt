use Rattle.std.proofs.Common.{◌≡◌, ◌+◌, ◌-◌, get_or, refl, sym, ◌∙◌, arith}
use Rattle.row_store.specs.Told.{lies_as}
use Rattle.reach_walk.proofs.Together.{alike, named_there, named_whole, told_at}
use Rattle.reach_walk.proofs.dense.Dense.index_of.Goals as goal

pub returns-then-self-clause-place : goal.returns-then-self-clause-place
returns-then-self-clause-place c = λ place rows blocks together.
    let dense = c.args.self.now in
    let n = c.args.n in
    let i = c.get-serial.result - dense.first in
    let owner : n.owner ≡ dense.owner = alike n.owner dense.owner (sym c.ne.ensures ∙ c.if-ne.false) in
    let serial : n.serial ≡ dense.first + i = omega arith in
    (owner, named_whole place rows blocks dense n i together c.if-self.true (omega arith) owner serial)

pub returns-then-is_object-clause-place : goal.returns-then-is_object-clause-place
returns-then-is_object-clause-place c = λ place rows blocks together.
    let dense = c.args.self.now in
    let n = c.args.n in
    let i = c.get-serial.result - dense.first in
    let d = c.index-self-i.result in
    let owner : n.owner ≡ dense.owner = alike n.owner dense.owner (sym c.ne.ensures ∙ c.if-ne.false) in
    (owner, named_there place rows blocks dense n i (lies_as rows (get_or dense.items.now i d)) together (told_at rows dense.items.now i d (omega arith)) (c.if-is_object.ensures refl))
