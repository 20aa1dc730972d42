use Rattle.std.proofs.Common.{◌≡◌, ◌==◌, ◌&&◌, false, not, sym, ap, ◌∙◌}
use Rattle.orca_names.specs.Names.{owner_of}
use Rattle.letter_kinds.specs.Holdings.{held_in}
use Rattle.foreign_table.specs.Table.{count_on}
use Rattle.root_trace.proofs.needs.is_lacked.Goals as goal

pub returns : goal.returns
unfolding held_in
returns c = λ count heap.
    let x = c.args.thing.now in
    let other : (owner_of x == c.args.me) ≡ false = ap (λ a. a == c.args.me) (sym c.owner.ensures) ∙ sym c.eq.ensures ∙ c.if-eq.false in
    ap (λ n. n == 0) c.count.ensures.count ∙ ap (λ b. not b && (count_on c.args.foreign.now x == 0)) (sym other)
