use Rattle.std.proofs.Common.{sym, subst, arith}
use Rattle.std.proofs.lemmas.Option.{slice_get_past}
use Rattle.row_store.specs.Words.{HoldsRow}
use Rattle.reach_walk.proofs.with_words.read_block_place.Goals as goal

pub read_value-requires : goal.read_value-requires
read_value-requires g c =
    let has = c.requires in
    let lies = subst (HoldsRow c.args.block has.0) (sym c.row_len-len.ensures.same.known) has.2 in
    (has.0, has.1, lies, omega (arith, c.row_len-len.ensures.len has.0 has.2, c.if-i-len.true))

pub returns-then-i-len-clause-value : goal.returns-then-i-len-clause-value
returns-then-i-len-clause-value g c = λ its lies.
    sym (c.read_value.ensures.value its (subst (HoldsRow c.args.block its) (sym c.row_len-len.ensures.same.known) lies))

pub returns-else-i-len-clause-value : goal.returns-else-i-len-clause-value
returns-else-i-len-clause-value g c = λ its lies.
    sym (slice_get_past its c.args.i (omega (arith, c.row_len-len.ensures.len its lies, c.if-i-len.false)))
