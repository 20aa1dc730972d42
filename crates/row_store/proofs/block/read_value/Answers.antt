use Rattle.std.proofs.Common.{◌≡◌, ◌*◌, ◌<◌, length, arith}
use Rattle.row_store.specs.Words.{first_word}
use Rattle.row_store.proofs.Rows.{length_same, value_read, value_there}
use Rattle.row_store.proofs.block.read_value.Goals as goal

pub value_at-requires-clause-known : goal.value_at-requires-clause-known
value_at-requires-clause-known g c =
    let r = c.requires in
    let e : 17 * c.from-first.result ≡ first_word c.args.block = omega arith in
    value_there c.args.block _ c.args.i r.0 _ r.1 r.2 r.3 (omega arith)

pub returns-clause-value : goal.returns-clause-value
returns-clause-value g c = λ row lie.
    let r = c.requires in
    let e : 17 * c.from-first.result ≡ first_word c.args.block = omega arith in
    let long = length_same c.args.block r.0 row _ r.2 lie in
    let within : c.args.i < length row = omega (arith, r.3) in
    value_read c.args.block _ c.args.i row _ _ lie within (omega arith) c.value_at.ensures.value
