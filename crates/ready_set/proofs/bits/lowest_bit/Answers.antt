use Rattle.std.proofs.Common.{w64, arith}
use Rattle.std.proofs.lemmas.Nat.Bits.{bit_at-trailing_zeros}
use Rattle.ready_set.proofs.bits.lowest_bit.Goals as goal

pub returns : goal.returns
returns c =
    let zeros = bit_at-trailing_zeros w64 c.args.word c.requires (omega arith) in
    record { within = zeros.0; on = zeros.1; below = zeros.2 }
