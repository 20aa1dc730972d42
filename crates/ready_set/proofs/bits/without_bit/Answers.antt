use Rattle.std.proofs.Common.{w64}
use Rattle.std.proofs.lemmas.Nat.Bits.{bit_at_clear_same, bit_at_clear_other}
use Rattle.ready_set.proofs.bits.without_bit.Goals as goal

pub returns : goal.returns
returns c = record {
  same = bit_at_clear_same w64 c.args.word c.args.k c.requires;
  others = λ i h apart. bit_at_clear_other w64 c.args.word c.args.k c.requires i h apart;
}
