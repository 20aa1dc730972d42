use Rattle.std.proofs.Common.{w64}
use Rattle.std.proofs.lemmas.Nat.Bits.{bit_at_set_same, bit_at_set_other}
use Rattle.ready_set.proofs.bits.with_bit.Goals as goal

pub returns : goal.returns
returns c = record {
  same = bit_at_set_same w64 c.args.word c.args.k c.requires;
  others = λ i h apart. bit_at_set_other w64 c.args.word c.args.k c.requires i apart;
}
