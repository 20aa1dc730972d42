use Rattle.std.proofs.Common.{drop, arith}
use Rattle.std.proofs.lemmas.Grind.{common_steps}
use Rattle.outside_world.proofs.Front.{drop-front_read, drop-all_read}
use Rattle.outside_world.proofs.mem_source.copy_front.Goals as goal

pub returns-clause-copied : goal.returns-clause-copied
returns-clause-copied c =
    drop-front_read c.args.bytes.now c.copy_from_slice.new.self (drop c.min-count.result c.args.buf.now) c.args.at c.min-count.result
    (grind (arith, common_steps)) (grind (arith, common_steps))

pub returns-clause-end : goal.returns-clause-end
returns-clause-end c = λ h. drop-all_read c.args.bytes.now c.args.at c.min-count.result (grind (arith, common_steps))
