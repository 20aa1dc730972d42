use Rattle.std.proofs.Common.{ap, ◌∙◌}
use Rattle.row_store.specs.Memory.{row_in}
use Rattle.row_store.proofs.remembered.Remembered.again.Goals as goal

pub returns : goal.returns
returns c = λ j k. (ap (λ m. row_in m k) c.of-2.ensures ∙ ap (λ m. row_in m.value k) c.of.ensures) j
