use Rattle.std.proofs.Common.{◌∙◌, ap, get_or}
use Rattle.std.specs.Prelude.{◌+◌}
use Rattle.cycle_detect.proofs.Sums.{entry_added}
use Rattle.cycle_detect.proofs.scan.add_entry.Goals as goal

pub returns-clause-added : goal.returns-clause-added
returns-clause-added g c =
    entry_added c.args.names.now c.args.told.now c.args.entry c.args.teller c.in-Some.k c.in-Some-checked_add.sum c.requires.rising c.requires.long
    c.in-Some.ensures.other c.in-Some.ensures.some
    (c.in-Some-checked_add.ensures.1 ∙ ap (λ n. get_or c.args.told.now c.in-Some.k 0 + n) c.from.ensures)
