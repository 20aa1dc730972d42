use Rattle.std.proofs.Common.{◌≡◌, map, take}
use Rattle.orca_names.specs.Names.{times_among}
use Rattle.count_ledger.specs.Lines.{raised_by}
use Rattle.count_ledger.specs.declared.lines.Column.TheVariants.{Letters}
use Rattle.count_ledger.proofs.letters.add_load.Given as goal

abbrev pub invariant-loop-loaded : goal.invariant-loop-loaded
invariant-loop-loaded l =
    l.sums ≡ map (raised_by Letters (λ x. times_among x (take l.loaded-index l.load))) l.fn.sums
