use Rattle.std.proofs.lemmas.List.{take-replicate}
use Rattle.orca_names.specs.declared.names.Value.TheVariants.{Null}
use Rattle.orca_names.proofs.PlacesLemmas.{nulls_use_places}
use Rattle.orca_names.proofs.row.Args.nulls.Goals as goal

pub invariant_of-result : goal.invariant_of-result
invariant_of-result c = nulls_use_places c.args.count c.requires

pub returns : goal.returns
returns c = take-replicate c.args.count 8 Null c.requires
