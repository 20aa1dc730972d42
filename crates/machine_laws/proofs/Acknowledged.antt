-- Members alone acknowledge a token: the facts of each run say so.
use Rattle.detector_laws.proofs.Acknowledged.{members_alone}
use Rattle.detector_laws.proofs.Named.{numbered_is_open}
use Rattle.machine_laws.proofs.Seen.{world}
use Rattle.machine_laws.proofs.WholeRuns.{run_has_facts}
use Rattle.machine_laws.specs.Acknowledged.{InRunsMembersAloneAcknowledge, InRunsMembersAloneAreAsked}

pub runs_ask_members : InRunsMembersAloneAreAsked
runs_ask_members program options heavy book s run = (run_has_facts program options heavy book s run).2.detector.members

pub runs_hear_members : InRunsMembersAloneAcknowledge
runs_hear_members program options heavy book s run number a later first t is =
    let open_token = numbered_is_open s.detector number t is in
    members_alone (world s) number a later (run_has_facts program options heavy book s run).2.detector first t open_token.0 open_token.1
