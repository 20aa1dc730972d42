use Rattle.std.proofs.Common.{◌≡◌, rules}
use Rattle.std.specs.Process.{exit_status}
use Rattle.report_text.specs.Ends.{code_of}
use Rattle.picture_call.proofs.Answering.{refused_exits}
use Rattle.picture_call.proofs.exiting.refuse_and_exit.Goals as goal

pub returns : goal.returns
returns g c words source some unread =
    let exit : exit_status c.from.result ≡ code_of c.stop-outcome.result.status = search rules in
    refused_exits words source _ c.stop-outcome.result.book _ _ some unread c.stop-outcome.ensures exit
