use Rattle.std.proofs.Common.{◌≡◌, rules}
use Rattle.std.specs.Process.{exit_status}
use Rattle.report_text.specs.Ends.{code_of}
use Rattle.picture_call.proofs.Answering.{drawn_exits}
use Rattle.picture_call.proofs.exiting.draw_and_exit.Goals as goal

pub returns : goal.returns
returns g c =
    let exit : exit_status c.from.result ≡ code_of c.draw_source-outcome.result.status = search rules in
    drawn_exits _ _ _ _ _ c.draw_source-outcome.ensures.answers c.draw_source-outcome.ensures.causes exit
