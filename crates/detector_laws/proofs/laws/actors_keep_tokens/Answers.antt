use Rattle.detector_laws.proofs.ActorTokens.{block_tokens, confirm_tokens, moves_tokens}
use Rattle.detector_laws.proofs.HearTokens.{hear_tokens}
use Rattle.detector_laws.proofs.laws.actors_keep_tokens.Goals as goal

pub returns-clause-block : goal.returns-clause-block
returns-clause-block c = block_tokens

pub returns-clause-confirm : goal.returns-clause-confirm
returns-clause-confirm c = confirm_tokens

pub returns-clause-moves : goal.returns-clause-moves
returns-clause-moves c = moves_tokens

pub returns-clause-hear : goal.returns-clause-hear
returns-clause-hear c = hear_tokens
