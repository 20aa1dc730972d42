use Rattle.pony_run.proofs.Answering.{bad_words_answers, nothing_done}
use Rattle.pony_run.proofs.call.run_all.Goals as goal

pub returns-in-Err-BadWords : goal.returns-in-Err-BadWords
returns-in-Err-BadWords g c = bad_words_answers _ _ _ _ _ _ (c.in-Err-BadWords.ensures.bad c.in-Err-BadWords.field-0-is) c.refuse.ensures

pub returns-in-Err-NoMemory : goal.returns-in-Err-NoMemory
returns-in-Err-NoMemory g c = nothing_done _ _ _ _ _ _ _ c.idle.ensures.status c.idle.ensures.book
