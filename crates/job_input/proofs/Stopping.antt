-- Why nothing begins with an input, by the part of it that was read.
use Rattle.std.proofs.Common.{◌<◌, ℕ, List, length, refl}
use Rattle.run_book.specs.Splits.{IsSplit}
use Rattle.report_text.specs.declared.status.Status.{Status}
use Rattle.word_line.specs.declared.order.Job.{Job}
use Rattle.word_line.specs.declared.order.Job.TheVariants.{Run, Load, Audit, Why}
use Rattle.behaviour_code.specs.declared.code.Program.{Program}
use Rattle.job_input.specs.Inputs.{IsProgramText, RunsProgram}
use Rattle.job_input.specs.Begins.{InputStops, IsBookStop, IsRunnable, IsTextStop}
use Rattle.job_input.specs.Streams.{most_bytes}

-- of a job that runs a program all of the input is its text
all_is_text : (job : Job) (input : List ℕ) → RunsProgram job → IsProgramText job input input
all_is_text Run input runs = refl
all_is_text (Load count) input runs = refl
all_is_text Why input runs = refl
all_is_text Audit input runs = absurd runs

pub stops_at_input : (job : Job) (input : List ℕ) (stop : Status) → RunsProgram job → length input < most_bytes → IsTextStop stop input → InputStops job input stop
stops_at_input job input stop runs short h = InputStops.at_text input (record { short = short; part = all_is_text job input runs }) h

pub stops_at_text : (input text bytes : List ℕ) (stop : Status) → length input < most_bytes → IsSplit input text bytes → IsTextStop stop text → InputStops Audit input stop
stops_at_text input text bytes stop short split h = InputStops.at_text text (record { short = short; part = (bytes, split) }) h

pub stops_at_book : (input text bytes : List ℕ) (program : Program) (stop : Status) → length input < most_bytes → IsSplit input text bytes → IsRunnable text program
    → IsBookStop stop bytes → InputStops Audit input stop
stops_at_book input text bytes program stop short split runnable h =
    InputStops.at_book refl text bytes (record { short = short; behind = split }) program runnable h
