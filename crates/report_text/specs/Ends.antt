-- How a call ends: its exit code, and the word for the end of a run.
use Rattle.std.specs.Prelude.{ℕ, List, [], codes, ⊤}
use Rattle.report_text.specs.declared.status.Status.{Status}
use Rattle.report_text.specs.declared.status.Status.TheVariants.{Quiet, BadWords, BadText, BadProgram, Budget, ActorsFull, RowsFull, ReadFault, WriteFault, NoMemory, TooLong, Audited, BadBook, NotARun}

-- the exit code
abbrev pub code_of : Status → ℕ
code_of Quiet = 0
code_of BadWords = 2
code_of (BadText line kind) = 3
code_of (BadProgram kind behaviour step rule) = 4
code_of Budget = 5
code_of (ActorsFull actor) = 6
code_of (RowsFull actor) = 11
code_of ReadFault = 7
code_of WriteFault = 8
code_of NoMemory = 9
code_of TooLong = 10
code_of Audited = 0
code_of (BadBook line kind) = 12
code_of (NotARun place cause) = 13

-- a run ended so: there is a report
abbrev pub IsEnd : Status → Type 0
IsEnd Quiet = ⊤
IsEnd Budget = ⊤
IsEnd (ActorsFull actor) = ⊤
IsEnd (RowsFull actor) = ⊤
IsEnd other = ⊥

-- the word for the end of a run
abbrev pub end_word : Status → List ℕ
end_word Quiet = codes "quiet"
end_word Budget = codes "budget"
end_word (ActorsFull actor) = codes "actors"
end_word (RowsFull actor) = codes "rows"
end_word other = []
