-- What is written of a refusal.
use Rattle.std.specs.Prelude.{ℕ, List, [], ◌++◌, codes, ⊤}
use Rattle.std.specs.Fmt.{decimal}
use Rattle.report_text.specs.declared.status.Status.{Status}
use Rattle.report_text.specs.declared.status.Status.TheVariants.{BadWords, BadText, BadProgram, ReadFault, TooLong, BadBook, NotARun}

-- the words, the source, its bytes or its book were refused: there is a refusal line
abbrev pub HasRefusal : Status → Type 0
HasRefusal BadWords = ⊤
HasRefusal ReadFault = ⊤
HasRefusal TooLong = ⊤
HasRefusal (BadText line kind) = ⊤
HasRefusal (BadProgram kind behaviour step rule) = ⊤
HasRefusal (BadBook line kind) = ⊤
HasRefusal (NotARun place cause) = ⊤
HasRefusal other = ⊥

-- the line of a refusal; nothing for any other status
abbrev pub refusal_of : Status → List ℕ
refusal_of BadWords = codes "refused words\n"
refusal_of ReadFault = codes "refused read\n"
refusal_of TooLong = codes "refused length\n"
refusal_of (BadText line kind) = codes "refused text line " ++ (decimal line ++ (codes " kind " ++ (decimal kind ++ codes "\n")))
refusal_of (BadProgram kind behaviour step rule) =
    codes "refused program kind " ++ (decimal kind
    ++ (codes " behaviour " ++ (decimal behaviour
    ++ (codes " step " ++ (decimal step
    ++ (codes " rule " ++ (decimal rule ++ codes "\n")))))))
refusal_of (BadBook line kind) = codes "refused book line " ++ (decimal line ++ (codes " kind " ++ (decimal kind ++ codes "\n")))
refusal_of (NotARun place cause) = codes "run no entry " ++ (decimal place ++ (codes " cause " ++ (decimal cause ++ codes "\n")))
refusal_of other = []
