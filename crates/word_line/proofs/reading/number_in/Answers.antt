use Rattle.word_line.proofs.Numbers.{number_in-inside, number_in-no_number}
use Rattle.word_line.proofs.reading.number_in.Goals as goal

pub returns-then-number-most-clause-number : goal.returns-then-number-most-clause-number
returns-then-number-most-clause-number c =
    number_in-inside c.args.least c.args.most c.in-Ok.number c.args.text.now c.parse.result c.in-Ok.is c.parse.ensures.value.0 c.if-least-number.true c.if-number-most.true

pub returns-in-Err-clause-number : goal.returns-in-Err-clause-number
returns-in-Err-clause-number c =
    number_in-no_number c.args.least c.args.most c.in-Err.field-0 c.args.text.now c.parse.result c.in-Err.is c.parse.ensures.value.0
