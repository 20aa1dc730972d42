use Rattle.std.proofs.Common.{arith}
use Rattle.behaviour_text.proofs.Numerals.{digits_more, digits_fit}
use Rattle.behaviour_text.proofs.words.digits_value.Goals as goal

pub overflow_mul-value : goal.overflow_mul-value
overflow_mul-value c =
    let fits = digits_fit c.args.digits.now c.loop-digit.digit-index c.loop-digit.value c.requires.digits c.requires.few c.loop-digit-test.true c.loop-digit.invariant in
    omega (arith, fits)

pub overflow_add-value : goal.overflow_add-value
overflow_add-value c =
    let fits = digits_fit c.args.digits.now c.loop-digit.digit-index c.loop-digit.value c.requires.digits c.requires.few c.loop-digit-test.true c.loop-digit.invariant in
    omega (arith, fits, c.from.ensures)

pub loop-digit-preserved : goal.loop-digit-preserved
loop-digit-preserved c =
    let more = digits_more c.args.digits.now c.loop-digit.digit-index c.loop-digit.value c.requires.digits c.loop-digit-test.true c.loop-digit.invariant in
    rw c.from.ensures more
