use Rattle.std.proofs.Common.{◌-◌, arith}
use Rattle.known_rows.proofs.Placed.{serials_count}
use Rattle.known_rows.proofs.Later.{is_below, last_below}
use Rattle.known_rows.proofs.turn_places.come_later.Goals as goal

pub returns-then-count-eq0 : goal.returns-then-count-eq0
returns-then-count-eq0 c = λ _. record {
  later = λ i d l. absurd (omega (arith, serials_count c.args.heap.now, c.len-count.ensures.count, c.if-count-eq0.true));
  fits = omega (arith, c.if-made-next.false, c.made-next.ensures);
}

pub returns : goal.returns
returns c = λ t.
    let last = c.at-last.result in
    let low = is_below c.get.result c.made-next.result t in record {
      later = last_below c.args.heap.now.next c.args.heap.now.rows (c.len-count.result - 1) (last.0.serial, (c.at-last.ensures.entry.0, last.2))
          (omega (arith, c.len-count.ensures.count, c.if-count-eq0.false)) c.at-last.ensures.entry.1 (omega (arith, c.get.ensures, c.made-next.ensures));
      fits = omega (arith, c.if-made-next.false, c.made-next.ensures);
    }
