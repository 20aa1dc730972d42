use Rattle.std.proofs.Common.{◌+◌, ◌-◌, ap, subst, arith}
use Rattle.std.specs.FinMap as m
use Rattle.foreign_table.specs.Span.{IsSpan}
use Rattle.known_rows.proofs.Placed.{keys_count}
use Rattle.known_rows.proofs.places.KnownPlaces.of.Goals as goal

pub overflow_add-above : goal.overflow_add-above
overflow_add-above c = omega (arith, c.span-first.ensures.first_within, c.span-first.ensures.end_within, keys_count c.args.foreign.now, c.len-held.ensures)

pub overflow_add-above-2 : goal.overflow_add-above-2
overflow_add-above-2 c = omega (arith, c.span-first.ensures.first_within, c.span-first.ensures.end_within, keys_count c.args.foreign.now, c.len-held.ensures, c.len.ensures)

pub overflow_sub-count : goal.overflow_sub-count
overflow_sub-count c = omega (arith, c.span-first.ensures.end_within, keys_count c.args.foreign.now, c.len-held.ensures.count)

pub overflow_add-count : goal.overflow_add-count
overflow_add-count c = omega (arith, c.span-first.ensures.first_within, c.span-first.ensures.end_within, keys_count c.args.foreign.now, c.len-held.ensures, c.len.ensures)

pub invariant_of-result : goal.invariant_of-result
invariant_of-result c = record {
  span = subst (λ a. IsSpan a (m.keys c.args.foreign.now.entries) c.span-first.result.0 c.span-first.result.1) c.owner.ensures c.span-first.ensures;
  start = ap (λ n. c.span-first.result.0 + 1 + n) c.len.ensures.count;
  size = ap (λ n. c.span-first.result.0 + 1 + c.len.result + (n - c.span-first.result.1)) c.len-held.ensures.count;
  fits = (
    omega (arith, c.span-first.ensures.first_within, c.span-first.ensures.end_within, keys_count c.args.foreign.now, c.len-held.ensures, c.len.ensures),
    omega (arith, c.len-held.ensures),
  );
}
