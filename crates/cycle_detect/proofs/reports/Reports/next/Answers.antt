use Rattle.std.proofs.Common.{◌∙◌, ◌≡◌, ◌≤◌, None, arith, length, nat_le, sym, subst}
use Rattle.std.proofs.lemmas.List.{get_or_read}
use Rattle.std.specs.List.{find}
use Rattle.std.specs.List.Sorted.{IsStrictlySortedBy}
use Rattle.std.specs.Option.{option_copied}
use Rattle.std.specs.Ordering.{nat_cmp}
use Rattle.letter_kinds.specs.declared.note.Report.{Report}
use Rattle.cycle_detect.specs.Kept.{actors_of}
use Rattle.cycle_detect.specs.Room.{ReportsValue}
use Rattle.cycle_detect.proofs.KeptLemmas.{next-slot, next-within, no_next, none_past, rising-from}
use Rattle.cycle_detect.proofs.reports.Reports.next.Goals as goal

pub returns-then-from-len-clause-first : goal.returns-then-from-len-clause-first
returns-then-from-len-clause-first c =
    let slots = c.self.inside.slots.items in
    let past : length slots ≤ c.args.from = omega (arith, c.if-from-len.true, c.len.ensures, c.self.inside.slots.ok.0) in
    subst (λ (v : ReportsValue). None ≡ find (λ (r : Report). nat_le c.args.from r.actor) v.list) c.self.view_is (sym (none_past slots c.args.from c.self.invariant.named past))

pub returns-then-from-len-clause-rising : goal.returns-then-from-len-clause-rising
returns-then-from-len-clause-rising c =
    subst (λ (v : ReportsValue). IsStrictlySortedBy nat_cmp (actors_of v.list)) c.self.view_is (rising-from 0 c.self.inside.slots.items c.self.invariant.named)

pub index-requires : goal.index-requires
index-requires c =
    let within = next-within c.self.inside.slots.items c.self.inside.kept c.args.from c.in-Some.actor c.self.invariant c.in-Some.ensures in
    omega (arith, c.self.inside.slots.ok.0)

pub returns-in-Some-clause-first : goal.returns-in-Some-clause-first
returns-in-Some-clause-first c =
    let slots = c.self.inside.slots.items in
    let kept = c.self.inside.kept in
    let within = next-within slots kept c.args.from c.in-Some.actor c.self.invariant c.in-Some.ensures in
    subst (λ (v : ReportsValue). option_copied c.as_ref.result ≡ find (λ (r : Report). nat_le c.args.from r.actor) v.list) c.self.view_is
    (c.as_ref.ensures.value ∙ (get_or_read slots c.in-Some.actor c.index.result.now within c.index.ensures None ∙ sym (next-slot slots kept c.args.from c.in-Some.actor c.self.invariant c.in-Some.ensures)))

pub returns-in-Some-clause-rising : goal.returns-in-Some-clause-rising
returns-in-Some-clause-rising c =
    subst (λ (v : ReportsValue). IsStrictlySortedBy nat_cmp (actors_of v.list)) c.self.view_is (rising-from 0 c.self.inside.slots.items c.self.invariant.named)

pub returns-in-None-clause-first : goal.returns-in-None-clause-first
returns-in-None-clause-first c =
    subst (λ (v : ReportsValue). None ≡ find (λ (r : Report). nat_le c.args.from r.actor) v.list) c.self.view_is
    (sym (no_next c.self.inside.slots.items c.self.inside.kept c.args.from c.self.invariant c.in-None.ensures))

pub returns-in-None-clause-rising : goal.returns-in-None-clause-rising
returns-in-None-clause-rising c =
    subst (λ (v : ReportsValue). IsStrictlySortedBy nat_cmp (actors_of v.list)) c.self.view_is (rising-from 0 c.self.inside.slots.items c.self.invariant.named)
