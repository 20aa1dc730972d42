use Rattle.std.proofs.Common.{◌∙◌, ◌<◌, ◌+◌, ◌++◌, ◌≡◌, List, Some, true, false, ap, append-nil, arith, filter, length, map, nat_le, not, sym}
use Rattle.std.specs.Borrow.{Bor}
use Rattle.std.specs.List.{find}
use Rattle.std.specs.Option.{option_copied}
use Rattle.letter_kinds.specs.Detector.{in_token}
use Rattle.letter_kinds.specs.declared.note.Report.{Report}
use Rattle.cycle_detect.proofs.KeptLemmas.{from-fewer, from-first, from-none, one_found, one_passed, those_from}
use Rattle.cycle_detect.proofs.scan.candidates.Goals as goal

pub loop-report-init : goal.loop-report-init
loop-report-init g c =
    let all = from-first c.args.reports.now.list in
    record {
      found = rw c.new-found.ensures.items (ap (filter (λ (r : Report). not (in_token c.args.tokens.now.list r.actor))) all);
      cost = omega (arith, ap length all);
    }

pub loop-report-smaller-in-Continue-1 : goal.loop-report-smaller-in-Continue-1
loop-report-smaller-in-Continue-1 g c =
    let rs = c.args.reports.now.list in
    let found : find (λ (r : Report). nat_le c.loop-report.from r.actor) rs ≡ Some c.in-Some.report.now = sym c.next.ensures.first ∙ ap option_copied c.in-Some.is in
    let less : length (those_from (c.number_of.result + 1) rs) < length (those_from c.loop-report.from rs) =
    omega (arith, from-fewer c.loop-report.from c.number_of.result rs c.in-Some.report.now c.next.ensures.rising found c.number_of.ensures) in
    less

pub loop-report-preserved-in-Continue-1 : goal.loop-report-preserved-in-Continue-1
loop-report-preserved-in-Continue-1 g c =
    let rs = c.args.reports.now.list in
    let free = λ (r : Report). not (in_token c.args.tokens.now.list r.actor) in
    let found : find (λ (r : Report). nat_le c.loop-report.from r.actor) rs ≡ Some c.in-Some.report.now = sym c.next.ensures.first ∙ ap option_copied c.in-Some.is in
    let fewer = from-fewer c.loop-report.from c.number_of.result rs c.in-Some.report.now c.next.ensures.rising found c.number_of.ensures in
    let on : not (in_token c.args.tokens.now.list c.in-Some.report.now.actor) ≡ true = ap not (sym c.has_member.ensures) ∙ ap not c.if-not-has_member.true in
    record {
      found = one_found free c.loop-report.from c.number_of.result rs (filter free rs) c.loop-report.found.items c.push.new.self.items c.in-Some.report
          c.next.ensures.rising found c.number_of.ensures on c.loop-report.invariant.found c.in_ok-push.ensures.items;
      cost = omega (arith, c.loop-report.invariant.cost, c.tick.ensures);
    }

pub returns-in_err-push-clause-cost : goal.returns-in_err-push-clause-cost
returns-in_err-push-clause-cost g c =
    let rs = c.args.reports.now.list in
    let found : find (λ (r : Report). nat_le c.loop-report.from r.actor) rs ≡ Some c.in-Some.report.now = sym c.next.ensures.first ∙ ap option_copied c.in-Some.is in
    omega (arith, c.loop-report.invariant.cost, c.tick.ensures, from-fewer c.loop-report.from c.number_of.result rs c.in-Some.report.now c.next.ensures.rising found c.number_of.ensures)

pub loop-report-smaller : goal.loop-report-smaller
loop-report-smaller g c =
    let rs = c.args.reports.now.list in
    let found : find (λ (r : Report). nat_le c.loop-report.from r.actor) rs ≡ Some c.in-Some.report.now = sym c.next.ensures.first ∙ ap option_copied c.in-Some.is in
    let less : length (those_from (c.number_of.result + 1) rs) < length (those_from c.loop-report.from rs) =
    omega (arith, from-fewer c.loop-report.from c.number_of.result rs c.in-Some.report.now c.next.ensures.rising found c.number_of.ensures) in
    less

pub loop-report-preserved : goal.loop-report-preserved
loop-report-preserved g c =
    let rs = c.args.reports.now.list in
    let free = λ (r : Report). not (in_token c.args.tokens.now.list r.actor) in
    let found : find (λ (r : Report). nat_le c.loop-report.from r.actor) rs ≡ Some c.in-Some.report.now = sym c.next.ensures.first ∙ ap option_copied c.in-Some.is in
    let fewer = from-fewer c.loop-report.from c.number_of.result rs c.in-Some.report.now c.next.ensures.rising found c.number_of.ensures in
    let off : not (in_token c.args.tokens.now.list c.in-Some.report.now.actor) ≡ false = ap not (sym c.has_member.ensures) ∙ ap not c.if-not-has_member.false in
    record {
      found = one_passed free c.loop-report.from c.number_of.result rs (filter free rs) (map (λ (r : Bor Report). r.now) c.loop-report.found.items) c.in-Some.report.now
          c.next.ensures.rising found c.number_of.ensures off c.loop-report.invariant.found;
      cost = omega (arith, c.loop-report.invariant.cost, c.tick.ensures);
    }

pub returns-clause-found : goal.returns-clause-found
returns-clause-found g c =
    let free = λ (r : Report). not (in_token c.args.tokens.now.list r.actor) in
    let none = from-none c.loop-report.from c.args.reports.now.list (sym c.next.ensures.first ∙ ap option_copied c.in_default.is) in
    sym (append-nil (map (λ (r : Bor Report). r.now) c.loop-report.found.items))
    ∙ (sym (ap (λ (rs : List Report). map (λ (r : Bor Report). r.now) c.loop-report.found.items ++ filter free rs) none) ∙ c.loop-report.invariant.found)
