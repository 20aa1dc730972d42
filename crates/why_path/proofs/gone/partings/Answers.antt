use Rattle.std.proofs.Common.{◌≤◌, ◌+◌, ◌++◌, length, sym, ap, subst, ◌∙◌, append-nil, arith}
use Rattle.std.specs.Option.{option_to_list}
use Rattle.std.proofs.lemmas.List.{drop_all}
use Rattle.event_rule.specs.Runs.{Leads}
use Rattle.machine_rules.specs.Next.{next}
use Rattle.machine_rules.specs.State.{first_state}
use Rattle.orca_parts.specs.Parts.{options_of}
use Rattle.why_path.specs.Partings.{partings_of}
use Rattle.why_path.proofs.Parting.{entry_leads, entry_told, others_lead}
use Rattle.why_path.proofs.gone.partings.Goals as goal

pub loop-i-init : goal.loop-i-init
loop-i-init c =
    let book = c.args.book.now in
    let start = c.in_ok-orca.ensures.state
    ∙ (λ i. first_state c.args.code.now (options_of (c.weight.ensures.weight i) (c.trace.ensures i))) in
    record {
      found = ap (λ xs. xs ++ partings_of book.entries c.in_ok-orca.orca.state) c.new-found.ensures.items
          ∙ ap (partings_of book.entries) start;
      rest = (c.requires.run.0, subst (λ s. Leads next s book.entries c.requires.run.0) (sym start) c.requires.run.1);
      steps = c.in_ok-orca.ensures.steps;
      home = c.in_ok-orca.ensures.home;
      none = c.in_ok-orca.ensures.blocks;
    }

pub step-requires-clause-leads : goal.step-requires-clause-leads
step-requires-clause-leads c =
    entry_leads c.args.book.now.entries c.loop-i.i c.at-e.result c.loop-i.orca.state c.at-e.ensures c.loop-i.invariant.rest

pub loop-i-preserved : goal.loop-i-preserved
loop-i-preserved c =
    let book = c.args.book.now in
    let i = c.loop-i.i in
    let e = c.at-e.result in
    let s = c.loop-i.orca.state in
    let u = c.step.new.orca.state in
    let goes = c.in_ok-step.ensures.ok in
    record {
      found = entry_told book.entries i e s c.at-e.ensures c.loop-i.invariant.rest u goes c.loop-i.found.items
          c.tell.new.found.items (partings_of book.entries (first_state c.args.code.now (options_of book.weight book.trace)))
          c.loop-i.invariant.found (c.in_ok-tell.ensures ∙ ap (λ p. c.loop-i.found.items ++ option_to_list p) c.in_ok-parting_at.ensures);
      rest = others_lead book.entries i e s c.at-e.ensures c.loop-i.invariant.rest u goes;
      steps = c.in_ok-step.ensures.steps ∙ ap (λ n. n + 1) c.loop-i.invariant.steps;
      home = c.step.ensures.home;
      none = c.step.ensures.none;
    }

pub returns : goal.returns
returns c =
    let book = c.args.book.now.entries in
    let i = c.loop-i.i in
    let whole : length book ≤ i = omega (arith, c.loop-i-test.false, c.len-i-end.ensures) in
    sym (append-nil c.loop-i.found.items)
    ∙ ap (λ es. c.loop-i.found.items ++ partings_of es c.loop-i.orca.state) (sym (drop_all i book whole))
    ∙ c.loop-i.invariant.found
