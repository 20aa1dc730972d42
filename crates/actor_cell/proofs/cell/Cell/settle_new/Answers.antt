use Rattle.std.proofs.Common.{◌≡◌, ◌+◌, [], None, inl, sym, ap, ◌∙◌}
use Rattle.orca_names.specs.declared.names.Thing.TheVariants.{Actor}
use Rattle.foreign_table.specs.Table.{entered}
use Rattle.known_rows.specs.Holdings.{holdings_of}
use Rattle.trace_send.proofs.Steps.{set-held}
use Rattle.actor_cell.specs.Cells.{as_cell}
use Rattle.actor_cell.proofs.Tells.{held_put, tells_only}
use Rattle.actor_cell.proofs.cell.Cell.settle_new.Goals as goal

pub returns-clause-cell : goal.returns-clause-cell
returns-clause-cell c =
    let s = c.args.self.now in
    let held : c.gain.new.self ≡ entered (λ n. n + c.args.weight) (Actor c.args.name) None None s.foreign =
    c.gain.ensures ∙ ap (λ w. entered (λ n. n + w) (Actor c.args.name) None None s.foreign) c.from.ensures in
    let counts = ap (holdings_of s.count s.heap) held ∙ sym (set-held s.count s.heap s.foreign (λ n. n + c.args.weight) (Actor c.args.name) None None) in
    λ i. record (as_cell s) { frame = c.put.ensures i; holdings = counts i }

pub returns-clause-told : goal.returns-clause-told
returns-clause-told c =
    let s = c.args.self.now in
    tells_only s.heap s.heap s.foreign c.gain.new.self s.known s.known [] (λ n row block told. told) (held_put (λ n. n + c.from.result) (Actor c.args.name) s.foreign c.gain.new.self [] c.gain.ensures)
    (λ n row block told. inl told)
