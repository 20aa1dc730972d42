use Rattle.std.proofs.Common.{◌≡◌, Bool, not, sym, ap, subst, ◌∙◌}
use Rattle.std.specs.FinMap as m
use Rattle.orca_names.specs.declared.names.Thing.{Thing}
use Rattle.foreign_table.specs.Back.{goes_back}
use Rattle.foreign_table.specs.Table.{Table}
use Rattle.row_table.specs.Table.{AreUncounted, IsUncounted, KnownRows, known_by, known_in, rows_in}
use Rattle.row_table.proofs.Mapped.{again, kept, none_kept, rows_are}
use Rattle.row_table.proofs.table.RowTable.forget.Goals.{in-Some, in-None}
use Rattle.row_table.proofs.table.RowTable.forget.Goals as goal

pub invariant_of-self : goal.invariant_of-self
invariant_of-self c = elim c.match-self.branch [
  | in-Some w ↦
      let before = w.deref_mut.result.now in
      let own : IsUncounted before = subst IsUncounted (sym w.deref_mut.ensures.value) (subst AreUncounted w.in-Some.is c.self.invariant) in
      let stays : Thing → Bool = λ x. not (goes_back c.args.gone.now x) in
      let is = ap (λ (t : Table). t.entries) w.give_back.ensures ∙ kept before.entries own stays in
      rw w.self-inside-is (again w.give_back.new.self.entries (m.retain_keys (rows_in before.entries) stays) is)
  | in-None w ↦ rw w.self-inside-is c.self.invariant
]

pub returns-clause-rows : goal.returns-clause-rows
returns-clause-rows c =
    let stays : Thing → Bool = λ x. not (goes_back c.args.gone.now x) in
    let start : (known_in c.self.inside.held).rows ≡ c.args.self.now.rows = ap (λ (k : KnownRows). k.rows) c.self.view_is in
    elim c.match-self.branch [
      | in-Some w ↦
          let before = w.deref_mut.result.now in
          let own : IsUncounted before = subst IsUncounted (sym w.deref_mut.ensures.value) (subst AreUncounted w.in-Some.is c.self.invariant) in
          let is = ap (λ (t : Table). t.entries) w.give_back.ensures ∙ kept before.entries own stays in
          let rows : rows_in before.entries ≡ c.args.self.now.rows = ap (λ (t : Table). (known_by t).rows) w.deref_mut.ensures.value ∙ ap (λ o. (known_in o).rows) (sym w.in-Some.is) ∙ start in
          rw w.self-inside-is (rows_are w.give_back.new.self.entries (m.retain_keys (rows_in before.entries) stays) is ∙ ap (λ r. m.retain_keys r stays) rows)
      | in-None w ↦ rw w.self-inside-is (start ∙ none_kept c.args.self.now.rows (sym start ∙ ap (λ o. (known_in o).rows) w.in-None.is) stays)
    ]

pub returns-clause-blocks : goal.returns-clause-blocks
returns-clause-blocks c =
    let stays : Thing → Bool = λ x. not (goes_back c.args.gone.now x) in
    let start : (known_in c.self.inside.held).blocks ≡ c.args.self.now.blocks = ap (λ (k : KnownRows). k.blocks) c.self.view_is in
    elim c.match-self.branch [
      | in-Some w ↦
          let before = w.deref_mut.result.now in
          let blocks : before.blocks ≡ c.args.self.now.blocks = ap (λ (t : Table). t.blocks) w.deref_mut.ensures.value ∙ ap (λ o. (known_in o).blocks) (sym w.in-Some.is) ∙ start in
          rw w.self-inside-is (ap (λ (t : Table). t.blocks) w.give_back.ensures ∙ ap (λ b. m.retain_keys b stays) blocks)
      | in-None w ↦ rw w.self-inside-is (start ∙ none_kept c.args.self.now.blocks (sym start ∙ ap (λ o. (known_in o).blocks) w.in-None.is) stays)
    ]
