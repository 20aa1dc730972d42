-- One worker goes on by an event, and where it cannot, the run ends.
use Rattle.std.proofs.Common.{◌≡◌, ◌+◌, ◌++◌, List, [], ◌∷◌, length, length-append, append_assoc, refl, sym, ap, subst, ◌∙◌, arith}
use Rattle.event_rule.specs.Runs.{Goes, IsFirst, LeadsInOrder}
use Rattle.event_rule.specs.declared.event.Event.{Event}
use Rattle.block_table.specs.Blocks.{Blocks}
use Rattle.machine_rules.specs.Next.{next}
use Rattle.machine_rules.specs.Run.{IsRun}
use Rattle.machine_rules.specs.State.{State}
use Rattle.row_laws.specs.Blocks.{Fits, LeadsWithBlocks, blocks_after}
use Rattle.cell_laws.proofs.Keeping.{runs_keep_program}
use Rattle.orca_core.specs.Laws.{IsRunOf}
use Rattle.orca_core.specs.Machine.{HasRoomFor, Machine}
use Rattle.orca_core.proofs.Reached.{leads_more}
use Rattle.quiet_pass.specs.Ends.{GoesOnTo}

-- a run in the order goes on by its first event
in_order_more : (later : List Event) (s t u : State) (e : Event) → LeadsInOrder next s later t → IsFirst next t e → next t e ≡ Goes u → LeadsInOrder next s (later ++ e ∷ []) u
in_order_more [] s t u e same first goes = let P : State → Type 0 = λ v. LeadsInOrder next v (e ∷ []) u in subst P (sym same) (first, (u, goes, refl))
in_order_more (f ∷ later) s t u e (one, (v, went, leads)) first goes = (one, (v, went, in_order_more later v t u e leads first goes))

-- so does one with blocks, where there are enough of them
with_blocks_more : (later : List Event) (s t u : State) (first mid last : Blocks) (e : Event) → LeadsWithBlocks s first later t mid → next t e ≡ Goes u → Fits t e u mid
    → last ≡ blocks_after t e u mid → LeadsWithBlocks s first (later ++ e ∷ []) u last
with_blocks_more [] s t u first mid last e (same, is) goes fits after =
    subst (λ (x : State × Blocks). LeadsWithBlocks x.0 x.1 (e ∷ []) u last) (λ i. (sym same i, sym is i)) (u, goes, fits, (refl, sym after))
with_blocks_more (f ∷ later) s t u first mid last e (v, went, fit, leads) goes fits after =
    (v, went, fit, with_blocks_more later v t u (blocks_after s f v first) mid last e leads goes fits after)

-- so what was added to the book leads on
pub goes_on : (m n k : Machine) (book longer entered : List Event) (e : Event) → GoesOnTo m book n longer → IsFirst next n.state e → next n.state e ≡ Goes k.state
    → length n.blocks ≡ length m.blocks → HasRoomFor n.state e k.state n.blocks → k.blocks ≡ blocks_after n.state e k.state n.blocks → entered ≡ longer ++ e ∷ []
    → GoesOnTo m book k entered
goes_on m n k book longer entered e on first goes size room after entry = record {
  later = on.later ++ e ∷ [];
  added = entry ∙ ap (λ xs. xs ++ e ∷ []) on.added ∙ append_assoc book on.later (e ∷ []);
  leads = in_order_more on.later m.state n.state k.state e on.leads first goes;
  blocks = λ some. with_blocks_more on.later m.state n.state k.state m.blocks n.blocks k.blocks e (on.blocks some) goes (room (omega (arith, some, size))) after;
}

-- and the whole book is a run of the program still, under the same options
pub record IsLonger (m : Machine) (longer : List Event) (n : Machine) : Type 0 where
  pub run : IsRunOf n longer
  pub program : n.state.program ≡ m.state.program
  pub options : n.state.options ≡ m.state.options

pub runs_on : (m n : Machine) (book longer : List Event) (e : Event) → IsRunOf m book → next m.state e ≡ Goes n.state → n.steps ≡ m.steps + 1 → longer ≡ book ++ e ∷ []
    → IsLonger m longer n
runs_on m n book longer e run goes steps entry =
    let more : IsRun m.state.program m.state.options longer n.state =
    subst (λ xs. IsRun m.state.program m.state.options xs n.state) (sym entry) (leads_more book _ m.state n.state e run.run goes) in
    let same = runs_keep_program m.state.program m.state.options longer n.state more in
    record {
      run = record {
        run = subst (λ o. IsRun n.state.program o longer n.state) (sym same.same_options)
            (subst (λ p. IsRun p m.state.options longer n.state) (sym same.same_program) more);
        long = ap length entry ∙ length-append book (e ∷ []) ∙ ap (λ k. k + 1) run.long ∙ sym steps;
      };
      program = same.same_program;
      options = same.same_options;
    }
