-- Blocks over whole books.
use Rattle.std.proofs.Common.{◌≡◌, Bool, true, false, List, [], ◌∷◌, ◌++◌, length, slice_get, Option, Some, None, refl, sym, ap, subst, ◌∙◌}
use Rattle.std.proofs.lemmas.List.{length-replicate}
use Rattle.orca_names.specs.declared.names.ObjName.{ObjName}
use Rattle.orca_names.specs.declared.names.Thing.TheVariants.{Obj}
use Rattle.event_rule.specs.Runs.{Goes, Leads}
use Rattle.event_rule.specs.declared.event.Event.{Event}
use Rattle.machine_rules.specs.Left.{IsLeft}
use Rattle.machine_rules.specs.Next.{next}
use Rattle.machine_rules.specs.State.{State, first_state}
use Rattle.count_laws.proofs.gone.Staying.{gone_stays, names_stay}
use Rattle.count_laws.specs.Gone.{HasName}
use Rattle.machine_laws.proofs.WholeRuns.{never_early}
use Rattle.block_table.specs.Blocks.{Blocks}
use Rattle.row_laws.specs.Blocks.{LeadsWithBlocks, blocks_after, is_left}
use Rattle.row_laws.specs.Laws.{HasBlocks, LeftKeepsBlock, NamedKeepsBlock, RowRunsAreRuns}
use Rattle.row_laws.proofs.Keeping.{blocks_stay, left_from, left_to, starts_free}

leads : (book : List Event) (s t : State) (b l : Blocks) → LeadsWithBlocks s b book t l → Leads next s book t
leads [] s t b l z = z.0
leads (e ∷ book) s t b l (u, goes, room, more) = (u, goes, leads book u t (blocks_after s e u b) l more)

keeps : (book : List Event) (s t : State) (b l : Blocks) → HasBlocks s b → LeadsWithBlocks s b book t l
    → HasBlocks t l × (length l ≡ length b)
keeps [] s t b l has z = (
  subst (λ u. HasBlocks u l) z.0 (subst (HasBlocks s) z.1 has),
  ap (λ (x : Blocks). length x) (sym z.1),
)
keeps (e ∷ book) s t b l has (u, goes, room, more) =
    let k = blocks_stay s u e b goes room has in
    let z = keeps book u t (blocks_after s e u b) l k.has more in (z.0, z.1 ∙ k.size)

pub row_runs_are_runs : RowRunsAreRuns
row_runs_are_runs program options count book t blocks run =
    let z = keeps book _ t _ blocks (starts_free program options count) run in record {
      run = leads book _ t _ blocks run;
      has = z.0;
      size = z.1 ∙ length-replicate {A = Option ObjName} count None;
    }

pub left_keeps_block : LeftKeepsBlock
left_keeps_block s t [] b l has z k n at left = subst (λ (x : Blocks). slice_get x k ≡ Some (Some n)) z.1 at
left_keeps_block s t (e ∷ book) b l has (u, goes, room, more) k n at left =
    let kept = blocks_stay s u e b goes room has in
    stays_left s u t e book (is_left u.actors n) refl goes (has.named n (has.are.left k n at)) (leads book u t (blocks_after s e u b) l more) left
    (λ there. left_keeps_block u t book (blocks_after s e u b) l kept.has more k n (kept.same k n at (left_from u.actors n there)) left)
  where
    -- it was left in between, since what is gone stays gone
    stays_left : {X : Type 0} (s u t : State) (e : Event) (book : List Event) (x : Bool) → is_left u.actors n ≡ x → next s e ≡ Goes u
        → HasName s.actors (Obj n) → Leads next u book t → IsLeft t.actors (Obj n) → (is_left u.actors n ≡ true → X) → X
    stays_left s u t e book true is goes named later left then = then is
    stays_left s u t e book false is goes named later left then =
        let given = names_stay (e ∷ []) s u (u, goes, refl) (Obj n) named in
        let gone = gone_stays book u t later (Obj n) (given, λ there. (let f : false ≡ true = sym is ∙ left_to u.actors n there in cc)) in
        absurd (gone.1 left)

-- one book after another
leads_on : (book more : List Event) (s u t : State) → Leads next s book u → Leads next u more t → Leads next s (book ++ more) t
leads_on [] more s u t same later = subst (λ (v : State). Leads next v more t) (sym same) later
leads_on (e ∷ book) more s u t (v, goes, rest) later = (v, goes, leads_on book more v u t rest later)

-- what is named is left, as after every run
pub named_keeps_block : NamedKeepsBlock
named_keeps_block program options heavy count book more s t blocks later run on k a n c mail at present named =
    let ends = row_runs_are_runs program options count book s blocks run in
    let whole = leads_on book more (first_state program options) s t ends.run (leads more s t blocks later on) in
    let early = never_early program options heavy (book ++ more) t whole in
    left_keeps_block s t more blocks later ends.has on k n at (early.named a c mail present (Obj n) named)
