-- The blocks after an event are those that the definitions say.
use Rattle.std.proofs.Common.{◌≡◌, ◌==◌, ◌-◌, ℕ, suc, Bool, true, false, eq-eqb, ne_eqb, [], ◌∷◌, length, map, slice_get, None, Some, ⊎_elim, refl, sym, ap, subst, ◌∙◌}
use Rattle.std.specs.Prelude.{◌&&◌, if◌then◌else◌, not}
use Rattle.std.specs.Option.{option_map_or}
use Rattle.std.proofs.lemmas.Bool.{cases_eq}
use Rattle.orca_names.specs.declared.names.ObjName.{ObjName}
use Rattle.orca_names.specs.declared.names.Thing.TheVariants.{Obj}
use Rattle.event_rule.specs.Runs.{Goes}
use Rattle.event_rule.specs.declared.event.Event.{Event}
use Rattle.event_rule.specs.declared.event.Event.TheVariants.{Take, Go, Collect, Leave, Block, Hear, Scan, Reap}
use Rattle.block_table.specs.Blocks.{Blocks, fill, names_from}
use Rattle.row_blocks.specs.Blocks.{is_one_of, without}
use Rattle.letter_kinds.specs.Detector.{Token, has}
use Rattle.letter_kinds.specs.Holdings.{has_own}
use Rattle.letter_kinds.specs.Counting.{sweep}
use Rattle.machine_rules.specs.Actors.{Actors, Seat, seat_at}
use Rattle.machine_rules.specs.Collect.{is_marked}
use Rattle.machine_rules.specs.Left.{IsLeft}
use Rattle.machine_rules.specs.Next.{next}
use Rattle.machine_rules.specs.State.{State}
use Rattle.row_laws.specs.Blocks.{blocks_after, is_freed_by, is_left, is_swept, kept_of, made_by, next_at}
use Rattle.row_laws.specs.Laws.{FreesExactly}
use Rattle.row_laws.proofs.Keeping.{left_from, left_to}
use Rattle.actor_cell.specs.declared.cell.Cell.{Cell}
use Rattle.actor_cell.specs.Cells.{as_cell}
use Rattle.actor_cell.specs.Moves.{act_in}
use Rattle.actor_table.specs.Slots.{slot_at}
use Rattle.orca_parts.specs.Blocks.{blocks_by, next_serial, rows_kept}
use Rattle.orca_parts.specs.Core.{core_state}
use Rattle.orca_parts.specs.Ready.{FitsEvent}
use Rattle.orca_parts.specs.declared.insides.Core.{Core}
use Rattle.orca_parts.proofs.Giving.{seat_here}
use Rattle.actor_table.specs.declared.slot.Place.TheVariants.{Home}
use Rattle.actor_cell.specs.declared.sweeping.Sweep.{Sweep}
use Rattle.local_sweep.specs.Plan.{free_of}
use Rattle.orca_parts.proofs.Lacking.{goes_objects}
use Rattle.orca_parts.proofs.Owned.{without_none}
use Rattle.orca_parts.proofs.Placed.{home_next}
use Rattle.orca_parts.proofs.Swept.{freed_is_swept, others_stay}

-- ---- who keeps a block

-- what is left keeps its block just where it does not go
kept_stays : (t : Actors) (gone : ObjName → Bool) (blocks : Blocks) → ((k : ℕ) (n : ObjName) → slice_get blocks k ≡ Some (Some n) → is_left t n ≡ not (gone n))
    → map (kept_of t) blocks ≡ without gone blocks
kept_stays t gone [] same = refl
kept_stays t gone (None ∷ blocks) same = ap (λ later. None ∷ later) (kept_stays t gone blocks (λ k. same (suc k)))
kept_stays t gone (Some n ∷ blocks) same = λ i. one (gone n) (is_left t n) (same 0 n refl) i ∷ kept_stays t gone blocks (λ k. same (suc k)) i
  where
    one : (goes left : Bool) → left ≡ not goes → (if left then Some n else None) ≡ (if goes then None else Some n)
    one true left is = ap (λ (b : Bool). if b then Some n else None) is
    one false left is = ap (λ (b : Bool). if b then Some n else None) is

-- an event leaves what was left just where it does not free it
left_is : (s t : State) (e : Event) → FreesExactly s t e → (n : ObjName) → IsLeft s.actors (Obj n) → is_left t.actors n ≡ not (is_freed_by s e n)
left_is s t e frees n left = by (is_freed_by s e n) refl (is_left t.actors n) refl
  where
    by : (goes : Bool) → is_freed_by s e n ≡ goes → (there : Bool) → is_left t.actors n ≡ there → there ≡ not goes
    by true is true its = absurd (frees.goes n is (left_from t.actors n its))
    by true is false its = refl
    by false is there its = sym its ∙ left_to t.actors n (frees.stays n left is)

none_made : (blocks : Blocks) → blocks ≡ fill [] blocks
unfolding fill
none_made blocks = refl

-- where what was left goes just where the event frees it, and the event makes nothing, the blocks are those of
-- what does not go
by_freed : (s t : State) (e : Event) (gone : ObjName → Bool) (blocks : Blocks) → made_by s e t ≡ [] → FreesExactly s t e
    → ((k : ℕ) (n : ObjName) → slice_get blocks k ≡ Some (Some n) → IsLeft s.actors (Obj n))
    → ((n : ObjName) → IsLeft s.actors (Obj n) → gone n ≡ is_freed_by s e n) → without gone blocks ≡ blocks_after s e t blocks
by_freed s t e gone blocks none frees left same =
    sym (kept_stays t.actors gone blocks (λ k n has. left_is s t e frees n (left k n has) ∙ ap not (sym (same n (left k n has)))))
    ∙ none_made (map (kept_of t.actors) blocks) ∙ ap (λ ns. fill ns (map (kept_of t.actors) blocks)) (sym none)

-- so they stay where it frees nothing
by_none : (s t : State) (e : Event) (blocks : Blocks) → made_by s e t ≡ [] → FreesExactly s t e
    → ((k : ℕ) (n : ObjName) → slice_get blocks k ≡ Some (Some n) → IsLeft s.actors (Obj n))
    → ((n : ObjName) → is_freed_by s e n ≡ false) → blocks ≡ blocks_after s e t blocks
by_none s t e blocks none frees left stays =
    sym (without_none (λ n. false) blocks (λ n. refl)) ∙ by_freed s t e (λ n. false) blocks none frees left (λ n here. sym (stays n))

-- ---- each event

-- a go makes as many objects as it keeps rows, and frees nothing
go_after : (m : Core) (a : ℕ) (t : State) → FitsEvent m.options m.code.now (Go a) m.parts → next (core_state m) (Go a) ≡ Goes t → FreesExactly (core_state m) t (Go a)
    → ((k : ℕ) (n : ObjName) → slice_get m.parts.blocks k ≡ Some (Some n) → IsLeft (core_state m).actors (Obj n))
    → blocks_by (Go a) m.parts ≡ blocks_after (core_state m) (Go a) t m.parts.blocks
go_after m a t fits goes frees left =
    let s = core_state m in
    let fit = fits.0 in
    let act = act_in m.parts.turned in
    let here = seat_here m.parts.table.slots a fit.cell fit.home in
    let serial : next_serial (slot_at m.parts.table.slots a) ≡ next_at s.actors a =
    home_next m.parts.table.slots a fit.cell fit.home ∙ sym (ap (λ o. option_map_or (λ (x : Seat). x.cell.holdings.next) o 0) here) in
    let count : length (rows_kept act m.parts.turn) ≡ t.objects - s.objects = goes_objects m a t fit goes in
    let stay = kept_stays t.actors (λ n. false) m.parts.blocks (λ k n has. left_is s t (Go a) frees n (left k n has)) in
    (λ i. fill (names_from a (serial i) (count i)) m.parts.blocks)
    ∙ ap (fill (names_from a (next_at s.actors a) (t.objects - s.objects))) (sym (stay ∙ without_none (λ n. false) m.parts.blocks (λ n. refl)))

-- what a collection frees is what its plan does
collect_frees : (m : Core) (a : ℕ) → FitsEvent m.options m.code.now (Collect a) m.parts → ((c : Cell) → (slot_at m.parts.table.slots a).place ≡ Home c → c.heap.owner ≡ a)
    → (n : ObjName) → IsLeft (core_state m).actors (Obj n) → is_one_of m.parts.sweep.plan.free n ≡ is_freed_by (core_state m) (Collect a) n
collect_frees m a fits owned n left =
    let cell = fits.acts.cell in
    let its = owned cell fits.acts.home in
    let actors = (core_state m).actors in
    let here = seat_here m.parts.table.slots a cell fits.acts.home in
    let trace = m.options.trace in
    let marked = is_marked trace a (as_cell cell) in
    let free : m.parts.sweep.plan.free ≡ free_of marked cell.heap =
    ap (λ (f : Sweep). f.plan.free) fits.acts.so.found_is ∙ ap (λ b. free_of (is_marked trace b (as_cell cell)) cell.heap) its in
    let swept : is_swept trace actors a n ≡ not (has_own (sweep marked a (as_cell cell).holdings) (Obj n)) =
    ap (λ o. option_map_or (λ (x : Seat). not (has_own (sweep (is_marked trace a x.cell) a x.cell.holdings) (Obj n))) o false) here in
    ap (λ ns. is_one_of ns n) free ∙ ⊎_elim
    (λ mine.
    let there : has_own (as_cell cell).holdings (Obj n) ≡ true =
    let seat = sym left.present ∙ ap (λ b. seat_at actors b) mine ∙ here in
    subst (λ (x : Seat). has_own x.cell.holdings (Obj n) ≡ true) (ap (λ o. option_map_or (λ (x : Seat). x) o left.seat) seat) left.kept in
    freed_is_swept marked cell.heap cell.count cell.foreign n (mine ∙ sym its) there
    ∙ ap (λ b. not (has_own (sweep marked b (as_cell cell).holdings) (Obj n))) its ∙ sym swept
    ∙ ap (λ t. t && is_swept trace actors a n) (sym (eq-eqb n.owner a mine)))
    (λ other. others_stay marked cell.heap n (λ same. other (same ∙ its)) ∙ ap (λ t. t && is_swept trace actors a n) (sym (ne_eqb n.owner a other)))
    (cases_eq n.owner a)

-- the blocks after an event that fits
pub after_is : (m : Core) (e : Event) (t : State) → FitsEvent m.options m.code.now e m.parts → next (core_state m) e ≡ Goes t → FreesExactly (core_state m) t e
    → ((k : ℕ) (n : ObjName) → slice_get m.parts.blocks k ≡ Some (Some n) → IsLeft (core_state m).actors (Obj n))
    → ((a : ℕ) (c : Cell) → (slot_at m.parts.table.slots a).place ≡ Home c → c.heap.owner ≡ a)
    → blocks_by e m.parts ≡ blocks_after (core_state m) e t m.parts.blocks
after_is m (Take a) t fits goes frees left owned = by_none (core_state m) t (Take a) m.parts.blocks refl frees left (λ n. refl)
after_is m (Go a) t fits goes frees left owned = go_after m a t fits goes frees left
after_is m (Collect a) t fits goes frees left owned =
    by_freed (core_state m) t (Collect a) (is_one_of m.parts.sweep.plan.free) m.parts.blocks refl frees left (collect_frees m a fits (owned a))
after_is m (Leave a) t fits goes frees left owned = by_freed (core_state m) t (Leave a) (λ n. n.owner == a) m.parts.blocks refl frees left (λ n here. refl)
after_is m (Block a) t fits goes frees left owned = by_none (core_state m) t (Block a) m.parts.blocks refl frees left (λ n. refl)
after_is m Hear t fits goes frees left owned = by_none (core_state m) t Hear m.parts.blocks refl frees left (λ n. refl)
after_is m Scan t fits goes frees left owned = by_none (core_state m) t Scan m.parts.blocks refl frees left (λ n. refl)
after_is m (Reap number) t fits goes frees left owned =
    by_freed (core_state m) t (Reap number) (λ n. has m.parts.members.items n.owner) m.parts.blocks refl frees left (λ n here.
    sym (ap (λ o. option_map_or (λ (x : Token). has x.members n.owner) o false) fits.acked ∙ ap (λ ms. has ms n.owner) fits.its))
