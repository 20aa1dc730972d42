use Rattle.std.proofs.Common.{◌≡◌, ◌≤◌, ℕ, true, List, ◌++◌, IsSome, length, refl, ap, subst, sym, ◌∙◌, arith}
use Rattle.std.specs.FinMap.{get}
use Rattle.std.specs.Global.{Vec}
use Rattle.std.proofs.lemmas.List.{length-map}
use Rattle.orca_names.specs.declared.names.Thing.TheVariants.{Actor}
use Rattle.orca_names.specs.declared.options.Options.{Options}
use Rattle.block_table.specs.Blocks.{Blocks}
use Rattle.orca_parts.specs.Blocks.{AreKept, is_mint}
use Rattle.event_rule.specs.Runs.{Goes}
use Rattle.event_rule.specs.declared.event.Event.TheVariants.{Go}
use Rattle.letter_kinds.specs.Load.{as_load}
use Rattle.letter_kinds.specs.Telling.{TellsOnly, Told, made_in}
use Rattle.turn_rules.specs.Segment.{Turn}
use Rattle.actor_cell.specs.Cells.{as_cell}
use Rattle.actor_cell.specs.Moves.{Move, act_in, move_of}
use Rattle.actor_cell.specs.Tells.{PutsAll, told_out}
use Rattle.actor_cell.specs.declared.turning.Turned.{Turned}
use Rattle.actor_table.specs.Changes.{changed_at, moved, named, with_cell_by}
use Rattle.actor_table.specs.Slots.{Table, actors_of, away_of, seat_of, slot_at}
use Rattle.actor_table.specs.declared.slot.Place.TheVariants.{Home}
use Rattle.actor_table.specs.Telling.{TableLies, TableTells}
use Rattle.actor_table.proofs.Changing.{home_within}
use Rattle.actor_table.proofs.Naming.{can_hold}
use Rattle.orca_parts.specs.Goes.{given}
use Rattle.orca_parts.specs.Away.{is_out}
use Rattle.orca_parts.specs.Awaiting.{AwaitedIn}
use Rattle.orca_parts.specs.Core.{core_state}
use Rattle.orca_parts.specs.Ready.{made_by}
use Rattle.orca_parts.specs.Parts.{state_of}
use Rattle.orca_parts.specs.declared.insides.Core.{Core}
use Rattle.orca_parts.specs.declared.parts.Parts.{Parts}
use Rattle.orca_parts.proofs.Awaiting.{mint_awaits}
use Rattle.orca_parts.proofs.Giving.{seat_here}
use Rattle.orca_parts.proofs.Gone.{fits_limit, go_goes}
use Rattle.orca_parts.proofs.Loaded.{found_given}
use Rattle.orca_parts.proofs.Placed.{after_turn, counts_still, goes_still, placed_after, placed_state, still_holds, tells_both}
use Rattle.orca_parts.proofs.Waking.{woken_changed}
use Rattle.orca_parts.proofs.goes.apply_go.Goals as goal

pub place_made-requires : goal.place_made-requires
place_made-requires g c =
    let core = c.args.m.now in
    let m = core.parts in
    let fits = c.requires.fits in
    let allow = c.requires.can fits.cell fits.home in
    record {
      made = record {
        cell = fits.cell;
        home = fits.home;
        serials = omega (arith, fits.few, allow.serials);
        loads = λ some. found_given core.options core.code.now c.args.a (as_cell fits.cell) fits.frame m.turn m.turned (c.requires.blocks.deep some) fits.found_is;
      };
      room = c.requires.places;
      put = c.requires.put;
    }

pub change-requires : goal.change-requires
change-requires g c =
    let core = c.args.m.now in
    let m = core.parts in
    let n = c.place_made.new.m in
    let p = n.parts in
    let places = c.place_made.ensures.places in
    let fits = goes_still core.options core.code.now c.args.a m p _ _ places c.requires.fits in
    let home : (slot_at m.table.slots c.args.a).place ≡ Home fits.cell =
    ap (λ (x : Parts). (slot_at x.table.slots c.args.a).place) (sym places.same) ∙ fits.home in
    let allow = counts_still c.args.a m p _ _ fits.cell places (c.requires.can fits.cell home) in
    let options : core.options ≡ n.options = ap (λ (x : Core). x.options) (sym c.place_made.ensures.same) in
    record {
      cell = fits.cell;
      home = fits.home;
      so = record {
        running = subst IsSome (sym fits.framed) refl;
        can = allow.can;
        objects = fits.objects;
        entries = fits.entries;
        serials = omega (arith, fits.few, allow.serials);
        fits = λ _. can_hold fits.cell.foreign c.next_name.result n.options.weight
            (ap (λ k. get fits.cell.foreign.entries (Actor k)) c.next_name.ensures ∙ allow.unnamed)
            (subst (λ (o : Options). o.weight ≤ 65536) options c.requires.light);
      };
    }

pub returns : goal.returns
returns g c =
    let core = c.args.m.now in
    let options = core.options in
    let weight = options.weight in
    let program = core.code.now in
    let m = core.parts in
    let n = c.place_made.new.m in
    let p = n.parts in
    let places = c.place_made.ensures.places in
    let same : record core { parts = p } ≡ n = sym c.place_made.ensures.same in
    let fits = c.requires.fits in
    let slots = m.table.slots in
    let a = c.args.a in
    let s = core_state core in
    let cell = as_cell fits.cell in
    let mail = (slot_at slots a).mail.letters in
    let here = seat_here slots a fits.cell fits.home in
    let t = m.turned in
    let table : p.table ≡ m.table = ap (λ (x : Parts). x.table) places.same in
    let turn : p.turn ≡ m.turn = ap (λ (x : Parts). x.turn) places.same in
    let name : c.next_name.result ≡ length s.actors = c.next_name.ensures ∙ ap (λ (x : Table). length x.slots) table ∙ sym (length-map slots seat_of) in
    let after : after_turn weight a m (length s.actors) ≡ actors_of c.change.new.self.slots =
    sym (placed_after weight a m p _ _ places (length s.actors)) ∙ ap (after_turn weight a p) (sym name)
    ∙ ap (λ (x : Core). after_turn x.options.weight a p c.next_name.result) same ∙ sym c.change.ensures.actors in
    let gives = c.give_out.ensures in
    let new = c.give_out.new.parts in
    let table_then = c.change.new.self in
    let home = ap (λ (x : Table). (slot_at x.slots a).place) table ∙ fits.home in
    let made = made_by (Go a) m p.placed.items in
    let fc = fits.cell in
    let changed = subst (λ l. TellsOnly (TableTells slots) l (TableTells c.change.new.self.slots)) (places.made fc fits.home)
    (subst (λ (x : Table × (Turn × List ℕ)). TellsOnly (TableTells x.0.slots) (made_in fc.heap.owner fc.heap.next x.1.0.made x.1.1) (TableTells c.change.new.self.slots))
    (λ i. (table i, (turn i, c.as_slice.ensures.value i))) (c.change.ensures.told fc home)) in
    let told = tells_both (TableTells slots) (TableTells c.change.new.self.slots) (TableTells new.table.slots) made (told_out t) (told_out p.turned) changed gives.told places.told in
    let kept_blocks : new.blocks ≡ p.blocks = gives.blocks.0 in
    let kept_placed : new.placed.items ≡ p.placed.items = ap (λ (v : Vec ℕ). v.items) gives.blocks.1 in
    let by = made_by (Go a) m in
    record {
      applies = record {
        state = go_goes s a cell mail fits.frame m.turn t.place (act_in t)
            (record { present = here; framed = fits.framed; found = fits.found_is })
            (fits_limit (act_in t) m fits.room)
            ∙ ap Goes ((λ i. given weight program (sym places.act i) (length (sym turn i).made) (record s { actors = after i }))
            ∙ ap (given weight program (act_in p.turned) (length p.turn.made)) (sym (placed_state program options a m p _ _ places table_then))
            ∙ ap (λ (x : Core). given x.options.weight x.code.now (act_in p.turned) (length p.turn.made)
            (state_of x.code.now x.options (record p { table = table_then }))) same
            ∙ sym (gives.state n.options));
        alike = record { code = ap (λ (x : Core). x.code) (sym same); options = ap (λ (x : Core). x.options) (sym same) };
        away = λ b. gives.away b ∙ ap (λ bs. is_out bs b) c.change.ensures.rest.away ∙ ap (λ (x : Table). is_out (away_of x.slots) b) table;
        told = subst (λ l. TellsOnly (TableTells slots) (told_out t ++ by l) (TableTells new.table.slots)) (sym kept_placed) told;
        lie = λ some lies. gives.lie (c.change.ensures.lie
            (subst (λ (x : Turn × (Move × List ℕ)). PutsAll x.0.made x.1.0 x.1.1) (λ i. (sym turn i, (sym places.act i, sym c.as_slice.ensures.value i))) (places.puts some))
            (subst (λ (x : Table). TableLies x.slots) (sym table) lies));
        blocks = kept_blocks ∙ places.blocks;
        woken = woken_changed (λ x. named weight (length s.actors) (act_in t) (moved a m.turn t.place (act_in t) x)) a (actors_of slots)
            (actors_of c.change.new.self.slots) (actors_of new.table.slots) c.give_out.result (sym after) gives.woken;
        stands = λ well on. gives.awaited n.options.trace (λ owner mints.
            let minted : is_mint (act_in t) ≡ true = ap is_mint (sym places.act) ∙ ap (λ d. is_mint (move_of d p.turned.args (as_load p.turned.load) (as_load p.turned.rows) p.turned.things)) mints in
            let kept : p.turned ≡ t = places.minted minted in
            let its = ap (λ d. move_of d t.args (as_load t.load) (as_load t.rows) t.things) (ap (λ (x : Turned). x.doing) (sym kept) ∙ mints) in
            let went = ap (λ does. changed_at (with_cell_by (λ x. named weight (length s.actors) does (moved a m.turn t.place does x))) a (actors_of slots)) (sym its) ∙ after in
            subst (λ (x : Core). AwaitedIn x.options.trace x.code.now p.turn p.turned (actors_of c.change.new.self.slots)) same
            (subst (λ (x : Turn × Turned). AwaitedIn options.trace program x.0 x.1 (actors_of c.change.new.self.slots)) (λ i. (sym turn i, sym kept i))
            (subst (AwaitedIn options.trace program m.turn t) went
            (mint_awaits options.trace program m.turn t a cell mail t.place owner t.things (actors_of slots)
            here (omega (arith, home_within slots a fits.cell fits.home, length-map slots seat_of)) (well (ap (λ (x : Core). x.stands) same ∙ on))))));
      };
      lies = record {
        holds = still_holds (TableTells slots) (TableTells new.table.slots) (told_out t) made m.blocks p.blocks _ _
            c.requires.blocks.kept c.requires.hold c.requires.places.kept c.requires.found places.others places.holds told;
        made = subst (λ (x : Blocks × List ℕ). AreKept x.0 (Told (by x.1))) (λ i. (sym kept_blocks i, sym kept_placed i)) places.kept;
      };
      places = c.place_made.ensures.words;
      beside = c.place_made.ensures.beside;
    }
