-- What each event makes and leaves.
use Rattle.std.proofs.Common.{◌≡◌, ℕ, suc, ◌+◌, ◌-◌, true, false, is_some, List, [], ◌∷◌, length, set, None, refl, sym, ap, subst, ◌∙◌, arith}
use Rattle.std.specs.FinMap as m
use Rattle.std.specs.Option.{option_map_or}
use Rattle.std.specs.Ordering.{nat_cmp}
use Rattle.orca_names.specs.declared.names.ObjName.{ObjName}
use Rattle.orca_names.specs.declared.names.Thing.TheVariants.{Actor, Obj}
use Rattle.orca_names.specs.declared.trace.Trace.{Trace}
use Rattle.behaviour_code.specs.declared.code.Program.{Program}
use Rattle.event_rule.specs.declared.event.Event.{Event}
use Rattle.letter_kinds.proofs.Counts.{has_set_held}
use Rattle.letter_kinds.specs.Counting.{Amount, by_owner, gain, given_back, mint_all, send, sweep}
use Rattle.letter_kinds.specs.Detector.{closed_set}
use Rattle.letter_kinds.specs.Holdings.{Holdings, Row, has_own, nothing_held, with_made}
use Rattle.letter_kinds.specs.Letters.{Letter, App, Inc, Dec, Confirm}
use Rattle.plain_rules.specs.Machine.{with_name}
use Rattle.machine_rules.specs.Actors.{Actors, Seat, seat, seat_at}
use Rattle.machine_rules.specs.Cell.{Cell, fresh_cell}
use Rattle.machine_rules.specs.Collect.{is_marked, without_unused}
use Rattle.machine_rules.specs.Go.{cell_after_turn, load_from, mint, rows_from, turn_of_cell}
use Rattle.machine_rules.specs.Left.{IsLeft}
use Rattle.machine_rules.specs.Rules.{IsStep, cell_kept, cell_kept_in, later_frame}
use Rattle.machine_rules.specs.Rules as rule
use Rattle.machine_rules.specs.State.{State}
use Rattle.machine_rules.specs.Take.{cell_after}
use Rattle.count_laws.specs.Gone.{HasName}
use Rattle.count_laws.proofs.balance.Sweeping.{has-sweep, same_holdings}
use Rattle.count_laws.proofs.events.Post.{next_send}
use Rattle.count_laws.proofs.events.Take.{next_held}
use Rattle.count_laws.proofs.gone.Staying.{Stays, has-lower_all, has-raise_all, stays_more, stays_push, stays_self}
use Rattle.count_laws.proofs.knowledge.Receiving.{has-receive}
use Rattle.count_laws.proofs.knowledge.Sending.{has-mint_all, has-send}
use Rattle.row_laws.specs.Blocks.{made_by, next_at}
use Rattle.block_table.specs.Blocks.{names_from}
use Rattle.block_table.proofs.Filling.{Among, Apart}
use Rattle.row_laws.proofs.Filling.{from_apart}
use Rattle.row_laws.proofs.Moving.{Comes, None_comes, Remains, asked_come, comes_none, comes_then, decs_come, more_comes, more_remains, push_comes, push_remains, reaped_come, same_cell, turn_comes, turn_made, turn_names, turn_new}

-- what an event leaves and makes, which these are
pub record Moves (s t : Actors) (ns : List ObjName) : Type 0 where
  pub comes : Comes ns s t
  pub made : (n : ObjName) → Among ns n → IsLeft t (Obj n)
  pub names : (n : ObjName) → Among ns n → HasName t (Obj n)
  pub new : (n : ObjName) → Among ns n → HasName s (Obj n) → ⊥
  pub apart : Apart ns

none_of : (n : ObjName) → Among [] n → ⊥
none_of n (i, e) = cc

makes_none : (s t : Actors) → None_comes s t → Moves s t []
makes_none s t h = record {
  comes = comes_none [] s t h;
  made = λ n came. absurd (none_of n came);
  names = λ n came. absurd (none_of n came);
  new = λ n came. absurd (none_of n came);
  apart = λ i j n e f. absurd (none_of n (i, e));
}

-- ---- a turn that is kept

module _ (s : State) (a : ℕ) (c d : Cell) (mail : List Letter) (made : List Row) (at : seat_at s.actors a ≡ seat c mail)
    (next : d.holdings.next ≡ c.holdings.next + length made)
    (has : (n : ObjName) → has_own d.holdings (Obj n) ≡ has_own (with_made made c.holdings) (Obj n)) where
  -- what comes of it later: nothing goes or comes, and names stay
  turn_moves : (t : Actors) → None_comes (set s.actors a (seat d mail)) t → Remains (set s.actors a (seat d mail)) t
      → Stays (set s.actors a (seat d mail)) t → Moves s.actors t (names_from a c.holdings.next (length made))
  turn_moves t comes remains stays =
      let mid = set s.actors a (seat d mail) in record {
        comes = comes_then _ s.actors mid t (turn_comes s.actors a c d mail made at next has) comes;
        made = λ n came. remains n (turn_made s.actors a c d mail made at next has n came);
        names = λ n came. (stays (Obj n) (turn_names s.actors a c d mail made at next has n came)).0;
        new = λ n came named. turn_new s.actors a c d mail made at next has n came named;
        apart = from_apart a c.holdings.next (length made);
      }

  -- as the event tells them
  told : (objects : ℕ) → objects ≡ s.objects + length made
      → names_from a c.holdings.next (length made) ≡ names_from a (next_at s.actors a) (objects - s.objects)
  told objects more =
      let count : length made ≡ objects - s.objects = omega arith in
      let serial : c.holdings.next ≡ next_at s.actors a = sym (ap (λ o. option_map_or (λ (x : Seat). x.cell.holdings.next) o 0) at) in
      λ i. names_from a (serial i) (count i)

  pub turn_makes : (objects : ℕ) → objects ≡ s.objects + length made → (t : Actors) → None_comes (set s.actors a (seat d mail)) t
      → Remains (set s.actors a (seat d mail)) t → Stays (set s.actors a (seat d mail)) t
      → Moves s.actors t (names_from a (next_at s.actors a) (objects - s.objects))
  turn_makes objects more t comes remains stays =
      subst (Moves s.actors t) (told objects more) (turn_moves t comes remains stays)

-- where nothing of the turn is kept
no_names : (a next objects : ℕ) → [] ≡ names_from a next (objects - objects)
unfolding names_from
no_names a next objects = let none : 0 ≡ objects - objects = omega arith in ap (names_from a next) none

mint_moves : (s : State) (a : ℕ) (c : Cell) (mail : List Letter) (at : seat_at s.actors a ≡ seat c mail) (b : ℕ) (things : List Amount)
    → Moves s.actors (mint a c mail b things s.actors) (names_from a (next_at s.actors a) (s.objects - s.objects))
mint_moves s a c mail at b things =
    let minter : Cell = record c { holdings = mint_all things c.holdings } in
    subst (Moves s.actors (mint a c mail b things s.actors)) (no_names a (next_at s.actors a) s.objects)
    (makes_none s.actors _ (λ n left. same_cell s.actors a c minter mail mail at (λ n has. sym (has-mint_all (Obj n) things c.holdings) ∙ has) n
    (push_comes (set s.actors a (seat minter mail)) b (Inc things) n left)))

taken_has : (program : Program) (a : ℕ) (l : Letter) (c : Cell) (n : ObjName)
    → has_own (cell_after program a l c).holdings (Obj n) ≡ true → has_own c.holdings (Obj n) ≡ true
taken_has program a (App behaviour args load rows) c n has = sym (has-receive a (Obj n) load c.holdings) ∙ has
taken_has program a (Inc things) c n has = sym (has-raise_all a things c.holdings (Obj n)) ∙ has
taken_has program a (Dec things) c n has = sym (has-lower_all a things c.holdings (Obj n)) ∙ has
taken_has program a (Confirm token) c n has = has

-- one that was just made has none
pub bare : (w : ℕ) (n : ObjName) → has_own (nothing_held w) (Obj n) ≡ true → ⊥
unfolding has_own
bare w n has = let z : false ≡ true = sym (ap is_some (m.get-empty nat_cmp n.serial)) ∙ has in cc

-- ---- each event

pub moves : (trace : Trace) (s : State) {e : Event} {t : State} → IsStep trace s e t → Moves s.actors t.actors (made_by s e t)
moves trace s (rule.takes a c l mail at is) =
    makes_none s.actors _ (same_cell s.actors a c (cell_after s.program a l c) (l ∷ mail) mail at (taken_has s.program a l c))
moves trace s (rule.ends a c mail f stops) =
    let stop = turn_of_cell trace s.program a c f in
    let d = cell_after_turn stop None true c in
    turn_makes s a c d mail stop.turn.made stops.going.present refl (λ n. refl) _ refl _
    (λ n left. left) (λ n left. left) (stays_self (set s.actors a (seat d mail)))
moves trace s (rule.prints a c mail f v stops) =
    let stop = turn_of_cell trace s.program a c f in
    let d = cell_kept trace s a c f in
    turn_makes s a c d mail stop.turn.made stops.going.present refl (λ n. refl) _ refl _
    (λ n left. left) (λ n left. left) (stays_self (set s.actors a (seat d mail)))
moves trace s (rule.makes a c mail f kind register stops room) =
    let stop = turn_of_cell trace s.program a c f in
    let h : Holdings = with_made stop.turn.made c.holdings in
    let fresh = fresh_cell s.options.weight s.program kind in
    let w = s.options.weight in
    let d : Cell = record (cell_kept_in trace s a c f (with_name (later_frame trace s a c f) register (length s.actors))) {
      holdings = gain w (Actor (length s.actors)) None h;
    } in
    turn_makes s a c d mail stop.turn.made stops.going.present
    (next_held (λ k. k + w) (Actor (length s.actors)) None h)
    (λ n. has_set_held (λ k. k + w) (Obj n) (Actor (length s.actors)) None h) _ refl _
    (more_comes (set s.actors a (seat d mail)) fresh [] (bare w)) (more_remains (set s.actors a (seat d mail)) (seat fresh []))
    (stays_more (set s.actors a (seat d mail)) (seat fresh []))
moves trace s (rule.posts a c mail f to behaviour args stops none) =
    let stop = turn_of_cell trace s.program a c f in
    let h : Holdings = with_made stop.turn.made c.holdings in
    let load = load_from trace a (cell_kept trace s a c f).holdings args in
    let rows = rows_from trace a (cell_kept trace s a c f) args in
    let d : Cell = record (cell_kept trace s a c f) { holdings = send a load h } in
    turn_makes s a c d mail stop.turn.made stops.going.present (next_send a load h) (λ n. has-send a (Obj n) load h) _ refl _
    (push_comes (set s.actors a (seat d mail)) to (App behaviour args load rows))
    (push_remains (set s.actors a (seat d mail)) to (App behaviour args load rows))
    (stays_push (set s.actors a (seat d mail)) to (App behaviour args load rows))
moves trace s (rule.mints a c mail f to behaviour args e lacked stops is) = mint_moves s a c mail stops.going.present _ _
moves trace s (rule.gets a c mail f x going need) = mint_moves s a c mail going.present _ _
moves trace s (rule.collects a c mail at may) =
    let marked = is_marked trace a c in
    let d = without_unused trace a c in
    let swept : Cell = record d { holdings = sweep marked a d.holdings; dirty = false } in
    makes_none s.actors _ (λ n left. same_cell s.actors a c swept mail mail at
    (λ n has. subst (λ (h : Holdings). has_own h (Obj n) ≡ true) (same_holdings trace a c) (has-sweep marked a d.holdings (Obj n) has)) n
    (decs_come (by_owner (given_back marked d.holdings)) (set s.actors a (seat swept mail)) n left))
moves trace s (rule.leaves a c mail at may) = makes_none s.actors _ (reaped_come (a ∷ []) s.actors)
moves trace s (rule.blocks a c mail at may) =
    makes_none s.actors _ (same_cell s.actors a c (record c { reported = true }) mail mail at (λ n has. has))
moves trace s (rule.hears note later is) = makes_none s.actors s.actors (λ n left. left)
moves trace s (rule.scans news) = makes_none s.actors _ (asked_come (closed_set s.detector) (suc s.detector.opened) s.actors)
moves trace s (rule.reaps number token is) = makes_none s.actors _ (reaped_come token.members s.actors)
