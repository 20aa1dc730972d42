-- What an actor holds is others', and was made.
use Rattle.std.proofs.Common.{◌≡◌, ◌≢◌, ℕ, ◌<◌, ◌≤◌, true, Option, Some, None, is_some, List, length, refl, ap, arith}
use Rattle.std.specs.FinMap as m
use Rattle.std.proofs.lemmas.List.{get_or_past}
use Rattle.orca_names.specs.Names.{owner_of}
use Rattle.orca_names.specs.declared.names.Thing.{Thing}
use Rattle.orca_names.specs.declared.trace.Trace.{Trace}
use Rattle.letter_kinds.specs.Holdings.{Holdings, Row, entry_count, held_in}
use Rattle.letter_kinds.specs.Letters.{Letter}
use Rattle.machine_rules.specs.Actors.{seat, seat_at}
use Rattle.machine_rules.specs.Balance.{incs_at, own_at, owner_seat}
use Rattle.machine_rules.specs.Cell.{Cell}
use Rattle.machine_rules.specs.State.{State}
use Rattle.plain_rules.specs.Machine.{PlainState}
use Rattle.count_laws.proofs.balance.SeatReads.{incs_at-none, own_at-none}
use Rattle.count_laws.proofs.balance.Sends.{held_below}
use Rattle.machine_laws.specs.AllFacts.{AllFacts}
use Rattle.cell_laws.proofs.Room.{facts}
use Rattle.cell_laws.specs.Held.{RunsHoldOthersOnly, RunsHoldTheMadeOnly}

entry_held : (h : Holdings) (x : Thing) (e : ℕ × Option Row) → m.get h.foreign x ≡ Some e → held_in h x ≡ e.0
unfolding held_in
entry_held h x e is = ap entry_count is

module _ (trace : Trace) (p : PlainState) (s : State) (all : AllFacts trace p s) (a : ℕ) (c : Cell) (mail : List Letter) (at : seat_at s.actors a ≡ seat c mail) (x : Thing) where
  -- at least 1 is held of what has an entry
  some_held : (e : ℕ × Option Row) → m.get c.holdings.foreign x ≡ Some e → 0 < held_in c.holdings x
  some_held e is = let firm = all.beside.counts.firm a c mail at x e is in let same = entry_held c.holdings x e is in omega arith

  no_own : (o : Option (ℕ × Option Row)) → m.get c.holdings.foreign x ≡ o → is_some o ≡ true → owner_of x ≢ a
  no_own None is some mine = cc
  no_own (Some e) is some mine = let held = some_held e is in let none = all.own a c mail at x mine in omega arith

  -- nobody holds what has no owner
  no_unmade : length s.actors ≤ owner_of x → (o : Option (ℕ × Option Row)) → m.get c.holdings.foreign x ≡ o → o ≡ None
  no_unmade past None is = refl
  no_unmade past (Some e) is =
      let nobody : owner_seat s.actors x ≡ None = get_or_past s.actors (owner_of x) None past in
      let own = ap (own_at x) nobody in
      let incs = ap (incs_at x) nobody in
      let balance = all.beside.counts.balanced x in
      let held = some_held e is in
      absurd (omega (arith, own_at-none x, incs_at-none x, held_below x s.actors a c mail at))

pub runs_hold_others_only : RunsHoldOthersOnly
runs_hold_others_only program options book t short a c mail at x there =
    let all = facts program options book t short in
    no_own options.trace all.0 t all.1 a c mail at x (m.get c.holdings.foreign x) refl there

pub runs_hold_the_made_only : RunsHoldTheMadeOnly
runs_hold_the_made_only program options book t short a c mail at x past =
    let all = facts program options book t short in
    no_unmade options.trace all.0 t all.1 a c mail at x past (m.get c.holdings.foreign x) refl
