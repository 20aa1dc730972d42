-- An actor's counts allow what the turn of its frame does.
use Rattle.std.proofs.Common.{◌≡◌, ℕ, ◌+◌, ◌<◌, Option, None, Some, List, [], ◌∷◌, refl, sym, arith, subst, ⊎_elim}
use Rattle.std.specs.Prelude.{IsSomeAnd}
use Rattle.orca_names.specs.Names.{owner_of}
use Rattle.orca_names.specs.declared.names.Thing.{Thing}
use Rattle.orca_names.specs.declared.names.Value.{Value}
use Rattle.orca_names.specs.declared.options.Options.{Options}
use Rattle.orca_names.specs.declared.trace.Trace.{Trace}
use Rattle.turn_rules.specs.Segment.{Stop}
use Rattle.turn_rules.specs.declared.act.Act.{Act}
use Rattle.turn_rules.specs.declared.act.Act.TheVariants.{End, New, Post, Print}
use Rattle.turn_rules.specs.declared.act.Frame.{Frame}
use Rattle.ref_weights.specs.Limit.{count_limit}
use Rattle.letter_kinds.proofs.Raising.{own_le-with_made}
use Rattle.letter_kinds.specs.Counting.{Loaded, to_mint}
use Rattle.letter_kinds.specs.Holdings.{Holdings, held_in, own_in, with_made}
use Rattle.letter_kinds.specs.Sums.{times_loaded}
use Rattle.letter_kinds.specs.Letters.{Letter}
use Rattle.trace_send.proofs.Once.{once-sent}
use Rattle.trace_send.specs.Can.{CanSend, CanSendOne}
use Rattle.machine_rules.specs.Actors.{seat, seat_at}
use Rattle.machine_rules.specs.Cell.{Cell}
use Rattle.machine_rules.specs.Go.{lacking_from, load_from, needed, rows_from, to_need, turn_of_cell}
use Rattle.machine_rules.specs.State.{State}
use Rattle.plain_rules.specs.Machine.{PlainState}
use Rattle.count_laws.proofs.agreement.FollowingGo.{load_known}
use Rattle.count_laws.proofs.letters.Once.{load_once, minted_once, needed_once}
use Rattle.count_laws.specs.Facts.{Facts}
use Rattle.count_laws.specs.Known.{IsKnown}
use Rattle.trace_send.specs.Can.{CanMint}
use Rattle.actor_cell.specs.Goes.{CanGo, CanMove, having_made, letter_or_mint, move_by, turned_in, turned_or_needs}
use Rattle.cell_laws.proofs.Allowing.{can_mint, each_loaded}
use Rattle.cell_laws.proofs.Keeping.{runs_keep_program}
use Rattle.cell_laws.proofs.Room.{facts, held_fits, own_fits}
use Rattle.cell_laws.specs.Goes.{RunsAllowGoes}

-- of a thing that is loaded and known, the counts allow that it is sent
can_send_one : (me : ℕ) (h : Holdings) (e : Loaded) → IsKnown me h e.0 → (owner_of e.0 ≡ me → own_in h e.0 + 1 < count_limit) → CanSendOne me e h
can_send_one me h e known room = record {
  there = λ mine. ⊎_elim (λ own. own.1) (λ other. absurd (other.0 mine)) known;
  own = room;
  held = λ others. ⊎_elim (λ own. absurd (others own.0)) (λ other. other.1) known;
}

module _ (options : Options) (p : PlainState) (s : State) (kept : Facts options.trace p s) (a : ℕ) (c : Cell) (mail : List Letter) (at : seat_at s.actors a ≡ seat c mail)
    (held_room : (x : Thing) → held_in c.holdings x + options.weight < count_limit) (own_room : (x : Thing) → owner_of x ≡ a → own_in c.holdings x + 1 < count_limit)
    (frame : Frame) (framed : c.frame ≡ Some frame) where
  abbrev trace : Trace
  trace = options.trace

  abbrev weight : ℕ
  weight = options.weight

  abbrev stop : Stop
  stop = turn_of_cell trace s.program a c frame

  abbrev turned : Holdings
  turned = with_made stop.turn.made c.holdings

  module _ (none : needed trace s.program a c frame ≡ None) where
    module _ (to behaviour : ℕ) (args : List Value) (is : stop.act ≡ Post to behaviour args) where
      abbrev load : List Loaded
      load = load_from trace a turned args

      known : (x : Thing) → 0 < times_loaded x load → IsKnown a turned x
      known = load_known trace p s kept a c mail at frame framed none to behaviour args is

      can_send : CanSend a load turned
      can_send = once-sent a load turned (λ x. load_once trace a turned args x)
          (each_loaded (λ e. CanSendOne a e turned) load (λ e some. can_send_one a turned e (known e.0 some)
          (λ mine. let r = own_room e.0 mine in let k = own_le-with_made stop.turn.made c.holdings e.0 in omega arith)))

      can_mint_lacked : (e : Loaded) (lacked : List Loaded) → lacking_from trace a turned args ≡ e ∷ lacked → CanMint (to_mint weight (owner_of e.0) (e ∷ lacked)) c.holdings
      can_mint_lacked e lacked l = can_mint (to_mint weight (owner_of e.0) (e ∷ lacked)) c.holdings
          (λ x. let r = held_room x in let k = minted_once trace weight a (owner_of e.0) turned args x (e ∷ lacked) l in omega arith)

      can_post : (lacked : List Loaded) → lacking_from trace a turned args ≡ lacked
          → CanMove a c.holdings stop.turn (letter_or_mint weight to behaviour args load (rows_from trace a (having_made stop.turn.made c) args) lacked)
      can_post [] l = can_send
      can_post (e ∷ lacked) l = can_mint_lacked e lacked l

    can_act : (act : Act) → stop.act ≡ act → CanMove a c.holdings stop.turn (move_by options a (having_made stop.turn.made c) act)
    can_act (Post to behaviour args) is = can_post to behaviour args is (lacking_from trace a turned args) refl
    can_act (New kind register) is = tt
    can_act (Print value) is = tt
    can_act End is = tt

  can_turn : (first : Option Thing) → needed trace s.program a c frame ≡ first
      → (let t = turned_or_needs options a c frame first stop in CanMove a c.holdings t.turn t.act)
  can_turn None none = can_act none stop.act refl
  can_turn (Some x) needs = can_mint (to_need weight a c.holdings x) c.holdings (λ y. let r = held_room y in let k = needed_once weight a c.holdings x y in omega arith)

  can_go : CanGo options s.program a c
  can_go = subst (λ o. IsSomeAnd o (λ f. let t = turned_in options s.program a c f in CanMove a c.holdings t.turn t.act)) (sym framed) (can_turn (needed trace s.program a c frame) refl)

pub runs_allow_goes : RunsAllowGoes
runs_allow_goes program options book t short a c mail at frame framed =
    let all = facts program options book t short in
    subst (λ q. CanGo options q a c) (runs_keep_program program options book t short.run).same_program
    (can_go options all.0 t all.1.beside a c mail at (held_fits program options book t short a c mail at)
    (λ x mine. let r = own_fits program options book t short a c mail at x mine in let heavy = short.heavy in omega arith)
    frame framed)
