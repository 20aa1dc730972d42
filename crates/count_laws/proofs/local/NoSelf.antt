-- No actor ever holds a count on a thing of its own.
use Rattle.std.proofs.Common.{◌≡◌, ◌≢◌, ℕ, zero, suc, ◌+◌, ◌<◌, List, refl, ap, ◌∙◌, arith}
use Rattle.std.specs.FinMap as m
use Rattle.orca_names.specs.Names.{owner_of, thing_cmp}
use Rattle.orca_names.specs.declared.names.Thing.{Thing}
use Rattle.orca_names.specs.declared.names.Thing.TheVariants.{Actor}
use Rattle.event_rule.specs.declared.event.Event.{Event}
use Rattle.behaviour_code.specs.declared.code.Program.{Program}
use Rattle.letter_kinds.proofs.Amounts.{held-mint_all}
use Rattle.letter_kinds.proofs.Counts.{held-send_own}
use Rattle.letter_kinds.specs.Holdings.{Holdings, Row, entry_count, held_in, nothing_held, with_made}
use Rattle.letter_kinds.specs.Sums.{amount_of}
use Rattle.count_laws.proofs.local.Local.{Local}
use Rattle.count_laws.proofs.local.Locals.{every_next, every_first}
use Rattle.count_laws.proofs.balance.Makes.{held_given, given_other}
use Rattle.count_laws.proofs.balance.Sweeping.{held-sweep, same_holdings}
use Rattle.count_laws.proofs.balance.Takes.{held-taken_own}
use Rattle.count_laws.specs.Clean.{HoldsNoOwnAt, NoneHoldsItsOwn}
use Rattle.machine_rules.specs.Go.{turn_of_cell}
use Rattle.event_rule.specs.Runs.{Goes}
use Rattle.machine_rules.specs.Next.{next}
use Rattle.orca_names.specs.declared.trace.Trace.{Trace}
use Rattle.orca_names.specs.declared.trace.Trace.TheVariants.{Deep}
use Rattle.machine_rules.specs.Options.{Options}
use Rattle.machine_rules.specs.State.{State, first_state}
use Rattle.count_laws.proofs.balance.Sends.{cond_zero}

-- a turn holds what it held before
pub held-with_made : (made : List Row) (h : Holdings) (x : Thing) → held_in (with_made made h) x ≡ held_in h x
unfolding held_in
held-with_made made h x = refl

held-nothing : (count : ℕ) (x : Thing) → held_in (nothing_held count) x ≡ 0
unfolding held_in
held-nothing count x = ap entry_count (m.get-empty thing_cmp x)

none_minted : (n k : ℕ) → n ≡ 0 → ¬ (0 < k) → n + k ≡ 0
none_minted n zero e f = omega arith
none_minted n (suc k) e f = absurd (f (omega arith))

pub no_self : (trace : Trace) → Local trace HoldsNoOwnAt
no_self trace = record {
  start = λ program x o. held-nothing 0 x;
  fresh = λ weight program a kind x o. held-nothing weight x;
  letter = λ l a c mail q. q;
  take = λ program a c l mail idle q x o. held-taken_own program a x c mail l o ∙ q x o;
  collect = λ a c mail idle d q x o. held-sweep _ a _ x ∙ cond_zero _ _ (ap (λ h. held_in h x) (same_holdings trace a c) ∙ q x o);
  block = λ a c mail may q. q;
  turn = λ program a c mail f is q x o. held-with_made (turn_of_cell trace program a c f).turn.made c.holdings x ∙ q x o;
  end = λ program a c mail f is q x o. held-with_made (turn_of_cell trace program a c f).turn.made c.holdings x ∙ q x o;
  make = λ weight a n c mail f g below is q x o.
      let apart : x ≢ Actor n = λ e. let z : owner_of x ≡ n = ap owner_of e in absurd (omega arith) in
      let h = held_given weight n c.holdings x in let z = given_other weight n x apart in let y = q x o in omega arith;
  send = λ a c mail f load is q x o. held-send_own a x load c.holdings o ∙ q x o;
  mint = λ a c mail f things is some q x o. held-mint_all x things c.holdings ∙ none_minted (held_in c.holdings x) (amount_of x things) (q x o) (λ h. some x h o);
}

pub no_self-first : (program : Program) (options : Options) → NoneHoldsItsOwn (first_state program options).actors
no_self-first program options = every_first Deep HoldsNoOwnAt (no_self Deep) program options

pub no_self-next : (s t : State) (e : Event) → next s e ≡ Goes t → NoneHoldsItsOwn s.actors → NoneHoldsItsOwn t.actors
no_self-next s t e now h = every_next s.options.trace HoldsNoOwnAt (no_self s.options.trace) s t e refl now h
