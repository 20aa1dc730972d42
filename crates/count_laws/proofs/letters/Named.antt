-- What an actor or one of its letters names is left.
use Rattle.std.proofs.Common.{◌≡◌, ◌≢◌, ℕ, ◌+◌, ◌<◌, List, [], Option, ap, sym, ◌∙◌, subst, arith, inr}
use Rattle.std.specs.Prelude.{flat_map, sum_by}
use Rattle.orca_names.specs.Names.{owner_of}
use Rattle.orca_names.specs.declared.names.Thing.{Thing}
use Rattle.letter_kinds.specs.Holdings.{Row}
use Rattle.letter_kinds.specs.Sums.{dec_of, inc_of}
use Rattle.letter_kinds.specs.Letters.{Letter}
use Rattle.plain_rules.specs.declared.PlainLetter.{PlainLetter}
use Rattle.count_laws.proofs.agreement.Reachable.{letters_in}
use Rattle.count_laws.proofs.knowledge.Living.{Holds, Letters, here as first, holds, later, stands}
use Rattle.count_laws.specs.Known.{Names}
use Rattle.count_laws.proofs.events.EitherMode.{counted_at, lives_left, loaded_left, root_left}
use Rattle.count_laws.proofs.letters.OwnLetters.{decs_own, incs_own}
use Rattle.count_laws.proofs.balance.SeatReads.{decs_at-seat, incs_at-seat}
use Rattle.orca_names.specs.declared.trace.Trace.{Trace}
use Rattle.machine_rules.specs.Actors.{Actors, seat, seat_at}
use Rattle.count_laws.specs.Agreement.{IsRootPerson, Person, app_letters}
use Rattle.machine_rules.specs.Balance.{decs_at, incs_at, own_at, owner_seat}
use Rattle.machine_rules.specs.Cell.{Cell}
use Rattle.count_laws.specs.Facts.{KeepsCounts}
use Rattle.count_laws.specs.Letters.{LettersNameTheirOwn}
use Rattle.machine_rules.specs.Left.{IsLeft}
use Rattle.count_laws.specs.Named.{NamesNothingFreed, by_argument, by_dec, by_inc, by_load, by_root}

module _ (trace : Trace) (all : Thing → Option Row) (people : List Person) (s : Actors) (counts : KeepsCounts trace all people s) where
  -- what its owner counts, or is told to count, is left
  counted : (x : Thing) → 0 < own_at x (owner_seat s x) + incs_at x (owner_seat s x) → IsLeft s x
  counted x h = counted_at trace all people s counts x h

  module _ (a : ℕ) (c : Cell) (mail : List Letter) (at : seat_at s a ≡ seat c mail) (x : Thing) (own : owner_of x ≡ a) where
    here : owner_seat s x ≡ seat c mail
    here = ap (seat_at s) own ∙ at

    raised_left : 0 < sum_by (inc_of x) mail → IsLeft s x
    raised_left h =
        let some : 0 < incs_at x (owner_seat s x) = subst (λ o. 0 < incs_at x o) (sym here) (let i = incs_at-seat x c mail in omega arith) in
        counted x (omega arith)

    lowered_left : 0 < sum_by (dec_of x) mail → IsLeft s x
    lowered_left h =
        let some : 0 < decs_at x (owner_seat s x) = subst (λ o. 0 < decs_at x o) (sym here) (let i = decs_at-seat x c mail in omega arith) in
        counted x (let b = counts.balanced x in omega arith)

  waits : (letters : List PlainLetter) (x : Thing) → Letters letters x → letters ≢ []
  waits letters x (first n) e = cc
  waits letters x (later l) e = cc

  -- who has a letter is a root of the machine that frees nothing, which holds what the arguments name
  argument_left : (a : ℕ) (c : Cell) (mail : List Letter) → seat_at s a ≡ seat c mail → (x : Thing) → Names (flat_map (λ l. l.args) (app_letters mail)) x → IsLeft s x
  argument_left a c mail at x n =
      let l = letters_in (app_letters mail) x n in
      let is = counts.agrees.present a c mail at in
      lives_left trace all people s counts x
      (holds (stands (subst IsRootPerson (sym is) (inr (inr (waits (app_letters mail) x l))))) (subst (λ p. Holds p x) (sym is) (inr (inr l))))

  pub named_left : LettersNameTheirOwn s → NamesNothingFreed s
  named_left own a c mail at x (by_root r) = root_left trace all people s counts a c mail x at r
  named_left own a c mail at x (by_argument n) = argument_left a c mail at x n
  named_left own a c mail at x (by_load h) = loaded_left trace all people s counts a c mail x at h
  named_left own a c mail at x (by_inc h) = raised_left a c mail at x (incs_own a mail (own a c mail at) x h) h
  named_left own a c mail at x (by_dec h) = lowered_left a c mail at x (decs_own a mail (own a c mail at) x h) h
