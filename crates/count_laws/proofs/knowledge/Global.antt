-- What each actor knows stays so where a seat changes, a letter is pushed, an actor is made or the map of all rows grows.
use Rattle.std.proofs.Common.{◌≡◌, ◌≢◌, ◌⊎◌, ℕ, ◌<◌, Option, Some, List, [], ◌∷◌, ◌++◌, length, set, refl, sym, ◌∙◌, arith, ⊎_elim}
use Rattle.std.proofs.lemmas.Bool.{cases_eq}
use Rattle.std.proofs.lemmas.List.Sums.{sum_by-cons}
use Rattle.letter_kinds.proofs.Counts.{loaded-same, loaded_more}
use Rattle.count_laws.proofs.balance.Seats.{at_same, at_other, some_seat}
use Rattle.machine_rules.proofs.Present.{present_below}
use Rattle.count_laws.proofs.balance.SeatReads.{letter_App}
use Rattle.count_laws.proofs.balance.Sends.{push_is}
use Rattle.count_laws.proofs.knowledge.Paths.{reach_into, along_row}
use Rattle.count_laws.proofs.knowledge.Freed.{known_left, loaded_left}
use Rattle.letter_kinds.specs.Holdings.{Row}
use Rattle.letter_kinds.specs.Sums.{times_loaded, load_count}
use Rattle.letter_kinds.specs.Letters.{Letter, App}
use Rattle.count_laws.proofs.balance.InHand.{Sound, Balanced}
use Rattle.orca_names.specs.declared.trace.Trace.TheVariants.{Deep}
use Rattle.machine_rules.specs.Actors.{Seat, Actors, seat_at, push_letter, seat}
use Rattle.count_laws.specs.Prefixes.{NeverOverdraws}
use Rattle.machine_rules.specs.Cell.{Cell}
use Rattle.count_laws.specs.Known.{Names, ReachesThrough, StartsWalks, RowsAreIn, IsExactLetter, AreExactLetters, IsSoundAt}
use Rattle.machine_rules.specs.Left.{IsLeft}
use Rattle.orca_names.specs.declared.names.Thing.{Thing}
use Rattle.reach_walk.specs.Reach.{root, owned}
use Rattle.std.specs.Prelude.{sum_by}

-- one seat is changed
pub sound_set : (all : Thing → Option Row) (s : Actors) (b : ℕ) (old : Option Seat) (c : Cell) (ls : List Letter) → b < length s → seat_at s b ≡ old
    → IsSoundAt all b c ls → Sound all s → Sound all (set s b (seat c ls))
sound_set all s b old c ls within was new sound a d ms at = ⊎_elim
    (λ same.
    let z = some_seat c d ls ms (sym (at_same s b old (seat c ls) within was a same) ∙ at) in
    rw (same, sym z.0, sym z.1) new)
    (λ other. sound a d ms (sym (at_other s b old (seat c ls) within was a other) ∙ at))
    (cases_eq a b)

pub mail_push : (all : Thing → Option Row) (ls : List Letter) (l : Letter) → IsExactLetter all l → AreExactLetters all ls → AreExactLetters all (ls ++ l ∷ [])
mail_push all [] l ok h = (ok, tt)
mail_push all (k ∷ ls) l ok h = (h.0, mail_push all ls l ok h.1)

-- a letter is pushed
pub sound_push : (all : Thing → Option Row) (s : Actors) (b : ℕ) (l : Letter) (o : Seat) → seat_at s b ≡ Some o → IsExactLetter all l → Sound all s → Sound all (push_letter b l s)
sound_push all s b l o at ok sound = rw (push_is s b l o at)
    (sound_set all s b (Some o) o.cell (o.mail ++ l ∷ []) (present_below s b o at) at
    (let z = sound b o.cell o.mail at in record { closed = z.closed; rows = z.rows; loads = mail_push all o.mail l ok z.loads }) sound)

-- the map of all rows grows by things that are not left
module _ (all all' : Thing → Option Row) (New : Thing → Type 0) (only : (x : Thing) → (all' x ≡ all x) ⊎ New x)
    (s : Actors) (bal : Balanced s) (p : NeverOverdraws Deep s) (unborn : (x : Thing) → New x → ¬ IsLeft s x) (bare : (x : Thing) (r : Row) → New x → all x ≢ Some r) where
  still : (x : Thing) → IsLeft s x → all' x ≡ all x
  still x left = ⊎_elim (λ e. e) (λ new. absurd (unborn x new left)) (only x)

  grown : (roots : Thing → Type 0) (x : Thing) → ReachesThrough all roots x → ReachesThrough all' roots x
  grown roots x h = reach_into _ (ReachesThrough all' roots) (λ x r. root r)
      (λ x y r q e n. along_row _ q (⊎_elim (λ same. same ∙ e) (λ new. absurd (bare x r new e)) (only x)) n)
      (λ n q. owned q) h

  shrunk : (roots : Thing → Type 0) → ((x : Thing) → ReachesThrough all roots x → IsLeft s x) → (x : Thing) → ReachesThrough all' roots x → ReachesThrough all roots x
  shrunk roots left x h = reach_into _ (ReachesThrough all roots) (λ x r. root r)
      (λ x y r q e n. along_row _ q (sym (still x (left x q)) ∙ e) n)
      (λ n q. owned q) h

  rows_in : (load : List (Thing × Option Row)) → ((x : Thing) → 0 < times_loaded x load → IsLeft s x) → RowsAreIn all load → RowsAreIn all' load
  rows_in [] left h = tt
  rows_in (e ∷ es) left h = (
    h.0 ∙ sym (still e.0 (left e.0 (let z = loaded-same e.0 e es refl in omega arith))),
    rows_in es (λ x some. left x (loaded_more x e es some)) h.1,
  )

  letter_grown : (l : Letter) → ((x : Thing) → 0 < load_count x l → IsLeft s x) → IsExactLetter all l → IsExactLetter all' l
  letter_grown (App b args load rows) left ok =
      let left' : (x : Thing) → 0 < times_loaded x load → IsLeft s x = λ x h. left x (let z = (letter_App x b args load rows).2 in omega arith) in
      record {
        once = ok.once;
        rising = ok.rising;
        reached = λ x h. grown (Names args) x (ok.reached x h);
        whole = λ x h. ok.whole x (shrunk (Names args) (λ x q. left' x (ok.whole x q)) x h);
        rows = rows_in load left' ok.rows;
      }
  letter_grown l left ok = tt

  mail_grown : (ls : List Letter) → ((x : Thing) → 0 < sum_by (load_count x) ls → IsLeft s x) → AreExactLetters all ls → AreExactLetters all' ls
  mail_grown [] left ok = tt
  mail_grown (l ∷ ls) left ok = (
    letter_grown l (λ x h. left x (omega (arith, sum_by-cons (load_count x) l ls))) ok.0,
    mail_grown ls (λ x h. left x (omega (arith, sum_by-cons (load_count x) l ls))) ok.1,
  )

  pub sound_grown : Sound all s → Sound all' s
  sound_grown sound a c ls at =
      let z = sound a c ls at in
      record {
        closed = λ x h. z.closed x (shrunk (StartsWalks c) (λ x q. known_left s bal p a c ls x at (z.closed x q)) x h);
        rows = λ x k. z.rows x k ∙ sym (still x (known_left s bal p a c ls x at k));
        loads = mail_grown ls (λ x h. loaded_left s bal p a c ls x at h) z.loads;
      }
