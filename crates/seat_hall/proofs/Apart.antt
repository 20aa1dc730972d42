-- Laws of the rule, at every moment of a hall.
use Rattle.std.proofs.Common.{◌≡◌, ℕ, ◌<◌, ◌≤◌, ◌==◌, List, [], ◌∷◌, ◌++◌, length, set, sum_by, refl, sym, ap, ◌∙◌, subst, arith, append_assoc, append-nil}
use Rattle.std.specs.Prelude.{is_some, slice_get}
use Rattle.std.proofs.lemmas.List.{append_cancel_left}
use Rattle.std.proofs.lemmas.List.Elements.{filter-append}
use Rattle.std.proofs.lemmas.List.Sums.{count_by-le-length}
use mathlib.Core.Logic.{dite}
use mathlib.Core.Option.{some}
use native.Mathlib.Decide.{dec_le, ℕ_discrete}
use lib.ListN.{get_elem?}
use Rattle.orca_names.specs.declared.options.Options.{Options}
use Rattle.behaviour_code.specs.declared.code.Program.{Program}
use Rattle.actor_cell.specs.declared.cell.Cell.{Cell}
use Rattle.turn_log.proofs.Sums.{each_term, sum_set, term_le}
use Rattle.turn_log.proofs.Places.{at_other}
use Rattle.turn_log.specs.Knowing.{newcomer}
use Rattle.seat_hall.specs.declared.item.Item.{Item}
use Rattle.seat_hall.specs.declared.item.Item.TheVariants.{Entered}
use Rattle.seat_hall.specs.declared.item.PassView.{PassView}
use Rattle.seat_hall.specs.Fair.{Fair, Knower, Shown, has_number, hall_of, numbers_of, spent_view, start_of}
use Rattle.seat_hall.specs.Halls.{HallView, LacksCell}
use Rattle.seat_hall.specs.Log.{Legal, Logged, after, begins, by, hall_from, items_by, state_in}
use Rattle.seat_hall.specs.Passes.{HasIn}
use Rattle.seat_hall.specs.Stands.{CellsAreApart, EntriesStand, Has, IsOne, NoneIsReaped}
use Rattle.seat_hall.proofs.Busy.{busy_of, none_reaped}
use Rattle.seat_hall.proofs.Entries.{stands}
use Rattle.seat_hall.proofs.Holding.{keeps_all, pass_or}
use Rattle.seat_hall.proofs.Logs.{hall_append, legal_rest, terms_of}
use Rattle.seat_hall.proofs.Runs.{IsRunOf, runs}

-- what a pass with a number learns of the hall
pub shown : (log : List Item) (hall : HallView) (passes : List Knower) → Fair log hall passes → (id : ℕ) (k : Knower)
    → get_elem? passes id ≡ some k → Shown k log hall
shown log hall passes fair id k there =
    let mine = fair.each id k there in record {
      shows = λ some_number.
          let run = mine.run some_number in
          fair.shows ∙ (λ i. hall_from (begins (sym run.0 i) (sym run.1 i) (sym run.2 i)) log);
      legal = λ some_number.
          let run = mine.run some_number in
          subst (λ (x : Program × Options × ℕ). Legal (begins x.0 x.1 x.2) log)
          (λ i. (sym run.0 i, sym run.1 i, sym run.2 i)) fair.legal;
      heavy = λ some_number.
          let run = mine.run some_number in subst (λ (o : Options). 0 < o.weight) (sym run.1) fair.heavy;
      own = mine.own;
      given = λ n has. dite (dec_le n hall.logged.made)
          (λ le. le)
          (λ more. absurd (let none = each_term (has_number n) passes (fair.given n (omega arith)) id k there in omega arith));
    }

some_number : (n : ℕ) (k : Knower) → 0 < has_number n k → 0 < numbers_of k
some_number n k has = let le = count_by-le-length (λ m. m == n) k.client.numbers in omega arith

-- who has seen all its own items has none in what followed
pub none_between : (pass : ℕ) (seen rest : List Item) → items_by pass (seen ++ rest) ≡ items_by pass seen
    → items_by pass rest ≡ []
none_between pass seen rest all =
    append_cancel_left (items_by pass seen) (items_by pass rest) []
    (sym (filter-append (λ i. by i == pass) seen rest) ∙ (all ∙ sym (append-nil (items_by pass seen))))

pub legal_first : (l : Logged) (xs ys : List Item) → Legal l (xs ++ ys) → Legal l xs
legal_first l [] ys legal = tt
legal_first l (x ∷ xs) ys legal = (legal.0, legal_first (after l x) xs ys legal.1)

pub options_after : (v : PassView) (log : List Item) → (hall_of v log).options ≡ v.options
options_after v log = (terms_of v.program v.options v.budget log).options_is

-- ---- cells

pub standing : (log : List Item) (hall : HallView) (passes : List Knower) → Fair log hall passes → (id pass a : ℕ) (c : Cell)
    (k : Knower) → IsOne log passes id pass k → Has pass a c k → HasIn pass a c hall.logged
standing log hall passes fair id pass a c k one has =
    let s = shown log hall passes fair id k one.there in
    let some = some_number pass k one.number in
    let start : Logged = start_of k.client in
    let rest : List Item = one.saw.0 in
    let here : Logged = hall_of k.client k.seen in
    let whole = one.saw.1 in
    let legal : Legal start (k.seen ++ rest) = subst (Legal start) (sym whole) (s.legal some) in
    let run : IsRunOf here = runs start k.seen (refl, omega arith) (legal_first start k.seen rest legal) in
    let heavy : 0 < here.options.weight = subst (λ (o : Options). 0 < o.weight) (sym (options_after k.client k.seen)) (s.heavy some) in
    let own = none_between pass k.seen rest (ap (items_by pass) whole ∙ s.own pass one.number) in
    let kept = keeps_all pass a here rest heavy run (legal_rest start k.seen rest legal) own has.claimed has.busy in
    let same : hall_from here rest ≡ hall.logged =
    sym (hall_append start k.seen rest) ∙ (ap (hall_from start) whole ∙ sym (s.shows some)) in
    subst (HasIn pass a c) same (record { claimed = kept.claimed; cell = kept.cell ∙ has.cell; busy = kept.busy })

-- two passes that have one number are one
pub one_pass : (passes : List Knower) (n i j : ℕ) (v w : Knower) → get_elem? passes i ≡ some v → get_elem? passes j ≡ some w
    → 0 < has_number n v → 0 < has_number n w → sum_by (has_number n) passes ≤ 1 → j ≡ i
one_pass passes n i j v w at there has has' most = dite (ℕ_discrete j i)
    (λ same. same)
    (λ apart.
    let spent : Knower = newcomer spent_view in
    let less = sum_set (has_number n) passes i v spent at in
    let other = term_le (has_number n) (set passes i spent) j w (at_other passes i j w spent apart there) in
    absurd (omega arith))

-- whose claim is out is away from the machine behind the hall
pub lacks_cell : (pass a : ℕ) (c : Cell) (l : Logged) → HasIn pass a c l → LacksCell a l
lacks_cell pass a c l has orca book rooms kept = kept.away a ∙ ap is_some has.claimed

pub cells_apart : CellsAreApart
cells_apart log hall passes fair id pass a c k one has =
    let mine = standing log hall passes fair id pass a c k one has in (
      mine,
      lacks_cell pass a c hall.logged mine,
      λ other number d w one' has'.
          let theirs = standing log hall passes fair other number a d w one' has' in
          let same : pass ≡ number = ap (pass_or 0) (sym mine.claimed ∙ theirs.claimed) in
          one_pass passes number id other k w one.there one'.there (subst (λ (n : ℕ). 0 < has_number n k) same one.number)
          one'.number (fair.once number),
    )

pub none_is_reaped : NoneIsReaped
none_is_reaped log hall passes fair id pass a c k one has number t on is =
    let l : Logged = hall.logged in
    let start : Logged = begins fair.program fair.options fair.budget in
    let mine = standing log hall passes fair id pass a c k one has in
    let run : IsRunOf l = subst IsRunOf (sym fair.shows) (runs start log (refl, omega arith) fair.legal) in
    let options = (terms_of fair.program fair.options fair.budget log).options_is in
    let heavy : 0 < l.options.weight =
    subst (λ (o : Options). 0 < o.weight) (sym (ap (λ (m : Logged). m.options) fair.shows ∙ options)) fair.heavy in
    none_reaped l.program l.options l.book (state_in l) heavy run.0 a (busy_of (state_in l) a mine.busy) number t on is

-- ---- entries

pub entries_stand : EntriesStand
entries_stand log hall passes fair id pass k one before rest by e is =
    let s = shown log hall passes fair id k one.there in
    let start : Logged = start_of k.client in
    let more = rest ++ one.saw.0 in
    let whole : log ≡ before ++ Entered by e ∷ more =
    sym one.saw.1 ∙ (ap (λ xs. xs ++ one.saw.0) is ∙ append_assoc before (Entered by e ∷ rest) one.saw.0) in
    ap (λ (l : Logged). slice_get l.book (length (hall_from start before).book))
    (s.shows (some_number pass k one.number) ∙ ap (hall_from start) whole) ∙ stands start before more by e
