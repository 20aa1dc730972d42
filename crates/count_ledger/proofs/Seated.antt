-- What the actors so far add to the line of a thing.
use Rattle.std.proofs.Common.{◌≡◌, ◌≤◌, ◌<◌, ◌+◌, ◌^◌, ℕ, Bool, true, false, cond, if◌then◌else◌, List, [], Option, None, Some, take, map, length, get_or, refl, sym, ap, subst, ◌∙◌, arith, inl, inr}
use Rattle.std.specs.Prelude.{sum_by, nat_lt, option_map}
use Rattle.std.proofs.lemmas.Bool.{cases_eq, cases_lt, lt-ltb, le-ltb}
use Rattle.std.proofs.lemmas.List.{get_or_past, take_all}
use Rattle.std.proofs.lemmas.List.Elements.{All-map}
use Rattle.std.proofs.lemmas.Simd.{map-map}
use Rattle.std.specs.List.{All}
use Rattle.std.specs.List.Sorted.{IsStrictlySortedBy}
use Rattle.std.proofs.lemmas.List.Sums.{sum_by_more, sum_by-take-le}
use Rattle.orca_names.specs.Names.{owner_of, thing_cmp}
use Rattle.orca_names.specs.declared.names.Thing.{Thing}
use Rattle.orca_names.specs.declared.tally.Sums.{Sums}
use Rattle.letter_kinds.specs.Holdings.{held_in, own_in}
use Rattle.letter_kinds.specs.Sums.{dec_of, inc_of, load_count}
use Rattle.foreign_table.specs.Table.{count_on}
use Rattle.machine_rules.specs.Actors.{Actors, Seat, cell_of, letters_of, seat_at}
use Rattle.machine_rules.specs.Balance.{decs_at, held_at, incs_at, loads_at, own_at, owner_seat}
use Rattle.machine_laws.specs.Bounds.{OfEachCount}
use Rattle.actor_cell.specs.declared.cell.Cell.{Cell}
use Rattle.actor_cell.specs.Cells.{as_cell}
use Rattle.count_ledger.specs.Lines.{Fits, Rise, line_below, own_only, with_seat}
use Rattle.count_ledger.specs.Tally.{sums_of}
use Rattle.count_ledger.specs.declared.lines.Column.TheVariants.{Inc, Dec, Held, Letters}
use Rattle.count_ledger.proofs.Adding.{map_itself, map_same}
use Rattle.count_ledger.proofs.Said.{own_is, own_not, own_same}

-- ---- one seat

module _ (x : Thing) where
  -- where the actor is present it holds what its table has
  pub held_from : (seat : Option Seat) (c : Cell) → cell_of seat ≡ Some (as_cell c)
      → held_at x seat ≡ count_on c.foreign x
  unfolding held_at held_in
  held_from None c is = cc
  held_from (Some o) c is = ap (λ k. held_in k.holdings x) (same o c is)
    where
      same : (o : Seat) (c : Cell) → Some o.cell ≡ Some (as_cell c) → o.cell ≡ as_cell c
      same o c is = cc

  -- an actor that is gone holds nothing
  pub held_gone : (seat : Option Seat) → cell_of seat ≡ None → held_at x seat ≡ 0
  unfolding held_at
  held_gone None gone = refl
  held_gone (Some o) gone = cc

  -- where it is present it counts what its cell has
  pub own_from : (seat : Option Seat) (c : Cell) → cell_of seat ≡ Some (as_cell c)
      → own_in (as_cell c).holdings x ≡ own_at x seat
  unfolding own_at
  own_from None c is = cc
  own_from (Some o) c is = ap (λ k. own_in k.holdings x) (same o c is)
    where
      same : (o : Seat) (c : Cell) → Some o.cell ≡ Some (as_cell c) → as_cell c ≡ o.cell
      same o c is = cc

  -- what its letters say
  incs_of : (seat : Option Seat) → sum_by (inc_of x) (letters_of seat) ≡ incs_at x seat
  unfolding incs_at
  incs_of None = refl
  incs_of (Some o) = refl

  -- what their decrements say
  decs_of : (seat : Option Seat) → sum_by (dec_of x) (letters_of seat) ≡ decs_at x seat
  unfolding decs_at
  decs_of None = refl
  decs_of (Some o) = refl

  -- what they load
  loads_of : (seat : Option Seat) → sum_by (load_count x) (letters_of seat) ≡ loads_at x seat
  unfolding loads_at
  loads_of None = refl
  loads_of (Some o) = refl

-- no letter waits for an actor that is gone
pub no_letters : (seat : Option Seat) → option_map (λ (o : Seat). o.mail) seat ≡ None → letters_of seat ≡ []
no_letters None gone = refl
no_letters (Some o) gone = cc

-- nothing is said of an actor that is gone
incs_gone : (x : Thing) → incs_at x None ≡ 0
unfolding incs_at
incs_gone x = refl

-- nor is anything taken off
decs_gone : (x : Thing) → decs_at x None ≡ 0
unfolding decs_at
decs_gone x = refl

-- ---- lines

-- the line of these numbers
abbrev pub line : Thing → ℕ → ℕ → ℕ → ℕ → ℕ → Sums
line x n i d h l = record { thing = x; count = n; inc = i; dec = d; held = h; letters = l }

-- lines with the same numbers are the same
line_same : (x : Thing) (n i j d e h g l k : ℕ) → i ≡ j → d ≡ e → h ≡ g → l ≡ k
    → line x n i d h l ≡ line x n j e g k
line_same x n i j d e h g l k p q r s = (λ z. line x n (p z) (q z) (r z) (s z))

module _ (actors : Actors) (x : Thing) where
  -- the seat of the owner
  abbrev mine : Option Seat
  mine = owner_seat actors x

  -- what is said of the owner's things once the owner is among the first
  abbrev once : ℕ → (Option Seat → ℕ) → ℕ
  once n said = if nat_lt (owner_of x) n then said mine else 0

  -- where the owner is among them, all of it
  once_in : (n : ℕ) (said : Option Seat → ℕ) → owner_of x < n → once n said ≡ said mine
  once_in n said l = ap (λ b. cond b (said mine) 0) (lt-ltb (owner_of x) n l)

  -- before that nothing
  once_out : (n : ℕ) (said : Option Seat → ℕ) → n ≤ owner_of x → once n said ≡ 0
  once_out n said l = ap (λ b. cond b (said mine) 0) (le-ltb (owner_of x) n l)

  -- no more than what is said of them
  once_le : (n : ℕ) (said : Option Seat → ℕ) → once n said ≤ said mine
  once_le n said = by (nat_lt (owner_of x) n)
    where
      by : (b : Bool) → cond b (said mine) 0 ≤ said mine
      by true = omega arith
      by false = omega arith

  -- one actor more
  once_more : (n : ℕ) (said : Thing → Option Seat → ℕ)
      → once n (said x) + own_only n (λ y. said y (seat_at actors n)) x ≡ once (n + 1) (said x)
  once_more n said =
      let f : Thing → ℕ = λ y. said y (seat_at actors n) in
      elim (cases_eq (owner_of x) n) as (λ _. once n (said x) + own_only n f x ≡ once (n + 1) (said x)) [
        | inl same ↦
            let here : said x mine ≡ f x = ap (λ a. said x (seat_at actors a)) same in
            omega (
              arith,
              once_out n (said x) (omega arith),
              own_is n f x same,
              once_in (n + 1) (said x) (omega arith),
            )
        | inr other ↦ elim (cases_lt (owner_of x) n) as
            (λ _. once n (said x) + own_only n f x ≡ once (n + 1) (said x)) [
              | inl l ↦ omega (
                arith,
                once_in n (said x) l,
                own_not n f x other,
                once_in (n + 1) (said x) (omega arith),
              )
              | inr l ↦ omega (
                arith,
                once_out n (said x) l,
                own_not n f x other,
                once_out (n + 1) (said x) (omega arith),
              )
            ]
      ]

  -- all of it with all actors
  once_all : (n : ℕ) (said : Option Seat → ℕ) → said None ≡ 0 → length actors ≤ n → once n said ≡ said mine
  once_all n said none all = elim (cases_lt (owner_of x) n) as (λ _. once n said ≡ said mine) [
    | inl l ↦ once_in n said l
    | inr l ↦ once_out n said l ∙ sym (ap said (get_or_past actors (owner_of x) None (omega arith)) ∙ none)
  ]

  -- with one actor more
  pub line_more : (n : ℕ) → n < length actors
      → with_seat n (seat_at actors n) (line_below n actors x) ≡ line_below (n + 1) actors x
  line_more n l =
      let seat = seat_at actors n in
      let incs = own_same n (λ y. sum_by (inc_of y) (letters_of seat)) (λ y. incs_at y seat)
      (λ y. incs_of y seat) x in
      let decs = own_same n (λ y. sum_by (dec_of y) (letters_of seat)) (λ y. decs_at y seat)
      (λ y. decs_of y seat) x in
      line_same x (own_at x mine) _ _ _ _ _ _ _ _
      (ap (λ k. once n (incs_at x) + k) incs ∙ once_more n incs_at)
      (ap (λ k. once n (decs_at x) + k) decs ∙ once_more n decs_at)
      (sym (sum_by_more (held_at x) actors n None l))
      (ap (λ k. sum_by (loads_at x) (take n actors) + k) (loads_of x seat)
      ∙ sym (sum_by_more (loads_at x) actors n None l))

  -- with all actors the line is whole
  pub line_all : (n : ℕ) → length actors ≤ n → line_below n actors x ≡ sums_of actors x
  line_all n all = line_same x (own_at x mine) _ _ _ _ _ _ _ _
      (once_all n (incs_at x) (incs_gone x) all) (once_all n (decs_at x) (decs_gone x) all)
      (ap (sum_by (held_at x)) (take_all n actors all)) (ap (sum_by (loads_at x)) (take_all n actors all))

  -- with no actor there is but the owner's count
  pub line_none : line x (own_at x mine) 0 0 0 0 ≡ line_below 0 actors x
  line_none = line_same x (own_at x mine) _ _ _ _ _ _ _ _
      (sym (once_out 0 (incs_at x) (omega arith))) (sym (once_out 0 (decs_at x) (omega arith))) refl refl

  -- the numbers are small
  pub line_fits : OfEachCount (λ n. n < 2 ^ 43) actors → (n : ℕ) → Fits (line_below n actors x)
  line_fits small n Inc = omega (arith, once_le n (incs_at x), small.incs x (owner_of x))
  line_fits small n Dec = omega (arith, once_le n (decs_at x), small.decs x (owner_of x))
  line_fits small n Held = omega (arith, sum_by-take-le (held_at x) actors n, small.held_by_all x)
  line_fits small n Letters = omega (arith, sum_by-take-le (loads_at x) actors n, small.loads x)

-- ---- all lines

module _ (actors : Actors) (n : ℕ) (things : List Thing) where
  -- they rise as the things do
  pub lines_rise : IsStrictlySortedBy thing_cmp things → Rise (map (line_below n actors) things)
  lines_rise rising =
      let same = map-map (λ (s : Sums). s.thing) (line_below n actors) things
      ∙ map_itself (λ x. x) (λ x. refl) things in
      subst (IsStrictlySortedBy thing_cmp) (sym same) rising

  -- there is room for one actor more
  pub lines_fit : n < length actors → OfEachCount (λ n. n < 2 ^ 43) actors
      → All (λ s. Fits (with_seat n (seat_at actors n) s)) (map (line_below n actors) things)
  lines_fit l small = All-map (λ s. Fits (with_seat n (seat_at actors n) s)) (line_below n actors) things
      (λ k d m. let x = get_or things k d in
      subst Fits (sym (line_more actors x n l)) (line_fits actors x small (n + 1)))

  -- with one actor more
  pub lines_more : n < length actors
      → map (with_seat n (seat_at actors n)) (map (line_below n actors) things)
      ≡ map (line_below (n + 1) actors) things
  lines_more l =
      map-map (with_seat n (seat_at actors n)) (line_below n actors) things
      ∙ map_same (λ x. with_seat n (seat_at actors n) (line_below n actors x)) (line_below (n + 1) actors)
      (λ x. line_more actors x n l) things

  -- with all actors they are whole
  pub lines_all : length actors ≤ n → map (line_below n actors) things ≡ map (sums_of actors) things
  lines_all all = map_same (line_below n actors) (sums_of actors) (λ x. line_all actors x n all) things
