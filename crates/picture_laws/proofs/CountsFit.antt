-- After a run whose counts fit their bits, the numbers on the lines of actors have 64 bits.
use Rattle.std.proofs.Common.{◌≡◌, ◌<◌, ◌≤◌, ◌^◌, ℕ, Bool, if◌then◌else◌, List, [], ◌∷◌, length, inl, inr, refl, ap, sym, ◌∙◌, subst, arith, eq-eqb, ne_eqb}
use Rattle.std.specs.Prelude.{is_some, sum_by, true}
use Rattle.std.specs.FinMap as m
use Rattle.std.specs.List.{AllByRecursion}
use Rattle.std.proofs.lemmas.Bool.{cases_eq}
use Rattle.std.proofs.lemmas.List.{append-nil}
use Rattle.std.proofs.lemmas.List.Sums.{sum_by-cons}
use Rattle.std.proofs.lemmas.Option.{get_or_from_slice_get, slice_get_within}
use Rattle.orca_names.specs.Names.{owner_of}
use Rattle.orca_names.specs.declared.names.ObjName.{ObjName}
use Rattle.orca_names.specs.declared.names.Thing.{Thing}
use Rattle.orca_names.specs.declared.names.Thing.TheVariants.{Actor, Obj}
use Rattle.behaviour_code.specs.WellFormed.{IsWellFormed}
use Rattle.behaviour_code.specs.declared.code.Program.{Program}
use Rattle.event_rule.proofs.OneRun.{leads_to_one}
use Rattle.event_rule.specs.declared.event.Event.{Event}
use Rattle.letter_kinds.proofs.Counts.{counted_has}
use Rattle.letter_kinds.proofs.Sums.{sum-at}
use Rattle.letter_kinds.specs.Holdings.{Holdings, held_in, own_in}
use Rattle.letter_kinds.specs.Sums.{dec_of, inc_of, load_count}
use Rattle.letter_kinds.specs.Letters.{Letter, App, Inc, Dec, Confirm}
use Rattle.plain_rules.specs.Machine.{PlainState, objects_made, plain_row, start_of}
use Rattle.plain_rules.specs.Run.{plain_next}
use Rattle.plain_rules.specs.declared.PlainActor.{PlainActor}
use Rattle.machine_rules.proofs.Present.{present_below}
use Rattle.machine_rules.specs.Actors.{seat, seat_at}
use Rattle.machine_rules.specs.Balance.{decs_at, held_at, incs_at, own_at}
use Rattle.machine_rules.specs.Cell.{Cell}
use Rattle.machine_rules.specs.Left.{IsLeft}
use Rattle.machine_rules.specs.Next.{next}
use Rattle.machine_rules.specs.Options.{Options}
use Rattle.machine_rules.specs.Run.{IsRun, choices}
use Rattle.machine_rules.specs.State.{State, first_state}
use Rattle.count_laws.proofs.agreement.PlainSide.{made_within}
use Rattle.count_laws.proofs.balance.SeatReads.{decs_at-seat, held_at-seat, incs_at-seat, letter_App, letter_Dec, letter_Inc, own_at-seat}
use Rattle.count_laws.proofs.bounds.Bounding.{runs_make_few}
use Rattle.count_laws.specs.Known.{in_table}
use Rattle.count_laws.specs.Named.{by_dec, by_inc, by_load, by_root}
use Rattle.machine_laws.proofs.Counting.{runs_count_in_few_bits}
use Rattle.machine_laws.proofs.StayingFreed.{freed_stays}
use Rattle.machine_laws.proofs.WholeRuns.{never_early, run_has_facts}
use Rattle.machine_laws.specs.Bounds.{OfEachCount}
use Rattle.machine_laws.specs.Laws.{IsNeverTooEarly}
use Rattle.cell_laws.proofs.Keeping.{runs_make_few_objects}
use Rattle.cell_laws.specs.Runs.{IsShortRun}
use Rattle.picture_laws.proofs.Amounts.{amount_in, amount_is, few_each, fit_each, has_of, loaded_is, once, thing_in, thing_of}
use Rattle.picture_laws.proofs.SeatSums.{LetterFits, SeatFits}
use Rattle.picture_laws.proofs.Tables.{held_amount, held_is, held_thing, own_is, row_amount, row_thing}
use Rattle.picture_laws.proofs.Things.{ThingFits}

-- ---- letters

-- what is said of each thing is little, and of things of 64-bit numbers alone
pub record SaysFit (incs decs loads : Thing → ℕ) : Type 0 where
  pub incs_few : (x : Thing) → incs x < 2 ^ 64
  pub incs_fit : (x : Thing) → 0 < incs x → ThingFits x
  pub decs_few : (x : Thing) → decs x < 2 ^ 64
  pub decs_fit : (x : Thing) → 0 < decs x → ThingFits x
  pub loads_fit : (x : Thing) → 0 < loads x → ThingFits x

letter_fits : (l : Letter) → SaysFit (λ x. inc_of x l) (λ x. dec_of x l) (λ x. load_count x l) → LetterFits l
letter_fits (App behaviour args load rows) says =
    fit_each thing_in once load (λ x some. says.loads_fit x (omega (arith, some, loaded_is x load, (letter_App x behaviour args load rows).2)))
letter_fits (Inc things) says = (
  few_each thing_of amount_in things (λ x. omega (arith, amount_is x things, (letter_Inc x things).0, says.incs_few x)),
  fit_each thing_of amount_in things (λ x some. says.incs_fit x (omega (arith, some, amount_is x things, (letter_Inc x things).0))),
)
letter_fits (Dec things) says = (
  few_each thing_of amount_in things (λ x. omega (arith, amount_is x things, (letter_Dec x things).1, says.decs_few x)),
  fit_each thing_of amount_in things (λ x some. says.decs_fit x (omega (arith, some, amount_is x things, (letter_Dec x things).1))),
)
letter_fits (Confirm token) says = tt

abbrev MailSaysFit : List Letter → Type 0
MailSaysFit mail = SaysFit (λ x. sum_by (inc_of x) mail) (λ x. sum_by (dec_of x) mail) (λ x. sum_by (load_count x) mail)

mail_fits : (mail : List Letter) → MailSaysFit mail → AllByRecursion LetterFits mail
mail_fits [] says = tt
mail_fits (l ∷ mail) says = (
  letter_fits l (record {
    incs_few = λ x. omega (arith, says.incs_few x, sum_by-cons (inc_of x) l mail);
    incs_fit = λ x some. says.incs_fit x (omega (arith, some, sum_by-cons (inc_of x) l mail));
    decs_few = λ x. omega (arith, says.decs_few x, sum_by-cons (dec_of x) l mail);
    decs_fit = λ x some. says.decs_fit x (omega (arith, some, sum_by-cons (dec_of x) l mail));
    loads_fit = λ x some. says.loads_fit x (omega (arith, some, sum_by-cons (load_count x) l mail));
  }),
  mail_fits mail (record {
    incs_few = λ x. omega (arith, says.incs_few x, sum_by-cons (inc_of x) l mail);
    incs_fit = λ x some. says.incs_fit x (omega (arith, some, sum_by-cons (inc_of x) l mail));
    decs_few = λ x. omega (arith, says.decs_few x, sum_by-cons (dec_of x) l mail);
    decs_fit = λ x some. says.decs_fit x (omega (arith, some, sum_by-cons (dec_of x) l mail));
    loads_fit = λ x some. says.loads_fit x (omega (arith, some, sum_by-cons (load_count x) l mail));
  }),
)

count_is : (a : ℕ) (h : Holdings) → own_in h (Actor a) ≡ h.count
unfolding own_in
count_is a h = refl

-- ---- runs

module _ (program : Program) (options : Options) (book : List Event) (s : State) (well : IsWellFormed program) (short : IsShortRun program options book s) where
  few : OfEachCount (λ n. n < 2 ^ 43) s.actors
  few = (runs_count_in_few_bits program options short.heavy book s short.run short.short short.light).0

  few_made : s.objects < 2 ^ 64
  few_made =
      let made = runs_make_few_objects program options book s well short.run in
      let long : length book ≤ 100000000 = short.short in
      omega (arith, made, long)

  -- an object that is left was made, by the machine that frees nothing too
  made_fits : (p : PlainState) → objects_made p.actors ≡ s.objects → (n : ObjName) → is_some (plain_row p.actors n) ≡ true → n.serial < 2 ^ 64
  made_fits p made n there =
      let within = made_within p.actors n there in
      let part = sum-at (λ (x : PlainActor). length x.rows) p.actors n.owner within.0 (slice_get_within p.actors n.owner within.0 within.1) in
      let here = ap (λ (x : PlainActor). length x.rows) (get_or_from_slice_get p.actors n.owner within.0 within.0 within.1) in
      omega (arith, within.2, part, here, made, few_made)

  left_made : (n : ObjName) → IsLeft s.actors (Obj n) → n.serial < 2 ^ 64
  left_made n left =
      let first = first_state program options in
      let kept = freed_stays program options short.heavy book [] s (subst (λ (b : List Event). IsRun program options b s) (sym (append-nil book)) short.run) in
      let facts = run_has_facts program options short.heavy book s short.run in
      let same = leads_to_one next book first kept.mid s kept.run short.run in
      let beside = leads_to_one plain_next (choices book first) (start_of program) facts.0 kept.before facts.1 kept.beside in
      made_fits kept.before (ap (λ (p : PlainState). objects_made p.actors) (sym beside) ∙ facts.2.beside.objects) n
      (kept.made (Obj n) (subst (λ (t : State). IsLeft t.actors (Obj n)) (sym same) left))

  actor_fits : (a : ℕ) → a < length s.actors → a < 2 ^ 64
  actor_fits a below = let made : length s.actors ≤ 65536 = runs_make_few program options book s short.run in omega (arith, below, made)

  left_fits : (x : Thing) → IsLeft s.actors x → ThingFits x
  left_fits (Actor a) left = actor_fits a (present_below s.actors a left.seat left.present)
  left_fits (Obj n) left = (actor_fits n.owner (present_below s.actors n.owner left.seat left.present), left_made n left)

  early : IsNeverTooEarly program options book s
  early = never_early program options short.heavy book s short.run

  module _ (a : ℕ) (c : Cell) (mail : List Letter) (at : seat_at s.actors a ≡ seat c mail) where
    own_few : (x : Thing) → owner_of x ≡ a → own_in c.holdings x < 2 ^ 43
    own_few x mine =
        let here = ap (own_at x) (ap (seat_at s.actors) mine ∙ at) in
        omega (arith, few.own x, here, own_at-seat x c mail)

    held_few : (x : Thing) → held_in c.holdings x < 2 ^ 43
    held_few x = omega (arith, few.held x a, ap (held_at x) at, held_at-seat x c mail)

    rows_few : (x : Thing) → has_of (row_thing a) (row_amount a) x (m.entries c.holdings.rows) < 2 ^ 64
    rows_few x = elim (cases_eq (owner_of x) a) [
      | inl mine ↦
          let all = own_is a x c.holdings in
          let own = ap (λ (b : Bool). if b then own_in c.holdings x else 0) (eq-eqb (owner_of x) a mine) in
          omega (arith, all, own, own_few x mine)
      | inr other ↦
          let all = own_is a x c.holdings in
          let none = ap (λ (b : Bool). if b then own_in c.holdings x else 0) (ne_eqb (owner_of x) a other) in
          omega (arith, all, none)
    ]

    rows_fit : (x : Thing) → 0 < has_of (row_thing a) (row_amount a) x (m.entries c.holdings.rows) → ThingFits x
    rows_fit x some = elim (cases_eq (owner_of x) a) [
      | inl mine ↦
          let all = own_is a x c.holdings in
          let own = ap (λ (b : Bool). if b then own_in c.holdings x else 0) (eq-eqb (owner_of x) a mine) in
          left_fits x (record {
            seat = record { cell = c; mail = mail };
            present = ap (seat_at s.actors) mine ∙ at;
            kept = counted_has c.holdings x (omega (arith, some, all, own));
          })
      | inr other ↦
          let all = own_is a x c.holdings in
          let none = ap (λ (b : Bool). if b then own_in c.holdings x else 0) (ne_eqb (owner_of x) a other) in
          absurd (omega (arith, some, all, none))
    ]

    says_fit : MailSaysFit mail
    says_fit = record {
      incs_few = λ x. omega (arith, few.incs x a, ap (incs_at x) at, incs_at-seat x c mail);
      incs_fit = λ x some. left_fits x (early.named a c mail at x (by_inc some));
      decs_few = λ x. omega (arith, few.decs x a, ap (decs_at x) at, decs_at-seat x c mail);
      decs_fit = λ x some. left_fits x (early.named a c mail at x (by_dec some));
      loads_fit = λ x some. left_fits x (early.named a c mail at x (by_load some));
    }

    pub seat_fits : SeatFits a c mail
    seat_fits = record {
      number = actor_fits a (present_below s.actors a (record { cell = c; mail = mail }) at);
      count = omega (arith, own_few (Actor a) refl, count_is a c.holdings);
      rows_few = few_each (row_thing a) (row_amount a) (m.entries c.holdings.rows) rows_few;
      rows_fit = fit_each (row_thing a) (row_amount a) (m.entries c.holdings.rows) rows_fit;
      held_few = few_each held_thing held_amount (m.entries c.holdings.foreign) (λ x. omega (arith, held_is x c.holdings, held_few x));
      held_fit = fit_each held_thing held_amount (m.entries c.holdings.foreign)
          (λ x some. left_fits x (early.named a c mail at x (by_root (in_table (omega (arith, some, held_is x c.holdings))))));
      letters = mail_fits mail says_fit;
    }
