-- What the events of a book freed is freed after later ones too, and is not reached then.
use Rattle.std.proofs.Common.{◌≡◌, ℕ, Bool, true, false, is_some, option_map, Option, Some, None, inl, ◌∙◌, eq-eqb, List, [], ◌∷◌, ◌++◌, length, refl, sym, ap, subst, arith}
use Rattle.std.specs.Prelude.{if◌then◌else◌}
use Rattle.std.specs.FinMap as m
use Rattle.orca_names.specs.declared.names.ObjName.{ObjName}
use Rattle.orca_names.specs.declared.names.Thing.{Thing}
use Rattle.orca_names.specs.declared.names.Thing.TheVariants.{Actor, Obj}
use Rattle.event_rule.specs.declared.event.Event.{Event}
use Rattle.letter_kinds.specs.Holdings.{Holdings, Row, has_own, row_of}
use Rattle.count_laws.proofs.agreement.Forgotten.{forgotten_stays}
use Rattle.machine_rules.proofs.Present.{present_below}
use Rattle.count_laws.proofs.agreement.PlainSide.{length-people, made_within, stands_beside}
use Rattle.count_laws.proofs.gone.Staying.{gone_stays}
use Rattle.letter_kinds.specs.Letters.{Letter}
use Rattle.reach_walk.specs.Reach.{thing_row}
use Rattle.count_laws.specs.Agreement.{Person}
use Rattle.std.proofs.lemmas.Option.{slice_get_within}
use Rattle.machine_rules.specs.Cell.{Cell, own_row_of}
use Rattle.count_laws.specs.Facts.{IsSound}
use Rattle.count_laws.specs.Gone.{IsGone, HasName}
use Rattle.machine_rules.specs.Left.{IsFreed, IsLeft, IsMade}
use Rattle.orca_names.specs.declared.trace.Trace.{Trace}
use Rattle.orca_names.specs.declared.trace.Trace.TheVariants.{Deep, Roots}
use Rattle.event_rule.specs.Runs.{Leads, Step, Goes}
use Rattle.plain_rules.specs.Run.{plain_next}
use Rattle.machine_rules.specs.Next.{next}
use Rattle.plain_rules.specs.Machine.{PlainState, plain_row}
use Rattle.machine_rules.specs.Run.{choices, choices_after, is_choice}
use Rattle.machine_rules.specs.State.{State, first_state}
use Rattle.plain_rules.specs.declared.PlainActor.{PlainActor}
use Rattle.machine_laws.proofs.WholeRuns.{leads_on, reachable_left, run_has_facts}
use Rattle.machine_laws.specs.AllFacts.{AllFacts}
use Rattle.machine_laws.specs.Freed.{FreedStaysFreed}

pub split_leads : (book later : List Event) (s t : State) → Leads next s (book ++ later) t → (u : State) × Leads next s book u × Leads next u later t
split_leads [] later s t leads = (s, refl, leads)
split_leads (e ∷ book) later s t leads = let rest = split_leads book later leads.0 t leads.2 in (rest.0, (leads.0, leads.1, rest.1), rest.2)

-- ---- the plain machine beside the whole

abbrev Chosen : Bool → Event → List Event → Step State → List Event
Chosen b e book step = if b then e ∷ choices_after (choices book) step else choices_after (choices book) step

chosen_on : (b : Bool) (e : Event) (book later : List Event) (u : State) (p q r : PlainState)
    → ((p : PlainState) → Leads plain_next p (choices book u) q → Leads plain_next p (choices (book ++ later) u) r)
    → Leads plain_next p (Chosen b e book (Goes u)) q → Leads plain_next p (Chosen b e (book ++ later) (Goes u)) r
chosen_on true e book later u p q r rest (v, goes, leads) = (v, goes, rest v leads)
chosen_on false e book later u p q r rest leads = rest p leads

beside_on : (book later : List Event) (s u : State) (q r : PlainState) → Leads next s book u → Leads plain_next q (choices later u) r → (p : PlainState) → Leads plain_next p (choices book s) q → Leads plain_next p (choices (book ++ later) s) r
beside_on [] later s u q r same beside p stays =
    subst (λ (v : PlainState). Leads plain_next v (choices later s) r) (sym stays) (subst (λ (w : State). Leads plain_next q (choices later w) r) (sym same) beside)
beside_on (e ∷ book) later s u q r (v, goes, leads) beside p first =
    subst (λ (step : Step State). Leads plain_next p (Chosen (is_choice s e) e book step) q → Leads plain_next p (Chosen (is_choice s e) e (book ++ later) step) r) (sym goes)
    (chosen_on (is_choice s e) e book later v p q r (beside_on book later v u q r leads beside)) first

-- ---- what was made has a name

made_named : (trace : Trace) (p : PlainState) (s : State) → AllFacts trace p s → (x : Thing) → IsMade p.actors x → HasName s.actors x
made_named trace p s facts (Actor a) made = let l = facts.beside.counts.long in omega (arith, length-people p.actors)
made_named trace p s facts (Obj n) made =
    let counts = facts.beside.counts in
    let within = made_within p.actors n made in (
      (let l = counts.long in omega (arith, length-people p.actors, slice_get_within p.actors n.owner within.0 within.1)),
      λ seat at.
          let beside = stands_beside (thing_row (plain_row p.actors)) p.actors s.actors counts n.owner seat.cell seat.mail at in
          let one : within.0 ≡ beside.actor = let there = beside.there in let is = within.1 in cc in
          let rows : length within.0.rows ≡ seat.cell.holdings.next = ap (λ (x : PlainActor). length x.rows) one ∙ ap (λ (q : Person). q.serial) beside.same in
          let below = within.2 in omega arith,
    )

freed_gone : (trace : Trace) (p : PlainState) (s : State) → AllFacts trace p s → (x : Thing) → IsFreed p.actors s.actors x → IsGone s.actors x
freed_gone trace p s facts x freed = (made_named trace p s facts x freed.0, freed.1)

-- what is left was made
row_there : (a : ℕ) (h : Holdings) (n : ObjName) → n.owner ≡ a → has_own h (Obj n) ≡ true → is_some (row_of a h n) ≡ true
unfolding has_own row_of
row_there a h n own has = rw (eq-eqb n.owner a own) (by_entry (m.get h.rows n.serial) has)
  where
    by_entry : (e : Option (Row × ℕ)) → is_some e ≡ true → is_some (option_map (λ r. r.0) e) ≡ true
    by_entry None has = cc
    by_entry (Some e) has = refl

-- of an own object that is there the row was made, with either tracing
some_made : (all : Thing → Option Row) (n : ObjName) (o : Option Row) → ((row : Row) → o ≡ Some row → all (Obj n) ≡ Some row) → is_some o ≡ true → is_some (all (Obj n)) ≡ true
some_made all n None made there = cc
some_made all n (Some row) made there = ap is_some (made row refl)

own_row_there : (a : ℕ) (h : Holdings) (n : ObjName) → n.owner ≡ a → has_own h (Obj n) ≡ true → is_some (own_row_of a h n) ≡ true
unfolding has_own own_row_of
own_row_there a h n own has = rw (eq-eqb n.owner a own) (by_entry (m.get h.rows n.serial) has)
  where
    by_entry : (e : Option (Row × ℕ)) → is_some e ≡ true → is_some (option_map (λ r. r.0) e) ≡ true
    by_entry None has = cc
    by_entry (Some e) has = refl

own_made : (trace : Trace) (all : Thing → Option Row) (n : ObjName) (c : Cell) (mail : List Letter) → IsSound trace all n.owner c mail → has_own c.holdings (Obj n) ≡ true → is_some (all (Obj n)) ≡ true
own_made Deep all n c mail sound kept =
    let same : row_of n.owner c.holdings n ≡ all (Obj n) = sound.rows (Obj n) (inl (refl, kept)) in
    ap is_some (sym same) ∙ row_there n.owner c.holdings n refl kept
own_made Roots all n c mail sound kept = some_made all n (own_row_of n.owner c.holdings n) (sound.mine n) (own_row_there n.owner c.holdings n refl kept)

left_made : (trace : Trace) (p : PlainState) (s : State) → AllFacts trace p s → (x : Thing) → IsLeft s.actors x → IsMade p.actors x
left_made trace p s facts (Actor a) left = let l = facts.beside.counts.long in let below = present_below s.actors a left.seat left.present in omega (arith, length-people p.actors)
left_made trace p s facts (Obj n) left =
    let o = left.seat in
    own_made trace (thing_row (plain_row p.actors)) n o.cell o.mail (facts.beside.counts.sound n.owner o.cell o.mail left.present) left.kept

-- ---- the law

pub freed_stays : FreedStaysFreed
freed_stays program options heavy book later t run =
    let parts = split_leads book later (first_state program options) t run in
    let first = run_has_facts program options heavy book parts.0 parts.1 in
    let last = leads_on options.trace later first.0 parts.0 t first.2 parts.2 in
    let forgotten = λ (x : Thing) (freed : IsFreed first.0.actors parts.0.actors x).
    forgotten_stays (choices later parts.0) first.0 last.0 last.1 x (freed.0, λ r. freed.1 (reachable_left options.trace first.0 parts.0 first.2 x r)) in
    record {
      mid = parts.0;
      run = parts.1;
      before = first.0;
      beside = first.1;
      after = last.0;
      beside_all = beside_on book later (first_state program options) parts.0 first.0 last.0 parts.1 last.1 _ first.1;
      made = left_made options.trace first.0 parts.0 first.2;
      freed = λ x freed. ((forgotten x freed).0, (gone_stays later parts.0 t parts.2 x (freed_gone options.trace first.0 parts.0 first.2 x freed)).1);
      unreached = λ x freed. (forgotten x freed).1;
    }
