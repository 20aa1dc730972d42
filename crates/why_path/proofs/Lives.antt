-- What a path leads to is what lives in the machine that frees nothing.
use Rattle.std.proofs.Common.{◌≡◌, ◌≢◌, ◌⊎◌, inl, inr, ℕ, zero, suc, Bool, true, false, cond, List, [], ◌∷◌, ◌++◌, Option, Some, None, Contains, refl, sym, ap, subst, ◌∙◌, eq-eqb}
use Rattle.std.specs.Prelude.{is_some, option_map, option_and_then}
use Rattle.std.specs.FinMap as m
use Rattle.std.specs.List.{flat_map, list_any}
use Rattle.std.specs.Option.{option_map_or}
use Rattle.std.proofs.lemmas.List.Elements.{Contains-append_cases, Contains-append_left, Contains-append_right}
use Rattle.orca_names.specs.declared.names.ObjName.{ObjName}
use Rattle.orca_names.specs.declared.names.Thing.{Thing}
use Rattle.orca_names.specs.declared.names.Thing.TheVariants.{Actor, Obj}
use Rattle.orca_names.specs.declared.reason.Edge.TheVariants as edges
use Rattle.orca_names.specs.declared.reason.Why.{Why}
use Rattle.orca_names.specs.declared.reason.Why.TheVariants.{Pinned, Frame, Letter}
use Rattle.orca_names.specs.declared.trace.Trace.{Trace}
use Rattle.orca_names.specs.declared.trace.Trace.TheVariants.{Deep, Roots}
use Rattle.turn_rules.specs.declared.act.Frame as frames
use Rattle.letter_kinds.specs.Holdings.{Row, entry_row, has_own, row_of}
use Rattle.letter_kinds.specs.Letters as letters
use Rattle.letter_kinds.specs.Letters.{App, Inc, Dec, Confirm}
use Rattle.machine_rules.specs.Actors.{Actors, Seat, seat_at}
use Rattle.machine_rules.specs.Cell.{own_row_of}
use Rattle.machine_rules.specs.Left.{IsLeft}
use Rattle.reach_walk.specs.Reach.{named_by}
use Rattle.reach_walk.proofs.Elements.{Contains-head, Contains-cons_cases, none_in_nil}
use Rattle.count_laws.specs.Agreement.{IsRootPerson, Person, app_letters, person_at, person_of}
use Rattle.count_laws.specs.Facts.{IsSound, KeepsCounts}
use Rattle.count_laws.specs.Known.{InFrame, Names}
use Rattle.count_laws.proofs.events.EitherMode.{lives_left}
use Rattle.count_laws.proofs.knowledge.Living.{Holds, Letters, Lives, here, holds, later, owner, row, stands}
use Rattle.why_path.specs.Edges.{Lead, LeadsTo, args_of, leads_from, leads_of, leads_of_seat, registers_of, row_at_seat, row_left}
use Rattle.why_path.specs.Named.{ends_of}
use Rattle.why_path.specs.Reasons.{IsLedTo, IsRoot, applies, cause_at, cause_of, is_app}
use Rattle.why_path.proofs.Levels.{led_last, led_more, led_root, root_led}
use Rattle.why_path.proofs.Naming.{end_led, ends_from, ends_seat, led_end}

-- ---- the same of one actor

-- an application letter waits
app_there : (ls : List letters.Letter) → list_any is_app ls ≡ true → app_letters ls ≢ []
app_there [] h none = cc
app_there (App b args load rows ∷ ls) h none = cc
app_there (Inc things ∷ ls) h none = app_there ls h none
app_there (Dec things ∷ ls) h none = app_there ls h none
app_there (Confirm token ∷ ls) h none = app_there ls h none

there_app : (ls : List letters.Letter) → app_letters ls ≢ [] → list_any is_app ls ≡ true
there_app [] h = absurd (h refl)
there_app (App b args load rows ∷ ls) h = refl
there_app (Inc things ∷ ls) h = there_app ls h
there_app (Dec things ∷ ls) h = there_app ls h
there_app (Confirm token ∷ ls) h = there_app ls h

-- a cause makes a root
abbrev caused : Bool → Bool → Bool → Option Why
caused pinned frame letter =
    cond pinned (Some Pinned) (cond frame (Some Frame) (cond letter (Some Letter) None))

caused_by : (pinned frame letter : Bool) → is_some (caused pinned frame letter) ≡ true
    → (pinned ≡ true) ⊎ ((frame ≡ true) ⊎ (letter ≡ true))
caused_by true frame letter h = inl refl
caused_by false true letter h = inr (inl refl)
caused_by false false true h = inr (inr refl)
caused_by false false false h = cc

by_caused : (pinned frame letter : Bool) → (pinned ≡ true) ⊎ ((frame ≡ true) ⊎ (letter ≡ true))
    → is_some (caused pinned frame letter) ≡ true
by_caused true frame letter h = refl
by_caused false true letter h = refl
by_caused false false true h = refl
by_caused false false false (inl h) = cc
by_caused false false false (inr (inl h)) = cc
by_caused false false false (inr (inr h)) = cc

some_frame : (f : Option frames.Frame) → is_some f ≡ true → f ≢ None
some_frame None h none = cc
some_frame (Some f) h none = cc

frame_some : (f : Option frames.Frame) → f ≢ None → is_some f ≡ true
frame_some None h = absurd (h refl)
frame_some (Some f) h = refl

root_person : (o : Seat) → is_some (cause_at o) ≡ true → IsRootPerson (person_of o.cell o.mail)
root_person o h = elim (caused_by (applies Pinned o) (applies Frame o) (applies Letter o) h)
    as (λ _. IsRootPerson (person_of o.cell o.mail)) [
      | inl pinned ↦ inl pinned
      | inr rest ↦ elim rest as (λ _. IsRootPerson (person_of o.cell o.mail)) [
        | inl frame ↦ inr (inl (some_frame o.cell.frame frame))
        | inr letter ↦ inr (inr (app_there o.mail letter))
      ]
    ]

person_root : (o : Seat) → IsRootPerson (person_of o.cell o.mail) → is_some (cause_at o) ≡ true
person_root o (inl pinned) = by_caused (applies Pinned o) (applies Frame o) (applies Letter o) (inl pinned)
person_root o (inr (inl frame)) =
    by_caused (applies Pinned o) (applies Frame o) (applies Letter o) (inr (inl (frame_some o.cell.frame frame)))
person_root o (inr (inr letter)) =
    by_caused (applies Pinned o) (applies Frame o) (applies Letter o) (inr (inr (there_app o.mail letter)))

-- what its registers name
in_registers : (f : Option frames.Frame) (x : Thing) → Names (option_map_or (λ f. f.registers) f []) x → InFrame f x
in_registers None x n = none_in_nil x ⊥ n
in_registers (Some f) x n = n

registers_in : (f : Option frames.Frame) (x : Thing) → InFrame f x → Names (option_map_or (λ f. f.registers) f []) x
registers_in None x h = absurd h
registers_in (Some f) x h = h

-- what its letters name
abbrev named_in : List letters.Letter → List Thing
named_in ls = flat_map (λ l. named_by (args_of l)) ls

in_letters : (ls : List letters.Letter) (x : Thing) → Contains (named_in ls) x → Letters (app_letters ls) x
in_letters [] x c = none_in_nil x _ c
in_letters (App b args load rows ∷ ls) x c = elim (Contains-append_cases (named_by args) (named_in ls) x c)
    as (λ _. Letters (app_letters (App b args load rows ∷ ls)) x) [
      | inl first ↦ here first
      | inr rest ↦ later (in_letters ls x rest)
    ]
in_letters (Inc things ∷ ls) x c = in_letters ls x c
in_letters (Dec things ∷ ls) x c = in_letters ls x c
in_letters (Confirm token ∷ ls) x c = in_letters ls x c

letters_in : (ls : List letters.Letter) (x : Thing) → Letters (app_letters ls) x → Contains (named_in ls) x
letters_in [] x h = elim h [ ]
letters_in (App b args load rows ∷ ls) x (here n) = Contains-append_left (named_by args) (named_in ls) x n
letters_in (App b args load rows ∷ ls) x (later h) =
    Contains-append_right (named_by args) (named_in ls) x (letters_in ls x h)
letters_in (Inc things ∷ ls) x h = letters_in ls x h
letters_in (Dec things ∷ ls) x h = letters_in ls x h
letters_in (Confirm token ∷ ls) x h = letters_in ls x h

-- an actor leads to what it holds
module _ (o : Seat) (x : Thing) where
  abbrev fields : List Thing
  fields = named_by o.cell.fields.values

  abbrev registers : List Thing
  registers = named_by (registers_of o)

  led_held : Contains (ends_of (leads_of_seat o)) x → Holds (person_of o.cell o.mail) x
  led_held c = elim (Contains-append_cases fields (registers ++ named_in o.mail) x (subst (λ xs. Contains xs x) (ends_seat o) c))
      as (λ _. Holds (person_of o.cell o.mail) x) [
        | inl n ↦ inl n
        | inr rest ↦ elim (Contains-append_cases registers (named_in o.mail) x rest) as (λ _. Holds (person_of o.cell o.mail) x) [
          | inl n ↦ inr (inl (in_registers o.cell.frame x n))
          | inr n ↦ inr (inr (in_letters o.mail x n))
        ]
      ]

  held_led : Holds (person_of o.cell o.mail) x → Contains (ends_of (leads_of_seat o)) x
  held_led h = subst (λ xs. Contains xs x) (sym (ends_seat o)) (by h)
    where
      by : Holds (person_of o.cell o.mail) x → Contains (fields ++ (registers ++ named_in o.mail)) x
      by (inl n) = Contains-append_left fields (registers ++ named_in o.mail) x n
      by (inr (inl n)) = Contains-append_right fields (registers ++ named_in o.mail) x
          (Contains-append_left registers (named_in o.mail) x (registers_in o.cell.frame x n))
      by (inr (inr n)) = Contains-append_right fields (registers ++ named_in o.mail) x
          (Contains-append_right registers (named_in o.mail) x (letters_in o.mail x n))

-- ---- rows

-- an own object that is there has its row
own_row : (n : ObjName) (o : Seat) → has_own o.cell.holdings (Obj n) ≡ true
    → option_map (λ e. e.0) (m.get o.cell.holdings.rows n.serial) ≡ Some (row_at_seat n o)
unfolding has_own
own_row n o kept = by (m.get o.cell.holdings.rows n.serial) kept
  where
    by : (e : Option (Row × ℕ)) → is_some e ≡ true
        → option_map (λ (e : Row × ℕ). e.0) e ≡ Some (option_map_or (λ (e : Row × ℕ). e.0) e [])
    by None h = cc
    by (Some e) h = refl

-- it is the one that was made
row_made : (trace : Trace) (all : Thing → Option Row) (n : ObjName) (o : Seat)
    → IsSound trace all n.owner o.cell o.mail → has_own o.cell.holdings (Obj n) ≡ true
    → all (Obj n) ≡ Some (row_at_seat n o)
unfolding row_of own_row_of
row_made Deep all n o sound kept =
    sym (sound.rows (Obj n) (inl (refl, kept)))
    ∙ ap (λ b. cond b (option_map (λ (e : Row × ℕ). e.0) (m.get o.cell.holdings.rows n.serial)) (entry_row (m.get o.cell.holdings.foreign (Obj n)))) (eq-eqb n.owner n.owner refl)
    ∙ own_row n o kept
row_made Roots all n o sound kept = sound.mine n (row_at_seat n o)
    (ap (λ b. cond b (option_map (λ (e : Row × ℕ). e.0) (m.get o.cell.holdings.rows n.serial)) None) (eq-eqb n.owner n.owner refl)
    ∙ own_row n o kept)

-- ---- all actors

module _ (trace : Trace) (all : Thing → Option Row) (people : List Person) (s : Actors)
    (counts : KeepsCounts trace all people s) where
  left_row : (n : ObjName) → IsLeft s (Obj n) → all (Obj n) ≡ Some (row_left s n)
  left_row n left =
      let made = row_made trace all n left.seat (counts.sound n.owner left.seat.cell left.seat.mail left.present) left.kept in
      made ∙ ap (λ o. Some (option_map_or (row_at_seat n) o [])) (sym left.present)

  -- ---- what a path leads to lives

  root_lives : (x : Thing) → IsRoot s x → Lives all people x
  unfolding cause_of
  root_lives (Obj n) h = cc
  root_lives (Actor a) h = by (seat_at s a) refl h
    where
      by : (o : Option Seat) → seat_at s a ≡ o → is_some (option_and_then cause_at o) ≡ true → Lives all people (Actor a)
      by None at h = cc
      by (Some o) at h = stands (subst IsRootPerson (sym (counts.agrees.present a o.cell o.mail at)) (root_person o h))

  lead_lives : (t x : Thing) → Lives all people t → LeadsTo s t x → Lives all people x
  unfolding leads_of
  lead_lives (Actor a) x l leads = by (seat_at s a) refl leads.1
    where
      by : (o : Option Seat) → seat_at s a ≡ o → Contains (option_map_or leads_of_seat o []) (leads.0, x) → Lives all people x
      by None at c = none_in_nil (leads.0, x) _ c
      by (Some o) at c =
          let held = led_held o x (led_end (leads_of_seat o) leads.0 x c) in
          holds l (subst (λ p. Holds p x) (sym (counts.agrees.present a o.cell o.mail at)) held)
  lead_lives (Obj n) x l leads =
      elim (Contains-append_cases (leads_from edges.Place 0 (row_left s n)) ((edges.Owner, Actor n.owner) ∷ []) (leads.0, x) leads.1)
      as (λ _. Lives all people x) [
        | inl place ↦
            let named = subst (λ xs. Contains xs x) (ends_from edges.Place 0 (row_left s n))
            (led_end (leads_from edges.Place 0 (row_left s n)) leads.0 x place) in
            row l (left_row n (lives_left trace all people s counts (Obj n) l)) named
        | inr last ↦ elim (Contains-cons_cases (edges.Owner, Actor n.owner) [] (leads.0, x) last) as (λ _. Lives all people x) [
          | inl same ↦ subst (Lives all people) (ap (λ (l : Lead). l.1) same) (owner l)
          | inr none ↦ none_in_nil (leads.0, x) _ none
        ]
      ]

  pub led_lives : (k : ℕ) (x : Thing) → IsLedTo s k x → Lives all people x
  led_lives zero x led = root_lives x (led_root s x led)
  led_lives (suc k) x led =
      let last = led_last s k x led in
      lead_lives last.0 x (led_lives k last.0 last.1) last.2

  -- ---- to what lives a path leads

  root_stands : (a : ℕ) → IsRootPerson (person_at people a) → IsRoot s (Actor a)
  unfolding cause_of
  root_stands a r = by (seat_at s a) refl
    where
      by : (o : Option Seat) → seat_at s a ≡ o → is_some (option_and_then cause_at o) ≡ true
      by None at = absurd (counts.agrees.absent a at r)
      by (Some o) at = person_root o (subst IsRootPerson (counts.agrees.present a o.cell o.mail at) r)

  actor_leads : (a : ℕ) (x : Thing) → IsLeft s (Actor a) → Holds (person_at people a) x → LeadsTo s (Actor a) x
  unfolding leads_of
  actor_leads a x left h =
      let o = left.seat in
      let held = held_led o x (subst (λ p. Holds p x) (counts.agrees.present a o.cell o.mail left.present) h) in
      let led = end_led (leads_of_seat o) x held in
      (led.0, subst (λ o. Contains (option_map_or leads_of_seat o []) (led.0, x)) (sym left.present) led.1)

  row_leads : (n : ObjName) (x : Thing) → Names (row_left s n) x → LeadsTo s (Obj n) x
  unfolding leads_of
  row_leads n x named =
      let places = leads_from edges.Place 0 (row_left s n) in
      let led = end_led places x (subst (λ xs. Contains xs x) (sym (ends_from edges.Place 0 (row_left s n))) named) in
      (led.0, Contains-append_left places ((edges.Owner, Actor n.owner) ∷ []) (led.0, x) led.1)

  owner_leads : (n : ObjName) → LeadsTo s (Obj n) (Actor n.owner)
  unfolding leads_of
  owner_leads n =
      let last : Lead = (edges.Owner, Actor n.owner) in
      (edges.Owner, Contains-append_right (leads_from edges.Place 0 (row_left s n)) (last ∷ []) last (Contains-head last []))

  pub lives_led : {x : Thing} → Lives all people x → (k : ℕ) × IsLedTo s k x
  lives_led (stands {a = a} r) = (0, root_led s (Actor a) (root_stands a r))
  lives_led (holds {a = a} {x = x} l h) =
      let deeper = lives_led l in
      let left = lives_left trace all people s counts (Actor a) l in
      (suc deeper.0, led_more s deeper.0 (Actor a) x deeper.1 (actor_leads a x left h))
  lives_led (row {n = n} {x = x} {r = r} l e named) =
      let deeper = lives_led l in
      let both = sym e ∙ left_row n (lives_left trace all people s counts (Obj n) l) in
      let same : r ≡ row_left s n = cc in
      (suc deeper.0, led_more s deeper.0 (Obj n) x deeper.1 (row_leads n x (subst (λ vs. Names vs x) same named)))
  lives_led (owner {n = n} l) =
      let deeper = lives_led l in
      (suc deeper.0, led_more s deeper.0 (Obj n) (Actor n.owner) deeper.1 (owner_leads n))
