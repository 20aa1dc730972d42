-- What each event frees.
use Rattle.std.proofs.Common.{◌≡◌, ℕ, suc, ◌+◌, ◌==◌, ◌&&◌, not, Bool, true, false, is_some, List, [], ◌∷◌, length, set, None, refl, sym, ap, subst, ◌∙◌, ⊎_elim, eq-eqb, ne_eqb}
use Rattle.std.specs.Option.{option_map_or}
use Rattle.std.proofs.lemmas.Bool.{cases_eq, cases_lt, eqb-true}
use Rattle.std.proofs.lemmas.List.{get_or_past}
use Rattle.orca_names.specs.declared.names.ObjName.{ObjName}
use Rattle.orca_names.specs.declared.names.Thing.TheVariants.{Actor, Obj}
use Rattle.behaviour_code.specs.declared.code.Program.{Program}
use Rattle.event_rule.specs.declared.event.Event.{Event}
use Rattle.event_rule.specs.declared.event.Event.TheVariants.{Take, Go, Collect, Leave, Block, Hear, Scan, Reap}
use Rattle.letter_kinds.proofs.Counts.{has_set_held}
use Rattle.letter_kinds.proofs.MadeRows.{add_rows-made, add_rows-below, add_rows-past, cases_serial}
use Rattle.letter_kinds.specs.Counting.{Amount, by_owner, gain, given_back, mint_all, send, sweep}
use Rattle.letter_kinds.specs.Detector.{Token, closed_set, has}
use Rattle.letter_kinds.specs.Holdings.{Holdings, Row, has_own, with_made}
use Rattle.letter_kinds.specs.Letters.{Letter, App, Inc, Dec, Confirm}
use Rattle.plain_rules.specs.Machine.{with_name}
use Rattle.machine_rules.specs.Actors.{Actors, Seat, push_decs, push_letter, seat, seat_at}
use Rattle.machine_rules.specs.Cell.{Cell, fresh_cell}
use Rattle.machine_rules.specs.Collect.{after_collect, is_marked, without_unused}
use Rattle.machine_rules.specs.Detect.{ask_all, empty_seats, reap_decs, reap_members}
use Rattle.machine_rules.specs.Go.{cell_after_turn, load_from, mint, rows_from, turn_of_cell}
use Rattle.machine_rules.specs.Left.{IsLeft}
use Rattle.machine_rules.specs.Rules.{IsStep, cell_kept, cell_kept_in, later_frame}
use Rattle.machine_rules.specs.Rules as rule
use Rattle.machine_rules.specs.State.{State}
use Rattle.machine_rules.specs.Take.{cell_after}
use Rattle.machine_rules.proofs.Present.{present_below}
use Rattle.machine_rules.proofs.Stepping.{step_of}
use Rattle.count_laws.proofs.away.Untouched.{emptied_other}
use Rattle.count_laws.proofs.balance.Seats.{at_other, at_same, some_seat}
use Rattle.count_laws.proofs.balance.Sweeping.{same_holdings}
use Rattle.count_laws.proofs.events.Every.{set_none}
use Rattle.count_laws.proofs.gone.Staying.{has-lower_all, has-raise_all}
use Rattle.count_laws.proofs.knowledge.Receiving.{has-receive}
use Rattle.count_laws.proofs.knowledge.Sending.{has-mint_all, has-send}
use Rattle.row_laws.specs.Blocks.{is_freed_by}
use Rattle.row_laws.specs.Laws.{EventsFreeExactly, FreesExactly}
use Rattle.row_laws.proofs.Moving.{Remains, decs_come, emptied_come, more_remains, push_remains, remains_cell}

-- ---- letters are pushed: what is left stays

decs_remain : (gs : List (ℕ × List Amount)) (s : Actors) → Remains s (push_decs gs s)
unfolding push_decs
decs_remain [] s n left = left
decs_remain (g ∷ gs) s n left = decs_remain gs (push_letter g.0 (Dec g.1) s) n (push_remains s g.0 (Dec g.1) n left)

asked_remain : (members : List ℕ) (token : ℕ) (s : Actors) → Remains s (ask_all members token s)
asked_remain [] token s n left = left
asked_remain (a ∷ members) token s n left =
    asked_remain members token (push_letter a (Confirm token) s) n (push_remains s a (Confirm token) n left)

-- ---- members go: of theirs nothing is left, and what is others' stays

cleared : (s : Actors) (b : ℕ) (n : ObjName) → n.owner ≡ b → IsLeft (set s b None) (Obj n) → ⊥
cleared s b n is left = ⊎_elim
    (λ within. let z = sym (at_same s b (seat_at s b) None within refl n.owner is) ∙ left.present in cc)
    (λ past. let z = sym (set_none s b n.owner (get_or_past s b None past)) ∙ left.present in
    let w = ap (seat_at s) is ∙ get_or_past s b None past in cc)
    (cases_lt b (length s))

emptied_go : (members : List ℕ) (s : Actors) (n : ObjName) → has members n.owner ≡ true → IsLeft (empty_seats members s) (Obj n) → ⊥
unfolding empty_seats
emptied_go [] s n among left = cc
emptied_go (m ∷ members) s n among left = ⊎_elim
    (λ is. cleared s m n is (emptied_come members (set s m None) n left))
    (λ not. emptied_go members (set s m None) n (rw (ne_eqb m n.owner (λ e. not (sym e))) at among) left)
    (cases_eq n.owner m)

reaped_go : (members : List ℕ) (s : Actors) (n : ObjName) → has members n.owner ≡ true → IsLeft (reap_members members s) (Obj n) → ⊥
reaped_go members s n among left =
    emptied_go members s n among (decs_come (reap_decs members members s) (empty_seats members s) n left)

reaped_remain : (members : List ℕ) (s : Actors) (n : ObjName) → has members n.owner ≡ false → IsLeft s (Obj n) → IsLeft (reap_members members s) (Obj n)
reaped_remain members s n out left = decs_remain (reap_decs members members s) (empty_seats members s) n (record {
  seat = left.seat;
  present = emptied_other members s n.owner out ∙ left.present;
  kept = left.kept;
})

-- ---- an actor sweeps: of its own objects those go that it has no more

not_false : (x : Bool) → not x ≡ false → x ≡ true
not_false true e = refl
not_false false e = cc

and_not : (x y : Bool) → x && not y ≡ true → (x ≡ true) × (y ≡ false)
and_not true true e = cc
and_not true false e = (refl, refl)
and_not false y e = cc

module _ (s : Actors) (b : ℕ) (c d : Cell) (mail : List Letter) (at : seat_at s b ≡ seat c mail) where
  swept_remain : (n : ObjName) → (n.owner == b) && not (has_own d.holdings (Obj n)) ≡ false → IsLeft s (Obj n) → IsLeft (set s b (seat d mail)) (Obj n)
  swept_remain n kept left = ⊎_elim
      (λ is. record {
        seat = record { cell = d; mail = mail };
        present = at_same s b (seat c mail) (seat d mail) (present_below s b _ at) at n.owner is;
        kept = not_false (has_own d.holdings (Obj n)) (rw (eq-eqb n.owner b is) at kept);
      })
      (λ not. record {
        seat = left.seat;
        present = at_other s b (seat c mail) (seat d mail) (present_below s b _ at) at n.owner not ∙ left.present;
        kept = left.kept;
      })
      (cases_eq n.owner b)

  swept_go : (n : ObjName) → (n.owner == b) && not (has_own d.holdings (Obj n)) ≡ true → IsLeft (set s b (seat d mail)) (Obj n) → ⊥
  swept_go n swept left =
      let gone = and_not (n.owner == b) (has_own d.holdings (Obj n)) swept in
      let e = some_seat d left.seat.cell mail left.seat.mail
      (sym (at_same s b (seat c mail) (seat d mail) (present_below s b _ at) at n.owner (eqb-true n.owner b gone.0)) ∙ left.present) in
      let there = subst (λ (q : Cell). has_own q.holdings (Obj n) ≡ true) (sym e.0) left.kept in cc

-- ---- a turn keeps what is there

made_keeps : (made : List Row) (h : Holdings) (n : ObjName) → has_own h (Obj n) ≡ true → has_own (with_made made h) (Obj n) ≡ true
unfolding has_own
made_keeps made h n has = ⊎_elim
    (λ below. ap is_some (add_rows-below h.next made h.rows n.serial below) ∙ has)
    (λ from. ⊎_elim
    (λ within. ap is_some (add_rows-made h.next made h.rows within.0 n.serial within.1 within.2))
    (λ past. ap is_some (add_rows-past h.next made h.rows n.serial past) ∙ has)
    from)
    (cases_serial h.next (length made) n.serial)

turn_remains : (s : Actors) (a : ℕ) (c d : Cell) (mail : List Letter) (made : List Row) → seat_at s a ≡ seat c mail
    → ((n : ObjName) → has_own d.holdings (Obj n) ≡ has_own (with_made made c.holdings) (Obj n)) → Remains s (set s a (seat d mail))
turn_remains s a c d mail made at same =
    remains_cell s a c d mail mail at (λ n has. same n ∙ made_keeps made c.holdings n has)

mint_remains : (s : Actors) (a : ℕ) (c : Cell) (mail : List Letter) → seat_at s a ≡ seat c mail → (b : ℕ) (things : List Amount)
    → Remains s (mint a c mail b things s)
mint_remains s a c mail at b things n left =
    let minter : Cell = record c { holdings = mint_all things c.holdings } in
    push_remains (set s a (seat minter mail)) b (Inc things) n
    (remains_cell s a c minter mail mail at (λ k has. has-mint_all (Obj k) things c.holdings ∙ has) n left)

taken_keeps : (program : Program) (a : ℕ) (l : Letter) (c : Cell) (n : ObjName) → has_own c.holdings (Obj n) ≡ true
    → has_own (cell_after program a l c).holdings (Obj n) ≡ true
taken_keeps program a (App behaviour args load rows) c n has = has-receive a (Obj n) load c.holdings ∙ has
taken_keeps program a (Inc things) c n has = has-raise_all a things c.holdings (Obj n) ∙ has
taken_keeps program a (Dec things) c n has = has-lower_all a things c.holdings (Obj n) ∙ has
taken_keeps program a (Confirm token) c n has = has

-- ---- each event

frees_none : (s t : State) (e : Event) → ((n : ObjName) → is_freed_by s e n ≡ false) → Remains s.actors t.actors → FreesExactly s t e
frees_none s t e none remains = record {
  stays = λ n left kept. remains n left;
  goes = λ n freed left. (let no = none n in cc);
}

frees_members : (s t : State) (e : Event) (members : List ℕ) → ((n : ObjName) → is_freed_by s e n ≡ has members n.owner)
    → reap_members members s.actors ≡ t.actors → FreesExactly s t e
frees_members s t e members same reaped = record {
  stays = λ n left kept. subst (λ (u : Actors). IsLeft u (Obj n)) reaped (reaped_remain members s.actors n (sym (same n) ∙ kept) left);
  goes = λ n freed left. reaped_go members s.actors n (sym (same n) ∙ freed) (subst (λ (u : Actors). IsLeft u (Obj n)) (sym reaped) left);
}

alone : (a b : ℕ) → (b == a) ≡ has (a ∷ []) b
alone a b = ⊎_elim
    (λ is. rw (eq-eqb b a is, eq-eqb a b (sym is)) refl)
    (λ not. rw (ne_eqb b a not, ne_eqb a b (λ e. not (sym e))) refl)
    (cases_eq b a)

module _ (s : State) (a : ℕ) (c : Cell) (mail : List Letter) (at : seat_at s.actors a ≡ seat c mail) where
  abbrev swept : Cell
  swept = let d = without_unused s.options.trace a c in record d {
    holdings = sweep (is_marked s.options.trace a c) a d.holdings;
    dirty = false;
  }

  swept_told : (n : ObjName) → is_freed_by s (Collect a) n ≡ (n.owner == a) && not (has_own swept.holdings (Obj n))
  swept_told n =
      let marked = is_marked s.options.trace a c in
      ap (λ o. (n.owner == a) && option_map_or (λ (x : Seat). not (has_own (sweep (is_marked s.options.trace a x.cell) a x.cell.holdings) (Obj n))) o false) at
      ∙ ap (λ (h : Holdings). (n.owner == a) && not (has_own (sweep marked a h) (Obj n))) (sym (same_holdings s.options.trace a c))

  frees_swept : (t : State) → after_collect (is_marked s.options.trace a c) a (without_unused s.options.trace a c) mail s.actors ≡ t.actors
      → FreesExactly s t (Collect a)
  frees_swept t later =
      let groups = by_owner (given_back (is_marked s.options.trace a c) (without_unused s.options.trace a c).holdings) in
      let mid = set s.actors a (seat swept mail) in record {
        stays = λ n left kept. subst (λ (u : Actors). IsLeft u (Obj n)) later
            (decs_remain groups mid n (swept_remain s.actors a c swept mail at n (sym (swept_told n) ∙ kept) left));
        goes = λ n freed left. swept_go s.actors a c swept mail at n (sym (swept_told n) ∙ freed)
            (decs_come groups mid n (subst (λ (u : Actors). IsLeft u (Obj n)) (sym later) left));
      }

frees : (s : State) {e : Event} {t : State} → IsStep s.options.trace s e t → FreesExactly s t e
frees s (rule.takes a c l mail at is) =
    frees_none s _ (Take a) (λ n. refl) (remains_cell s.actors a c (cell_after s.program a l c) (l ∷ mail) mail at (taken_keeps s.program a l c))
frees s (rule.ends a c mail f stops) =
    let stop = turn_of_cell s.options.trace s.program a c f in
    frees_none s _ (Go a) (λ n. refl) (turn_remains s.actors a c (cell_after_turn stop None true c) mail stop.turn.made stops.going.present (λ n. refl))
frees s (rule.prints a c mail f v stops) =
    let stop = turn_of_cell s.options.trace s.program a c f in
    frees_none s _ (Go a) (λ n. refl) (turn_remains s.actors a c (cell_kept s.options.trace s a c f) mail stop.turn.made stops.going.present (λ n. refl))
frees s (rule.makes a c mail f kind register stops room) =
    let trace = s.options.trace in
    let stop = turn_of_cell trace s.program a c f in
    let h : Holdings = with_made stop.turn.made c.holdings in
    let w = s.options.weight in
    let d : Cell = record (cell_kept_in trace s a c f (with_name (later_frame trace s a c f) register (length s.actors))) {
      holdings = gain w (Actor (length s.actors)) None h;
    } in
    frees_none s _ (Go a) (λ n. refl) (λ n left. more_remains (set s.actors a (seat d mail)) (seat (fresh_cell w s.program kind) []) n
    (turn_remains s.actors a c d mail stop.turn.made stops.going.present
    (λ k. has_set_held (λ count. count + w) (Obj k) (Actor (length s.actors)) None h) n left))
frees s (rule.posts a c mail f to behaviour args stops none) =
    let trace = s.options.trace in
    let stop = turn_of_cell trace s.program a c f in
    let h : Holdings = with_made stop.turn.made c.holdings in
    let load = load_from trace a (cell_kept trace s a c f).holdings args in
    let rows = rows_from trace a (cell_kept trace s a c f) args in
    let d : Cell = record (cell_kept trace s a c f) { holdings = send a load h } in
    frees_none s _ (Go a) (λ n. refl) (λ n left. push_remains (set s.actors a (seat d mail)) to (App behaviour args load rows) n
    (turn_remains s.actors a c d mail stop.turn.made stops.going.present (λ k. has-send a (Obj k) load h) n left))
frees s (rule.mints a c mail f to behaviour args e lacked stops is) =
    frees_none s _ (Go a) (λ n. refl) (mint_remains s.actors a c mail stops.going.present _ _)
frees s (rule.gets a c mail f x going need) =
    frees_none s _ (Go a) (λ n. refl) (mint_remains s.actors a c mail going.present _ _)
frees s (rule.collects a c mail at may) = frees_swept s a c mail at _ refl
frees s (rule.leaves a c mail at may) = frees_members s _ (Leave a) (a ∷ []) (λ n. alone a n.owner) refl
frees s (rule.blocks a c mail at may) =
    frees_none s _ (Block a) (λ n. refl) (remains_cell s.actors a c (record c { reported = true }) mail mail at (λ n has. has))
frees s (rule.hears note later is) = frees_none s _ Hear (λ n. refl) (λ n left. left)
frees s (rule.scans news) =
    frees_none s _ Scan (λ n. refl) (asked_remain (closed_set s.detector) (suc s.detector.opened) s.actors)
frees s (rule.reaps number token is) =
    frees_members s _ (Reap number) token.members (λ n. ap (λ o. option_map_or (λ (x : Token). has x.members n.owner) o false) is) refl

pub events_free_exactly : EventsFreeExactly
events_free_exactly s t e goes = frees s (step_of s t e goes)
