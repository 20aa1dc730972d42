-- In the machine that collects what is gone stays gone: names are given once.
use Rattle.std.proofs.Common.{◌≡◌, ℕ, suc, ◌+◌, ◌-◌, ◌<◌, ◌≤◌, ◌==◌, cond, Bool, true, false, Option, Some, None, is_some, List, [], ◌∷◌, ◌++◌, length, length-set, set, refl, sym, ◌∙◌, ap, subst, arith, ⊎_elim}
use Rattle.std.proofs.lemmas.Bool.{cases_eq, cases_lt}
use Rattle.std.proofs.lemmas.List.{get_or_past, length-append}
use Rattle.orca_names.specs.Names.{owner_of}
use Rattle.orca_names.specs.declared.names.ObjName.{ObjName}
use Rattle.orca_names.specs.declared.names.Thing.{Thing}
use Rattle.orca_names.specs.declared.names.Thing.TheVariants.{Actor, Obj}
use Rattle.orca_names.specs.declared.names.Value.{Value}
use Rattle.behaviour_code.specs.declared.code.Program.{Program}
use Rattle.turn_rules.specs.Segment.{Stop}
use Rattle.turn_rules.specs.declared.act.Frame.{Frame}
use Rattle.event_rule.specs.declared.event.Event.{Event}
use Rattle.letter_kinds.proofs.Counts.{has_actor, has_set_held, has_set_own}
use Rattle.letter_kinds.specs.Counting.{Amount, Loaded, by_owner, gain, given_back, lower, lower_all, mint_all, raise, raise_all, send, sweep}
use Rattle.letter_kinds.specs.Detector.{closed_set}
use Rattle.letter_kinds.specs.Holdings.{Holdings, Row, has_own, with_made}
use Rattle.letter_kinds.specs.Letters.{Letter, App, Inc, Dec, Confirm}
use Rattle.machine_rules.proofs.Stepping.{step_of}
use Rattle.machine_rules.specs.Rules.{IsStep, cell_kept, later_frame}
use Rattle.machine_rules.specs.Rules as rule
use Rattle.count_laws.proofs.events.Every.{push_none, set_none}
use Rattle.count_laws.proofs.balance.Makes.{more_other}
use Rattle.count_laws.proofs.events.Post.{next_mint, next_send}
use Rattle.count_laws.proofs.knowledge.Receiving.{has-receive}
use Rattle.count_laws.proofs.balance.Seats.{at_other, at_same, some_seat}
use Rattle.machine_rules.proofs.Present.{present_below}
use Rattle.count_laws.proofs.knowledge.Segments.{add_rows-below}
use Rattle.count_laws.proofs.knowledge.Sending.{has-mint_all, has-send}
use Rattle.count_laws.proofs.balance.Sends.{push_is}
use Rattle.count_laws.proofs.balance.Sweeping.{has-sweep, next-sweep, same_holdings}
use Rattle.count_laws.proofs.events.Take.{next_held, next_own, next_receive}
use Rattle.machine_rules.specs.Actors.{Actors, Seat, push_decs, push_letter, seat, seat_at}
use Rattle.machine_rules.specs.Cell.{Cell, fresh_cell}
use Rattle.machine_rules.specs.Collect.{after_collect, is_marked, without_unused}
use Rattle.machine_rules.specs.Detect.{ask_all, empty_seats, reap_decs, reap_members}
use Rattle.machine_rules.specs.Go.{load_from, make, mint, post, rows_from, turn_of_cell, cell_after_turn}
use Rattle.count_laws.specs.Gone.{GoneStaysGone, HasName, NamesStayGiven}
use Rattle.orca_names.specs.declared.trace.Trace.{Trace}
use Rattle.event_rule.specs.Runs.{Leads}
use Rattle.machine_rules.specs.Next.{next}
use Rattle.plain_rules.specs.Machine.{stopped_at, with_name}
use Rattle.machine_rules.specs.Left.{IsLeft}
use Rattle.machine_rules.specs.State.{State}
use Rattle.machine_rules.specs.Take.{cell_after}

-- ---- what one actor counts

-- no serial is taken back, and below the next one no object comes
pub record Keeps (h later : Holdings) : Type 0 where
  pub next : h.next ≤ later.next
  pub old : (n : ObjName) → n.serial < h.next → has_own later (Obj n) ≡ true → has_own h (Obj n) ≡ true

keeps_same : (h later : Holdings) → later.next ≡ h.next → ((x : Thing) → has_own later x ≡ has_own h x) → Keeps h later
keeps_same h later n o = record { next = omega arith; old = λ k below has. sym (o (Obj k)) ∙ has }

below_next : (made : List Row) (h : Holdings) (n : ObjName) → n.serial < h.next → has_own (with_made made h) (Obj n) ≡ true → has_own h (Obj n) ≡ true
unfolding has_own
below_next made h n below has = ap is_some (sym (add_rows-below h.next made h.rows n.serial below)) ∙ has

keeps_made : (made : List Row) (h : Holdings) → Keeps h (with_made made h)
keeps_made made h = record { next = omega arith; old = below_next made h }

keeps_trans : (h mid later : Holdings) → Keeps h mid → Keeps mid later → Keeps h later
keeps_trans h mid later k l = record {
  next = let a = k.next in let b = l.next in omega arith;
  old = λ n below has. k.old n below (l.old n (let a = k.next in omega arith) has);
}

has_raised : (me k : ℕ) (x y : Thing) (h : Holdings) (b : Bool) → has_own (cond b (raise k y h) h) x ≡ has_own h x
has_raised me k x y h true = has_set_own (λ c. c + k) x y h
has_raised me k x y h false = refl

next_raised : (k : ℕ) (y : Thing) (h : Holdings) (b : Bool) → (cond b (raise k y h) h).next ≡ h.next
next_raised k y h true = next_own (λ c. c + k) y h
next_raised k y h false = refl

has_lowered : (me k : ℕ) (x y : Thing) (h : Holdings) (b : Bool) → has_own (cond b (lower k y h) h) x ≡ has_own h x
has_lowered me k x y h true = has_set_own (λ c. c - k) x y h
has_lowered me k x y h false = refl

next_lowered : (k : ℕ) (y : Thing) (h : Holdings) (b : Bool) → (cond b (lower k y h) h).next ≡ h.next
next_lowered k y h true = next_own (λ c. c - k) y h
next_lowered k y h false = refl

pub has-raise_all : (me : ℕ) (es : List Amount) (h : Holdings) (x : Thing) → has_own (raise_all me es h) x ≡ has_own h x
unfolding raise_all
has-raise_all me [] h x = refl
has-raise_all me (e ∷ es) h x = has-raise_all me es _ x ∙ has_raised me e.1 x e.0 h (owner_of e.0 == me)

next-raise_all : (me : ℕ) (es : List Amount) (h : Holdings) → (raise_all me es h).next ≡ h.next
unfolding raise_all
next-raise_all me [] h = refl
next-raise_all me (e ∷ es) h = next-raise_all me es _ ∙ next_raised e.1 e.0 h (owner_of e.0 == me)

pub has-lower_all : (me : ℕ) (es : List Amount) (h : Holdings) (x : Thing) → has_own (lower_all me es h) x ≡ has_own h x
unfolding lower_all
has-lower_all me [] h x = refl
has-lower_all me (e ∷ es) h x = has-lower_all me es _ x ∙ has_lowered me e.1 x e.0 h (owner_of e.0 == me)

next-lower_all : (me : ℕ) (es : List Amount) (h : Holdings) → (lower_all me es h).next ≡ h.next
unfolding lower_all
next-lower_all me [] h = refl
next-lower_all me (e ∷ es) h = next-lower_all me es _ ∙ next_lowered e.1 e.0 h (owner_of e.0 == me)

keeps_taken : (program : Program) (a : ℕ) (l : Letter) (c : Cell) → Keeps c.holdings (cell_after program a l c).holdings
keeps_taken program a (App behaviour args load rows) c = keeps_same _ _ (next_receive a load c.holdings) (λ x. has-receive a x load c.holdings)
keeps_taken program a (Inc things) c = keeps_same _ _ (next-raise_all a things c.holdings) (has-raise_all a things c.holdings)
keeps_taken program a (Dec things) c = keeps_same _ _ (next-lower_all a things c.holdings) (has-lower_all a things c.holdings)
keeps_taken program a (Confirm token) c = keeps_same _ _ refl (λ x. refl)

-- ---- the actors

-- a name that was given stays given, and what it names is left only where it was left
abbrev pub Stays : Actors → Actors → Type 0
Stays s t = (x : Thing) → HasName s x → HasName t x × (IsLeft t x → IsLeft s x)

-- a name that was given is given where the actors are no fewer, and no serial is taken back
module _ (s t : Actors) (long : length s ≤ length t)
    (seats : (i : ℕ) (o : Seat) → i < length s → seat_at t i ≡ Some o → (o' : Seat) × (seat_at s i ≡ Some o') × Keeps o'.cell.holdings o.cell.holdings) where
  stays_by : Stays s t
  stays_by (Actor a) named = (omega arith, λ left. let z = seats a left.seat named left.present in record { seat = z.0; present = z.1; kept = has_actor z.0.cell.holdings a })
  stays_by (Obj n) named = (
    (let h = named.0 in omega arith, λ o at. let z = seats n.owner o named.0 at in let k = z.2.next in let b = named.1 z.0 z.1 in omega arith),
    λ left. let z = seats n.owner left.seat named.0 left.present in record { seat = z.0; present = z.1; kept = z.2.old n (named.1 z.0 z.1) left.kept },
  )

keeps_self : (h : Holdings) → Keeps h h
keeps_self h = keeps_same h h refl (λ x. refl)

stays_cell : (s : Actors) (b : ℕ) (c d : Cell) (mail later : List Letter) → seat_at s b ≡ seat c mail → Keeps c.holdings d.holdings → Stays s (set s b (seat d later))
stays_cell s b c d mail later at keeps = stays_by s (set s b (seat d later)) (let l = length-set s b (seat d later) in omega arith) (λ i o below now. ⊎_elim
    (λ is. (
      record { cell = c; mail = mail },
      rw is at,
      (let e = some_seat d o.cell later o.mail (sym (at_same s b (seat c mail) (seat d later) (present_below s b _ at) at i is) ∙ now) in subst (λ (q : Cell). Keeps c.holdings q.holdings) e.0 keeps),
    ))
    (λ not. (o, sym (at_other s b (seat c mail) (seat d later) (present_below s b _ at) at i not) ∙ now, keeps_self o.cell.holdings))
    (cases_eq i b))

-- where each seat reads as before
stays_read : (s t : Actors) → length s ≤ length t → ((i : ℕ) → i < length s → seat_at t i ≡ seat_at s i) → Stays s t
stays_read s t long same = stays_by s t long (λ i o below now. (o, sym (same i below) ∙ now, keeps_self o.cell.holdings))

stays_trans : (s mid t : Actors) → Stays s mid → Stays mid t → Stays s t
stays_trans s mid t one two x named = let a = one x named in let b = two x a.0 in (b.0, λ left. a.1 (b.1 left))

pub stays_self : (s : Actors) → Stays s s
stays_self s x named = (named, λ left. left)

pub stays_push : (s : Actors) (b : ℕ) (l : Letter) → Stays s (push_letter b l s)
stays_push s b l = by_seat (seat_at s b) refl
  where
    by_seat : (o : Option Seat) → seat_at s b ≡ o → Stays s (push_letter b l s)
    by_seat None at = rw (push_none s b l at) (stays_read s (set s b None) (let l = length-set s b None in omega arith) (λ i below. set_none s b i at))
    by_seat (Some o) at = rw (push_is s b l o at) (stays_cell s b o.cell o.cell o.mail (o.mail ++ l ∷ []) at (keeps_self o.cell.holdings))

stays_decs : (gs : List (ℕ × List Amount)) (s : Actors) → Stays s (push_decs gs s)
unfolding push_decs
stays_decs [] s x named = (named, λ left. left)
stays_decs (g ∷ gs) s x named = stays_trans s (push_letter g.0 (Dec g.1) s) _ (stays_push s g.0 (Dec g.1)) (stays_decs gs (push_letter g.0 (Dec g.1) s)) x named

stays_asked : (members : List ℕ) (token : ℕ) (s : Actors) → Stays s (ask_all members token s)
stays_asked [] token s x named = (named, λ left. left)
stays_asked (a ∷ members) token s x named = stays_trans s (push_letter a (Confirm token) s) _ (stays_push s a (Confirm token)) (stays_asked members token (push_letter a (Confirm token) s)) x named

stays_clear : (s : Actors) (b : ℕ) → Stays s (set s b None)
stays_clear s b = stays_by s (set s b None) (let l = length-set s b None in omega arith) (λ i o below now. ⊎_elim
    (λ is. absurd (let z = at_same s b (seat_at s b) None (omega arith) refl i is in cc))
    (λ not. ⊎_elim
    (λ within. (o, sym (at_other s b (seat_at s b) None within refl i not) ∙ now, keeps_self o.cell.holdings))
    (λ past. (o, sym (set_none s b i (get_or_past s b None past)) ∙ now, keeps_self o.cell.holdings))
    (cases_lt b (length s)))
    (cases_eq i b))

stays_emptied : (members : List ℕ) (s : Actors) → Stays s (empty_seats members s)
unfolding empty_seats
stays_emptied [] s x named = (named, λ left. left)
stays_emptied (a ∷ members) s x named = stays_trans s (set s a None) _ (stays_clear s a) (stays_emptied members (set s a None)) x named

stays_reaped : (members : List ℕ) (s : Actors) → Stays s (reap_members members s)
stays_reaped members s = stays_trans s (empty_seats members s) _ (stays_emptied members s) (stays_decs (reap_decs members members s) (empty_seats members s))

pub stays_more : (s : Actors) (new : Option Seat) → Stays s (s ++ new ∷ [])
stays_more s new = stays_read s (s ++ new ∷ []) (let l = length-append s (new ∷ []) in omega arith) (λ i below. more_other s new i (omega arith))

-- ---- an actor goes on

module _ (s : Actors) (a : ℕ) (c : Cell) (mail : List Letter) (at : seat_at s a ≡ seat c mail) where
  stays_turned : (stop : Stop) (frame : Option Frame) (dirty : Bool) → Stays s (set s a (seat (cell_after_turn stop frame dirty c) mail))
  stays_turned stop frame dirty = stays_cell s a c (cell_after_turn stop frame dirty c) mail mail at (keeps_made stop.turn.made c.holdings)

  stays_made : (w : ℕ) (stop : Stop) (g : Frame) (fresh : Cell) → Stays s (make w a (cell_after_turn stop (Some g) c.dirty c) mail fresh s)
  stays_made w stop g fresh =
      let h : Holdings = with_made stop.turn.made c.holdings in
      let maker : Cell = record (cell_after_turn stop (Some g) c.dirty c) { holdings = gain w (Actor (length s)) None h } in
      stays_trans s (set s a (seat maker mail)) _
      (stays_cell s a c maker mail mail at (keeps_trans c.holdings h maker.holdings (keeps_made stop.turn.made c.holdings)
      (keeps_same h maker.holdings (next_held (λ k. k + w) (Actor (length s)) None h) (λ x. has_set_held (λ k. k + w) x (Actor (length s)) None h))))
      (stays_more (set s a (seat maker mail)) (seat fresh []))

  stays_posted : (stop : Stop) (frame : Option Frame) (dirty : Bool) (to behaviour : ℕ) (args : List Value) (load rows : List Loaded) → Stays s (post a (cell_after_turn stop frame dirty c) mail to behaviour args load rows s)
  stays_posted stop frame dirty to behaviour args load rows =
      let h : Holdings = with_made stop.turn.made c.holdings in
      let sender : Cell = record (cell_after_turn stop frame dirty c) { holdings = send a load h } in
      stays_trans s (set s a (seat sender mail)) _
      (stays_cell s a c sender mail mail at (keeps_trans c.holdings h sender.holdings (keeps_made stop.turn.made c.holdings)
      (keeps_same h sender.holdings (next_send a load h) (λ x. has-send a x load h))))
      (stays_push (set s a (seat sender mail)) to (App behaviour args load rows))

  stays_minted : (b : ℕ) (things : List Amount) → Stays s (mint a c mail b things s)
  stays_minted b things =
      let minter : Cell = record c { holdings = mint_all things c.holdings } in
      stays_trans s (set s a (seat minter mail)) _
      (stays_cell s a c minter mail mail at (keeps_same c.holdings minter.holdings (next_mint things c.holdings) (λ x. has-mint_all x things c.holdings)))
      (stays_push (set s a (seat minter mail)) b (Inc things))

  stays_collected : (marked : Thing → Bool) (d : Cell) → d.holdings ≡ c.holdings → Stays s (after_collect marked a d mail s)
  stays_collected marked d same =
      let swept : Cell = record d { holdings = sweep marked a d.holdings; dirty = false } in
      stays_trans s (set s a (seat swept mail)) _
      (stays_cell s a c swept mail mail at (subst (λ (h : Holdings). Keeps h swept.holdings) same (record {
        next = let n = next-sweep marked a d.holdings in omega arith;
        old = λ n below has. has-sweep marked a d.holdings (Obj n) has;
      })))
      (stays_decs (by_owner (given_back marked d.holdings)) (set s a (seat swept mail)))

-- ---- each event

abbrev pub StaysAfter : State → Event → State → Type 0
StaysAfter s e t = Stays s.actors t.actors

pub stays : (trace : Trace) (s : State) {e : Event} {t : State} → IsStep trace s e t → StaysAfter s e t
stays trace s (rule.takes a c l mail at is) = stays_cell s.actors a c (cell_after s.program a l c) (l ∷ mail) mail at (keeps_taken s.program a l c)
stays trace s (rule.ends a c mail f stops) = stays_turned s.actors a c mail stops.going.present (turn_of_cell trace s.program a c f) None true
stays trace s (rule.prints a c mail f v stops) = stays_turned s.actors a c mail stops.going.present (turn_of_cell trace s.program a c f) (Some (stopped_at f (turn_of_cell trace s.program a c f))) c.dirty
stays trace s (rule.makes a c mail f kind register stops room) = stays_made s.actors a c mail stops.going.present s.options.weight (turn_of_cell trace s.program a c f) (with_name (later_frame trace s a c f) register (length s.actors)) (fresh_cell s.options.weight s.program kind)
stays trace s (rule.posts a c mail f to behaviour args stops none) =
    stays_posted s.actors a c mail stops.going.present (turn_of_cell trace s.program a c f) (Some (stopped_at f (turn_of_cell trace s.program a c f))) c.dirty
    to behaviour args (load_from trace a (cell_kept trace s a c f).holdings args) (rows_from trace a (cell_kept trace s a c f) args)
stays trace s (rule.mints a c mail f to behaviour args e lacked stops is) = stays_minted s.actors a c mail stops.going.present _ _
stays trace s (rule.gets a c mail f x going need) = stays_minted s.actors a c mail going.present _ _
stays trace s (rule.collects a c mail at may) = stays_collected s.actors a c mail at (is_marked trace a c) (without_unused trace a c) (same_holdings trace a c)
stays trace s (rule.leaves a c mail at may) = stays_reaped (a ∷ []) s.actors
stays trace s (rule.blocks a c mail at may) = stays_cell s.actors a c (record c { reported = true }) mail mail at (keeps_self c.holdings)
stays trace s (rule.hears note later is) = stays_self s.actors
stays trace s (rule.scans news) = stays_asked (closed_set s.detector) (suc s.detector.opened) s.actors
stays trace s (rule.reaps number token is) = stays_reaped token.members s.actors

leads_stay : (book : List Event) (s t : State) → Leads next s book t → Stays s.actors t.actors
leads_stay [] s t same = subst (λ (u : State). Stays s.actors u.actors) same (stays_self s.actors)
leads_stay (e ∷ book) s t (u, goes, leads) = stays_trans s.actors u.actors t.actors (stays s.options.trace s (step_of s u e goes)) (leads_stay book u t leads)

pub names_stay : NamesStayGiven
names_stay book s t leads x named = (leads_stay book s t leads x named).0

pub gone_stays : GoneStaysGone
gone_stays book s t leads x gone = let z = leads_stay book s t leads x gone.0 in (z.0, λ left. gone.1 (z.1 left))
