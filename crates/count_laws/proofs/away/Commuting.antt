-- An event apart from an actor is the same whether the actor's cell is changed before it or after.
use Rattle.std.proofs.Common.{◌≡◌, ◌≢◌, ℕ, zero, suc, ◌<◌, nat_lt, Bool, true, false, Option, Some, None, List, [], ◌∷◌, ◌++◌, length, length-set, set, refl, ap, sym, ◌∙◌, arith, ⊎_elim, get_or-set_other, get_or-set_same}
use Rattle.std.specs.Prelude.{if◌then◌else◌}
use Rattle.std.proofs.lemmas.Bool.{cases_eq}
use Rattle.std.proofs.lemmas.List.{get_or_append_left}
use Rattle.orca_names.specs.Names.{owner_of}
use Rattle.orca_names.specs.declared.names.Thing.{Thing}
use Rattle.orca_names.specs.declared.names.Thing.TheVariants.{Actor}
use Rattle.orca_names.specs.declared.names.Value.{Value}
use Rattle.turn_rules.specs.Segment.{Stop}
use Rattle.turn_rules.specs.declared.act.Act.{Act}
use Rattle.turn_rules.specs.declared.act.Act.TheVariants.{Post, New, Print, End}
use Rattle.turn_rules.specs.declared.act.Frame.{Frame}
use Rattle.event_rule.specs.declared.event.Event.TheVariants.{Take, Go, Collect, Leave, Block, Hear, Scan, Reap}
use Rattle.letter_kinds.specs.Counting.{Amount, Loaded, by_owner, gain, given_back, sweep}
use Rattle.letter_kinds.specs.Detector.{Token, close_token, closed_set, has, after_scan}
use Rattle.letter_kinds.specs.Holdings.{with_made}
use Rattle.letter_kinds.specs.Letters.{Letter, Confirm, Dec}
use Rattle.letter_kinds.specs.declared.note.Note.{Note}
use Rattle.letter_kinds.specs.declared.note.Note.TheVariants as notes
use Rattle.machine_rules.proofs.Posting.{length-push}
use Rattle.count_laws.proofs.events.Reap.{length-emptied}
use Rattle.count_laws.proofs.away.Untouched.{alone_spared, spared_first}
use Rattle.machine_rules.specs.Actors.{Actors, Seat, push_decs, push_letter, seat, seat_at, with_letter_more}
use Rattle.count_laws.specs.Apart.{CellsCanBeAway, put_cell, step_with_cell, with_cell, with_cell_in}
use Rattle.machine_rules.specs.Block.{held_actors, block}
use Rattle.machine_rules.specs.Cell.{Cell, fresh_cell}
use Rattle.machine_rules.specs.Collect.{is_marked, without_unused, collect}
use Rattle.machine_rules.specs.Detect.{ask_all, empty_seats, held_outside, reap_decs, reap_members, acked_token, hear, reap, scan}
use Rattle.machine_rules.specs.Go.{done_by, needed, needing, post_or_mint, turn_of_cell, cell_after_turn, with_turn_kept, go, turn_in}
use Rattle.orca_names.specs.declared.trace.Trace.{Trace}
use Rattle.event_rule.specs.Runs.{Step, IsFull, Goes, NotEnabled}
use Rattle.plain_rules.specs.Machine.{stopped_at, with_name}
use Rattle.machine_rules.specs.State.{State}
use Rattle.machine_rules.specs.Take.{note_of, notes_after, take}
use Rattle.machine_rules.specs.Guards.{may_block, may_leave, may_collect, may_go, may_take}
use Rattle.std.specs.Option.{option_map_or}
use Rattle.machine_rules.specs.Leave.{leave}
use Rattle.machine_rules.specs.Next.{acting}
use Rattle.machine_rules.proofs.Guards.{acked_open}

-- ---- lists

set_apart : {A : Type 0} (xs : List A) (a b : ℕ) (x y : A) → b ≢ a → set (set xs a x) b y ≡ set (set xs b y) a x
set_apart (z ∷ xs) zero zero x y not = absurd (not refl)
set_apart (z ∷ xs) (suc a) (suc b) x y not = ap (λ ys. z ∷ ys) (set_apart xs a b x y (λ e. not (ap suc e)))
set_apart xs a b x y not = refl

set_twice : {A : Type 0} (xs : List A) (a : ℕ) (x y : A) → set (set xs a x) a y ≡ set xs a y
set_twice [] a x y = refl
set_twice (z ∷ xs) zero x y = refl
set_twice (z ∷ xs) (suc a) x y = ap (λ ys. z ∷ ys) (set_twice xs a x y)

set_append : {A : Type 0} (xs ys : List A) (a : ℕ) (x : A) → a < length xs → set (xs ++ ys) a x ≡ set xs a x ++ ys
set_append [] ys a x h = absurd (omega arith)
set_append (z ∷ xs) ys zero x h = refl
set_append (z ∷ xs) ys (suc a) x h = ap (λ zs. z ∷ zs) (set_append xs ys a x (omega arith))

-- ---- the actors, where the cell of one is changed

module _ (a : ℕ) (c : Cell) where
  put_other : (s : Actors) (b : ℕ) → b ≢ a → seat_at (put_cell a c s) b ≡ seat_at s b
  put_other s b not = get_or-set_other s a b (with_cell_in c (seat_at s a)) None not

  put_length : (s : Actors) → length (put_cell a c s) ≡ length s
  put_length s = length-set s a _

  put_set : (s : Actors) (b : ℕ) (o : Option Seat) → b ≢ a → set (put_cell a c s) b o ≡ put_cell a c (set s b o)
  put_set s b o not =
      set_apart s a b (with_cell_in c (seat_at s a)) o not
      ∙ ap (λ q. set (set s b o) a (with_cell_in c q)) (sym (get_or-set_other s b a o None (λ e. not (sym e))))

  cell_letter : (l : Letter) (o : Option Seat) → with_letter_more l (with_cell_in c o) ≡ with_cell_in c (with_letter_more l o)
  cell_letter l None = refl
  cell_letter l (Some o) = refl

  put_push : (s : Actors) (b : ℕ) (l : Letter) → a < length s → push_letter b l (put_cell a c s) ≡ put_cell a c (push_letter b l s)
  unfolding push_letter
  put_push s b l below = ⊎_elim
      (λ is. rw is (
      ap (λ q. set (put_cell a c s) a (with_letter_more l q)) (get_or-set_same s a (with_cell_in c (seat_at s a)) None below)
      ∙ set_twice s a _ _
      ∙ ap (set s a) (cell_letter l (seat_at s a))
      ∙ sym (set_twice s a _ _)
      ∙ ap (λ q. set (set s a (with_letter_more l (seat_at s a))) a (with_cell_in c q)) (sym (get_or-set_same s a (with_letter_more l (seat_at s a)) None below))))
      (λ not. ap (λ q. set (put_cell a c s) b (with_letter_more l q)) (put_other s b not) ∙ put_set s b (with_letter_more l (seat_at s b)) not)
      (cases_eq b a)

  put_more : (s : Actors) (o : Option Seat) → a < length s → put_cell a c s ++ o ∷ [] ≡ put_cell a c (s ++ o ∷ [])
  put_more s o below =
      sym (set_append s (o ∷ []) a (with_cell_in c (seat_at s a)) below)
      ∙ ap (λ q. set (s ++ o ∷ []) a (with_cell_in c q)) (sym (get_or_append_left s (o ∷ []) None a below))

  put_decs : (gs : List (ℕ × List Amount)) (s : Actors) → a < length s → push_decs gs (put_cell a c s) ≡ put_cell a c (push_decs gs s)
  unfolding push_decs
  put_decs [] s below = refl
  put_decs (g ∷ gs) s below = ap (push_decs gs) (put_push s g.0 (Dec g.1) below) ∙ put_decs gs (push_letter g.0 (Dec g.1) s) (let l = length-push g.0 (Dec g.1) s in omega arith)

  put_asked : (members : List ℕ) (token : ℕ) (s : Actors) → a < length s → ask_all members token (put_cell a c s) ≡ put_cell a c (ask_all members token s)
  put_asked [] token s below = refl
  put_asked (b ∷ members) token s below =
      ap (ask_all members token) (put_push s b (Confirm token) below) ∙ put_asked members token (push_letter b (Confirm token) s) (let l = length-push b (Confirm token) s in omega arith)

  put_emptied : (members : List ℕ) (s : Actors) → has members a ≡ false → empty_seats members (put_cell a c s) ≡ put_cell a c (empty_seats members s)
  unfolding empty_seats
  put_emptied [] s out = refl
  put_emptied (m ∷ members) s out =
      let z = spared_first m members a out in
      ap (empty_seats members) (put_set s m None (λ e. z.0 (sym e))) ∙ put_emptied members (set s m None) z.1

  reap_decs_away : (all members : List ℕ) (s : Actors) → has members a ≡ false → reap_decs all members (put_cell a c s) ≡ reap_decs all members s
  unfolding reap_decs
  reap_decs_away all [] s out = refl
  reap_decs_away all (m ∷ members) s out =
      let z = spared_first m members a out in
      let not : m ≢ a = λ e. z.0 (sym e) in
      ap (λ q. by_owner (held_outside all q) ++ reap_decs all members (set (put_cell a c s) m None)) (put_other s m not)
      ∙ ap (λ t. by_owner (held_outside all (seat_at s m)) ++ reap_decs all members t) (put_set s m None not)
      ∙ ap (λ decs. by_owner (held_outside all (seat_at s m)) ++ decs) (reap_decs_away all members (set s m None) z.1)

  put_reaped : (members : List ℕ) (s : Actors) → a < length s → has members a ≡ false → reap_members members (put_cell a c s) ≡ put_cell a c (reap_members members s)
  put_reaped members s below out =
      ap (λ decs. push_decs decs (empty_seats members (put_cell a c s))) (reap_decs_away members members s out)
      ∙ ap (push_decs (reap_decs members members s)) (put_emptied members s out)
      ∙ put_decs (reap_decs members members s) (empty_seats members s) (let l = length-emptied members s in omega arith)

  -- ---- an event of another actor

  module _ (s : State) (below : a < length s.actors) (b : ℕ) (not : b ≢ a) where
    abbrev away : State
    away = with_cell a c s

    take_away : (d : Cell) (mail : List Letter) → take away b d mail ≡ step_with_cell a c (take s b d mail)
    take_away d [] = refl
    take_away d (l ∷ mail) = ap (λ actors. Goes (record s { actors = actors; notes = notes_after d.reported (note_of b l) s.notes })) (put_set s.actors b _ not)

    block_away : (d : Cell) (mail : List Letter) → block away b d mail ≡ step_with_cell a c (block s b d mail)
    block_away d mail = ap (λ actors. Goes (record s { actors = actors; notes = s.notes ++ notes.Block b d.holdings.count (held_actors d.holdings) ∷ [] })) (put_set s.actors b _ not)

    alone : has (b ∷ []) a ≡ false
    alone = alone_spared b a (λ e. not (sym e))

    leave_away : (d : Cell) (mail : List Letter) → leave away b d mail ≡ step_with_cell a c (leave s b d mail)
    leave_away d mail = ap (λ actors. Goes (record s { actors = actors })) (put_reaped (b ∷ []) s.actors below alone)

    collect_away : (trace : Trace) (d : Cell) (mail : List Letter) → collect trace away b d mail ≡ step_with_cell a c (collect trace s b d mail)
    collect_away trace d mail =
        let e : Cell = without_unused trace b d in
        let groups = by_owner (given_back (is_marked trace b d) e.holdings) in
        let new = seat (record e { holdings = sweep (is_marked trace b d) b e.holdings; dirty = false }) mail in
        ap (λ actors. Goes (record s { actors = push_decs groups actors })) (put_set s.actors b new not)
        ∙ ap (λ actors. Goes (record s { actors = actors })) (put_decs groups (set s.actors b new) (let l = length-set s.actors b new in omega arith))

    -- ---- its go

    push_away : (o : Option Seat) (to : ℕ) (l : Letter) → push_letter to l (set (put_cell a c s.actors) b o) ≡ put_cell a c (push_letter to l (set s.actors b o))
    push_away o to l = ap (push_letter to l) (put_set s.actors b o not) ∙ put_push (set s.actors b o) to l (let l = length-set s.actors b o in omega arith)

    module _ (trace : Trace) (d : Cell) (mail : List Letter) (f : Frame) (stop : Stop) where
      post_away : (before after : Cell) (to behaviour : ℕ) (args : List Value) (load rows lacked : List Loaded)
          → Goes (post_or_mint away b before after mail stop to behaviour args load rows lacked) ≡ step_with_cell a c (Goes (post_or_mint s b before after mail stop to behaviour args load rows lacked))
      post_away before after to behaviour args load rows [] = ap (λ actors. Goes (with_turn_kept s stop actors)) (push_away _ to _)
      post_away before after to behaviour args load rows (e ∷ lacked) = ap (λ actors. Goes (record s { actors = actors })) (push_away _ (owner_of e.0) _)

      abbrev made : ℕ → ℕ → ℕ → Actors → Actors
      made kind register n actors =
          set actors b (seat (record (cell_after_turn stop (Some (with_name f register n)) d.dirty d) { holdings = gain s.options.weight (Actor n) None (with_made stop.turn.made d.holdings) }) mail)
          ++ seat (fresh_cell s.options.weight s.program kind) [] ∷ []

      abbrev made_in : ℕ → ℕ → ℕ → Bool → Actors → Step State
      made_in kind register n room actors = if room then Goes (with_turn_kept s stop (made kind register n actors)) else IsFull

      made_away : (kind register n : ℕ) (room : Bool) → made_in kind register n room (put_cell a c s.actors) ≡ step_with_cell a c (made_in kind register n room s.actors)
      made_away kind register n false = refl
      made_away kind register n true =
          let maker = seat (record (cell_after_turn stop (Some (with_name f register n)) d.dirty d) { holdings = gain s.options.weight (Actor n) None (with_made stop.turn.made d.holdings) }) mail in
          let fresh = seat (fresh_cell s.options.weight s.program kind) [] in
          ap (λ actors. Goes (with_turn_kept s stop (actors ++ fresh ∷ []))) (put_set s.actors b maker not)
          ∙ ap (λ actors. Goes (with_turn_kept s stop actors)) (put_more (set s.actors b maker) fresh (let l = length-set s.actors b maker in omega arith))

      act_away : (act : Act) → done_by trace away b d mail f stop act ≡ step_with_cell a c (done_by trace s b d mail f stop act)
      act_away End = ap (λ actors. Goes (with_turn_kept s stop actors)) (put_set s.actors b _ not)
      act_away (Print v) = ap (λ actors. Goes (record (with_turn_kept s stop actors) { prints = s.prints ++ v ∷ [] })) (put_set s.actors b _ not)
      act_away (New kind register) =
          ap (λ n. made_in kind register n (nat_lt n 65536) (put_cell a c s.actors)) (put_length s.actors)
          ∙ made_away kind register (length s.actors) (nat_lt (length s.actors) 65536)
      act_away (Post to behaviour args) = post_away d _ to behaviour args _ _ _

      need_away : (found : Option Thing) (step other : Step State) → other ≡ step_with_cell a c step → needing away b d mail found other ≡ step_with_cell a c (needing s b d mail found step)
      need_away None step other e = e
      need_away (Some x) step other e = ap (λ actors. Goes (record s { actors = actors })) (push_away _ (owner_of x) _)

    turn_away : (trace : Trace) (d : Cell) (mail : List Letter) (f : Option Frame)
        → option_map_or (turn_in trace away b d mail) f NotEnabled ≡ step_with_cell a c (option_map_or (turn_in trace s b d mail) f NotEnabled)
    turn_away trace d mail None = refl
    turn_away trace d mail (Some f) =
        let stop = turn_of_cell trace s.program b d f in
        need_away trace d mail (stopped_at f stop) stop (needed trace s.program b d f) _ _ (act_away trace d mail (stopped_at f stop) stop stop.act)

    -- ---- of the seat

    acting_away : (may : Cell → List Letter → Bool) (one other : Cell → List Letter → Step State) → ((d : Cell) (mail : List Letter) → one d mail ≡ step_with_cell a c (other d mail))
        → (o : Option Seat) → acting may one o ≡ step_with_cell a c (acting may other o)
    acting_away may one other same None = refl
    acting_away may one other same (Some o) = by_test (may o.cell o.mail)
      where
        by_test : (q : Bool) → (if q then one o.cell o.mail else NotEnabled) ≡ step_with_cell a c (if q then other o.cell o.mail else NotEnabled)
        by_test false = refl
        by_test true = same o.cell o.mail

    -- who acts is read in its own place
    seat_away : (may : Cell → List Letter → Bool) (one other : Cell → List Letter → Step State) → ((d : Cell) (mail : List Letter) → one d mail ≡ step_with_cell a c (other d mail))
        → acting may one (seat_at away.actors b) ≡ step_with_cell a c (acting may other (seat_at s.actors b))
    seat_away may one other same = ap (acting may one) (put_other s.actors b not) ∙ acting_away may one other same (seat_at s.actors b)

  -- ---- the detector's events

  hear_away : (s : State) (notes : List Note) → hear (with_cell a c s) notes ≡ step_with_cell a c (hear s notes)
  hear_away s [] = refl
  hear_away s (n ∷ notes) = refl

  scan_away : (s : State) → a < length s.actors → (news : Bool) → (if news then scan (with_cell a c s) else NotEnabled) ≡ step_with_cell a c (if news then scan s else NotEnabled)
  scan_away s below false = refl
  scan_away s below true =
      let closed = closed_set s.detector in
      ap (λ actors. Goes (record s { actors = actors; detector = after_scan s.detector closed })) (put_asked closed (suc s.detector.opened) s.actors below)

  reap_away : (s : State) → a < length s.actors → (found : Option Token) → ((t : Token) → found ≡ Some t → has t.members a ≡ false)
      → option_map_or (reap (with_cell a c s)) found NotEnabled ≡ step_with_cell a c (option_map_or (reap s) found NotEnabled)
  reap_away s below None out = refl
  reap_away s below (Some t) out =
      ap (λ actors. Goes (record s { actors = actors; detector = close_token t s.detector })) (put_reaped t.members s.actors below (out t refl))

other_than : (a b : ℕ) → Some b ≢ Some a → b ≢ a
other_than a b h e = h (ap Some e)

pub cells_away : CellsCanBeAway
cells_away s a c (Take b) apart =
    let not = other_than a b apart.others in
    seat_away a c s apart.made b not may_take _ (take s b) (take_away a c s apart.made b not)
cells_away s a c (Go b) apart =
    let not = other_than a b apart.others in
    let trace = s.options.trace in
    seat_away a c s apart.made b not may_go _ (go trace s b) (λ d mail. turn_away a c s apart.made b not trace d mail d.frame)
cells_away s a c (Collect b) apart =
    let not = other_than a b apart.others in
    seat_away a c s apart.made b not may_collect _ (collect s.options.trace s b) (collect_away a c s apart.made b not s.options.trace)
cells_away s a c (Leave b) apart =
    let not = other_than a b apart.others in
    seat_away a c s apart.made b not may_leave _ (leave s b) (leave_away a c s apart.made b not)
cells_away s a c (Block b) apart =
    let not = other_than a b apart.others in
    seat_away a c s apart.made b not may_block _ (block s b) (block_away a c s apart.made b not)
cells_away s a c Hear apart = hear_away a c s s.notes
cells_away s a c Scan apart = scan_away a c s apart.made s.detector.news
cells_away s a c (Reap number) apart =
    reap_away a c s apart.made (acked_token number s.detector) (λ t found. apart.spared number t refl (acked_open number s.detector t found).0)
