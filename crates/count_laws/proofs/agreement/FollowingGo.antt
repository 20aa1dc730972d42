-- How the plain machine follows a go: it takes the same turn, but for a go that mints.
use Rattle.std.proofs.Common.{◌≡◌, ◌≢◌, ℕ, zero, suc, ◌+◌, ◌<◌, nat_lt, Bool, true, Option, Some, None, List, [], ◌∷◌, ◌++◌, length, length-set, set, set-set, refl, sym, ◌∙◌, ap, subst, arith, option_and_then, lt-ltb}
use Rattle.std.specs.Prelude.{if◌then◌else◌, slice_get}
use Rattle.std.specs.FinMap as m
use Rattle.std.specs.Option.{option_map_or}
use Rattle.orca_names.specs.Names.{owner_of, thing_cmp}
use Rattle.std.specs.Ordering.{nat_cmp}
use Rattle.orca_names.specs.declared.names.Thing.{Thing}
use Rattle.orca_names.specs.declared.names.Thing.TheVariants as things
use Rattle.orca_names.specs.declared.names.Value.{Value}
use Rattle.behaviour_code.specs.Find.{field_count}
use Rattle.behaviour_code.specs.declared.code.Program.{Program}
use Rattle.reach_walk.specs.Reach.{thing_row}
use Rattle.turn_rules.specs.Segment.{Stop, segment_of}
use Rattle.turn_rules.specs.declared.act.Act.{Act}
use Rattle.turn_rules.specs.declared.act.Act.TheVariants.{End, New, Post, Print}
use Rattle.turn_rules.specs.declared.act.Frame.{Frame}
use Rattle.letter_kinds.specs.Counting.{Loaded, gain, lacking_of, send, to_mint}
use Rattle.letter_kinds.specs.Holdings.{Row, held_in}
use Rattle.letter_kinds.specs.Sums.{amount_of, times_loaded}
use Rattle.letter_kinds.specs.Letters.{Letter, App}
use Rattle.count_laws.proofs.agreement.Agreeing.{with_letter}
use Rattle.count_laws.proofs.agreement.Following.{Follows, same_person}
use Rattle.count_laws.proofs.events.EitherMode.{counted_left, known_left, loaded_known, make_keeps, mint_keeps, need_keeps, posted_keeps, same_turn, target_known as known_target, turn_keeps}
use Rattle.count_laws.proofs.knowledge.Going.{Grows, left_present}
use Rattle.count_laws.proofs.events.Post.{next_send}
use Rattle.count_laws.proofs.events.Take.{next_held}
use Rattle.count_laws.proofs.knowledge.Lacking.{counted_mint, first_minted, to_mint_theirs}
use Rattle.count_laws.proofs.balance.Makes.{IsFresh, fresh_held}
use Rattle.count_laws.proofs.knowledge.Naming.{nulls_name_nothing}
use Rattle.count_laws.proofs.agreement.PlainSide.{StandsAt, objects_grow, objects_kept, objects_pushed, people-push, people-set, rows_grow, rows_kept, rows_pushed, same_rows, stands_at, stands_beside, length-people}
use Rattle.count_laws.proofs.balance.Seats.{IsPresent, at_same}
use Rattle.machine_rules.proofs.Present.{present_below}
use Rattle.count_laws.proofs.balance.Sends.{held_below}
use Rattle.machine_rules.specs.Actors.{Actors, push_letter, seat, seat_at}
use Rattle.count_laws.specs.Agreement.{Person, people_of, person_at, person_of, person_of_plain}
use Rattle.machine_rules.specs.Cell.{Cell, fresh_cell}
use Rattle.count_laws.specs.Facts.{Facts, KeepsCounts}
use Rattle.machine_rules.specs.Go.{load_from, make, mint, needed, post, rows_from, turn_of_cell, cell_after_turn, with_turn_kept, lacking_from, to_need}
use Rattle.orca_names.specs.declared.trace.Trace.{Trace}
use Rattle.count_laws.specs.Known.{InFrame, IsKnown, Names, StartsWalks, in_fields, in_frame, in_table}
use Rattle.event_rule.specs.Runs.{IsFull, Goes, NotEnabled}
use Rattle.plain_rules.specs.Machine.{PlainState, after_act, after_turn, fresh_actor, next_state, objects_made, plain_go, plain_row, stopped_at, turn_of_actor, with_name, with_turn, with_letter as with_plain_letter, with_changed}
use Rattle.machine_rules.specs.State.{State}
use Rattle.plain_rules.specs.declared.PlainActor.{PlainActor}
use Rattle.plain_rules.specs.declared.PlainLetter.{PlainLetter}

-- ---- the plain machine's go

went : (p : PlainState) (a : ℕ) (x : PlainActor) (f : Frame) → slice_get p.actors a ≡ Some x → x.frame ≡ Some f → plain_go p a ≡ after_turn p a f (turn_of_actor p a x f)
went p a x f there is =
    ap (λ found. option_map_or (λ (z : PlainActor). option_map_or (λ g. after_turn p a g (turn_of_actor p a z g)) z.frame NotEnabled) found NotEnabled) there
    ∙ ap (λ found. option_map_or (λ g. after_turn p a g (turn_of_actor p a x g)) found NotEnabled) is

changed : (xs : List PlainActor) (a : ℕ) (x : PlainActor) (change : PlainActor → PlainActor) → slice_get xs a ≡ Some x → with_changed xs a change ≡ set xs a (change x)
changed xs a x change there = ap (λ found. option_map_or (λ z. set xs a (change z)) found xs) there

-- one actor in the place of another with the same rows
rows_alike : (xs : List PlainActor) (a : ℕ) (y z : PlainActor) → y.rows ≡ z.rows → (t : Thing) → thing_row (plain_row (set xs a y)) t ≡ thing_row (plain_row (set xs a z)) t
rows_alike xs a y z same (things.Actor b) = refl
rows_alike xs a y z same (things.Obj n) = read xs a n.owner
  where
    read : (xs : List PlainActor) (a b : ℕ) → option_and_then (λ (w : PlainActor). slice_get w.rows n.serial) (slice_get (set xs a y) b) ≡ option_and_then (λ (w : PlainActor). slice_get w.rows n.serial) (slice_get (set xs a z) b)
    read [] a b = refl
    read (w ∷ xs) zero zero = ap (λ rows. slice_get rows n.serial) same
    read (w ∷ xs) zero (suc b) = refl
    read (w ∷ xs) (suc a) zero = refl
    read (w ∷ xs) (suc a) (suc b) = read xs a b

-- a fresh actor has nothing
pub fresh_is : (w : ℕ) (program : Program) (kind : ℕ) → IsFresh w (fresh_cell w program kind).holdings
fresh_is w program kind = (refl, (λ k. m.get-empty nat_cmp k), (λ x. m.get-empty thing_cmp x))

pub fresh_blank : (w : ℕ) (program : Program) (kind : ℕ) (x : Thing) → ¬ StartsWalks (fresh_cell w program kind) x
fresh_blank w program kind x (in_fields h) = nulls_name_nothing (field_count program kind) x h
fresh_blank w program kind x (in_frame h) = h
fresh_blank w program kind x (in_table h) = absurd (let z = fresh_held w (fresh_cell w program kind).holdings (fresh_is w program kind) x in omega arith)

module _ (trace : Trace) (p : PlainState) (s : State) (facts : Facts trace p s) (a : ℕ) (c : Cell) (ls : List Letter) (at : seat_at s.actors a ≡ seat c ls) (f : Frame) (is : c.frame ≡ Some f) (held_all : needed trace s.program a c f ≡ None) where
  abbrev all : Thing → Option Row
  all = thing_row (plain_row p.actors)

  abbrev stop : Stop
  stop = turn_of_cell trace s.program a c f

  abbrev stopped : Frame
  stopped = stopped_at f stop

  beside : StandsAt p.actors a (person_of c ls)
  beside = stands_beside all p.actors s.actors facts.counts a c ls at

  abbrev x : PlainActor
  x = beside.actor

  serial : length x.rows ≡ c.holdings.next
  serial = ap (λ (q : Person). q.serial) beside.same

  plain_turn : turn_of_actor p a x f ≡ stop
  plain_turn =
      (λ i. segment_of (record { program = facts.program i; me = a; base = serial i; rows = plain_row p.actors }) f (beside.same i).fields)
      ∙ sym (same_turn trace s.program all (people_of p.actors) s.actors facts.counts a c ls at f is (plain_row p.actors) (λ x. refl))

  pub plain_went : plain_go p a ≡ after_act p a stopped stop.turn.fields stop.turn.made stop.act
  plain_went = went p a x f beside.there (ap (λ (q : Person). q.frame) beside.same ∙ is) ∙ ap (after_turn p a f) plain_turn

  -- the plain actor after the turn
  abbrev y : Option Frame → PlainActor
  y nf = record x { frame = nf; fields = stop.turn.fields; rows = x.rows ++ stop.turn.made }

  abbrev all' : Thing → Option Row
  all' = thing_row (plain_row (set p.actors a (y None)))

  turned_actors : (nf : Option Frame) → with_turn p.actors a nf stop.turn.fields stop.turn.made ≡ set p.actors a (y nf)
  turned_actors nf = changed p.actors a x (λ z. record z { frame = nf; fields = stop.turn.fields; rows = z.rows ++ stop.turn.made }) beside.there

  grows : Grows all all' a c.holdings.next stop.turn.made
  grows = subst (λ base. Grows all all' a base stop.turn.made) serial (rows_grow p.actors a x beside.there (y None) stop.turn.made refl)

  same_y : (nf : Option Frame) (nd : Bool) → person_of_plain (y nf) ≡ person_of (cell_after_turn stop nf nd c) ls
  same_y nf nd = same_person (person_of_plain (y nf)) (person_of (cell_after_turn stop nf nd c) ls) (ap (λ (q : Person). q.kind) beside.same) refl refl (ap (λ (q : Person). q.letters) beside.same)
      (omega (arith, length_more x.rows stop.turn.made, serial))
    where
      length_more : (rows made : List Row) → length (rows ++ made) ≡ length rows + length made
      length_more [] made = omega arith
      length_more (r ∷ rows) made = omega (arith, length_more rows made)

  turned_kept : (nf : Option Frame) (nd : Bool) → ((z : Thing) → InFrame nf z → Names stop.turn.registers z)
      → KeepsCounts trace all' (set (people_of p.actors) a (person_of (cell_after_turn stop nf nd c) ls)) (set s.actors a (seat (cell_after_turn stop nf nd c) ls))
  turned_kept nf nd names = turn_keeps trace s.program all all' (people_of p.actors) s.actors facts.counts a c ls at f is held_all grows nf nd names

  -- the rows do not depend on the frame
  rows_of : (nf : Option Frame) (z : Thing) → all' z ≡ thing_row (plain_row (set p.actors a (y nf))) z
  rows_of nf = rows_alike p.actors a (y None) (y nf) refl

  beside_kept : (nf : Option Frame) (nd : Bool) → ((z : Thing) → InFrame nf z → Names stop.turn.registers z)
      → KeepsCounts trace (thing_row (plain_row (set p.actors a (y nf)))) (people_of (set p.actors a (y nf))) (set s.actors a (seat (cell_after_turn stop nf nd c) ls))
  beside_kept nf nd names =
      subst (λ people. KeepsCounts trace (thing_row (plain_row (set p.actors a (y nf)))) people (set s.actors a (seat (cell_after_turn stop nf nd c) ls)))
      (ap (set (people_of p.actors) a) (sym (same_y nf nd)) ∙ sym (people-set p.actors a (y nf)))
      (same_rows all' (thing_row (plain_row (set p.actors a (y nf)))) _ _ (rows_of nf) (turned_kept nf nd names))

  objects_more : (nf : Option Frame) → objects_made (set p.actors a (y nf)) ≡ s.objects + length stop.turn.made
  objects_more nf = omega (arith, objects_grow p.actors a x beside.there (y nf) stop.turn.made refl, facts.objects)

  -- an end or a print: the turn, and what was printed
  turn_follows : (nf : Option Frame) (nd : Bool) (printed : List Value) → ((z : Thing) → InFrame nf z → Names stop.turn.registers z)
      → Facts trace (next_state p (with_turn p.actors a nf stop.turn.fields stop.turn.made) (p.prints ++ printed))
      (record (with_turn_kept s stop (set s.actors a (seat (cell_after_turn stop nf nd c) ls))) { prints = s.prints ++ printed })
  turn_follows nf nd printed names =
      subst (λ actors. Facts trace (next_state p actors (p.prints ++ printed)) (record (with_turn_kept s stop (set s.actors a (seat (cell_after_turn stop nf nd c) ls))) { prints = s.prints ++ printed })) (sym (turned_actors nf))
      (record { counts = beside_kept nf nd names; program = facts.program; prints = ap (λ vs. vs ++ printed) facts.prints; objects = objects_more nf; weight = facts.weight; mode = facts.mode })

  -- ---- one actor more

  abbrev c1 : Cell
  c1 = cell_after_turn stop (Some stopped) c.dirty c

  abbrev s1 : Actors
  s1 = set s.actors a (seat c1 ls)

  within : a < length s.actors
  within = present_below s.actors a _ at

  at1 : seat_at s1 a ≡ seat c1 ls
  at1 = at_same s.actors a (seat c ls) (seat c1 ls) within at a refl

  kept1 : KeepsCounts trace all' (set (people_of p.actors) a (person_of c1 ls)) s1
  kept1 = turned_kept (Some stopped) c.dirty (λ z h. h)

  -- the maker, which names the actor n and holds it
  abbrev maker : ℕ → ℕ → Cell
  maker register n = record c1 { frame = Some (with_name stopped register n); holdings = gain s.options.weight (things.Actor n) None c1.holdings }

  -- the actors with a maker and a fresh actor more
  abbrev made_by : ℕ → ℕ → Cell → Actors → Actors
  made_by register n fresh actors = set actors a (seat (maker register n) ls) ++ seat fresh [] ∷ []

  made_kept : (kind register : ℕ) → KeepsCounts trace all' (set (people_of p.actors) a (person_of (maker register (length s.actors)) ls) ++ person_of (fresh_cell s.options.weight s.program kind) [] ∷ [])
      (made_by register (length s.actors) (fresh_cell s.options.weight s.program kind) s.actors)
  made_kept kind register =
      let fresh = fresh_cell s.options.weight s.program kind in
      let one = make_keeps trace s.options.weight facts.weight all' (set (people_of p.actors) a (person_of c1 ls)) s1 kept1 a c1 ls at1 stopped refl register fresh (fresh_is s.options.weight s.program kind) (fresh_blank s.options.weight s.program kind) (λ x. m.get-empty thing_cmp x) in
      let two : KeepsCounts trace all' (set (set (people_of p.actors) a (person_of c1 ls)) a (person_of (maker register (length s.actors)) ls) ++ person_of fresh [] ∷ []) (made_by register (length s.actors) fresh s1) =
      subst (λ n. KeepsCounts trace all' (set (set (people_of p.actors) a (person_of c1 ls)) a (person_of (maker register n) ls) ++ person_of fresh [] ∷ []) (made_by register n fresh s1)) (length-set s.actors a (seat c1 ls)) one in
      let three : KeepsCounts trace all' (set (people_of p.actors) a (person_of (maker register (length s.actors)) ls) ++ person_of fresh [] ∷ []) (made_by register (length s.actors) fresh s1) =
      subst (λ people. KeepsCounts trace all' (people ++ person_of fresh [] ∷ []) (made_by register (length s.actors) fresh s1)) (set-set (people_of p.actors) a (person_of c1 ls) (person_of (maker register (length s.actors)) ls)) two in
      subst (λ actors. KeepsCounts trace all' (set (people_of p.actors) a (person_of (maker register (length s.actors)) ls) ++ person_of fresh [] ∷ []) (actors ++ seat fresh [] ∷ []))
      (set-set s.actors a (seat c1 ls) (seat (maker register (length s.actors)) ls)) three

  same_maker : (register n : ℕ) → person_of_plain (y (Some (with_name stopped register n))) ≡ person_of (maker register n) ls
  same_maker register n = same_y (Some (with_name stopped register n)) c.dirty ∙ ap (λ next. record (person_of (maker register n) ls) { serial = next }) (sym (next_held (λ h. h + s.options.weight) (things.Actor n) None c1.holdings))

  long : length p.actors ≡ length s.actors
  long = omega (arith, length-people p.actors, facts.counts.long)

  make_follows : (kind register : ℕ) → Facts trace (next_state p (with_turn p.actors a (Some (with_name stopped register (length p.actors))) stop.turn.fields stop.turn.made ++ fresh_actor p.program kind ∷ []) p.prints)
      (with_turn_kept s stop (make s.options.weight a (cell_after_turn stop (Some (with_name stopped register (length s.actors))) c.dirty c) ls (fresh_cell s.options.weight s.program kind) s.actors))
  make_follows kind register =
      let nf = Some (with_name stopped register (length s.actors)) in
      let fresh = fresh_cell s.options.weight s.program kind in
      let mine = fresh_actor p.program kind in
      let actors = set p.actors a (y nf) in
      let people : people_of (actors ++ mine ∷ []) ≡ set (people_of p.actors) a (person_of (maker register (length s.actors)) ls) ++ person_of fresh [] ∷ [] =
      people-push actors mine ∙ (λ i. (people-set p.actors a (y nf) ∙ ap (set (people_of p.actors) a) (same_maker register (length s.actors))) i ++ person_of (fresh_cell s.options.weight (facts.program i) kind) [] ∷ []) in
      let rows : (z : Thing) → all' z ≡ thing_row (plain_row (actors ++ mine ∷ [])) z = λ z. rows_of nf z ∙ rows_pushed actors mine refl z in
      let plain_actors : with_turn p.actors a (Some (with_name stopped register (length p.actors))) stop.turn.fields stop.turn.made ++ mine ∷ [] ≡ actors ++ mine ∷ [] =
      ap (λ n. with_turn p.actors a (Some (with_name stopped register n)) stop.turn.fields stop.turn.made ++ mine ∷ []) long ∙ ap (λ xs. xs ++ mine ∷ []) (turned_actors nf) in
      subst (λ xs. Facts trace (next_state p xs p.prints) (with_turn_kept s stop (make s.options.weight a (cell_after_turn stop nf c.dirty c) ls fresh s.actors))) (sym plain_actors)
      (record {
        counts = subst (λ ps. KeepsCounts trace (thing_row (plain_row (actors ++ mine ∷ []))) ps (made_by register (length s.actors) fresh s.actors)) (sym people)
            (same_rows all' (thing_row (plain_row (actors ++ mine ∷ []))) _ _ rows (made_kept kind register));
        program = facts.program;
        prints = facts.prints;
        objects = objects_pushed actors mine refl ∙ objects_more nf;
        weight = facts.weight;
        mode = facts.mode;
      })

  -- ---- a letter

  module _ (to b : ℕ) (args : List Value) (act : stop.act ≡ Post to b args) where
    abbrev load : List Loaded
    load = load_from trace a c1.holdings args

    abbrev came : List Loaded
    came = rows_from trace a c1 args

    pub load_known : (z : Thing) → 0 < times_loaded z load → IsKnown a c1.holdings z
    load_known = loaded_known trace s.program all all' (people_of p.actors) s.actors facts.counts a c ls at f is held_all grows (Some stopped) c.dirty (λ z h. h) to b args act at1

    pub target_known : IsKnown a c1.holdings (things.Actor to)
    target_known = known_target trace s.program all all' (people_of p.actors) s.actors facts.counts a c ls at f is held_all grows (Some stopped) c.dirty (λ z h. h) to b args act

    abbrev sender : Cell
    sender = record c1 { holdings = send a load c1.holdings }

    abbrev letter : PlainLetter
    letter = record { behaviour = b; args = args }

    abbrev turned_people : List Person
    turned_people = set (people_of p.actors) a (person_of c1 ls)

    posted_kept : lacking_of a c1.holdings load ≡ [] → KeepsCounts trace all' (set turned_people to (with_letter b args (person_at turned_people to))) (post a c1 ls to b args load came s.actors)
    posted_kept full =
        let one = posted_keeps trace s.program all all' (people_of p.actors) s.actors facts.counts a c ls at f is held_all grows (Some stopped) c.dirty (λ z h. h) to b args act at1 full in
        let same : set turned_people a (person_of sender ls) ≡ turned_people =
        set-set (people_of p.actors) a (person_of c1 ls) (person_of sender ls) ∙ ap (set (people_of p.actors) a) (ap (λ next. record (person_of c1 ls) { serial = next }) (next_send a load c1.holdings)) in
        let two : KeepsCounts trace all' (set turned_people to (with_letter b args (person_at turned_people to))) (post a c1 ls to b args load came s1) =
        subst (λ people. KeepsCounts trace all' (set people to (with_letter b args (person_at people to))) (post a c1 ls to b args load came s1)) same one in
        subst (λ actors. KeepsCounts trace all' (set turned_people to (with_letter b args (person_at turned_people to))) (push_letter to (App b args load came) actors)) (set-set s.actors a (seat c1 ls) (seat sender ls)) two

    -- the actor that gets the letter
    receiver : StandsAt (set p.actors a (y (Some stopped))) to (person_at (people_of (set p.actors a (y (Some stopped)))) to)
    receiver = stands_at (set p.actors a (y (Some stopped))) to _ to_below refl
      where
        to_below : to < length (set p.actors a (y (Some stopped)))
        to_below =
            let here = left_present s1 to (known_left trace all' turned_people s1 kept1 a c1 ls (things.Actor to) at1 target_known) in
            let below = present_below s1 to here.0 here.1 in
            omega (arith, long, length-set s.actors a (seat c1 ls), length-set p.actors a (y (Some stopped)))

    -- the plain actor with the letter
    abbrev lettered : PlainActor
    lettered = record receiver.actor { letters = receiver.actor.letters ++ letter ∷ [] }

    post_follows : lacking_of a c1.holdings load ≡ []
        → Facts trace (next_state p (with_plain_letter (with_turn p.actors a (Some stopped) stop.turn.fields stop.turn.made) to letter) p.prints)
        (with_turn_kept s stop (post a c1 ls to b args load came s.actors))
    post_follows full =
        let actors = set p.actors a (y (Some stopped)) in
        let plain_actors : with_plain_letter (with_turn p.actors a (Some stopped) stop.turn.fields stop.turn.made) to letter ≡ set actors to lettered =
        ap (λ xs. with_plain_letter xs to letter) (turned_actors (Some stopped))
        ∙ changed actors to receiver.actor (λ z. record z { letters = z.letters ++ letter ∷ [] }) receiver.there in
        let ours : people_of actors ≡ turned_people = people-set p.actors a (y (Some stopped)) ∙ ap (set (people_of p.actors) a) (same_y (Some stopped) c.dirty) in
        let people : people_of (set actors to lettered) ≡ set turned_people to (with_letter b args (person_at turned_people to)) =
        people-set actors to lettered ∙ ap (λ q. set (people_of actors) to (with_letter b args q)) receiver.same ∙ ap (λ ps. set ps to (with_letter b args (person_at ps to))) ours in
        let rows : (z : Thing) → all' z ≡ thing_row (plain_row (set actors to lettered)) z = λ z. rows_of (Some stopped) z ∙ rows_kept actors to receiver.actor receiver.there lettered refl z in
        subst (λ xs. Facts trace (next_state p xs p.prints) (with_turn_kept s stop (post a c1 ls to b args load came s.actors))) (sym plain_actors)
        (record {
          counts = subst (λ ps. KeepsCounts trace (thing_row (plain_row (set actors to lettered))) ps (post a c1 ls to b args load came s.actors)) (sym people)
              (same_rows all' (thing_row (plain_row (set actors to lettered))) _ _ rows (posted_kept full));
          program = facts.program;
          prints = facts.prints;
          objects = objects_kept actors to receiver.actor receiver.there lettered refl ∙ objects_more (Some stopped);
          weight = facts.weight;
          mode = facts.mode;
        })

    -- ---- minting

    held1 : (z : Thing) → held_in c1.holdings z ≡ held_in c.holdings z
    unfolding held_in
    held1 z = refl

    pub theirs : (e : Loaded) (es : List Loaded) → lacking_of a c1.holdings load ≡ e ∷ es → (z : Thing) → 0 < amount_of z (to_mint s.options.weight (owner_of e.0) (e ∷ es)) → (owner_of z ≡ owner_of e.0) × (0 < held_in c.holdings z)
    theirs e es l z some =
        let w = to_mint_theirs s.options.weight a (owner_of e.0) c1.holdings load z (subst (λ q. 0 < amount_of z (to_mint s.options.weight (owner_of e.0) q)) (sym l) some) in
        (w.0, subst (λ n. 0 < n) (held1 z) w.1)

    held_present : (z : Thing) → 0 < held_in c.holdings z → IsPresent s.actors (owner_of z)
    held_present z h = let left = counted_left trace all (people_of p.actors) s.actors facts.counts z (let w = held_below z s.actors a c ls at in omega arith) in (left.seat, left.present)

    not_own : (e : Loaded) (es : List Loaded) → lacking_of a c1.holdings load ≡ e ∷ es → owner_of e.0 ≢ a
    not_own e es l = (to_mint_theirs s.options.weight a (owner_of e.0) c1.holdings load e.0
        (subst (λ q. 0 < amount_of e.0 (to_mint s.options.weight (owner_of e.0) q)) (sym l) (first_minted s.options.weight facts.weight e es))).2

    mint_follows : (e : Loaded) (es : List Loaded) → lacking_of a c1.holdings load ≡ e ∷ es → Facts trace p (record s { actors = mint a c ls (owner_of e.0) (to_mint s.options.weight (owner_of e.0) (e ∷ es)) s.actors })
    mint_follows e es l = record {
      counts = mint_keeps trace all (people_of p.actors) s.actors facts.counts a c ls at (owner_of e.0) (to_mint s.options.weight (owner_of e.0) (e ∷ es)) (theirs e es l) (not_own e es l) (counted_mint s.options.weight facts.weight (owner_of e.0) (e ∷ es))
          (held_present e.0 (theirs e es l e.0 (first_minted s.options.weight facts.weight e es)).1);
      program = facts.program;
      prints = facts.prints;
      objects = facts.objects;
      weight = facts.weight;
      mode = facts.mode;
    }

    letter_follows : lacking_of a c1.holdings load ≡ [] → Follows trace true (after_act p a stopped stop.turn.fields stop.turn.made (Post to b args)) p (with_turn_kept s stop (post a c1 ls to b args load came s.actors))
    letter_follows l = (next_state p (with_plain_letter (with_turn p.actors a (Some stopped) stop.turn.fields stop.turn.made) to letter) p.prints, refl, post_follows l)

  -- ---- every act

  nothing_printed : (prints : List Value) → prints ++ [] ≡ prints
  nothing_printed [] = refl
  nothing_printed (v ∷ prints) = ap (λ r. v ∷ r) (nothing_printed prints)

  end_follows : Facts trace (next_state p (with_turn p.actors a None stop.turn.fields stop.turn.made) p.prints) (with_turn_kept s stop (set s.actors a (seat (cell_after_turn stop None true c) ls)))
  end_follows =
      subst (λ prints. Facts trace (next_state p (with_turn p.actors a None stop.turn.fields stop.turn.made) prints) (with_turn_kept s stop (set s.actors a (seat (cell_after_turn stop None true c) ls)))) (nothing_printed p.prints)
      (subst (λ prints. Facts trace (next_state p (with_turn p.actors a None stop.turn.fields stop.turn.made) (p.prints ++ [])) (record (with_turn_kept s stop (set s.actors a (seat (cell_after_turn stop None true c) ls))) { prints = prints })) (nothing_printed s.prints)
      (turn_follows None true [] (λ z h. absurd h)))

  -- where the turn stops at this act, the plain machine's go does so too
  stops_too : (choice : Bool) (act : Act) (t : State) → stop.act ≡ act → Follows trace choice (after_act p a stopped stop.turn.fields stop.turn.made act) p t → Follows trace choice (plain_go p a) p t
  stops_too choice act t stops h =
      subst (λ goes. Follows trace choice goes p t) (sym (plain_went ∙ ap (after_act p a stopped stop.turn.fields stop.turn.made) stops)) h

  pub ends_follow : stop.act ≡ End → Follows trace true (plain_go p a) p (with_turn_kept s stop (set s.actors a (seat (cell_after_turn stop None true c) ls)))
  ends_follow stops = stops_too true End _ stops (_, refl, end_follows)

  pub prints_follow : (v : Value) → stop.act ≡ Print v → Follows trace true (plain_go p a) p (record (with_turn_kept s stop (set s.actors a (seat c1 ls))) { prints = s.prints ++ v ∷ [] })
  prints_follow v stops = stops_too true (Print v) _ stops (_, refl, turn_follows (Some stopped) c.dirty (v ∷ []) (λ z h. h))

  pub makes_follow : (kind register : ℕ) → stop.act ≡ New kind register → length s.actors < 65536
      → Follows trace true (plain_go p a) p (with_turn_kept s stop (make s.options.weight a (cell_after_turn stop (Some (with_name stopped register (length s.actors))) c.dirty c) ls (fresh_cell s.options.weight s.program kind) s.actors))
  makes_follow kind register stops room = stops_too true (New kind register) _ stops (plain_made, ap (λ q. if q then Goes plain_made else IsFull) (ap (λ n. nat_lt n 65536) long ∙ lt-ltb (length s.actors) 65536 room), make_follows kind register)
    where
      plain_made : PlainState
      plain_made = next_state p (with_turn p.actors a (Some (with_name stopped register (length p.actors))) stop.turn.fields stop.turn.made ++ fresh_actor p.program kind ∷ []) p.prints

  pub posts_follow : (to b : ℕ) (args : List Value) → stop.act ≡ Post to b args → lacking_from trace a c1.holdings args ≡ []
      → Follows trace true (plain_go p a) p (with_turn_kept s stop (post a c1 ls to b args (load_from trace a c1.holdings args) (rows_from trace a c1 args) s.actors))
  posts_follow to b args stops full = stops_too true (Post to b args) _ stops (letter_follows to b args stops full)

  pub mints_follow : (to b : ℕ) (args : List Value) → stop.act ≡ Post to b args → (e : Loaded) (es : List Loaded) → lacking_from trace a c1.holdings args ≡ e ∷ es
      → Facts trace p (record s { actors = mint a c ls (owner_of e.0) (to_mint s.options.weight (owner_of e.0) (e ∷ es)) s.actors })
  mints_follow to b args stops e es lacked = mint_follows to b args stops e es lacked

-- who mints for what its turn gets
pub gets_follow : (trace : Trace) (p : PlainState) (s : State) → Facts trace p s → (a : ℕ) (c : Cell) (ls : List Letter) → seat_at s.actors a ≡ seat c ls → (f : Frame) → c.frame ≡ Some f
    → (x : Thing) → needed trace s.program a c f ≡ Some x → Facts trace p (record s { actors = mint a c ls (owner_of x) (to_need s.options.weight a c.holdings x) s.actors })
gets_follow trace p s facts a c ls at f is x n = record {
  counts = need_keeps trace (thing_row (plain_row p.actors)) (people_of p.actors) s.actors facts.counts a c ls at s.options.weight facts.weight s.program f is x n;
  program = facts.program;
  prints = facts.prints;
  objects = facts.objects;
  weight = facts.weight;
  mode = facts.mode;
}
