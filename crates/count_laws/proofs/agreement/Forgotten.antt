-- In the plain machine what was made and is not reachable is never reachable again.
use Rattle.std.proofs.Common.{◌≡◌, ◌≢◌, ◌⊎◌, ℕ, ◌+◌, ◌<◌, nat_lt, Bool, true, false, Option, Some, None, is_some, option_and_then, List, [], ◌∷◌, ◌++◌, length, length-set, set, get_or, get_or-set_same, get_or-set_other, refl, sym, ◌∙◌, ap, subst, arith, inl, inr, ⊎_elim}
use Rattle.std.specs.Prelude.{if◌then◌else◌, slice_get}
use Rattle.std.specs.Option.{option_map_or}
use Rattle.std.proofs.lemmas.Bool.{cases_eq, cases_lt}
use Rattle.std.proofs.lemmas.List.{get_or_append_left, get_or_past, get_or_push, length-append}
use Rattle.std.proofs.lemmas.Option.{slice_get_within}
use Rattle.orca_names.specs.declared.names.ObjName.{ObjName}
use Rattle.orca_names.specs.declared.names.Thing.{Thing}
use Rattle.orca_names.specs.declared.names.Thing.TheVariants.{Actor, Obj}
use Rattle.orca_names.specs.declared.names.Value.TheVariants as values
use Rattle.behaviour_code.specs.Find.{field_count}
use Rattle.behaviour_code.specs.declared.code.Program.{Program}
use Rattle.turn_rules.specs.Segment.{Stop}
use Rattle.turn_rules.specs.declared.act.Act.{Act}
use Rattle.turn_rules.specs.declared.act.Act.TheVariants.{Post, New, Print, End}
use Rattle.turn_rules.specs.declared.act.Frame.{Frame}
use Rattle.event_rule.specs.declared.event.Event.{Event}
use Rattle.event_rule.specs.declared.event.Event.TheVariants.{Take, Go}
use Rattle.reach_walk.specs.Reach.{thing_row}
use Rattle.letter_kinds.specs.Holdings.{Row}
use Rattle.plain_rules.proofs.Changing.{length-with_changed}
use Rattle.count_laws.proofs.knowledge.Living.{Holds, Letters, Lives, here, holds, later, owner, row, stands}
use Rattle.count_laws.proofs.knowledge.Naming.{nulls_name_nothing, set_names}
use Rattle.count_laws.proofs.knowledge.Paths.{reach_into}
use Rattle.count_laws.proofs.agreement.PlainSide.{people-push, people-set, rows_grow, rows_kept, rows_pushed, length-people}
use Rattle.count_laws.proofs.agreement.Reachable.{lives_reachable, nobody_holds, person_read, reachable_lives}
use Rattle.count_laws.proofs.knowledge.Segments.{Made}
use Rattle.count_laws.proofs.agreement.Slices.{slice_past, slice_set_other, slice_set_same}
use Rattle.count_laws.proofs.events.Take.{starts_named}
use Rattle.count_laws.proofs.knowledge.Turns.{From, Given, NamesOnlyFrom, names_args, names_target, segment_names}
use Rattle.count_laws.specs.Agreement.{IsRootPerson, Person, nobody, people_of, person_at, person_of_plain}
use Rattle.count_laws.specs.Gone.{ForgottenStaysForgotten, IsForgotten}
use Rattle.count_laws.specs.Known.{InFrame, Names}
use Rattle.machine_rules.specs.Left.{IsMade}
use Rattle.event_rule.specs.Runs.{NotEnabled, IsFull, Goes}
use Rattle.plain_rules.specs.Run.{plain_next}
use Rattle.plain_rules.specs.Machine.{PlainState, after_act, after_letter, after_turn, frame_of, fresh_actor, next_state, plain_row, stopped_at, turn_of_actor, with_changed, with_letter, with_name}
use Rattle.plain_rules.specs.declared.PlainActor.{PlainActor}
use Rattle.plain_rules.specs.declared.PlainLetter.{PlainLetter}

-- ---- what lives afterwards lived before, or is new

module _ (all all' : Thing → Option Row) (ps ps' : List Person) (New : Thing → Type 0)
    (roots : (b : ℕ) → IsRootPerson (person_at ps' b) → Lives all ps (Actor b))
    (held : (b : ℕ) (x : Thing) → Lives all ps (Actor b) ⊎ New (Actor b) → Holds (person_at ps' b) x → Lives all ps x ⊎ New x)
    (rows : (n : ObjName) (r : Row) (x : Thing) → Lives all ps (Obj n) ⊎ New (Obj n) → all' (Obj n) ≡ Some r → Names r x → Lives all ps x ⊎ New x)
    (owners : (n : ObjName) → Lives all ps (Obj n) ⊎ New (Obj n) → Lives all ps (Actor n.owner) ⊎ New (Actor n.owner)) where
  lived : {x : Thing} → Lives all' ps' x → Lives all ps x ⊎ New x
  lived (stands {a = a} r) = inl (roots a r)
  lived (holds {a = a} {x = x} l h) = held a x (lived l) h
  lived (row {n = n} {x = x} {r = r} l e m) = rows n r x (lived l) e m
  lived (owner {n = n} l) = owners n (lived l)

-- ---- one actor is changed, or is added

changed_at : (actors : List PlainActor) (b : ℕ) (change : PlainActor → PlainActor) (i : ℕ)
    → (slice_get (with_changed actors b change) i ≡ slice_get actors i) ⊎ ((y : PlainActor) × (slice_get actors i ≡ Some y) × (i ≡ b) × (slice_get (with_changed actors b change) i ≡ Some (change y)))
changed_at actors b change i = by_found (slice_get actors b) refl
  where
    by_found : (o : Option PlainActor) → slice_get actors b ≡ o → (slice_get (option_map_or (λ x. set actors b (change x)) o actors) i ≡ slice_get actors i)
        ⊎ ((y : PlainActor) × (slice_get actors i ≡ Some y) × (i ≡ b) × (slice_get (option_map_or (λ x. set actors b (change x)) o actors) i ≡ Some (change y)))
    by_found None e = inl refl
    by_found (Some y) e = ⊎_elim
        (λ is. inr (y, ap (slice_get actors) is ∙ e, is, ap (slice_get (set actors b (change y))) is ∙ slice_set_same actors b (change y) (slice_get_within actors b y e)))
        (λ not. inl (slice_set_other actors b i (change y) not))
        (cases_eq i b)

pushed_at : (people : List Person) (y : Person) (b : ℕ) → (person_at (people ++ y ∷ []) b ≡ person_at people b) ⊎ ((b ≡ length people) × (person_at (people ++ y ∷ []) b ≡ y))
pushed_at people y b = ⊎_elim
    (λ last. inr (last, get_or_push people y nobody b (sym last)))
    (λ other. inl (⊎_elim
    (λ h. get_or_append_left people (y ∷ []) nobody b h)
    (λ h. get_or_past (people ++ y ∷ []) b nobody (omega (arith, length-append people (y ∷ []))) ∙ sym (get_or_past people b nobody h))
    (cases_lt b (length people))))
    (cases_eq b (length people))

set_at : (people : List Person) (a : ℕ) (y : Person) (b : ℕ) → a < length people → ((b ≡ a) × (person_at (set people a y) b ≡ y)) ⊎ ((b ≢ a) × (person_at (set people a y) b ≡ person_at people b))
set_at people a y b within = ⊎_elim
    (λ is. inl (is, ap (person_at (set people a y)) is ∙ get_or-set_same people a y nobody within))
    (λ not. inr (not, get_or-set_other people a b y nobody not))
    (cases_eq b a)

letters_more : (ls : List PlainLetter) (l : PlainLetter) (x : Thing) → Letters (ls ++ l ∷ []) x → Letters ls x ⊎ Names l.args x
letters_more [] l x (here n) = inr n
letters_more [] l x (later h) = elim h [ ]
letters_more (k ∷ ls) l x (here n) = inl (here n)
letters_more (k ∷ ls) l x (later h) = ⊎_elim (λ m. inl (later m)) (λ n. inr n) (letters_more ls l x h)

module _ (p : PlainState) where
  abbrev all : Thing → Option Row
  all = thing_row (plain_row p.actors)

  abbrev people : List Person
  people = people_of p.actors

  abbrev Lived : Thing → Type 0
  Lived x = Lives all people x

  along : (x y : Thing) (r : Row) → Lived x → all x ≡ Some r → Names r y → Lived y
  along (Actor b) y r l e n = cc
  along (Obj o) y r l e n = row l e n

  module _ (a : ℕ) (x : PlainActor) (there : slice_get p.actors a ≡ Some x) where
    here_person : person_at people a ≡ person_of_plain x
    here_person = person_read p.actors a ∙ ap (λ o. option_map_or person_of_plain o nobody) there

    within : a < length people
    within = let z = slice_get_within p.actors a x there in let l = length-people p.actors in omega arith

    holds_here : Lived (Actor a) → (z : Thing) → Holds (person_of_plain x) z → Lived z
    holds_here l z h = holds l (subst (λ q. Holds q z) (sym here_person) h)

    -- ---- a take

    module _ (idle : x.frame ≡ None) (l : PlainLetter) (ls : List PlainLetter) (mail : x.letters ≡ l ∷ ls) where
      abbrev y : PlainActor
      y = record x { frame = frame_of p.program x.kind l; letters = ls }

      lives_here : Lived (Actor a)
      lives_here = stands (subst IsRootPerson (sym here_person) (inr (inr (λ e. cc))))

      in_mail : (z : Thing) → Letters (l ∷ ls) z → Lived z
      in_mail z h = holds_here lives_here z (inr (inr (subst (λ ms. Letters ms z) (sym mail) h)))

      of_taker : (z : Thing) → Holds (person_of_plain y) z → Lived z
      of_taker z (inl n) = holds_here lives_here z (inl n)
      of_taker z (inr (inl h)) = in_mail z (here (starts_named p.program x.kind l z h))
      of_taker z (inr (inr h)) = in_mail z (later h)

      abbrev after : List Person
      after = set people a (person_of_plain y)

      roots_before : (b : ℕ) → IsRootPerson (person_at after b) → Lived (Actor b)
      roots_before b r = ⊎_elim
          (λ is. subst (λ i. Lived (Actor i)) (sym is.0) lives_here)
          (λ not. stands (subst IsRootPerson not.1 r))
          (set_at people a (person_of_plain y) b within)

      held_before : (b : ℕ) (z : Thing) → Lived (Actor b) ⊎ ⊥ → Holds (person_at after b) z → Lived z ⊎ ⊥
      held_before b z (inl lives) h = inl (⊎_elim
          (λ is. of_taker z (subst (λ q. Holds q z) is.1 h))
          (λ not. holds lives (subst (λ q. Holds q z) not.1 h))
          (set_at people a (person_of_plain y) b within))
      held_before b z (inr bad) h = absurd bad

      taken_lived : (z : Thing) → Lives (thing_row (plain_row (set p.actors a y))) (people_of (set p.actors a y)) z → Lived z
      taken_lived z lives = ⊎_elim (λ h. h) (λ bad. absurd bad) (lived all (thing_row (plain_row (set p.actors a y))) people after (λ z. ⊥) roots_before held_before
          (λ n r z k e m. ⊎_elim (λ h. inl (row h (rows_kept p.actors a x there y refl (Obj n) ∙ e) m)) (λ bad. absurd bad) k)
          (λ n k. ⊎_elim (λ h. inl (owner h)) (λ bad. absurd bad) k)
          (subst (λ qs. Lives (thing_row (plain_row (set p.actors a y))) qs z) (people-set p.actors a y) lives))

    -- ---- a go

    module _ (f : Frame) (framed : x.frame ≡ Some f) where
      abbrev stop : Stop
      stop = turn_of_actor p a x f

      abbrev Fresh : Thing → Type 0
      Fresh z = (z ≡ Actor (length p.actors)) ⊎ Made a (length x.rows) stop.turn.made z

      abbrev Kept : Thing → Type 0
      Kept z = Lived z ⊎ Fresh z

      goer_lives : Lived (Actor a)
      goer_lives = stands (subst IsRootPerson (sym here_person) (inr (inl (λ e. cc))))

      given_lives : (z : Thing) → Given f x.fields z → Lived z
      given_lives z (inl n) = holds_here goer_lives z (inr (inl (subst (λ o. InFrame o z) (sym framed) n)))
      given_lives z (inr n) = holds_here goer_lives z (inl n)

      from_kept : (z : Thing) → From all a (length x.rows) f x.fields (length stop.turn.made) z → Kept z
      from_kept z (inl r) = inl (reach_into all Lived given_lives (λ t u r l e n. along t u r l e n) (λ n l. owner l) r)
      from_kept z (inr (inl e)) = inl (subst Lived (sym e) goer_lives)
      from_kept z (inr (inr m)) = inr (inr m)

      names : NamesOnlyFrom all a (length x.rows) f x.fields stop
      names = segment_names (record { program = p.program; me = a; base = length x.rows; rows = plain_row p.actors }) f x.fields

      fresh_actor_is : (b : ℕ) → Fresh (Actor b) → b ≡ length p.actors
      fresh_actor_is b (inl e) = cc
      fresh_actor_is b (inr m) = absurd (let e = m.2 in cc)

      -- the actors, where this one has another frame, and what it may name in it is kept
      module _ (frame : Option Frame) (in_frame : (z : Thing) → InFrame frame z → Kept z) where
        abbrev goer : PlainActor
        goer = record x { frame = frame; fields = stop.turn.fields; rows = x.rows ++ stop.turn.made }

        abbrev turned : List PlainActor
        turned = set p.actors a goer

        of_goer : (z : Thing) → Holds (person_of_plain goer) z → Kept z
        of_goer z (inl n) = from_kept z (names.in_fields z n)
        of_goer z (inr (inl h)) = in_frame z h
        of_goer z (inr (inr h)) = inl (holds_here goer_lives z (inr (inr h)))

        turned_at : (b : ℕ) → ((b ≡ a) × (person_at (people_of turned) b ≡ person_of_plain goer)) ⊎ ((b ≢ a) × (person_at (people_of turned) b ≡ person_at people b))
        turned_at b = subst (λ qs. ((b ≡ a) × (person_at qs b ≡ person_of_plain goer)) ⊎ ((b ≢ a) × (person_at qs b ≡ person_at people b))) (sym (people-set p.actors a goer)) (set_at people a (person_of_plain goer) b within)

        turned_roots : (b : ℕ) → IsRootPerson (person_at (people_of turned) b) → Lived (Actor b)
        turned_roots b r = ⊎_elim
            (λ is. subst (λ i. Lived (Actor i)) (sym is.0) goer_lives)
            (λ not. stands (subst IsRootPerson not.1 r))
            (turned_at b)

        -- who was made just now was nobody before
        was_nobody : (b : ℕ) → Fresh (Actor b) → person_at people b ≡ nobody
        was_nobody b new = get_or_past people b nobody (let e = fresh_actor_is b new in let l = length-people p.actors in omega arith)

        turned_held : (b : ℕ) (z : Thing) → Kept (Actor b) → Holds (person_at (people_of turned) b) z → Kept z
        turned_held b z k h = ⊎_elim
            (λ is. of_goer z (subst (λ q. Holds q z) is.1 h))
            (λ not. ⊎_elim
            (λ lives. inl (holds lives (subst (λ q. Holds q z) not.1 h)))
            (λ new. nobody_holds z _ (subst (λ q. Holds q z) (not.1 ∙ was_nobody b new) h))
            k)
            (turned_at b)

        abbrev all' : Thing → Option Row
        all' = thing_row (plain_row turned)

        made_kept : (n : ObjName) (r : Row) (z : Thing) → Made a (length x.rows) stop.turn.made (Obj n) → all' (Obj n) ≡ Some r → Names r z → Kept z
        made_kept n r z (i, below, is) e m =
            let grows = rows_grow p.actors a x there goer stop.turn.made refl in
            let same : r ≡ get_or stop.turn.made i [] = let q = grows.news i below in let w = ap all' is in cc in
            from_kept z (names.in_made i z below (subst (λ vs. Names vs z) same m))

        turned_rows : (n : ObjName) (r : Row) (z : Thing) → Kept (Obj n) → all' (Obj n) ≡ Some r → Names r z → Kept z
        turned_rows n r z (inl lives) e m = ⊎_elim
            (λ same. inl (row lives (sym same ∙ e) m))
            (λ made. made_kept n r z made e m)
            ((rows_grow p.actors a x there goer stop.turn.made refl).only (Obj n))
        turned_rows n r z (inr (inl bad)) e m = cc
        turned_rows n r z (inr (inr made)) e m = made_kept n r z made e m

        kept_owner : (n : ObjName) → Kept (Obj n) → Kept (Actor n.owner)
        kept_owner n (inl lives) = inl (owner lives)
        kept_owner n (inr (inl bad)) = cc
        kept_owner n (inr (inr made)) = inl (subst (λ i. Lived (Actor i)) (sym (mine n made)) goer_lives)
          where
            mine : (n : ObjName) → Made a (length x.rows) stop.turn.made (Obj n) → n.owner ≡ a
            mine n (i, below, is) = cc

        turned_lived : (z : Thing) → Lives all' (people_of turned) z → Kept z
        turned_lived z lives = lived all all' people (people_of turned) Fresh turned_roots turned_held turned_rows kept_owner lives

        turned_made : (z : Thing) → IsMade p.actors z → IsMade turned z
        turned_made (Actor b) h = let l = length-set p.actors a goer in omega arith
        turned_made (Obj n) h = ⊎_elim
            (λ same. ap is_some same ∙ h)
            (λ made. ap is_some (ap all' made.2 ∙ (rows_grow p.actors a x there goer stop.turn.made refl).news made.0 made.1))
            ((rows_grow p.actors a x there goer stop.turn.made refl).only (Obj n))

        -- ---- a letter goes

        module _ (to : ℕ) (letter : PlainLetter) (target : Kept (Actor to)) (named : (z : Thing) → Names letter.args z → Kept z) where
          abbrev posted : List PlainActor
          posted = with_letter turned to letter

          person_turned : (b : ℕ) (o : Option PlainActor) → slice_get turned b ≡ o → person_at (people_of turned) b ≡ option_map_or person_of_plain o nobody
          person_turned b o e = person_read turned b ∙ ap (λ o. option_map_or person_of_plain o nobody) e

          -- one stays, or gets the letter
          posted_at : (b : ℕ) → (person_at (people_of posted) b ≡ person_at (people_of turned) b)
              ⊎ ((y : PlainActor) × (person_at (people_of turned) b ≡ person_of_plain y) × (b ≡ to) × (b < length turned) × (person_at (people_of posted) b ≡ person_of_plain (record y { letters = y.letters ++ letter ∷ [] })))
          posted_at b = ⊎_elim
              (λ same. inl (person_read posted b ∙ ap (λ o. option_map_or person_of_plain o nobody) same ∙ sym (person_read turned b)))
              (λ one. inr (one.0, person_turned b (Some one.0) one.1, one.2, slice_get_within turned b one.0 one.1, person_read posted b ∙ ap (λ o. option_map_or person_of_plain o nobody) one.3))
              (changed_at turned to (λ y. record y { letters = y.letters ++ letter ∷ [] }) b)

          posted_roots : (b : ℕ) → IsRootPerson (person_at (people_of posted) b) → Lived (Actor b)
          posted_roots b r = ⊎_elim
              (λ same. turned_roots b (subst IsRootPerson same r))
              (λ one. subst (λ i. Lived (Actor i)) (sym one.2) (⊎_elim
              (λ lives. lives)
              (λ new. absurd (let e = fresh_actor_is to new in let i = one.2 in let h = one.3 in let l = length-set p.actors a goer in omega arith))
              target))
              (posted_at b)

          posted_held : (b : ℕ) (z : Thing) → Kept (Actor b) → Holds (person_at (people_of posted) b) z → Kept z
          posted_held b z k h = ⊎_elim
              (λ same. turned_held b z k (subst (λ q. Holds q z) same h))
              (λ one. of_getter one.0 one.1 (subst (λ q. Holds q z) one.4 h))
              (posted_at b)
            where
              of_getter : (y : PlainActor) → person_at (people_of turned) b ≡ person_of_plain y → Holds (person_of_plain (record y { letters = y.letters ++ letter ∷ [] })) z → Kept z
              of_getter y e (inl n) = turned_held b z k (subst (λ q. Holds q z) (sym e) (inl n))
              of_getter y e (inr (inl h)) = turned_held b z k (subst (λ q. Holds q z) (sym e) (inr (inl h)))
              of_getter y e (inr (inr h)) = ⊎_elim
                  (λ old. turned_held b z k (subst (λ q. Holds q z) (sym e) (inr (inr old))))
                  (λ n. named z n)
                  (letters_more y.letters letter z h)

          posted_row : (n : ObjName) → plain_row posted n ≡ plain_row turned n
          posted_row n = ⊎_elim
              (λ same. ap (λ found. option_and_then (λ (y : PlainActor). slice_get y.rows n.serial) found) same)
              (λ one. ap (λ found. option_and_then (λ (y : PlainActor). slice_get y.rows n.serial) found) one.3
              ∙ sym (ap (λ found. option_and_then (λ (y : PlainActor). slice_get y.rows n.serial) found) one.1))
              (changed_at turned to (λ y. record y { letters = y.letters ++ letter ∷ [] }) n.owner)

          posted_lived : (z : Thing) → Lives (thing_row (plain_row posted)) (people_of posted) z → Kept z
          posted_lived z lives = lived all (thing_row (plain_row posted)) people (people_of posted) Fresh posted_roots posted_held
              (λ n r z k e m. turned_rows n r z k (sym (posted_row n) ∙ e) m) kept_owner lives

          posted_made : (z : Thing) → IsMade p.actors z → IsMade posted z
          posted_made (Actor b) h = let w = turned_made (Actor b) h in let l = length-with_changed turned to (λ y. record y { letters = y.letters ++ letter ∷ [] }) in omega arith
          posted_made (Obj n) h = ap is_some (posted_row n) ∙ turned_made (Obj n) h

        -- ---- an actor is made

        module _ (program : Program) (kind : ℕ) where
          abbrev grown : List PlainActor
          grown = turned ++ fresh_actor program kind ∷ []

          not_root : ¬ IsRootPerson (person_of_plain (fresh_actor program kind))
          not_root (inl e) = cc
          not_root (inr (inl f)) = f refl
          not_root (inr (inr f)) = f refl

          holds_nothing : (z : Thing) → ¬ Holds (person_of_plain (fresh_actor program kind)) z
          holds_nothing z (inl n) = nulls_name_nothing (field_count program kind) z n
          holds_nothing z (inr (inl h)) = h
          holds_nothing z (inr (inr h)) = elim h [ ]

          grown_at : (b : ℕ) → (person_at (people_of grown) b ≡ person_at (people_of turned) b) ⊎ (person_at (people_of grown) b ≡ person_of_plain (fresh_actor program kind))
          grown_at b = ⊎_elim
              (λ same. inl (ap (λ qs. person_at qs b) (people-push turned (fresh_actor program kind)) ∙ same))
              (λ last. inr (ap (λ qs. person_at qs b) (people-push turned (fresh_actor program kind)) ∙ last.1))
              (pushed_at (people_of turned) (person_of_plain (fresh_actor program kind)) b)

          grown_lived : (z : Thing) → Lives (thing_row (plain_row grown)) (people_of grown) z → Kept z
          grown_lived z lives = lived all (thing_row (plain_row grown)) people (people_of grown) Fresh
              (λ b r. ⊎_elim (λ same. turned_roots b (subst IsRootPerson same r)) (λ new. absurd (not_root (subst IsRootPerson new r))) (grown_at b))
              (λ b z k h. ⊎_elim (λ same. turned_held b z k (subst (λ q. Holds q z) same h)) (λ new. absurd (holds_nothing z (subst (λ q. Holds q z) new h))) (grown_at b))
              (λ n r z k e m. turned_rows n r z k (rows_pushed turned (fresh_actor program kind) refl (Obj n) ∙ e) m) kept_owner lives

          grown_made : (z : Thing) → IsMade p.actors z → IsMade grown z
          grown_made (Actor b) h = let w = turned_made (Actor b) h in let l = length-append turned (fresh_actor program kind ∷ []) in omega arith
          grown_made (Obj n) h = ap is_some (sym (rows_pushed turned (fresh_actor program kind) refl (Obj n))) ∙ turned_made (Obj n) h

      -- ---- what the act leads to

      abbrev ahead : Frame
      ahead = stopped_at f stop

      in_ahead : (z : Thing) → InFrame (Some ahead) z → Kept z
      in_ahead z n = from_kept z (names.in_registers z n)

      in_named : (register : ℕ) (z : Thing) → InFrame (Some (with_name ahead register (length p.actors))) z → Kept z
      in_named register z n = ⊎_elim
          (λ old. in_ahead z old)
          (λ e. inr (inl (cc)))
          (set_names stop.turn.registers register (values.Actor (length p.actors)) z n)

      -- what lives is kept, and what was made stays made
      abbrev Follow : List PlainActor → Type 0
      Follow actors = ((z : Thing) → Lives (thing_row (plain_row actors)) (people_of actors) z → Kept z) × ((z : Thing) → IsMade p.actors z → IsMade actors z)

      turned_is : (g : Option Frame) → with_changed p.actors a (λ y. record y { frame = g; fields = stop.turn.fields; rows = y.rows ++ stop.turn.made })
          ≡ set p.actors a (record x { frame = g; fields = stop.turn.fields; rows = x.rows ++ stop.turn.made })
      turned_is g = ap (λ found. option_map_or (λ y. set p.actors a (record y { frame = g; fields = stop.turn.fields; rows = y.rows ++ stop.turn.made })) found p.actors) there

      arrived : (r q : PlainState) → Goes r ≡ Goes q → Follow r.actors → Follow q.actors
      arrived r q e h = let same : r ≡ q = cc in subst (λ (u : PlainState). Follow u.actors) same h

      on_act : (act : Act) → stop.act ≡ act → (q : PlainState) → after_act p a ahead stop.turn.fields stop.turn.made act ≡ Goes q → Follow q.actors
      on_act End is q e = arrived _ q e (subst Follow (sym (turned_is None)) (turned_lived None (λ z bad. absurd bad), turned_made None (λ z bad. absurd bad)))
      on_act (Print v) is q e = arrived _ q e (subst Follow (sym (turned_is (Some ahead))) (turned_lived (Some ahead) in_ahead, turned_made (Some ahead) in_ahead))
      on_act (Post to behaviour args) is q e =
          let letter : PlainLetter = record { behaviour = behaviour; args = args } in
          let target = from_kept (Actor to) (names.in_act (Actor to) (rw is (names_target to args))) in
          let named : (z : Thing) → Names args z → Kept z = λ z n. from_kept z (names.in_act z (rw is (names_args to args z n))) in
          arrived _ q e (subst (λ actors. Follow (with_letter actors to letter)) (sym (turned_is (Some ahead)))
          (posted_lived (Some ahead) in_ahead to letter target named, posted_made (Some ahead) in_ahead to letter target named))
      on_act (New kind register) is q e = by_room (nat_lt (length p.actors) 65536) e
        where
          by_room : (b : Bool) → (if b
              then Goes (next_state p (with_changed p.actors a (λ y. record y { frame = Some (with_name ahead register (length p.actors)); fields = stop.turn.fields; rows = y.rows ++ stop.turn.made }) ++ fresh_actor p.program kind ∷ []) p.prints)
              else IsFull) ≡ Goes q → Follow q.actors
          by_room true e = arrived _ q e (subst (λ actors. Follow (actors ++ fresh_actor p.program kind ∷ [])) (sym (turned_is (Some (with_name ahead register (length p.actors)))))
              (grown_lived (Some (with_name ahead register (length p.actors))) (in_named register) p.program kind, grown_made (Some (with_name ahead register (length p.actors))) (in_named register) p.program kind))
          by_room false e = cc

      -- what was made before is not new
      not_fresh : (z : Thing) → IsMade p.actors z → ¬ Fresh z
      not_fresh (Actor b) made new = let e = fresh_actor_is b new in omega arith
      not_fresh (Obj n) made (inl bad) = cc
      not_fresh (Obj n) made (inr (i, below, is)) =
          let o : n.owner ≡ a = cc in
          let s : n.serial ≡ length x.rows + i = cc in
          let none : plain_row p.actors n ≡ None = ap (λ found. option_and_then (λ (y : PlainActor). slice_get y.rows n.serial) found) (ap (slice_get p.actors) o ∙ there) ∙ slice_past x.rows n.serial (omega arith) in
          let w = ap is_some none in cc

      went : (q : PlainState) → after_turn p a f stop ≡ Goes q → (z : Thing) → IsMade p.actors z → IsMade q.actors z × (Lives (thing_row (plain_row q.actors)) (people_of q.actors) z → Lived z)
      went q e z made =
          let follow = on_act stop.act refl q e in
          (follow.1 z made, λ lives. ⊎_elim (λ h. h) (λ new. absurd (not_fresh z made new)) (follow.0 z lives))

  -- ---- the events

  -- what was made stays made, and lived before where it lives now
  abbrev Traced : PlainState → Type 0
  Traced q = (z : Thing) → IsMade p.actors z → IsMade q.actors z × (Lives (thing_row (plain_row q.actors)) (people_of q.actors) z → Lived z)

  taken_made : (a : ℕ) (x y : PlainActor) → slice_get p.actors a ≡ Some x → y.rows ≡ x.rows → (z : Thing) → IsMade p.actors z → IsMade (set p.actors a y) z
  taken_made a x y there same (Actor b) h = let l = length-set p.actors a y in omega arith
  taken_made a x y there same (Obj n) h = ap is_some (sym (rows_kept p.actors a x there y same (Obj n))) ∙ h

  on_take : (a : ℕ) (o : Option PlainActor) → slice_get p.actors a ≡ o → (q : PlainState)
      → option_map_or (λ y. Goes (next_state p (set p.actors a y) p.prints)) (option_and_then (λ x. after_letter p.program x x.frame x.letters) o) NotEnabled ≡ Goes q → Traced q
  on_take a None there q e = cc
  on_take a (Some x) there q e = by_letter x.frame x.letters refl refl e
    where
      by_letter : (f : Option Frame) (ls : List PlainLetter) → x.frame ≡ f → x.letters ≡ ls
          → option_map_or (λ y. Goes (next_state p (set p.actors a y) p.prints)) (after_letter p.program x f ls) NotEnabled ≡ Goes q → Traced q
      by_letter (Some f) ls idle mail e = cc
      by_letter None [] idle mail e = cc
      by_letter None (l ∷ ls) idle mail e =
          let same : next_state p (set p.actors a (record x { frame = frame_of p.program x.kind l; letters = ls })) p.prints ≡ q = cc in
          subst Traced same (λ z made. (taken_made a x (record x { frame = frame_of p.program x.kind l; letters = ls }) there refl z made, λ lives. taken_lived a x there idle l ls mail z lives))

  on_go : (a : ℕ) (o : Option PlainActor) → slice_get p.actors a ≡ o → (q : PlainState)
      → option_map_or (λ x. option_map_or (λ f. after_turn p a f (turn_of_actor p a x f)) x.frame NotEnabled) o NotEnabled ≡ Goes q → Traced q
  on_go a None there q e = cc
  on_go a (Some x) there q e = by_frame x.frame refl e
    where
      by_frame : (f : Option Frame) → x.frame ≡ f → option_map_or (λ f. after_turn p a f (turn_of_actor p a x f)) f NotEnabled ≡ Goes q → Traced q
      by_frame None framed e = cc
      by_frame (Some f) framed e = went a x there f framed q e

  traced : (e : Event) (q : PlainState) → plain_next p e ≡ Goes q → Traced q
  traced (Take a) q e = on_take a (slice_get p.actors a) refl q e
  traced (Go a) q e = on_go a (slice_get p.actors a) refl q e
  traced event q e = cc

-- ---- runs

pub forgotten_stays : ForgottenStaysForgotten
forgotten_stays [] p q same x gone = subst (λ r. IsForgotten r x) same gone
forgotten_stays (e ∷ events) p q (u, goes, leads) x gone =
    let one = traced p e u goes x gone.0 in
    forgotten_stays events u q leads x (one.0, λ r. gone.1 (lives_reachable p (one.1 (reachable_lives u r))))
