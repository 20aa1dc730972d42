-- What the detector's events do to the places of actors.
use Rattle.std.proofs.Common.{◌≡◌, ℕ, suc, Bool, true, false, if◌then◌else◌, List, [], ◌∷◌, ◌++◌, set, Option, Some, None, refl, ap, ◌∙◌}
use Rattle.std.specs.Option.{option_map_or}
use Rattle.orca_names.specs.Names.{owner_of}
use Rattle.letter_kinds.specs.Counting.{Amount, by_owner}
use Rattle.letter_kinds.specs.Detector.{Token, close_token, closed_set, has, hear_note, after_scan}
use Rattle.letter_kinds.specs.declared.note.Note.{Note}
use Rattle.machine_examples.proofs.Ledgers.{back_told, given_back-told}
use Rattle.machine_rules.specs.Actors.{push_decs}
use Rattle.machine_rules.specs.Detect.{empty_seats, held_outside, reap_decs, reap_members, hear, reap, scan}
use Rattle.event_rule.specs.Runs.{Goes, NotEnabled}
use Rattle.machine_examples.proofs.Places.{Place, Places, seats_told, seat_told, place_at, seat_at-told, set-told, decs_told, push_decs-told, asked_told, ask_all-told}
use Rattle.std.specs.Prelude.{if◌then◌else◌}
use Rattle.machine_examples.proofs.Pages.{Follows, Page, state_told}

-- after the detector took a note
abbrev pub heard_in : Page → List Note → Option Page
heard_in b [] = None
heard_in b (note ∷ notes) = Some (record b { state = record b.state { detector = hear_note note b.state.detector; notes = notes } })

pub hear-follows : (b : Page) (notes : List Note) → Follows (heard_in b notes) (hear (state_told b) notes)
hear-follows b [] = tt
hear-follows b (note ∷ notes) = refl

-- after a scan, where there is news
abbrev pub scanned_in : Page → Bool → Option Page
scanned_in b false = None
scanned_in b true =
    let closed = closed_set b.state.detector in
    Some (record {
      state = record b.state { detector = after_scan b.state.detector closed };
      places = asked_told closed (suc b.state.detector.opened) b.places;
    })

pub scan-follows : (b : Page) (news : Bool) → Follows (scanned_in b news) (if news then scan (state_told b) else NotEnabled)
scan-follows b false = tt
scan-follows b true =
    let closed = closed_set b.state.detector in
    ap (λ actors. Goes (record (state_told b) { actors = actors; detector = after_scan b.state.detector closed })) (ask_all-told closed (suc b.state.detector.opened) b.places)

-- what a member held on things whose owners are not in the set
abbrev outside_told : List ℕ → Option Place → List Amount
outside_told members None = []
outside_told members (Some o) = back_told (λ x. has members (owner_of x)) o.ledger

held_outside-told : (members : List ℕ) (o : Option Place) → held_outside members (seat_told o) ≡ outside_told members o
held_outside-told members None = refl
held_outside-told members (Some o) = given_back-told (λ x. has members (owner_of x)) o.ledger

-- without these
abbrev emptied_told : List ℕ → Places → Places
emptied_told [] places = places
emptied_told (a ∷ rest) places = emptied_told rest (set places a None)

empty_seats-told : (members : List ℕ) (places : Places) → empty_seats members (seats_told places) ≡ seats_told (emptied_told members places)
unfolding empty_seats
empty_seats-told [] places = refl
empty_seats-told (a ∷ rest) places = ap (empty_seats rest) (set-told places a None None refl) ∙ empty_seats-told rest (set places a None)

-- the Decs that go out for the rest
abbrev reap_decs_told : List ℕ → List ℕ → Places → List (ℕ × List Amount)
reap_decs_told members [] places = []
reap_decs_told members (a ∷ rest) places = by_owner (outside_told members (place_at places a)) ++ reap_decs_told members rest (set places a None)

reap_decs-told : (members rest : List ℕ) (places : Places) → reap_decs members rest (seats_told places) ≡ reap_decs_told members rest places
unfolding reap_decs
reap_decs-told members [] places = refl
reap_decs-told members (a ∷ rest) places =
    (λ i. by_owner ((ap (held_outside members) (seat_at-told places a) ∙ held_outside-told members (place_at places a)) i)
    ++ reap_decs members rest (set-told places a None None refl i))
    ∙ ap (λ decs. by_owner (outside_told members (place_at places a)) ++ decs) (reap_decs-told members rest (set places a None))

-- without these members, and with the Decs that go out
abbrev pub reaped_told : List ℕ → Places → Places
reaped_told members places = decs_told (reap_decs_told members members places) (emptied_told members places)

pub reaped-told : (members : List ℕ) (places : Places) → reap_members members (seats_told places) ≡ seats_told (reaped_told members places)
reaped-told members places =
    (λ i. push_decs (reap_decs-told members members places i) (empty_seats-told members places i))
    ∙ push_decs-told (reap_decs_told members members places) (emptied_told members places)

-- after a reap of the token that is found
abbrev pub reaped_in : Page → Option Token → Option Page
reaped_in b None = None
reaped_in b (Some token) = Some (record {
  state = record b.state { detector = close_token token b.state.detector };
  places = reaped_told token.members b.places;
})

pub reap-follows : (b : Page) (found : Option Token) → Follows (reaped_in b found) (option_map_or (reap (state_told b)) found NotEnabled)
reap-follows b None = tt
reap-follows b (Some token) =
    ap (λ actors. Goes (record (state_told b) { actors = actors; detector = close_token token b.state.detector })) (reaped-told token.members b.places)
