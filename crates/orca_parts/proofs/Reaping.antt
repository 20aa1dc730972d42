-- What goes back where the members of a token go.
use Rattle.std.proofs.Common.{◌≡◌, ◌≢◌, ◌<◌, ℕ, List, [], ◌∷◌, ◌++◌, set, Option, Some, None, option_map, refl, sym, ap, subst, ◌∙◌, arith}
use Rattle.std.specs.Option.{option_map_or}
use Rattle.std.specs.List.Sorted.{IsStrictlySortedBy}
use Rattle.std.specs.Ordering.{nat_cmp}
use Rattle.std.proofs.lemmas.List.{get_or-set_other, set_comm}
use Rattle.event_rule.specs.Runs.{NotEnabled, Step}
use Rattle.letter_kinds.specs.Counting.{Amount, by_owner}
use Rattle.letter_kinds.specs.Detector.{Detector, Token}
use Rattle.detector_tokens.proofs.RisingLemmas.{AllAbove, first_above}
use Rattle.machine_rules.specs.Actors.{Actors, seat_at}
use Rattle.machine_rules.specs.Detect.{acked_token, held_outside, reap_decs}
use Rattle.actor_cell.specs.declared.cell.Cell.{Cell}
use Rattle.actor_cell.specs.Cells.{as_cell}
use Rattle.actor_cell.specs.Outs.{left_outside}
use Rattle.actor_table.specs.declared.slot.Slot.{Slot}
use Rattle.actor_table.specs.declared.slot.Place.TheVariants.{Home}
use Rattle.actor_table.specs.Slots.{actors_of, places_of, slot_at}
use Rattle.orca_parts.specs.Fits.{FitsReap}
use Rattle.orca_parts.specs.declared.parts.Parts.{Parts}
use Rattle.orca_parts.specs.Letters.{FitLetters}
use Rattle.orca_parts.specs.Reaping.{AckedAreHome, AreHome}
use Rattle.orca_parts.specs.Touched.{receivers}
use Rattle.orca_parts.proofs.Giving.{seat_here}
use Rattle.orca_parts.proofs.Preparing.{same_at}

-- ---- one member after another

pub none_reaped : (members : List ℕ) (actors : Actors) → reap_decs members [] actors ≡ []
unfolding reap_decs
none_reaped members actors = refl

first_reaped : (members : List ℕ) (a : ℕ) (rest : List ℕ) (actors : Actors)
    → reap_decs members (a ∷ rest) actors ≡ by_owner (held_outside members (seat_at actors a)) ++ reap_decs members rest (set actors a None)
unfolding reap_decs
first_reaped members a rest actors = refl

-- who is not one of the rest gives nothing back there
reaped_without : (members rest : List ℕ) (actors : Actors) (a : ℕ) → AllAbove a rest
    → reap_decs members rest (set actors a None) ≡ reap_decs members rest actors
reaped_without members [] actors a above = none_reaped members (set actors a None) ∙ sym (none_reaped members actors)
reaped_without members (b ∷ rest) actors a above =
    let lower : a < b = above.0 in
    let other : b ≢ a = λ e. absurd (omega (arith, lower, e)) in
    let apart : a ≢ b = λ e. absurd (omega (arith, lower, e)) in
    first_reaped members b rest (set actors a None)
    ∙ ap (λ o. by_owner (held_outside members o) ++ reap_decs members rest (set (set actors a None) b None)) (get_or-set_other actors a b None None other)
    ∙ ap (λ xs. by_owner (held_outside members (seat_at actors b)) ++ reap_decs members rest xs) (set_comm actors a b None None apart)
    ∙ ap (λ ds. by_owner (held_outside members (seat_at actors b)) ++ ds) (reaped_without members rest (set actors b None) a above.1)
    ∙ sym (first_reaped members b rest actors)

-- what those of the rest give back
abbrev pub returned : List ℕ → List ℕ → List Slot → List (ℕ × List Amount)
returned members rest slots = reap_decs members rest (actors_of slots)

pub first_returned : (members : List ℕ) (a : ℕ) (rest : List ℕ) (slots : List Slot) (c : Cell) → IsStrictlySortedBy nat_cmp (a ∷ rest)
    → (slot_at slots a).place ≡ Home c
    → returned members (a ∷ rest) slots ≡ left_outside members (as_cell c) ++ returned members rest slots
first_returned members a rest slots c rises home =
    let actors = actors_of slots in
    first_reaped members a rest actors
    ∙ ap (λ ds. by_owner (held_outside members (seat_at actors a)) ++ ds) (reaped_without members rest actors a (first_above a rest rises))
    ∙ ap (λ o. by_owner (held_outside members o) ++ reap_decs members rest actors) (seat_here slots a c home)

pub none_returned : (members rest : List ℕ) (slots : List Slot) → rest ≡ [] → returned members rest slots ≡ []
none_returned members rest slots none =
    ap (λ ms. returned members ms slots) none ∙ none_reaped members (actors_of slots)

-- ---- the token

-- there is one with these members
pub acked_with : (members : List ℕ) (found : Option Token) → Some members ≡ option_map (λ (t : Token). t.members) found
    → (t : Token) × (found ≡ Some t) × (t.members ≡ members)
acked_with members None is = cc
acked_with members (Some t) is = (t, refl, cc)

pub acked_home : (number : ℕ) (members : List ℕ) (d : Detector) (slots : List Slot) → AckedAreHome number d slots
    → Some members ≡ option_map (λ (t : Token). t.members) (acked_token number d) → AreHome members slots
acked_home number members d slots home found =
    let its = acked_with members (acked_token number d) found in
    subst (λ ms. AreHome ms slots) its.2 (home its.0 its.1)

-- cells that are at home stay there
pub homes_kept : (members : List ℕ) (old new : List Slot) → places_of new ≡ places_of old → AreHome members old → AreHome members new
homes_kept members old new places home m member =
    let x = home m member in
    record { cell = x.cell; home = same_at (λ (y : Slot). y.place) new old places m ∙ x.home; so = tt }

-- there is none
pub none_acked : {S : Type 0} (found : Option Token) (goes : Token → Step S) → None ≡ option_map (λ (t : Token). t.members) found
    → option_map_or goes found NotEnabled ≡ NotEnabled
none_acked None goes is = refl
none_acked (Some t) goes is = cc

pub can_reap : (number : ℕ) (members : List ℕ) (letters : List (ℕ × List Amount)) (old : List Slot) (m : Parts)
    → Some members ≡ option_map (λ (t : Token). t.members) (acked_token number m.detector.state) → letters ≡ returned members members old
    → actors_of m.table.slots ≡ actors_of old → AreHome members m.table.slots → FitLetters (receivers letters) m.table.slots
    → IsStrictlySortedBy nat_cmp members → FitsReap number members letters m
can_reap number members letters old m found is same home fit rising =
    let its = acked_with members (acked_token number m.detector.state) found in
    record {
      token = its.0;
      acked = its.1;
      its = its.2;
      rising = rising;
      home = home;
      decs = is ∙ ap (reap_decs members members) (sym same);
      fit = fit;
    }
