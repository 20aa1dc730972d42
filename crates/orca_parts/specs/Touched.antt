-- What an event that was prepared touches: all else is as before it.
use Rattle.std.specs.Prelude.{ℕ, List, [], ◌∷◌, ◌++◌, length, map, Option, Some, None, option_map}
use Rattle.std.specs.Option.{option_map_or}
use Rattle.letter_kinds.specs.Detector.{Detector}
use Rattle.letter_kinds.specs.declared.note.Note.{Note}
use Rattle.letter_kinds.specs.declared.note.Note.TheVariants.{Block, Unblock, Ack}
use Rattle.detector_tokens.specs.Open.{token_of}
use Rattle.event_rule.specs.declared.event.Event.{Event}
use Rattle.event_rule.specs.declared.event.Event.TheVariants as events
use Rattle.actor_cell.specs.Moves.{Move, Post, Mint, New, act_in}
use Rattle.orca_parts.specs.declared.parts.Parts.{Parts}

-- whom the act reaches: who gets a letter, or the actor that is made, which is the next
abbrev pub reached_by : Move → ℕ → List ℕ
reached_by (Post to letter) next = to ∷ []
reached_by (Mint owner things) next = owner ∷ []
reached_by (New kind register) next = next ∷ []
reached_by act next = []

-- to whom each of these goes
abbrev pub receivers : {X : Type 0} → List (ℕ × X) → List ℕ
receivers outs = map (λ out. out.0) outs

-- the actor that a note tells of
abbrev pub teller : Note → ℕ
teller (Block a count held) = a
teller (Unblock a) = a
teller (Ack number a) = a

-- that of the first of these
abbrev pub first_teller : List Note → List ℕ
first_teller [] = []
first_teller (note ∷ later) = teller note ∷ []

-- the actors whose seat or kept report the event may change, some perhaps twice
abbrev pub touched_of : Event → Parts → List ℕ
touched_of (events.Take a) m = a ∷ []
touched_of (events.Go a) m = a ∷ reached_by (act_in m.turned) (length m.table.slots)
touched_of (events.Collect a) m = a ∷ receivers m.sweep.plan.back
touched_of (events.Leave a) m = a ∷ receivers m.letters.items
touched_of (events.Block a) m = a ∷ []
touched_of events.Hear m = first_teller m.notes.items
touched_of events.Scan m = option_map_or (λ t. t.members) m.token []
touched_of (events.Reap number) m = m.members.items ++ receivers m.letters.items

-- the open token that the note changes: a report changes none
abbrev pub told_token : Detector → Note → Option ℕ
told_token d (Block a count held) = None
told_token d (Unblock a) = option_map (λ t. t.number) (token_of a d.tokens)
told_token d (Ack number a) = Some number

-- that of the first of these
abbrev pub first_told : Detector → List Note → Option ℕ
first_told d [] = None
first_told d (note ∷ later) = told_token d note

-- the token that the event may open, change or close
abbrev pub touched_token : Event → Parts → Option ℕ
touched_token events.Hear m = first_told m.detector.state m.notes.items
touched_token events.Scan m = option_map (λ t. t.number) m.token
touched_token (events.Reap number) m = Some number
touched_token e m = None
