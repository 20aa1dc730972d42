-- All parts up to some numbers, and their lines one behind the other.
use Rattle.std.proofs.Common.{◌≡◌, ◌<◌, ◌≤◌, ◌⊎◌, ◌^◌, ℕ, zero, suc, List, [], ◌∷◌, ◌++◌, length, None, inl, inr, refl, ap, sym, ◌∙◌, arith}
use Rattle.std.specs.Prelude.{flat_map}
use Rattle.std.proofs.lemmas.Bool.{cases_lt}
use Rattle.std.proofs.lemmas.Grind.{flat_map-append}
use Rattle.std.proofs.lemmas.List.{append-nil, get_or_past}
use Rattle.machine_rules.specs.State.{State}
use Rattle.picture_rules.specs.Blocked.{report_lines, token_lines}
use Rattle.picture_rules.specs.Parts.{above, numbers_below, reporters, token_numbers}
use Rattle.picture_rules.specs.Seats.{seat_lines}
use Rattle.picture_rules.specs.Words.{Line}
use Rattle.picture_laws.specs.Applying.{AReport, AToken, AnActor, Part, TheDetector, part_lines}
use Rattle.picture_laws.proofs.Cover.{fit_below, fit_more, in_behind, in_below, in_more, none_kept, none_open, parts_below}
use Rattle.picture_laws.proofs.Walking.{AllFit, In}

below_one : (a x n : ℕ) → x ≤ n → a < x → a < n
below_one a x n h l = omega (arith, h, l)

module _ (block : Part → List Line) where
  blocks_below : (part : ℕ → Part) (n : ℕ) → flat_map block (parts_below part n) ≡ flat_map (λ a. block (part a)) (numbers_below n)
  blocks_below part zero = refl
  blocks_below part (suc n) =
      flat_map-append block (parts_below part n) (part n ∷ []) ∙ ap (λ ls. ls ++ (block (part n) ++ [])) (blocks_below part n)
      ∙ sym (flat_map-append (λ a. block (part a)) (numbers_below n) (n ∷ []))

module _ (actors reports tokens : ℕ) where
  abbrev the_actors : List Part
  the_actors = parts_below AnActor actors

  abbrev pub all_parts : List Part
  all_parts = the_actors ++ TheDetector ∷ [] ++ parts_below AReport reports ++ parts_below AToken tokens

  -- the number of the part is none of these
  abbrev pub IsPast : Part → Type 0
  IsPast (AnActor a) = actors ≤ a
  IsPast TheDetector = ⊥
  IsPast (AReport a) = reports ≤ a
  IsPast (AToken n) = tokens ≤ n

  pub among : (p : Part) → (In p all_parts) ⊎ IsPast p
  among (AnActor a) = elim (cases_lt a actors) [
    | inl less ↦ inl (in_more (AnActor a) (the_actors ++ TheDetector ∷ [] ++ parts_below AReport reports) (parts_below AToken tokens)
        (in_more (AnActor a) (the_actors ++ TheDetector ∷ []) (parts_below AReport reports)
        (in_more (AnActor a) the_actors (TheDetector ∷ []) (in_below AnActor actors a less))))
    | inr past ↦ inr past
  ]
  among TheDetector =
      inl (in_more TheDetector (the_actors ++ TheDetector ∷ [] ++ parts_below AReport reports) (parts_below AToken tokens)
      (in_more TheDetector (the_actors ++ TheDetector ∷ []) (parts_below AReport reports)
      (in_behind TheDetector the_actors (TheDetector ∷ []) (inl refl))))
  among (AReport a) = elim (cases_lt a reports) [
    | inl less ↦ inl (in_more (AReport a) (the_actors ++ TheDetector ∷ [] ++ parts_below AReport reports) (parts_below AToken tokens)
        (in_behind (AReport a) (the_actors ++ TheDetector ∷ []) (parts_below AReport reports) (in_below AReport reports a less)))
    | inr past ↦ inr past
  ]
  among (AToken n) = elim (cases_lt n tokens) [
    | inl less ↦ inl (in_behind (AToken n) (the_actors ++ TheDetector ∷ [] ++ parts_below AReport reports) (parts_below AToken tokens)
        (in_below AToken tokens n less))
    | inr past ↦ inr past
  ]

  pub parts_fit : actors ≤ 2 ^ 64 → reports ≤ 2 ^ 64 → tokens ≤ 2 ^ 64 → AllFit all_parts
  parts_fit f g h =
      fit_more (the_actors ++ TheDetector ∷ [] ++ parts_below AReport reports) (parts_below AToken tokens)
      (fit_more (the_actors ++ TheDetector ∷ []) (parts_below AReport reports)
      (fit_more the_actors (TheDetector ∷ []) (fit_below AnActor actors (λ a l. below_one a actors _ f l)) (tt, tt))
      (fit_below AReport reports (λ a l. below_one a reports _ g l)))
      (fit_below AToken tokens (λ n l. below_one n tokens _ h l))

  -- the lines of all are those of the actors, of the detector, of the reports and of the tokens
  pub blocks_flat : (block : Part → List Line) → flat_map block all_parts
      ≡ flat_map (λ a. block (AnActor a)) (numbers_below actors) ++ block TheDetector
      ++ flat_map (λ a. block (AReport a)) (numbers_below reports) ++ flat_map (λ n. block (AToken n)) (numbers_below tokens)
  blocks_flat block =
      flat_map-append block (the_actors ++ TheDetector ∷ [] ++ parts_below AReport reports) (parts_below AToken tokens)
      ∙ ap (λ ls. ls ++ flat_map block (parts_below AToken tokens))
      (flat_map-append block (the_actors ++ TheDetector ∷ []) (parts_below AReport reports)
      ∙ ap (λ ls. ls ++ flat_map block (parts_below AReport reports))
      (flat_map-append block the_actors (TheDetector ∷ []) ∙ ap (λ ls. flat_map block the_actors ++ ls) (append-nil (block TheDetector))
      ∙ ap (λ ls. ls ++ block TheDetector) (blocks_below block AnActor actors))
      ∙ ap (λ ls. (flat_map (λ a. block (AnActor a)) (numbers_below actors) ++ block TheDetector) ++ ls) (blocks_below block AReport reports))
      ∙ ap (λ ls. ((flat_map (λ a. block (AnActor a)) (numbers_below actors) ++ block TheDetector)
      ++ flat_map (λ a. block (AReport a)) (numbers_below reports)) ++ ls) (blocks_below block AToken tokens)

-- ---- of a state

abbrev pub PastAll : State → Part → Type 0
PastAll s p = IsPast (length s.actors) (above (reporters s.detector)) (above (token_numbers s.detector)) p

abbrev pub parts_there : State → List Part
parts_there s = all_parts (length s.actors) (above (reporters s.detector)) (above (token_numbers s.detector))

-- a part of such a number is not there
pub none_past : (s : State) (p : Part) → PastAll s p → part_lines s p ≡ []
none_past s (AnActor a) past = ap (seat_lines s.program.names a) (get_or_past s.actors a None past)
none_past s TheDetector past = absurd past
none_past s (AReport a) past = ap report_lines (none_kept s.detector.kept a past)
none_past s (AToken n) past = ap token_lines (none_open s.detector.tokens n past)
