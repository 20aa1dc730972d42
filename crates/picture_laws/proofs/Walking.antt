-- Lines that tell one part after another.
use Rattle.std.proofs.Common.{◌≡◌, ◌⊎◌, Bool, true, false, if◌then◌else◌, List, [], ◌∷◌, ◌++◌, inl, inr, refl, ap, sym, ◌∙◌, subst}
use Rattle.std.specs.Prelude.{flat_map, ⊤}
use Rattle.picture_rules.specs.Words.{Line}
use Rattle.picture_laws.specs.Applying.{Part, apply, begins, further, is_further, says_gone}
use Rattle.picture_laws.proofs.Bytes.{Pass}
use Rattle.picture_laws.proofs.Opening.{PartFits, one_part, opens_anew}
use Rattle.picture_laws.proofs.Shown.{first_passes, others_pass}

-- what a part's lines tell: nothing, or the part anew, or that it is no more
pub data Tells (q : Part) (block old new : List Line) : Type 0 where
  same : block ≡ [] → old ≡ new → Tells q block old new
  anew : (line : Line) (body : List Line) → block ≡ line ∷ body → begins q line ≡ true → Pass is_further body → new ≡ line ∷ body → Tells q block old new
  gone : (line : Line) → block ≡ line ∷ [] → begins q line ≡ false → says_gone q line ≡ true → new ≡ [] → Tells q block old new

abbrev pub Stops : List Line → Type 0
Stops [] = ⊤
Stops (line ∷ lines) = is_further line ≡ false

-- what comes before a line that is no further one
further_is : (body rest : List Line) → Pass is_further body → Stops rest → further (body ++ rest) ≡ body
further_is [] [] h stops = refl
further_is [] (line ∷ lines) h stops = ap (λ (b : Bool). if b then line ∷ further lines else []) stops
further_is (line ∷ body) rest h stops =
    ap (λ (b : Bool). if b then line ∷ further (body ++ rest) else []) (first_passes h)
    ∙ ap (λ ls. line ∷ ls) (further_is body rest (others_pass h) stops)

clash : (b : Bool) → b ≡ true → b ≡ false → ⊥
clash true h k = absurd (cc)
clash false h k = absurd (cc)

not_begins : (p : Part) (line : Line) (b : Bool) → begins p line ≡ b → is_further line ≡ true → b ≡ false
not_begins p line false h f = refl
not_begins p line true h f = absurd (clash (is_further line) f (opens_anew p line (inl h)))

not_gone : (p : Part) (line : Line) (b : Bool) → says_gone p line ≡ b → is_further line ≡ true → b ≡ false
not_gone p line false h f = refl
not_gone p line true h f = absurd (clash (is_further line) f (opens_anew p line (inr h)))

module _ (old : Part → List Line) (p : Part) where
  passed : (line : Line) (lines : List Line) → begins p line ≡ false → says_gone p line ≡ false → apply (line ∷ lines) old p ≡ apply lines old p
  passed line lines h k =
      ap (λ (b : Bool). if b then line ∷ further lines else (if says_gone p line then [] else apply lines old p)) h
      ∙ ap (λ (b : Bool). if b then [] else apply lines old p) k

  -- further lines tell nothing by themselves
  pub skipped : (body rest : List Line) → Pass is_further body → apply (body ++ rest) old p ≡ apply rest old p
  skipped [] rest h = refl
  skipped (line ∷ body) rest h =
      passed line (body ++ rest) (not_begins p line (begins p line) refl (first_passes h)) (not_gone p line (says_gone p line) refl (first_passes h))
      ∙ skipped body rest (others_pass h)

  begun : (line : Line) (body rest : List Line) → begins p line ≡ true → Pass is_further body → Stops rest → apply (line ∷ (body ++ rest)) old p ≡ line ∷ body
  begun line body rest h f stops =
      ap (λ (b : Bool). if b then line ∷ further (body ++ rest) else (if says_gone p line then [] else apply (body ++ rest) old p)) h
      ∙ ap (λ ls. line ∷ ls) (further_is body rest f stops)

  ended : (line : Line) (rest : List Line) → begins p line ≡ false → says_gone p line ≡ true → apply (line ∷ rest) old p ≡ []
  ended line rest h k =
      ap (λ (b : Bool). if b then line ∷ further rest else (if says_gone p line then [] else apply rest old p)) h
      ∙ ap (λ (b : Bool). if b then [] else apply rest old p) k

abbrev pub In : Part → List Part → Type 0
In p [] = ⊥
In p (q ∷ ps) = (p ≡ q) ⊎ In p ps

abbrev pub AllFit : List Part → Type 0
AllFit [] = ⊤
AllFit (q ∷ ps) = PartFits q × AllFit ps

module _ (old new block : Part → List Line) (tells : (q : Part) → Tells q (block q) (old q) (new q)) where
  stops_at : (q : Part) (ps : List Part) → Tells q (block q) (old q) (new q) → Stops (flat_map block ps) → Stops (block q ++ flat_map block ps)
  stops_at q ps (same b e) stops = subst (λ (x : List Line). Stops (x ++ flat_map block ps)) (sym b) stops
  stops_at q ps (anew line body b h f e) stops = subst (λ (x : List Line). Stops (x ++ flat_map block ps)) (sym b) (opens_anew q line (inl h))
  stops_at q ps (gone line b h k e) stops = subst (λ (x : List Line). Stops (x ++ flat_map block ps)) (sym b) (opens_anew q line (inr k))

  stops_all : (ps : List Part) → Stops (flat_map block ps)
  stops_all [] = tt
  stops_all (q ∷ ps) = stops_at q ps (tells q) (stops_all ps)

  module _ (p : Part) where
    -- the part after these lines is the new one, or it is the old one and none of the lines is of it
    abbrev Told : List Part → Type 0
    Told ps = (apply (flat_map block ps) old p ≡ new p) ⊎ ((apply (flat_map block ps) old p ≡ old p) × (In p ps → old p ≡ new p))

    on_other : (q : Part) (ps : List Part) → apply (flat_map block (q ∷ ps)) old p ≡ apply (flat_map block ps) old p → (p ≡ q → old p ≡ new p) → Told ps → Told (q ∷ ps)
    on_other q ps e alike (inl h) = inl (e ∙ h)
    on_other q ps e alike (inr h) = inr (e ∙ h.0, λ found. elim found [ inl k ↦ alike k | inr k ↦ h.1 k ])

    on_anew : (q : Part) (ps : List Part) (line : Line) (body : List Line) (b g : Bool) → PartFits q → block q ≡ line ∷ body → begins q line ≡ true
        → Pass is_further body → new q ≡ line ∷ body → begins p line ≡ b → says_gone p line ≡ g → Told ps → Told (q ∷ ps)
    on_anew q ps line body true g f at h further e begun_is gone_is rest =
        let is = one_part p q line (inl begun_is) (inl h) f in
        inl (ap (λ (x : List Line). apply (x ++ flat_map block ps) old p) at ∙ begun old p line body (flat_map block ps) begun_is further (stops_all ps)
        ∙ sym e ∙ ap new (sym is))
    on_anew q ps line body false true f at h further e begun_is gone_is rest =
        let is = one_part p q line (inr gone_is) (inl h) f in
        absurd (clash (begins p line) (ap (λ r. begins r line) is ∙ h) begun_is)
    on_anew q ps line body false false f at h further e begun_is gone_is rest =
        on_other q ps
        (ap (λ (x : List Line). apply (x ++ flat_map block ps) old p) at ∙ passed old p line (body ++ flat_map block ps) begun_is gone_is
        ∙ skipped old p body (flat_map block ps) further)
        (λ is. absurd (clash (begins p line) (ap (λ r. begins r line) is ∙ h) begun_is)) rest

    on_gone : (q : Part) (ps : List Part) (line : Line) (b g : Bool) → PartFits q → block q ≡ line ∷ [] → begins q line ≡ false
        → says_gone q line ≡ true → new q ≡ [] → begins p line ≡ b → says_gone p line ≡ g → Told ps → Told (q ∷ ps)
    on_gone q ps line true g f at h k e begun_is gone_is rest =
        let is = one_part p q line (inl begun_is) (inr k) f in
        absurd (clash (begins p line) begun_is (ap (λ r. begins r line) is ∙ h))
    on_gone q ps line false true f at h k e begun_is gone_is rest =
        let is = one_part p q line (inr gone_is) (inr k) f in
        inl (ap (λ (x : List Line). apply (x ++ flat_map block ps) old p) at ∙ ended old p line (flat_map block ps) begun_is gone_is ∙ sym e ∙ ap new (sym is))
    on_gone q ps line false false f at h k e begun_is gone_is rest =
        on_other q ps (ap (λ (x : List Line). apply (x ++ flat_map block ps) old p) at ∙ passed old p line (flat_map block ps) begun_is gone_is)
        (λ is. absurd (clash (says_gone p line) (ap (λ r. says_gone r line) is ∙ k) gone_is)) rest

    on_part : (q : Part) (ps : List Part) → PartFits q → Tells q (block q) (old q) (new q) → Told ps → Told (q ∷ ps)
    on_part q ps f (same at e) rest =
        on_other q ps (ap (λ (x : List Line). apply (x ++ flat_map block ps) old p) at) (λ is. ap old is ∙ e ∙ ap new (sym is)) rest
    on_part q ps f (anew line body at h further e) rest = on_anew q ps line body (begins p line) (says_gone p line) f at h further e refl refl rest
    on_part q ps f (gone line at h k e) rest = on_gone q ps line (begins p line) (says_gone p line) f at h k e refl refl rest

    walked : (ps : List Part) → AllFit ps → Told ps
    walked [] f = inr (refl, λ found. absurd found)
    walked (q ∷ ps) f = on_part q ps f.0 (tells q) (walked ps f.1)

    at_end : (ps : List Part) → Told ps → (In p ps) ⊎ (old p ≡ new p) → apply (flat_map block ps) old p ≡ new p
    at_end ps (inl h) either = h
    at_end ps (inr h) (inl found) = h.0 ∙ h.1 found
    at_end ps (inr h) (inr kept) = h.0 ∙ kept

    -- the lines of parts tell each that is among them; another one is as before
    pub all_told : (ps : List Part) → AllFit ps → (In p ps) ⊎ (old p ≡ new p) → apply (flat_map block ps) old p ≡ new p
    all_told ps f either = at_end ps (walked ps f) either
