-- A go, as the detector's laws see it.
use Rattle.std.proofs.Common.{◌≡◌, ◌≢◌, ℕ, zero, suc, ◌+◌, ◌<◌, Bool, true, false, Option, None, is_some, List, [], ◌∷◌, ◌++◌, length, length-append, set, refl, ap, sym, subst, ◌∙◌, arith, inl, inr, ⊎_elim, get_or-set_same, get_or-set_other, length-set, append-nil}
use Rattle.std.proofs.lemmas.Bool.{cases_eq}
use Rattle.std.proofs.lemmas.List.{get_or_past}
use Rattle.std.proofs.lemmas.List.Sums.{sum_by_push}
use Rattle.orca_names.specs.Names.{owner_of}
use Rattle.orca_names.specs.declared.names.Thing.{Thing}
use Rattle.orca_names.specs.declared.names.Thing.TheVariants.{Actor}
use Rattle.orca_names.specs.declared.names.Value.{Value}
use Rattle.turn_rules.specs.Segment.{Stop}
use Rattle.turn_rules.specs.declared.act.Frame.{Frame}
use Rattle.letter_kinds.proofs.Amounts.{held-mint_all}
use Rattle.letter_kinds.proofs.Counts.{held-send, held_set_other}
use Rattle.letter_kinds.proofs.Sums.{sum-nil}
use Rattle.letter_kinds.specs.Counting.{send, mint_all, gain}
use Rattle.letter_kinds.specs.Detector.{Detector}
use Rattle.letter_kinds.specs.Holdings.{Row, held_in}
use Rattle.letter_kinds.specs.Sums.{amount_of, times_loaded, load_count}
use Rattle.letter_kinds.specs.Letters.{Letter, App, Inc}
use Rattle.letter_kinds.specs.declared.note.Note.{Note}
use Rattle.count_laws.proofs.balance.Makes.{more_last, more_other}
use Rattle.count_laws.proofs.balance.SeatReads.{letter_App, letter_Inc, loads_at-seat}
use Rattle.machine_rules.proofs.Present.{present_below}
use Rattle.machine_rules.specs.Actors.{Actors, cell_at, cell_of, letters_of, mail_at, push_letter, seat, seat_at}
use Rattle.machine_rules.specs.Balance.{loads_at}
use Rattle.machine_rules.specs.Cell.{Cell}
use Rattle.machine_rules.specs.Go.{post, mint, make, cell_after_turn}
use Rattle.count_laws.specs.Known.{IsKnown}
use Rattle.detector_laws.specs.Events.{Moves}
use Rattle.machine_laws.proofs.Collecting.{HoldsOwners, owner_held, same_loads}
use Rattle.machine_laws.proofs.Moving.{not_same, unheld, adds_none, adds_push, push_loads, moves}
use Rattle.machine_rules.proofs.Posting.{push_other}
use Rattle.machine_laws.proofs.Noted.{noted}
use Rattle.machine_laws.proofs.Seen.{world_of}
use Rattle.count_laws.proofs.local.NoSelf.{held-with_made}

module _ (s : Actors) (d : Detector) (ns : List Note) (a : ℕ) (c : Cell) (ls : List Letter) (at : seat_at s a ≡ seat c ls) (running : is_some c.frame ≡ true) (awake : c.reported ≡ false) where
  -- the segment alone: Print and End
  pub turn_moves : (stop : Stop) (f : Option Frame) (q : Bool) → Moves (world_of s d ns) a (world_of (set s a (seat (cell_after_turn stop f q c) ls)) d (noted a c ns))
  turn_moves stop f q =
      let c1 : Cell = cell_after_turn stop f q c in
      let s1 = set s a (seat c1 ls) in
      moves s s1 d ns a c c1 ls ls at (adds_none s1) [] refl awake (inl running)
      (λ b n h. ap letters_of (get_or-set_other s a b (seat c1 ls) None n))
      (λ b n h u. same_loads s a c c1 ls at (Actor b) ∙ u)
      (λ b n h u. held-with_made stop.turn.made c.holdings (Actor b) ∙ h)

  -- a new actor
  pub make_moves : (w : ℕ) (c1 : Cell) → c1.reported ≡ c.reported → ((x : Thing) → held_in c1.holdings x ≡ held_in c.holdings x) → (fresh : Cell) → fresh.reported ≡ false → ((x : Thing) → held_in fresh.holdings x ≡ 0)
      → Moves (world_of s d ns) a (world_of (make w a c1 ls fresh s) d (noted a c ns))
  make_moves w c1 still same fresh quiet empty = record {
    old = c;
    new = c2;
    here = ap cell_of at;
    there = ap cell_of mine;
    woken = still ∙ awake;
    made = within;
    grows = omega (arith, wide, length-append first (seat fresh [] ∷ []));
    cause = inl running;
    detector = refl;
    notes = refl;
    others = λ b n. ⊎_elim
        (λ new. inr (record { absent = ap cell_of (nobody b new); cell = fresh; present = ap cell_of (newest b new); quiet = quiet; empty = λ x. empty (Actor x) }))
        (λ old. inl (ap cell_of (same_seat b n old)))
        (cases_eq b (length s));
    own = ([], ls, [], ap letters_of at, ap letters_of mine ∙ sym (append-nil ls), tt);
    sends = λ b n. (
      [],
      ⊎_elim
          (λ new. ap letters_of (newest b new) ∙ sym (ap (λ o. letters_of o ++ []) (nobody b new)))
          (λ old. ap letters_of (same_seat b n old) ∙ sym (append-nil (mail_at s b)))
          (cases_eq b (length s)),
      tt,
    );
    apart = λ ms is out b ins.
        let n = not_same ms a b out ins in
        let p = (is b ins).0 in
        let h = unheld s d ns a c ls at ms is out b ins in (
          ap letters_of (same_seat b n (old_one b p)),
          omega (arith, (is b ins).1, sum_by_push (loads_at (Actor b)) first (seat fresh []), loads_at-seat (Actor b) fresh [], sum-nil (load_count (Actor b)), same_loads s a c c2 ls at (Actor b)),
          held_set_other (λ k. k + w) (Actor b) (Actor (length s)) None c1.holdings (λ e. old_one b p (ap owner_of e)) ∙ same (Actor b) ∙ h,
        );
  }
    where
      c2 : Cell
      c2 = record c1 { holdings = gain w (Actor (length s)) None c1.holdings }

      first : Actors
      first = set s a (seat c2 ls)

      wide : length first ≡ length s
      wide = length-set s a (seat c2 ls)

      within : a < length s
      within = present_below s a _ at

      mine : seat_at (make w a c1 ls fresh s) a ≡ seat c2 ls
      mine = more_other first (seat fresh []) a (λ e. let w = wide in let h = within in absurd (omega arith)) ∙ get_or-set_same s a (seat c2 ls) None within

      nobody : (b : ℕ) → b ≡ length s → seat_at s b ≡ None
      nobody b e = get_or_past s b None (omega arith)

      newest : (b : ℕ) → b ≡ length s → seat_at (make w a c1 ls fresh s) b ≡ seat fresh []
      newest b e = more_last first (seat fresh []) b (e ∙ sym wide)

      same_seat : (b : ℕ) → b ≢ a → b ≢ length s → seat_at (make w a c1 ls fresh s) b ≡ seat_at s b
      same_seat b n o = more_other first (seat fresh []) b (λ e. o (e ∙ wide)) ∙ get_or-set_other s a b (seat c2 ls) None n

      old_one : (b : ℕ) → cell_at s b ≢ None → b ≢ length s
      old_one b p e = p (ap cell_of (nobody b e))

  -- a letter with a load
  pub post_moves : (c1 : Cell) → c1.reported ≡ c.reported → ((x : Thing) → held_in c1.holdings x ≡ held_in c.holdings x) → (to h : ℕ) (args : List Value) (load rows : List (Thing × Option Row))
      → IsKnown a c1.holdings (Actor to) → ((x : Thing) → 0 < times_loaded x load → IsKnown a c1.holdings x)
      → Moves (world_of s d ns) a (world_of (post a c1 ls to h args load rows s) d (noted a c ns))
  post_moves c1 still same to h args load rows known_to known =
      let c2 : Cell = record c1 { holdings = send a load c1.holdings } in
      let s1 = set s a (seat c2 ls) in
      moves s (push_letter to (App h args load rows) s1) d ns a c c2 ls ls at (adds_push s1 to (App h args load rows) refl) [] refl (still ∙ awake) (inl running)
      (λ b n z. ap letters_of (push_other s1 to (App h args load rows) b (λ e. away b n z (subst (λ (i : ℕ). IsKnown a c1.holdings (Actor i)) (sym e) known_to)) ∙ get_or-set_other s a b (seat c2 ls) None n))
      (λ b n z u. omega (arith, u, push_loads s1 to (App h args load rows) (Actor b), same_loads s a c c2 ls at (Actor b), (letter_App (Actor b) h args load rows).2, unloaded b n z))
      (λ b n z u. omega (arith, held-send a (Actor b) load c1.holdings n, same (Actor b), z))
    where
      away : (b : ℕ) → b ≢ a → held_in c.holdings (Actor b) ≡ 0 → ¬ IsKnown a c1.holdings (Actor b)
      away b n z k = ⊎_elim (λ own. n own.0) (λ held. let w = same (Actor b) in let v = held.1 in absurd (omega arith)) k

      zero_if : (n : ℕ) → ¬ (0 < n) → n ≡ 0
      zero_if zero h = refl
      zero_if (suc n) h = absurd (h (omega arith))

      unloaded : (b : ℕ) → b ≢ a → held_in c.holdings (Actor b) ≡ 0 → times_loaded (Actor b) load ≡ 0
      unloaded b n z = zero_if (times_loaded (Actor b) load) (λ p. away b n z (known (Actor b) p))

  -- an Inc for things of which a holds some
  pub mint_moves : HoldsOwners a c → (to : ℕ) (es : List (Thing × ℕ)) → ((x : Thing) → 0 < amount_of x es → 0 < held_in c.holdings x)
      → (x : Thing) → owner_of x ≡ to → 0 < amount_of x es
      → Moves (world_of s d ns) a (world_of (mint a c ls to es s) d (noted a c ns))
  mint_moves owners to es held x o p =
      let c2 : Cell = record c { holdings = mint_all es c.holdings } in
      let s1 = set s a (seat c2 ls) in
      moves s (push_letter to (Inc es) s1) d ns a c c2 ls ls at (adds_push s1 to (Inc es) refl) [] refl awake (inl running)
      (λ b n z. ap letters_of (push_other s1 to (Inc es) b (λ e. away b n z e) ∙ get_or-set_other s a b (seat c2 ls) None n))
      (λ b n z u. omega (arith, u, push_loads s1 to (Inc es) (Actor b), same_loads s a c c2 ls at (Actor b), (letter_Inc (Actor b) es).2))
      (λ b n z u. omega (arith, held-mint_all (Actor b) es c.holdings, unminted b z, z))
    where
      away : (b : ℕ) → b ≢ a → held_in c.holdings (Actor b) ≡ 0 → b ≢ to
      away b n z e =
          let up : 0 < held_in c.holdings (Actor (owner_of x)) = owner_held a c owners x (held x p) (λ q. n (e ∙ sym o ∙ q)) in
          let w = ap (λ (i : ℕ). held_in c.holdings (Actor i)) (o ∙ sym e) in
          omega arith

      zero_if : (n : ℕ) → ¬ (0 < n) → n ≡ 0
      zero_if zero h = refl
      zero_if (suc n) h = absurd (h (omega arith))

      unminted : (b : ℕ) → held_in c.holdings (Actor b) ≡ 0 → amount_of (Actor b) es ≡ 0
      unminted b z = zero_if (amount_of (Actor b) es) (λ q. let w = held (Actor b) q in absurd (omega arith))
