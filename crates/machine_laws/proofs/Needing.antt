-- With root-only tracing: who mints for what it got from a row reaches no set that is apart, as the detector's laws see it.
use Rattle.std.proofs.Common.{◌≡◌, ◌≢◌, ℕ, zero, suc, ◌<◌, Bool, true, false, Option, Some, None, is_some, List, [], set, refl, ap, sym, subst, ◌∙◌, arith, inl, inr, ⊎_elim, get_or-set_other}
use Rattle.orca_names.specs.Names.{owner_of}
use Rattle.orca_names.specs.declared.names.Thing.{Thing}
use Rattle.orca_names.specs.declared.names.Thing.TheVariants.{Actor, Obj}
use Rattle.behaviour_code.specs.declared.code.Program.{Program}
use Rattle.turn_rules.specs.declared.act.Frame.{Frame}
use Rattle.letter_kinds.proofs.Amounts.{held-mint_all}
use Rattle.letter_kinds.specs.Counting.{Amount, mint_all}
use Rattle.letter_kinds.specs.Detector.{Detector, has}
use Rattle.letter_kinds.specs.Holdings.{Row}
use Rattle.letter_kinds.specs.Sums.{amount_of}
use Rattle.letter_kinds.specs.Letters.{Letter, Inc}
use Rattle.letter_kinds.specs.declared.note.Note.{Note}
use Rattle.count_laws.proofs.balance.InHand.{in_hand}
use Rattle.count_laws.proofs.knowledge.Paths.{reach_into}
use Rattle.count_laws.proofs.roots.Left.{along_left, owner_left, root_left}
use Rattle.count_laws.proofs.roots.Need.{is_pair, reached}
use Rattle.count_laws.proofs.roots.Same.{has_own_row}
use Rattle.count_laws.proofs.balance.SeatReads.{letter_Inc}
use Rattle.machine_rules.specs.Actors.{Actors, letters_of, push_letter, seat, seat_at}
use Rattle.count_laws.specs.Agreement.{Person}
use Rattle.machine_rules.specs.Cell.{Cell}
use Rattle.count_laws.specs.Facts.{KeepsCounts}
use Rattle.machine_rules.specs.Go.{mint, needed, to_need}
use Rattle.count_laws.specs.Known.{IsKnown, Names, ReachesThrough}
use Rattle.count_laws.specs.KnownByRoots.{WalkRoots, by_row, held, mine, named}
use Rattle.machine_rules.specs.Left.{IsLeft}
use Rattle.orca_names.specs.declared.trace.Trace.{Trace}
use Rattle.orca_names.specs.declared.trace.Trace.TheVariants.{Deep}
use Rattle.orca_names.specs.declared.trace.Trace.TheVariants as options
use Rattle.detector_laws.specs.Events.{IsApart, Moves}
use Rattle.machine_laws.proofs.Collecting.{same_loads}
use Rattle.machine_laws.proofs.Moving.{adds_push, moves_apart, not_same, push_loads, unheld}
use Rattle.machine_rules.proofs.Posting.{push_other}
use Rattle.machine_laws.proofs.Noted.{noted}
use Rattle.machine_laws.proofs.Seen.{world_of}

module _ (all : Thing → Option Row) (ps : List Person) (s : Actors) (inv : KeepsCounts options.Roots all ps s) (d : Detector) (ns : List Note)
    (a : ℕ) (c : Cell) (ls : List Letter) (at : seat_at s a ≡ seat c ls) where
  module _ (ms : List ℕ) (apart : IsApart (world_of s d ns) ms) (out : has ms a ≡ false) where
    -- who is no member knows no thing of a member with its owner
    by_knower : (x : Thing) (b : ℕ) (e : Cell) (ks : List Letter) → seat_at s b ≡ seat e ks → has ms b ≡ false → IsKnown b e.holdings (Actor (owner_of x)) → has ms (owner_of x) ≡ false
    by_knower x b e ks there away (inl own) = ap (has ms) own.0 ∙ away
    by_knower x b e ks there away (inr far) = by_member (has ms (owner_of x)) refl
      where
        by_member : (q : Bool) → has ms (owner_of x) ≡ q → has ms (owner_of x) ≡ false
        by_member false is = is
        by_member true is = absurd (let z = unheld s d ns b e ks there ms apart away (owner_of x) is in let w = far.1 in omega arith)

    from_root : (x : Thing) → WalkRoots a c x → has ms (owner_of x) ≡ false
    from_root x (named n) = by_knower x a c ls at out ((inv.sound a c ls at).named x n).1
    from_root x (held h) = by_knower x a c ls at out ((inv.sound a c ls at).owners x h)
    from_root x (mine o h) = ap (has ms) o ∙ out

    along : (x y : Thing) (r : Row) → IsLeft s x × (has ms (owner_of x) ≡ false) → all x ≡ Some r → Names r y → has ms (owner_of y) ≡ false
    along (Actor i) y r p e nm = absurd (let z = inv.bare i in cc)
    along (Obj n) y r p e nm =
        let q = inv.sound n.owner p.0.seat.cell p.0.seat.mail p.0.present in
        let own = has_own_row n.owner p.0.seat.cell.holdings n refl p.0.kept in
        let same : own.0 ≡ r = let z = q.mine n own.0 own.1 in cc in
        by_knower y n.owner p.0.seat.cell p.0.seat.mail p.0.present p.1 (q.named y (by_row n own.0 own.1 (subst (λ r. Names r y) (sym same) nm))).1

    -- so its walks reach none
    reached_away : {x : Thing} → ReachesThrough all (WalkRoots a c) x → has ms (owner_of x) ≡ false
    reached_away h = (reach_into all (λ x. IsLeft s x × (has ms (owner_of x) ≡ false))
        (λ x r. (root_left all s (in_hand s inv.balanced) inv.sound inv.bare a c ls at x r, from_root x r))
        (λ x y r p e n. (along_left all s (in_hand s inv.balanced) inv.sound inv.bare x y r p.0 e n, along x y r p e n))
        (λ n p. (owner_left all s (in_hand s inv.balanced) inv.sound n p.0, p.1)) h).1

  module _ (awake : c.reported ≡ false) (wt : ℕ) (heavy : 0 < wt) (program : Program) (f : Frame) (frame : c.frame ≡ Some f) (x : Thing) (need : needed options.Roots program a c f ≡ Some x) where
    abbrev es : List Amount
    es = to_need wt a c.holdings x

    unminted : (m : ℕ) → m ≢ owner_of x → amount_of (Actor m) es ≡ 0
    unminted m other = zero_if (amount_of (Actor m) es) (λ some. ⊎_elim (λ e. other (ap owner_of e)) (λ e. other (ap owner_of e)) (is_pair wt a c.holdings x (Actor m) some))
      where
        zero_if : (n : ℕ) → ¬ (0 < n) → n ≡ 0
        zero_if zero h = refl
        zero_if (suc n) h = absurd (h (omega arith))

    need_moves_roots : Moves (world_of s d ns) a (world_of (mint a c ls (owner_of x) es s) d (noted a c ns))
    need_moves_roots =
        let c2 : Cell = record c { holdings = mint_all es c.holdings } in
        let s1 = set s a (seat c2 ls) in
        moves_apart s (push_letter (owner_of x) (Inc es) s1) d ns a c c2 ls ls at (adds_push s1 (owner_of x) (Inc es) refl) [] refl awake (inl (ap is_some frame))
        (λ ms apart out m ins.
        let far = reached_away ms apart out (reached all ps s inv a c ls at wt heavy program f frame x need) in
        let other = not_same ms (owner_of x) m far ins in
        let n = not_same ms a m out ins in (
          ap letters_of (push_other s1 (owner_of x) (Inc es) m other ∙ get_or-set_other s a m (seat c2 ls) None n),
          omega (arith, (apart m ins).1, push_loads s1 (owner_of x) (Inc es) (Actor m), same_loads s a c c2 ls at (Actor m), (letter_Inc (Actor m) es).2),
          omega (arith, held-mint_all (Actor m) es c.holdings, unminted m other, unheld s d ns a c ls at ms apart out m ins),
        ))

pub need_moves : (trace : Trace) (all : Thing → Option Row) (ps : List Person) (s : Actors) (inv : KeepsCounts trace all ps s) (d : Detector) (ns : List Note)
    (a : ℕ) (c : Cell) (ls : List Letter) (at : seat_at s a ≡ seat c ls) (awake : c.reported ≡ false) (wt : ℕ) (heavy : 0 < wt) (program : Program) (f : Frame) (frame : c.frame ≡ Some f) (x : Thing)
    (need : needed trace program a c f ≡ Some x) → Moves (world_of s d ns) a (world_of (mint a c ls (owner_of x) (to_need wt a c.holdings x) s) d (noted a c ns))
need_moves Deep all ps s inv d ns a c ls at awake wt heavy program f frame x need = cc
need_moves options.Roots all ps s inv d ns a c ls at awake wt heavy program f frame x need = need_moves_roots all ps s inv d ns a c ls at awake wt heavy program f frame x need
