-- A collect, as the detector's laws see it.
use Rattle.std.proofs.Common.{◌≡◌, ◌≢◌, ℕ, ◌<◌, ◌≤◌, Bool, true, false, cond, ◌==◌, eq-eqb, None, List, [], ◌∷◌, set, refl, ap, sym, subst, ◌∙◌, arith, inl, inr, ⊎_elim, get_or-set_other}
use Rattle.std.specs.Prelude.{⊤}
use Rattle.orca_names.specs.Names.{owner_of}
use Rattle.orca_names.specs.declared.names.Thing.{Thing}
use Rattle.orca_names.specs.declared.names.Thing.TheVariants.{Actor}
use Rattle.letter_kinds.specs.Counting.{sweep, given_back, by_owner}
use Rattle.letter_kinds.specs.Detector.{Detector}
use Rattle.letter_kinds.specs.Holdings.{held_in}
use Rattle.letter_kinds.specs.Sums.{amount_of}
use Rattle.letter_kinds.specs.Letters.{Letter, Dec}
use Rattle.letter_kinds.specs.declared.note.Note.{Note}
use Rattle.count_laws.proofs.balance.SeatReads.{letter_Dec, loads_at-seat}
use Rattle.count_laws.proofs.balance.Seats.{load_sum-set}
use Rattle.machine_rules.proofs.Present.{present_below}
use Rattle.count_laws.proofs.balance.Sweeping.{amount-given_back, firm_counted, held-sweep}
use Rattle.count_laws.proofs.balance.Sweeps.{owed, owed-groups, Firm, firm_groups, debit_Dec}
use Rattle.machine_rules.specs.Actors.{Actors, letters_of, push_decs, push_letter, seat, seat_at}
use Rattle.machine_rules.specs.Balance.{load_sum}
use Rattle.machine_rules.specs.Cell.{Cell}
use Rattle.machine_rules.specs.Collect.{after_collect}
use Rattle.count_laws.specs.Facts.{IsFirm}
use Rattle.count_laws.specs.Known.{IsKnown}
use Rattle.detector_laws.specs.Events.{Moves}
use Rattle.machine_laws.proofs.Moving.{Adds, adds_none, adds_then, adds_push, push_loads, moves}
use Rattle.machine_rules.proofs.Posting.{push_other}
use Rattle.machine_laws.proofs.Noted.{noted}
use Rattle.machine_laws.proofs.Seen.{world_of}
use Rattle.count_laws.proofs.balance.Sends.{cond_zero}

-- who holds a thing knows its owner
abbrev pub HoldsOwners : ℕ → Cell → Type 0
HoldsOwners a c = (x : Thing) → 0 < held_in c.holdings x → IsKnown a c.holdings (Actor (owner_of x))

-- who holds a thing of another holds that other
pub owner_held : (a : ℕ) (c : Cell) → HoldsOwners a c → (x : Thing) → 0 < held_in c.holdings x → owner_of x ≢ a → 0 < held_in c.holdings (Actor (owner_of x))
owner_held a c owners x h n = ⊎_elim (λ own. absurd (n own.0)) (λ held. held.1) (owners x h)

abbrev pub NotTo : ℕ → List (ℕ × List (Thing × ℕ)) → Type 0
NotTo b [] = ⊤
NotTo b (g ∷ gs) = (b ≢ g.0) × NotTo b gs

pub not_to : (b : ℕ) (gs : List (ℕ × List (Thing × ℕ))) → Firm gs → ((x : Thing) → owner_of x ≡ b → ¬ (0 < owed gs x)) → NotTo b gs
unfolding owed
not_to b [] f h = tt
not_to b (g ∷ gs) f h = (
  (λ same. let x = f.0.0 in h x (f.0.1 ∙ sym same) (let z = debit_Dec g.0 g.1 x in let w = one (owner_of x) g.0 (amount_of x g.1) f.0.1 in omega (arith, f.0.2))),
  not_to b gs f.1 (λ x o p. h x o (omega arith)),
)
  where
    one : (i j n : ℕ) → i ≡ j → cond (i == j) n 0 ≡ n
    one i j n e = rw (eq-eqb i j e) refl

pub decs_quiet : (b : ℕ) (gs : List (ℕ × List (Thing × ℕ))) (s : Actors) → NotTo b gs → seat_at (push_decs gs s) b ≡ seat_at s b
unfolding push_decs
decs_quiet b [] s h = refl
decs_quiet b (g ∷ gs) s h = decs_quiet b gs (push_letter g.0 (Dec g.1) s) h.1 ∙ push_other s g.0 (Dec g.1) b h.0

pub decs_adds : (gs : List (ℕ × List (Thing × ℕ))) (s : Actors) → Adds s (push_decs gs s)
unfolding push_decs
decs_adds [] s = adds_none s
decs_adds (g ∷ gs) s = adds_then s (push_letter g.0 (Dec g.1) s) _ (adds_push s g.0 (Dec g.1) refl) (decs_adds gs (push_letter g.0 (Dec g.1) s))

pub decs_loads : (x : Thing) (gs : List (ℕ × List (Thing × ℕ))) (s : Actors) → load_sum x (push_decs gs s) ≤ load_sum x s
unfolding push_decs
decs_loads x [] s = omega arith
decs_loads x (g ∷ gs) s = omega (arith, decs_loads x gs (push_letter g.0 (Dec g.1) s), push_loads s g.0 (Dec g.1) x, (letter_Dec x g.1).2)

abbrev swept : (Thing → Bool) → ℕ → Cell → Cell
swept marked me c = record c { holdings = sweep marked me c.holdings; dirty = false }

-- the same mail, the same loads
pub same_loads : (s : Actors) (a : ℕ) (c c' : Cell) (ls : List Letter) → seat_at s a ≡ seat c ls → (x : Thing) → load_sum x (set s a (seat c' ls)) ≡ load_sum x s
same_loads s a c c' ls at x = omega (arith, load_sum-set s a (seat c ls) (seat c' ls) (present_below s a _ at) at x, loads_at-seat x c ls, loads_at-seat x c' ls)

-- the cell that is swept may lack rows that letters brought
pub collect_moves : (marked : Thing → Bool) (s : Actors) (d : Detector) (ns : List Note) (a : ℕ) (c c0 : Cell) (ls : List Letter) → seat_at s a ≡ seat c ls → c0.holdings ≡ c.holdings → c0.reported ≡ c.reported
    → c.dirty ≡ true → c.reported ≡ false → IsFirm c.holdings → HoldsOwners a c → Moves (world_of s d ns) a (world_of (after_collect marked a c0 ls s) d (noted a c ns))
collect_moves marked s d ns a c c0 ls at same still dirty awake firm owners =
    let gs = by_owner (given_back marked c0.holdings) in
    let s1 = set s a (seat (swept marked a c0) ls) in
    moves s (push_decs gs s1) d ns a c (swept marked a c0) ls ls at (decs_adds gs s1) [] refl (still ∙ awake) (inr (inl dirty))
    (λ b n h. ap letters_of (decs_quiet b gs s1 (not_to b gs (firm_groups _ (firm_counted marked c0.holdings (subst IsFirm (sym same) firm))) (λ x o p. unowed b n h x o (omega (arith, owed-groups (given_back marked c0.holdings) x)))) ∙ get_or-set_other s a b (seat (swept marked a c0) ls) None n))
    (λ b n h u. omega (arith, u, decs_loads (Actor b) gs s1, same_loads s a c (swept marked a c0) ls at (Actor b)))
    (λ b n h u. held-sweep marked a c0.holdings (Actor b) ∙ cond_zero (marked (Actor b)) (held_in c0.holdings (Actor b)) (ap (λ k. held_in k (Actor b)) same ∙ h))
  where
    some : (q : Bool) (n : ℕ) → 0 < cond q 0 n → 0 < n
    some true n h = absurd (omega arith)
    some false n h = h

    unowed : (b : ℕ) → b ≢ a → held_in c.holdings (Actor b) ≡ 0 → (x : Thing) → owner_of x ≡ b → ¬ (0 < amount_of x (given_back marked c0.holdings))
    unowed b n h x o p =
        let held = some (marked x) (held_in c0.holdings x) (subst (λ (k : ℕ). 0 < k) (amount-given_back marked c0.holdings x) p) in
        let up : 0 < held_in c.holdings (Actor (owner_of x)) = owner_held a c owners x (subst (λ k. 0 < held_in k x) same held) (λ e. n (sym o ∙ e)) in
        let z = ap (λ (i : ℕ). held_in c.holdings (Actor i)) o in
        omega arith
