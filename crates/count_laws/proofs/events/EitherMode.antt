-- What each event keeps, by the mode of tracing: the same statements for both.
use Rattle.std.proofs.Common.{◌≡◌, ◌≢◌, Bool, true, false, ℕ, ◌+◌, ◌<◌, Option, Some, None, List, [], ◌∷◌, ◌++◌, length, set, refl, ◌∙◌, arith, inl, inr, ⊎_elim}
use Rattle.std.specs.FinMap as m
use Rattle.std.specs.Prelude.{sum_by}
use Rattle.orca_names.specs.Names.{owner_of}
use Rattle.orca_names.specs.declared.names.ObjName.{ObjName}
use Rattle.orca_names.specs.declared.names.Thing.{Thing}
use Rattle.orca_names.specs.declared.names.Thing.TheVariants.{Actor, Obj}
use Rattle.orca_names.specs.declared.names.Value.{Value}
use Rattle.behaviour_code.specs.declared.code.Program.{Program}
use Rattle.reach_walk.specs.Reach.{root, owned, thing_row}
use Rattle.turn_rules.specs.Segment.{segment_of}
use Rattle.turn_rules.specs.declared.act.Act.TheVariants.{Post}
use Rattle.turn_rules.specs.declared.act.Frame.{Frame}
use Rattle.letter_kinds.proofs.Amounts.{held-mint_all}
use Rattle.letter_kinds.specs.Counting.{Amount, gain, lacking_of, mint_all, send}
use Rattle.letter_kinds.specs.Detector.{has}
use Rattle.letter_kinds.specs.Holdings.{Row, held_in}
use Rattle.letter_kinds.specs.Sums.{amount_of, load_count, times_loaded}
use Rattle.letter_kinds.specs.Letters.{Letter}
use Rattle.count_laws.proofs.agreement.Agreeing.{with_letter}
use Rattle.count_laws.proofs.events.Collect.{collect_keeps_counts}
use Rattle.count_laws.proofs.knowledge.Freed as freed
use Rattle.count_laws.proofs.knowledge.Going.{Grows, after, exact, known_load, known_target, same_turn as same_turn_deep, turn}
use Rattle.count_laws.proofs.balance.InHand.{AllCounted, in_hand, take_letter}
use Rattle.count_laws.proofs.knowledge.Living.{Lives}
use Rattle.count_laws.proofs.knowledge.Loads.{load_from-exact, marked_reached, reached_marked}
use Rattle.count_laws.proofs.events.Make.{make_keeps_counts}
use Rattle.count_laws.proofs.balance.Makes.{IsFresh}
use Rattle.count_laws.proofs.events.Post.{mint_keeps_counts, post_keeps_counts}
use Rattle.count_laws.proofs.events.Reap.{AllSealed, reap_keeps_counts}
use Rattle.count_laws.proofs.balance.Reaps.{AllIn}
use Rattle.count_laws.proofs.roots.Collect.{collect_keeps_roots}
use Rattle.count_laws.proofs.roots.Left as rooted
use Rattle.count_laws.proofs.roots.Need.{need_keeps_roots}
use Rattle.count_laws.proofs.roots.Post.{make_keeps_roots, mint_keeps_roots, post_keeps_roots, reap_keeps_roots}
use Rattle.count_laws.proofs.roots.Rows.{letter_exact}
use Rattle.count_laws.proofs.roots.Take.{take_keeps_roots}
use Rattle.count_laws.proofs.roots.Turn.{args_known, same_turn as same_turn_roots, turn_keeps_roots}
use Rattle.count_laws.proofs.balance.Seats.{IsPresent}
use Rattle.count_laws.proofs.balance.Sends.{held_below}
use Rattle.count_laws.proofs.knowledge.Sending.{has-mint_all}
use Rattle.count_laws.proofs.events.Take.{people_after, take_keeps_counts}
use Rattle.count_laws.proofs.events.Turn.{turn_keeps_counts}
use Rattle.count_laws.proofs.knowledge.Turns.{names_args, names_target}
use Rattle.machine_rules.specs.Actors.{Actors, seat, seat_at}
use Rattle.count_laws.specs.Agreement.{Person, person_at, person_of}
use Rattle.machine_rules.specs.Balance.{held_sum, incs_at, load_sum, own_at, owner_seat}
use Rattle.machine_rules.specs.Cell.{Cell}
use Rattle.machine_rules.specs.Collect.{after_collect, is_marked, without_unused}
use Rattle.machine_rules.specs.Detect.{reap_members}
use Rattle.count_laws.specs.Facts.{KeepsCounts}
use Rattle.machine_rules.specs.Go.{load_from, make, mint, needed, post, rows_from, to_need, turn_of_cell, cell_after_turn}
use Rattle.count_laws.specs.Known.{InFrame, IsKnown, Names, ReachesThrough, StartsWalks, in_fields, in_frame, in_table}
use Rattle.count_laws.specs.KnownByRoots.{IsKnownWithOwner, IsRootOf, WalkRoots, by_field, by_frame, held, mine, owns, stands}
use Rattle.machine_rules.specs.Left.{IsLeft}
use Rattle.orca_names.specs.declared.trace.Trace.{Trace}
use Rattle.orca_names.specs.declared.trace.Trace.TheVariants.{Deep}
use Rattle.orca_names.specs.declared.trace.Trace.TheVariants as options
use Rattle.plain_rules.specs.Machine.{with_name}

-- ---- what is counted or known is left

pub counted_left : (trace : Trace) (all : Thing → Option Row) (ps : List Person) (s : Actors) → KeepsCounts trace all ps s → (x : Thing) → 0 < held_sum x s + load_sum x s → IsLeft s x
counted_left Deep all ps s inv x h = freed.counted_left s x (in_hand s inv.balanced) inv.prefixes h
counted_left options.Roots all ps s inv x h = rooted.counted_left all s (in_hand s inv.balanced) inv.sound x h

pub counted_at : (trace : Trace) (all : Thing → Option Row) (ps : List Person) (s : Actors) → KeepsCounts trace all ps s → (x : Thing) → 0 < own_at x (owner_seat s x) + incs_at x (owner_seat s x) → IsLeft s x
counted_at Deep all ps s inv x h = freed.counted_at s x (owner_seat s x) refl (inv.prefixes x) h
counted_at options.Roots all ps s inv x h = rooted.counted_at all s (in_hand s inv.balanced) inv.sound x (owner_seat s x) refl h

pub loaded_left : (trace : Trace) (all : Thing → Option Row) (ps : List Person) (s : Actors) → KeepsCounts trace all ps s
    → (a : ℕ) (c : Cell) (ls : List Letter) (x : Thing) → seat_at s a ≡ seat c ls → 0 < sum_by (load_count x) ls → IsLeft s x
loaded_left Deep all ps s inv a c ls x at h = freed.loaded_left s (in_hand s inv.balanced) inv.prefixes a c ls x at h
loaded_left options.Roots all ps s inv a c ls x at h = rooted.loaded_left all s (in_hand s inv.balanced) inv.sound a c ls x at h

-- what fields, registers and tables name is left
pub root_left : (trace : Trace) (all : Thing → Option Row) (ps : List Person) (s : Actors) → KeepsCounts trace all ps s
    → (a : ℕ) (c : Cell) (ls : List Letter) (x : Thing) → seat_at s a ≡ seat c ls → StartsWalks c x → IsLeft s x
root_left Deep all ps s inv a c ls x at r = freed.known_left s (in_hand s inv.balanced) inv.prefixes a c ls x at ((inv.sound a c ls at).closed x (root r))
root_left options.Roots all ps s inv a c ls x at (in_fields n) = rooted.known_left all s (in_hand s inv.balanced) inv.sound a c ls x at ((inv.sound a c ls at).named x (by_field n)).0
root_left options.Roots all ps s inv a c ls x at (in_frame n) = rooted.known_left all s (in_hand s inv.balanced) inv.sound a c ls x at ((inv.sound a c ls at).named x (by_frame n)).0
root_left options.Roots all ps s inv a c ls x at (in_table h) = rooted.held_left all s (in_hand s inv.balanced) inv.sound a c ls x at h

-- what lives in the plain machine is left
pub lives_left : (trace : Trace) (all : Thing → Option Row) (ps : List Person) (s : Actors) → KeepsCounts trace all ps s → (x : Thing) → Lives all ps x → IsLeft s x
lives_left Deep all ps s inv x l = freed.lives_left all ps s (in_hand s inv.balanced) inv.prefixes inv.sound inv.agrees x l
lives_left options.Roots all ps s inv x l = rooted.lives_left all s (in_hand s inv.balanced) inv.sound inv.bare ps inv.agrees l

pub known_left : (trace : Trace) (all : Thing → Option Row) (ps : List Person) (s : Actors) → KeepsCounts trace all ps s
    → (a : ℕ) (c : Cell) (ls : List Letter) (x : Thing) → seat_at s a ≡ seat c ls → IsKnown a c.holdings x → IsLeft s x
known_left Deep all ps s inv a c ls x at k = freed.known_left s (in_hand s inv.balanced) inv.prefixes a c ls x at k
known_left options.Roots all ps s inv a c ls x at k = rooted.known_left all s (in_hand s inv.balanced) inv.sound a c ls x at k

-- who holds a thing knows its owner
pub held_owner : (trace : Trace) (all : Thing → Option Row) (ps : List Person) (s : Actors) → KeepsCounts trace all ps s
    → (a : ℕ) (c : Cell) (ls : List Letter) → seat_at s a ≡ seat c ls → (x : Thing) → 0 < held_in c.holdings x → IsKnown a c.holdings (Actor (owner_of x))
held_owner Deep all ps s inv a c ls at (Actor b) h = (inv.sound a c ls at).closed (Actor b) (root (in_table h))
held_owner Deep all ps s inv a c ls at (Obj n) h = (inv.sound a c ls at).closed (Actor n.owner) (owned (root (in_table h)))
held_owner options.Roots all ps s inv a c ls at x h = (inv.sound a c ls at).owners x h

-- ---- take, collect, reap

pub take_keeps : (trace : Trace) (program : Program) (all : Thing → Option Row) (ps : List Person) (s : Actors) (inv : KeepsCounts trace all ps s)
    (a : ℕ) (c : Cell) (l : Letter) (ls : List Letter) (at : seat_at s a ≡ seat c (l ∷ ls)) → KeepsCounts trace all (people_after program a c l ls ps) (take_letter program a c l ls s)
take_keeps Deep = take_keeps_counts
take_keeps options.Roots = take_keeps_roots

pub collect_keeps : (trace : Trace) (all : Thing → Option Row) (ps : List Person) (s : Actors) (inv : KeepsCounts trace all ps s)
    (a : ℕ) (c : Cell) (ls : List Letter) (at : seat_at s a ≡ seat c ls) (idle : c.frame ≡ None) → KeepsCounts trace all ps (after_collect (is_marked trace a c) a (without_unused trace a c) ls s)
collect_keeps Deep all ps s inv a c ls at idle = collect_keeps_counts all ps s inv a c ls at idle (is_marked Deep a c) (marked_reached a c) (reached_marked a c)
collect_keeps options.Roots all ps s inv a c ls at idle = collect_keeps_roots all ps s inv a c ls at idle

pub reap_keeps : (trace : Trace) (all : Thing → Option Row) (ps : List Person) (s : Actors) (inv : KeepsCounts trace all ps s) (ms : List ℕ) (ins : AllIn ms ms) (is_sealed : AllSealed s ms)
    (alone : (m i : ℕ) (c : Cell) (ls : List Letter) → has ms m ≡ true → has ms i ≡ false → seat_at s i ≡ seat c ls → (held_in c.holdings (Actor m) ≡ 0) × (sum_by (load_count (Actor m)) ls ≡ 0))
    → KeepsCounts trace all ps (reap_members ms s)
reap_keeps Deep = reap_keeps_counts
reap_keeps options.Roots = reap_keeps_roots

-- ---- one actor more

pub make_keeps : (trace : Trace) (wt : ℕ) (heavy : 0 < wt) (all : Thing → Option Row) (ps : List Person) (s : Actors) (inv : KeepsCounts trace all ps s)
    (a : ℕ) (c : Cell) (ls : List Letter) (at : seat_at s a ≡ seat c ls) (f : Frame) (frame : c.frame ≡ Some f) (into : ℕ)
    (fresh : Cell) (is_fresh : IsFresh wt fresh.holdings) (blank : (x : Thing) → ¬ StartsWalks fresh x) (unlearned : (x : Thing) → m.get fresh.known x ≡ None)
    → KeepsCounts trace all (set ps a (person_of (record c { frame = Some (with_name f into (length s)); holdings = gain wt (Actor (length s)) None c.holdings }) ls) ++ person_of fresh [] ∷ [])
    (make wt a (record c { frame = Some (with_name f into (length s)) }) ls fresh s)
make_keeps Deep wt heavy all ps s inv a c ls at f frame into fresh is_fresh blank unlearned = make_keeps_counts wt heavy all ps s inv a c ls at f frame into fresh is_fresh blank
make_keeps options.Roots wt heavy all ps s inv a c ls at f frame into fresh is_fresh blank unlearned = make_keeps_roots wt heavy all ps s inv a c ls at f frame into fresh is_fresh blank unlearned

-- ---- minting

-- who mints for things of another that it holds
module _ (all : Thing → Option Row) (ps : List Person) (s : Actors) (inv : KeepsCounts options.Roots all ps s)
    (a : ℕ) (c : Cell) (ls : List Letter) (at : seat_at s a ≡ seat c ls)
    (b : ℕ) (es : List Amount) (theirs : (x : Thing) → 0 < amount_of x es → (owner_of x ≡ b) × (0 < held_in c.holdings x)) (other : b ≢ a) (pos : AllCounted es) (target : IsPresent s b) where
  owner_held : (x : Thing) → IsKnown a c.holdings x → IsKnown a (mint_all es c.holdings) x
  owner_held x (inl own) = inl (own.0, has-mint_all x es c.holdings ∙ own.1)
  owner_held x (inr far) = inr (far.0, let z = held-mint_all x es c.holdings in let w = far.1 in omega arith)

  held_mint_roots : KeepsCounts options.Roots all ps (mint a c ls b es s)
  held_mint_roots = mint_keeps_roots all ps s inv a c ls at b es (λ x some. (theirs x some).0) other pos
      (λ x some. owner_held (Actor (owner_of x)) ((inv.sound a c ls at).owners x (theirs x some).1))
      (λ x some. root (held (theirs x some).1)) target.0 target.1
      (λ x k o some. rooted.held_backed all s (in_hand s inv.balanced) inv.sound inv.bare x b target.0.cell target.0.mail target.1 o
      (let z = held_below x s a c ls at in let w = (theirs x some).1 in omega arith) k)

pub mint_keeps : (trace : Trace) (all : Thing → Option Row) (ps : List Person) (s : Actors) (inv : KeepsCounts trace all ps s)
    (a : ℕ) (c : Cell) (ls : List Letter) (at : seat_at s a ≡ seat c ls)
    (b : ℕ) (es : List Amount) (theirs : (x : Thing) → 0 < amount_of x es → (owner_of x ≡ b) × (0 < held_in c.holdings x)) (other : b ≢ a) (pos : AllCounted es) (target : IsPresent s b) → KeepsCounts trace all ps (mint a c ls b es s)
mint_keeps Deep all ps s inv a c ls at b es theirs other pos target = mint_keeps_counts all ps s inv a c ls at b es theirs pos target
mint_keeps options.Roots all ps s inv a c ls at b es theirs other pos target = held_mint_roots all ps s inv a c ls at b es theirs other pos target

pub need_keeps : (trace : Trace) (all : Thing → Option Row) (ps : List Person) (s : Actors) (inv : KeepsCounts trace all ps s)
    (a : ℕ) (c : Cell) (ls : List Letter) (at : seat_at s a ≡ seat c ls) (wt : ℕ) (heavy : 0 < wt) (program : Program) (f : Frame) (frame : c.frame ≡ Some f) (x : Thing) (need : needed trace program a c f ≡ Some x)
    → KeepsCounts trace all ps (mint a c ls (owner_of x) (to_need wt a c.holdings x) s)
need_keeps Deep all ps s inv a c ls at wt heavy program f frame x need = cc
need_keeps options.Roots all ps s inv a c ls at wt heavy program f frame x need = need_keeps_roots all ps s inv a c ls at wt heavy program f frame x need

-- ---- a turn

pub same_turn : (trace : Trace) (program : Program) (all : Thing → Option Row) (ps : List Person) (s : Actors) (inv : KeepsCounts trace all ps s)
    (a : ℕ) (c : Cell) (ls : List Letter) (at : seat_at s a ≡ seat c ls) (f : Frame) (frame : c.frame ≡ Some f) (rows : ObjName → Option Row) → ((x : Thing) → thing_row rows x ≡ all x)
    → turn_of_cell trace program a c f ≡ segment_of (record { program = program; me = a; base = c.holdings.next; rows = rows }) f c.fields
unfolding turn
same_turn Deep program all ps s inv a c ls at f frame rows are = same_turn_deep program all all ps s inv a c ls at f frame rows are
same_turn options.Roots program all ps s inv a c ls at f frame rows are = same_turn_roots program all all ps s inv a c ls at f frame rows are

pub turn_keeps : (trace : Trace) (program : Program) (all all' : Thing → Option Row) (ps : List Person) (s : Actors) (inv : KeepsCounts trace all ps s)
    (a : ℕ) (c : Cell) (ls : List Letter) (at : seat_at s a ≡ seat c ls) (f : Frame) (frame : c.frame ≡ Some f) (held_all : needed trace program a c f ≡ None)
    (grows : Grows all all' a c.holdings.next (turn_of_cell trace program a c f).turn.made) (nf : Option Frame) (nd : Bool) (names_nf : (x : Thing) → InFrame nf x → Names (turn_of_cell trace program a c f).turn.registers x)
    → KeepsCounts trace all' (set ps a (person_of (cell_after_turn (turn_of_cell trace program a c f) nf nd c) ls)) (set s a (seat (cell_after_turn (turn_of_cell trace program a c f) nf nd c) ls))
unfolding turn after
turn_keeps Deep program all all' ps s inv a c ls at f frame held_all grows nf nd names = turn_keeps_counts program all all' ps s inv a c ls at f frame grows nf nd names
turn_keeps options.Roots program all all' ps s inv a c ls at f frame held_all grows nf nd names = turn_keeps_roots program all all' ps s inv a c ls at f frame held_all grows nf nd names

-- ---- a letter of the turn

module _ (program : Program) (all all' : Thing → Option Row) (ps : List Person) (s : Actors) (inv : KeepsCounts Deep all ps s)
    (a : ℕ) (c : Cell) (ls : List Letter) (at : seat_at s a ≡ seat c ls) (f : Frame) (frame : c.frame ≡ Some f)
    (grows : Grows all all' a c.holdings.next (turn_of_cell Deep program a c f).turn.made) (nf : Option Frame) (nd : Bool) (names_nf : (x : Thing) → InFrame nf x → Names (turn_of_cell Deep program a c f).turn.registers x)
    (to b : ℕ) (args : List Value) (act : (turn_of_cell Deep program a c f).act ≡ Post to b args) where
  abbrev deep : Cell
  deep = cell_after_turn (turn_of_cell Deep program a c f) nf nd c

  deep_target : IsKnown a deep.holdings (Actor to)
  unfolding turn after
  deep_target = known_target program all all' ps s inv a c ls at f frame grows nf nd names_nf to b args act (load_from Deep a deep.holdings args) (load_from-exact a deep.holdings args)

  deep_load : (x : Thing) → 0 < times_loaded x (load_from Deep a deep.holdings args) → IsKnown a deep.holdings x
  unfolding turn after
  deep_load = known_load program all all' ps s inv a c ls at f frame grows nf nd names_nf to b args act (load_from Deep a deep.holdings args) (load_from-exact a deep.holdings args)

  deep_posted : (ps1 : List Person) (s1 : Actors) (kept : KeepsCounts Deep all' ps1 s1) (at1 : seat_at s1 a ≡ seat deep ls) → lacking_of a deep.holdings (load_from Deep a deep.holdings args) ≡ []
      → KeepsCounts Deep all' (set (set ps1 a (person_of (record deep { holdings = send a (load_from Deep a deep.holdings args) deep.holdings }) ls)) to
      (with_letter b args (person_at (set ps1 a (person_of (record deep { holdings = send a (load_from Deep a deep.holdings args) deep.holdings }) ls)) to)))
      (post a deep ls to b args (load_from Deep a deep.holdings args) (rows_from Deep a deep args) s1)
  unfolding turn after
  deep_posted ps1 s1 kept at1 full =
      post_keeps_counts all' ps1 s1 kept a deep ls at1 to b args (load_from Deep a deep.holdings args) []
      (exact program all all' ps s inv a c ls at f frame grows nf nd names_nf to b args act (load_from Deep a deep.holdings args) (load_from-exact a deep.holdings args))
      deep_load deep_target full

module _ (program : Program) (all all' : Thing → Option Row) (ps : List Person) (s : Actors) (inv : KeepsCounts options.Roots all ps s)
    (a : ℕ) (c : Cell) (ls : List Letter) (at : seat_at s a ≡ seat c ls) (f : Frame) (frame : c.frame ≡ Some f) (held_all : needed options.Roots program a c f ≡ None)
    (grows : Grows all all' a c.holdings.next (turn_of_cell options.Roots program a c f).turn.made) (nf : Option Frame) (nd : Bool) (names_nf : (x : Thing) → InFrame nf x → Names (turn_of_cell options.Roots program a c f).turn.registers x)
    (to b : ℕ) (args : List Value) (act : (turn_of_cell options.Roots program a c f).act ≡ Post to b args) where
  abbrev flat : Cell
  flat = cell_after_turn (turn_of_cell options.Roots program a c f) nf nd c

  flat_args : (x : Thing) → Names args x → IsKnownWithOwner a flat.holdings x
  flat_args x n = args_known program all all' ps s inv a c ls at f frame held_all grows nf nd names_nf x (rw act (names_args to args x n))

  flat_target : IsKnown a flat.holdings (Actor to)
  flat_target = (args_known program all all' ps s inv a c ls at f frame held_all grows nf nd names_nf (Actor to) (rw act (names_target to args))).0

  flat_walk : (x : Thing) → Names args x → ReachesThrough all' (WalkRoots a flat) x
  flat_walk x n = ⊎_elim (λ own. root (mine own.0 own.1)) (λ far. root (held far.1)) (flat_args x n).0

  flat_posted : (ps1 : List Person) (s1 : Actors) (kept : KeepsCounts options.Roots all' ps1 s1) (at1 : seat_at s1 a ≡ seat flat ls) → lacking_of a flat.holdings (load_from options.Roots a flat.holdings args) ≡ []
      → KeepsCounts options.Roots all' (set (set ps1 a (person_of (record flat { holdings = send a (load_from options.Roots a flat.holdings args) flat.holdings }) ls)) to
      (with_letter b args (person_at (set ps1 a (person_of (record flat { holdings = send a (load_from options.Roots a flat.holdings args) flat.holdings }) ls)) to)))
      (post a flat ls to b args (load_from options.Roots a flat.holdings args) (rows_from options.Roots a flat args) s1)
  flat_posted ps1 s1 kept at1 full = post_keeps_roots all' ps1 s1 kept a flat ls at1 to b args flat_args flat_walk flat_target full

  flat_load : (ps1 : List Person) (s1 : Actors) (kept : KeepsCounts options.Roots all' ps1 s1) (at1 : seat_at s1 a ≡ seat flat ls) → (x : Thing) → 0 < times_loaded x (load_from options.Roots a flat.holdings args) → IsKnown a flat.holdings x
  flat_load ps1 s1 kept at1 x h = by_root ((letter_exact all' s1 (in_hand s1 kept.balanced) kept.sound kept.bare a flat ls at1 args flat_walk).only x h)
    where
      by_root : {x : Thing} → IsRootOf args x → IsKnown a flat.holdings x
      by_root {x = x} (stands n) = (flat_args x n).0
      by_root (owns {x = y} n) = (flat_args y n).1

pub target_known : (trace : Trace) (program : Program) (all all' : Thing → Option Row) (ps : List Person) (s : Actors) (inv : KeepsCounts trace all ps s)
    (a : ℕ) (c : Cell) (ls : List Letter) (at : seat_at s a ≡ seat c ls) (f : Frame) (frame : c.frame ≡ Some f) (held_all : needed trace program a c f ≡ None)
    (grows : Grows all all' a c.holdings.next (turn_of_cell trace program a c f).turn.made) (nf : Option Frame) (nd : Bool) (names_nf : (x : Thing) → InFrame nf x → Names (turn_of_cell trace program a c f).turn.registers x)
    (to b : ℕ) (args : List Value) (act : (turn_of_cell trace program a c f).act ≡ Post to b args) → IsKnown a (cell_after_turn (turn_of_cell trace program a c f) nf nd c).holdings (Actor to)
target_known Deep program all all' ps s inv a c ls at f frame held_all grows nf nd names to b args act = deep_target program all all' ps s inv a c ls at f frame grows nf nd names to b args act
target_known options.Roots program all all' ps s inv a c ls at f frame held_all grows nf nd names to b args act = flat_target program all all' ps s inv a c ls at f frame held_all grows nf nd names to b args act

pub posted_keeps : (trace : Trace) (program : Program) (all all' : Thing → Option Row) (ps : List Person) (s : Actors) (inv : KeepsCounts trace all ps s)
    (a : ℕ) (c : Cell) (ls : List Letter) (at : seat_at s a ≡ seat c ls) (f : Frame) (frame : c.frame ≡ Some f) (held_all : needed trace program a c f ≡ None)
    (grows : Grows all all' a c.holdings.next (turn_of_cell trace program a c f).turn.made) (nf : Option Frame) (nd : Bool) (names_nf : (x : Thing) → InFrame nf x → Names (turn_of_cell trace program a c f).turn.registers x)
    (to b : ℕ) (args : List Value) (act : (turn_of_cell trace program a c f).act ≡ Post to b args)
    → (let after = cell_after_turn (turn_of_cell trace program a c f) nf nd c in
    let load = load_from trace a after.holdings args in
    let ps1 = set ps a (person_of after ls) in
    let s1 = set s a (seat after ls) in
    let ps2 = set ps1 a (person_of (record after { holdings = send a load after.holdings }) ls) in
    seat_at s1 a ≡ seat after ls → lacking_of a after.holdings load ≡ []
    → KeepsCounts trace all' (set ps2 to (with_letter b args (person_at ps2 to))) (post a after ls to b args load (rows_from trace a after args) s1))
posted_keeps Deep program all all' ps s inv a c ls at f frame held_all grows nf nd names to b args act at1 full =
    deep_posted program all all' ps s inv a c ls at f frame grows nf nd names to b args act _ _ (turn_keeps Deep program all all' ps s inv a c ls at f frame held_all grows nf nd names) at1 full
posted_keeps options.Roots program all all' ps s inv a c ls at f frame held_all grows nf nd names to b args act at1 full =
    flat_posted program all all' ps s inv a c ls at f frame held_all grows nf nd names to b args act _ _ (turn_keeps options.Roots program all all' ps s inv a c ls at f frame held_all grows nf nd names) at1 full

pub loaded_known : (trace : Trace) (program : Program) (all all' : Thing → Option Row) (ps : List Person) (s : Actors) (inv : KeepsCounts trace all ps s)
    (a : ℕ) (c : Cell) (ls : List Letter) (at : seat_at s a ≡ seat c ls) (f : Frame) (frame : c.frame ≡ Some f) (held_all : needed trace program a c f ≡ None)
    (grows : Grows all all' a c.holdings.next (turn_of_cell trace program a c f).turn.made) (nf : Option Frame) (nd : Bool) (names_nf : (x : Thing) → InFrame nf x → Names (turn_of_cell trace program a c f).turn.registers x)
    (to b : ℕ) (args : List Value) (act : (turn_of_cell trace program a c f).act ≡ Post to b args)
    → (let after = cell_after_turn (turn_of_cell trace program a c f) nf nd c in
    seat_at (set s a (seat after ls)) a ≡ seat after ls → (x : Thing) → 0 < times_loaded x (load_from trace a after.holdings args) → IsKnown a after.holdings x)
loaded_known Deep program all all' ps s inv a c ls at f frame held_all grows nf nd names to b args act at1 = deep_load program all all' ps s inv a c ls at f frame grows nf nd names to b args act
loaded_known options.Roots program all all' ps s inv a c ls at f frame held_all grows nf nd names to b args act at1 =
    flat_load program all all' ps s inv a c ls at f frame held_all grows nf nd names to b args act _ _ (turn_keeps options.Roots program all all' ps s inv a c ls at f frame held_all grows nf nd names) at1
