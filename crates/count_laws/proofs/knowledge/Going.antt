-- A turn of an actor: what it knows afterwards, and that the plain machine takes the same turn.
use Rattle.std.proofs.Common.{◌≡◌, ◌≢◌, ◌⊎◌, ℕ, ◌+◌, ◌<◌, ◌≤◌, Bool, true, false, Option, Some, None, is_some, List, [], ◌∷◌, length, get_or, refl, sym, ◌∙◌, ap, arith, subst, inl, inr, eq-eqb}
use Rattle.std.specs.FinMap as m
use Rattle.std.specs.Prelude.{option_map}
use Rattle.orca_names.specs.declared.names.ObjName.{ObjName}
use Rattle.orca_names.specs.declared.names.Thing.{Thing}
use Rattle.orca_names.specs.declared.names.Thing.TheVariants.{Actor, Obj}
use Rattle.orca_names.specs.declared.names.Value.{Value}
use Rattle.behaviour_code.specs.declared.code.Program.{Program}
use Rattle.reach_walk.specs.Reach.{root, owned, thing_row}
use Rattle.turn_rules.specs.Laws.{act_values}
use Rattle.turn_rules.specs.Segment.{Stop}
use Rattle.turn_rules.specs.declared.act.Act.TheVariants.{Post}
use Rattle.turn_rules.specs.declared.act.Frame.{Frame}
use Rattle.letter_kinds.proofs.Counts.{loaded-same, loaded_more}
use Rattle.letter_kinds.specs.Counting.{Loaded}
use Rattle.letter_kinds.specs.Holdings.{Holdings, Row, has_own, held_in, own_in, row_of}
use Rattle.letter_kinds.specs.Sums.{times_loaded}
use Rattle.letter_kinds.specs.Letters.{Letter}
use Rattle.count_laws.proofs.knowledge.Global.{sound_grown}
use Rattle.count_laws.proofs.balance.InHand.{Sound, in_hand}
use Rattle.count_laws.proofs.knowledge.Paths.{along_row, reach_into}
use Rattle.count_laws.proofs.knowledge.Receiving.{NoActorRows}
use Rattle.count_laws.proofs.balance.Seats.{IsPresent, some_seat}
use Rattle.count_laws.proofs.knowledge.Segments.{Made, Source, seg_closed, seg_rows, along, up, known_source, own-made, held-made}
use Rattle.count_laws.proofs.knowledge.Sending.{over_own, over_all}
use Rattle.count_laws.proofs.knowledge.Turns.{From, Given, NamesOnlyFrom, names_args, names_target, turn_local, turn_names, turn_over}
use Rattle.machine_rules.specs.Actors.{Actors, seat, seat_at}
use Rattle.count_laws.specs.Agreement.{Person}
use Rattle.machine_rules.specs.Cell.{Cell}
use Rattle.count_laws.specs.Facts.{KeepsCounts}
use Rattle.machine_rules.specs.Go.{turn_of_cell, cell_after_turn}
use Rattle.count_laws.specs.Known.{InFrame, IsClosedAt, IsKnown, IsLoadOf, IsSoundAt, Names, ReachesThrough, StartsWalks, RowsAreAt, RowsAreIn, in_fields, in_frame, row_at}
use Rattle.machine_rules.specs.Left.{IsLeft}
use Rattle.orca_names.specs.declared.trace.Trace.TheVariants.{Deep}

-- an object by its owner and its serial
abbrev pub object : ℕ → ℕ → Thing
object owner serial = Obj (record { owner = owner; serial = serial })

-- the plain map after the rows made
pub record Grows (all all' : Thing → Option Row) (me base : ℕ) (made : List Row) : Type 0 where
  pub bare : NoActorRows all'
  pub news : (i : ℕ) → i < length made → all' (object me (base + i)) ≡ Some (get_or made i [])
  pub only : (x : Thing) → (all' x ≡ all x) ⊎ Made me base made x
  -- none of them had a row before
  pub past : (k : ℕ) → base ≤ k → all (object me k) ≡ None

row_there : (a k : ℕ) (c : Holdings) (e : Row × ℕ) → m.get c.rows k ≡ Some e → row_at a c (object a k) ≡ Some e.0
unfolding row_of
row_there a k c e is = rw (eq-eqb a a refl) (ap (option_map (λ (r : Row × ℕ). r.0)) is)

has_there : (a k : ℕ) (c : Holdings) (e : Row × ℕ) → m.get c.rows k ≡ Some e → has_own c (object a k) ≡ true
unfolding has_own
has_there a k c e is = ap is_some is

-- a row that the plain map lacks is not there
pub lacks : (all : Thing → Option Row) (a k : ℕ) (c : Holdings) (o : Option (Row × ℕ)) → m.get c.rows k ≡ o → RowsAreAt all a c → all (object a k) ≡ None → m.get c.rows k ≡ None
lacks all a k c None e rows n = e
lacks all a k c (Some r) e rows n = let z = rows (object a k) (inl (refl, has_there a k c r e)) in let w = row_there a k c r e in cc

has_none : (a k : ℕ) (c : Holdings) → m.get c.rows k ≡ None → has_own c (object a k) ≡ false
unfolding has_own
has_none a k c e = ap is_some e

rows_swap : (rows rows' : Thing → Option Row) (es : List (Thing × Option Row)) → ((x : Thing) → 0 < times_loaded x es → rows x ≡ rows' x) → RowsAreIn rows es → RowsAreIn rows' es
rows_swap rows rows' [] same h = tt
rows_swap rows rows' (e ∷ es) same h = (h.0 ∙ same e.0 (let z = loaded-same e.0 e es refl in omega arith), rows_swap rows rows' es (λ x some. same x (loaded_more x e es some)) h.1)

pub left_present : (s : Actors) (to : ℕ) → IsLeft s (Actor to) → IsPresent s to
left_present s to left = (left.seat, left.present)

module _ (program : Program) (all all' : Thing → Option Row) (ps : List Person) (s : Actors) (inv : KeepsCounts Deep all ps s)
    (a : ℕ) (c : Cell) (ls : List Letter) (at : seat_at s a ≡ seat c ls) (f : Frame) (frame : c.frame ≡ Some f) where
  unfoldable pub turn : Stop
  turn = turn_of_cell Deep program a c f

  here : IsSoundAt all a c ls
  here = inv.sound a c ls at

  given_roots : (x : Thing) → Given f c.fields x → StartsWalks c x
  given_roots x (inl n) = in_frame (subst (λ o. InFrame o x) (sym frame) n)
  given_roots x (inr n) = in_fields n

  -- over its own rows the actor reaches what it reaches over all
  own_to_all : (x : Thing) → ReachesThrough (row_at a c.holdings) (Given f c.fields) x → ReachesThrough all (StartsWalks c) x
  own_to_all x h = reach_into _ (ReachesThrough all (StartsWalks c)) (λ x n. root (given_roots x n))
      (λ x y r p e n. along_row _ p (sym (here.rows x (here.closed x p)) ∙ e) n)
      (λ n p. owned p) h

  seg : NamesOnlyFrom (row_at a c.holdings) a c.holdings.next f c.fields turn
  unfolding turn
  seg = turn_names program a c f

  source : (x : Thing) → From (row_at a c.holdings) a c.holdings.next f c.fields (length turn.turn.made) x → Source all a c c.holdings.next turn.turn.made x
  source x (inl h) = inl (own_to_all x h)
  source x (inr q) = inr q

  module _ (grows : Grows all all' a c.holdings.next turn.turn.made) (nf : Option Frame) (nd : Bool) (names_nf : (x : Thing) → InFrame nf x → Names turn.turn.registers x) where
    fresh : (k : ℕ) → c.holdings.next ≤ k → m.get c.holdings.rows k ≡ None
    fresh k h = lacks all a k c.holdings (m.get c.holdings.rows k) refl here.rows (grows.past k h)

    unfoldable pub after : Cell
    after = cell_after_turn turn nf nd c

    pub closed_after : IsClosedAt all' a after
    unfolding after
    closed_after = seg_closed all all' grows.bare a c.holdings.next turn.turn.made c fresh grows.news grows.only turn.turn.fields nf nd
        (λ x n. source x (seg.in_fields x n)) (λ x n. source x (seg.in_registers x (names_nf x n))) (λ i x h n. source x (seg.in_made i x h n)) here.closed here.rows

    pub rows_after : RowsAreAt all' a after.holdings
    unfolding after
    rows_after = seg_rows all all' grows.bare a c.holdings.next turn.turn.made c fresh grows.news grows.only turn.turn.fields nf nd
        (λ x n. source x (seg.in_fields x n)) (λ x n. source x (seg.in_registers x (names_nf x n))) (λ i x h n. source x (seg.in_made i x h n)) here.closed here.rows

    known_after : (x : Thing) → Source all a c c.holdings.next turn.turn.made x → IsKnown a after.holdings x
    unfolding after
    known_after = known_source all all' grows.bare a c.holdings.next turn.turn.made c fresh grows.news grows.only turn.turn.fields nf nd
        (λ x n. source x (seg.in_fields x n)) (λ x n. source x (seg.in_registers x (names_nf x n))) (λ i x h n. source x (seg.in_made i x h n)) here.closed here.rows

    -- what a posted letter's arguments reach
    args_source : (args : List Value) → ((x : Thing) → Names args x → Names (act_values turn.act) x) → (x : Thing) → ReachesThrough all' (Names args) x → Source all a c c.holdings.next turn.turn.made x
    args_source args posted x h = reach_into _ (Source all a c c.holdings.next turn.turn.made) (λ x n. source x (seg.in_act x (posted x n)))
        (along all all' grows.bare a c.holdings.next turn.turn.made c fresh grows.news grows.only turn.turn.fields nf nd
        (λ x n. source x (seg.in_fields x n)) (λ x n. source x (seg.in_registers x (names_nf x n))) (λ i x h n. source x (seg.in_made i x h n)) here.closed here.rows)
        (up all all' grows.bare a c.holdings.next turn.turn.made c fresh grows.news grows.only turn.turn.fields nf nd
        (λ x n. source x (seg.in_fields x n)) (λ x n. source x (seg.in_registers x (names_nf x n))) (λ i x h n. source x (seg.in_made i x h n)) here.closed here.rows) h

    pub own_after : (x : Thing) → own_in after.holdings x ≡ own_in c.holdings x
    unfolding after
    own_after x = own-made a c.holdings.next turn.turn.made c.holdings fresh x

    pub held_after : (x : Thing) → held_in after.holdings x ≡ held_in c.holdings x
    unfolding after
    held_after x = held-made a c.holdings.next turn.turn.made c.holdings fresh x

    -- the rows made are not left before
    unborn : (x : Thing) → Made a c.holdings.next turn.turn.made x → ¬ IsLeft s x
    unborn x (i, h, e) left = not_left i (subst (IsLeft s) e left)
      where
        not_left : (i : ℕ) → ¬ IsLeft s (object a (c.holdings.next + i))
        not_left i left =
            let z = some_seat c left.seat.cell ls left.seat.mail (sym at ∙ left.present) in
            let n = has_none a (c.holdings.next + i) c.holdings (fresh (c.holdings.next + i) (omega arith)) in
            let h' : has_own c.holdings (object a (c.holdings.next + i)) ≡ true = subst (λ (d : Cell). has_own d.holdings (object a (c.holdings.next + i)) ≡ true) (sym z.0) left.kept in cc

    pub sound_after : Sound all' s
    sound_after = sound_grown all all' (Made a c.holdings.next turn.turn.made) grows.only s (in_hand s inv.balanced) inv.prefixes unborn
        (λ x r new e. bare_new x r new e) inv.sound
      where
        bare_new : (x : Thing) (r : Row) → Made a c.holdings.next turn.turn.made x → all x ≢ Some r
        bare_new x r new e = let z = grows.past (c.holdings.next + new.0) (omega arith) in let q = new.2 in let w = ap all q in cc
        -- a load that is exact over the actor's own rows is exact over all

    module _ (to b : ℕ) (args : List Value) (act : turn.act ≡ Post to b args) (load : List Loaded) (is : IsLoadOf (row_at a after.holdings) args load) where
      posted : (x : Thing) → Names args x → Names (act_values turn.act) x
      posted x n = rw act (names_args to args x n)

      pub exact : IsLoadOf all' args load
      exact =
          let known : (x : Thing) → ReachesThrough all' (Names args) x → IsKnown a after.holdings x = λ x h. known_after x (args_source args posted x h) in
          record {
            once = is.once;
            rising = is.rising;
            reached = λ x h. over_all all' a after.holdings args known rows_after x (is.reached x h);
            whole = λ x h. is.whole x (over_own all' a after.holdings args known rows_after x h);
            rows = rows_swap (row_at a after.holdings) all' load (λ x h. rows_after x (known x (over_all all' a after.holdings args known rows_after x (is.reached x h)))) is.rows;
          }

      pub known_load : (x : Thing) → 0 < times_loaded x load → IsKnown a after.holdings x
      known_load x h = known_after x (args_source args posted x (exact.reached x h))

      pub known_target : IsKnown a after.holdings (Actor to)
      known_target = known_after (Actor to) (source (Actor to) (seg.in_act (Actor to) (rw act (names_target to args))))

  -- the plain machine takes the same turn
  pub same_turn : (rows : ObjName → Option Row) → ((x : Thing) → thing_row rows x ≡ all x) → turn ≡ turn_over program a c f rows
  unfolding turn
  same_turn rows are = turn_local program a c f rows (λ x h. here.rows x (here.closed x (over rows are x h)) ∙ sym (are x))
    where
      over : (rows : ObjName → Option Row) → ((x : Thing) → thing_row rows x ≡ all x) → (x : Thing) → ReachesThrough (thing_row rows) (Given f c.fields) x → ReachesThrough all (StartsWalks c) x
      over rows are x h = reach_into _ (ReachesThrough all (StartsWalks c)) (λ x n. root (given_roots x n)) (λ x y r p e n. along_row _ p (sym (are x) ∙ e) n) (λ n p. owned p) h
