-- With root-only tracing: a turn names what is known, got or made, and the rows that it makes change nothing for others.
use Rattle.std.proofs.Common.{◌≡◌, ◌≢◌, ◌⊎◌, ℕ, ◌+◌, ◌<◌, ◌≤◌, ◌==◌, Bool, true, false, Option, Some, None, is_some, cond, List, [], ◌∷◌, length, set, get_or, Contains, refl, sym, ◌∙◌, ap, arith, subst, inl, inr, ⊎_elim, eq-eqb, ne_eqb}
use Rattle.std.specs.Prelude.{sum_by}
use Rattle.std.specs.List.{find}
use Rattle.std.specs.FinMap as m
use Rattle.std.proofs.lemmas.Bool.{cases_eq, cases_lt, or_parts, true≢false}
use Rattle.std.proofs.lemmas.List.{get_or_default}
use Rattle.std.proofs.lemmas.List.Sums.{sum_by-cons}
use Rattle.orca_names.specs.Names.{owner_of}
use Rattle.orca_names.specs.declared.names.ObjName.{ObjName}
use Rattle.orca_names.specs.declared.names.Thing.{Thing}
use Rattle.orca_names.specs.declared.names.Thing.TheVariants.{Actor, Obj}
use Rattle.orca_names.specs.declared.names.Value.{Value}
use Rattle.behaviour_code.specs.declared.code.Program.{Program}
use Rattle.reach_walk.proofs.Elements.{Contains-cons_cases, Contains-head, Contains-later, none_in_nil}
use Rattle.reach_walk.specs.Reach.{named_by, root, owned, thing_row}
use Rattle.turn_rules.proofs.Gets.{gets_known, leaves_only}
use Rattle.turn_rules.proofs.Leaving.{LeavesOnly}
use Rattle.turn_rules.specs.Laws as laws
use Rattle.turn_rules.specs.Segment.{Stop, gets_of, segment_of}
use Rattle.turn_rules.specs.declared.act.Frame.{Frame}
use Rattle.letter_kinds.proofs.Counts.{has_actor, loaded-same, loaded_more}
use Rattle.letter_kinds.specs.Counting.{Loaded}
use Rattle.letter_kinds.specs.Holdings.{Holdings, Row, has_own, held_in, own_in}
use Rattle.letter_kinds.specs.Sums.{load_count, times_loaded}
use Rattle.letter_kinds.specs.Letters.{Letter, App, Inc, Dec, Confirm}
use Rattle.count_laws.proofs.events.Every.{every_but}
use Rattle.count_laws.proofs.knowledge.Going.{Grows, object}
use Rattle.count_laws.proofs.balance.InHand.{Balanced, in_hand}
use Rattle.count_laws.proofs.knowledge.Paths.{along_row, reach_into, reach_more}
use Rattle.count_laws.proofs.knowledge.Receiving.{own_row}
use Rattle.count_laws.proofs.roots.Left.{along_left, loaded_left, owner_left, reached_left, root_left, walk_left}
use Rattle.count_laws.proofs.roots.Rows.{rows_agree, rows_sound}
use Rattle.count_laws.proofs.roots.Same.{backed_more, own_is_none, own_row_has}
use Rattle.count_laws.proofs.balance.SeatReads.{letter_App}
use Rattle.count_laws.proofs.balance.Seats.{some_seat}
use Rattle.machine_rules.proofs.Present.{present_below}
use Rattle.count_laws.proofs.knowledge.Segments.{Made, add_rows-below, add_rows-made, add_rows-past, cases_serial, has-made_back, has-made_new, has-made_old, held-made, made_from, own-made}
use Rattle.count_laws.proofs.events.Turn.{turn_put}
use Rattle.count_laws.proofs.knowledge.Turns.{From, Given, NamesOnlyFrom, along_rows, named_given, segment_local, segment_names}
use Rattle.machine_rules.specs.Actors.{Actors, seat, seat_at}
use Rattle.count_laws.specs.Agreement.{Person, person_of}
use Rattle.machine_rules.specs.Cell.{Cell, own_row_of, row_by_roots}
use Rattle.count_laws.specs.Facts.{KeepsCounts}
use Rattle.machine_rules.specs.Go.{lacks, needed, needs, setting_of, turn_of_cell, cell_after_turn}
use Rattle.count_laws.specs.Known.{InFrame, IsKnown, Names, ReachesThrough, RowsAreIn}
use Rattle.count_laws.specs.KnownByRoots.{AreRootLetters, IsKnownWithOwner, IsNamedIn, IsRootLetter, IsRootsAt, WalkRoots, by_field, by_frame, by_row, held, mine, named, stands}
use Rattle.machine_rules.specs.Left.{IsLeft}
use Rattle.orca_names.specs.declared.trace.Trace.TheVariants as options

-- an object of the actor from a serial on
abbrev pub MadeAny : ℕ → ℕ → Thing → Type 0
MadeAny me base x = (i : ℕ) × (x ≡ Obj (record { owner = me; serial = base + i }))

-- ---- what is not found passes no test

find_none : (p : Thing → Bool) (xs : List Thing) → find p xs ≡ None → (x : Thing) → Contains xs x → p x ≡ false
find_none p [] e x c = none_in_nil x _ c
find_none p (y ∷ ys) e x c = by_test (p y) refl e (find_none p ys)
  where
    by_test : (b : Bool) → p y ≡ b → cond b (Some y) (find p ys) ≡ None → (find p ys ≡ None → (x : Thing) → Contains ys x → p x ≡ false) → p x ≡ false
    by_test true t e rest = cc
    by_test false t e rest = ⊎_elim (λ same. subst (λ z. p z ≡ false) same t) (λ later. rest e x later) (Contains-cons_cases y ys x c)

pub find_some : (p : Thing → Bool) (xs : List Thing) (x : Thing) → find p xs ≡ Some x → Contains xs x × (p x ≡ true)
find_some p [] x e = cc
find_some p (y ∷ ys) x e = by_test (p y) refl e (find_some p ys x)
  where
    by_test : (b : Bool) → p y ≡ b → cond b (Some y) (find p ys) ≡ Some x → (find p ys ≡ Some x → Contains ys x × (p x ≡ true)) → Contains (y ∷ ys) x × (p x ≡ true)
    by_test true t e rest = let same : y ≡ x = cc in (subst (Contains (y ∷ ys)) same (Contains-head y ys), ap p (sym same) ∙ t)
    by_test false t e rest = let z = rest e in (Contains-later y ys x z.0, z.1)

gone : (o : Option (Row × ℕ)) → o ≡ None → is_some o ≢ true
gone None e f = cc
gone (Some q) e f = cc

-- who does not lack a thing that is there owns or holds it
pub not_lacking : (a : ℕ) (h : Holdings) (x : Thing) → lacks a h x ≡ false → (owner_of x ≡ a → has_own h x ≡ true) → IsKnown a h x
not_lacking a h x e has = ⊎_elim
    (λ own. inl (own, has own))
    (λ other. inr (other, ⊎_elim (λ zero. absurd (let t : lacks a h x ≡ true = rw (ne_eqb (owner_of x) a other, eq-eqb (held_in h x) 0 zero) refl in true≢false (sym t ∙ e))) (λ some. omega arith) (cases_eq (held_in h x) 0)))
    (cases_eq (owner_of x) a)

-- ---- rows made

module _ (a : ℕ) (made : List Row) (h : Holdings) (fresh : (k : ℕ) → h.next ≤ k → m.get h.rows k ≡ None) where
  abbrev after_made : Holdings
  after_made = made_from h.next made h

  pub own_row_made : (n : ObjName) (row : Row) → own_row_of a after_made n ≡ Some row → (own_row_of a h n ≡ Some row) ⊎ ((i : ℕ) × (i < length made) × (n.owner ≡ a) × (n.serial ≡ h.next + i) × (row ≡ get_or made i []))
  unfolding own_row_of
  own_row_made n row e = ⊎_elim
      (λ o.
      let got : own_row (m.get after_made.rows n.serial) ≡ Some row = rw (eq-eqb n.owner a o) at e in
      ⊎_elim
      (λ below. inl (rw (eq-eqb n.owner a o) (ap own_row (sym (add_rows-below h.next made h.rows n.serial below)) ∙ got)))
      (λ p. ⊎_elim
      (λ at. inr (at.0, at.1, o, at.2, let z = add_rows-made h.next made h.rows at.0 n.serial at.1 at.2 in same_row _ _ row z got))
      (λ past. absurd (let z = add_rows-past h.next made h.rows n.serial past in let f = fresh n.serial (omega arith) in no_row row (sym (ap own_row (z ∙ f)) ∙ got)))
      p)
      (cases_serial h.next (length made) n.serial))
      (λ o. absurd (no_row row (sym (own_is_none a after_made n o) ∙ (own_spelled n ∙ e))))
      (cases_eq n.owner a)
    where
      no_row : (row : Row) → None ≢ Some row
      no_row row e = cc

      same_row : (o : Option (Row × ℕ)) (r row : Row) → o ≡ Some (r, 0) → own_row o ≡ Some row → row ≡ r
      same_row None r row e f = cc
      same_row (Some q) r row e f = cc

      own_spelled : (n : ObjName) → own_row_of a after_made n ≡ (cond (n.owner == a) (own_row (m.get after_made.rows n.serial)) None)
      own_spelled n = refl

  pub own_row_kept : (n : ObjName) (row : Row) → own_row_of a h n ≡ Some row → own_row_of a after_made n ≡ Some row
  unfolding own_row_of has_own
  own_row_kept n row e =
      let o = own_row_has a h n row e in
      let below : n.serial < h.next = ⊎_elim (λ l. l) (λ g. absurd (let f = fresh n.serial g in let z = o.1 in gone _ f z)) (cases_lt n.serial h.next) in
      rw (eq-eqb n.owner a o.0) (ap own_row (add_rows-below h.next made h.rows n.serial below) ∙ (rw (eq-eqb n.owner a o.0) at e))

-- ---- the turn

module _ (program : Program) (all all' : Thing → Option Row) (ps : List Person) (s : Actors) (inv : KeepsCounts options.Roots all ps s)
    (a : ℕ) (c : Cell) (ls : List Letter) (at : seat_at s a ≡ seat c ls) (f : Frame) (frame : c.frame ≡ Some f) where
  abbrev stop : Stop
  stop = turn_of_cell options.Roots program a c f

  abbrev made : List Row
  made = stop.turn.made

  abbrev gets : List Value
  gets = gets_of (setting_of options.Roots program a c) f c.fields

  bal : Balanced s
  bal = in_hand s inv.balanced

  here : IsRootsAt all a c ls
  here = inv.sound a c ls at

  -- ---- what the turn names

  given_root : (x : Thing) → Given f c.fields x → WalkRoots a c x
  given_root x (inl n) = named (by_frame (subst (λ o. InFrame o x) (sym frame) n))
  given_root x (inr n) = named (by_field n)

  pub given_reached : (x : Thing) → ReachesThrough (thing_row (row_by_roots a c)) (Given f c.fields) x → ReachesThrough all (WalkRoots a c) x
  given_reached x h = reach_into (thing_row (row_by_roots a c)) (ReachesThrough all (WalkRoots a c)) (λ x n. root (given_root x n))
      (λ x y r p e n. along_row all p (rows_sound all a c ls here x r e) n) (λ n p. owned p) h

  seg : NamesOnlyFrom (thing_row (row_by_roots a c)) a c.holdings.next f c.fields stop
  seg = segment_names (setting_of options.Roots program a c) f c.fields

  -- what it gets was reached, or is the actor itself, or was made in this turn
  pub got_from : (x : Thing) → Names gets x → ReachesThrough all (WalkRoots a c) x ⊎ ((x ≡ Actor a) ⊎ MadeAny a c.holdings.next x)
  got_from x n = let z = gets_known (setting_of options.Roots program a c) f c.fields x n in by_cases z.0 z.1
    where
      by_cases : (k : ℕ) → laws.IsReachedOrMade (setting_of options.Roots program a c) f c.fields k x → ReachesThrough all (WalkRoots a c) x ⊎ ((x ≡ Actor a) ⊎ MadeAny a c.holdings.next x)
      by_cases k (laws.reached r) = inl (given_reached x (along_rows (row_by_roots a c) (named_given f c.fields) r))
      by_cases k (laws.itself e) = inr (inl e)
      by_cases k (laws.own i l e) = inr (inr (i, e))

  -- what the actor may name afterwards
  abbrev May : Thing → Type 0
  May x = IsKnownWithOwner a c.holdings x ⊎ ((x ≡ Actor a) ⊎ MadeAny a c.holdings.next x)

  module _ (held_all : needed options.Roots program a c f ≡ None) where
    got_known : (x : Thing) → ReachesThrough all (WalkRoots a c) x → needs a c.holdings x ≡ false → IsKnownWithOwner a c.holdings x
    got_known x reached none =
        let both = or_parts (lacks a c.holdings x) (lacks a c.holdings (Actor (owner_of x))) none in
        let left = reached_left all s bal inv.sound inv.bare a c ls at reached in (
          not_lacking a c.holdings x both.0 (λ o.
              let z = some_seat left.seat.cell c left.seat.mail ls (sym left.present ∙ (ap (seat_at s) o ∙ at)) in
              subst (λ (d : Cell). has_own d.holdings x ≡ true) z.0 left.kept),
          not_lacking a c.holdings (Actor (owner_of x)) both.1 (λ o. has_actor c.holdings (owner_of x)),
        )

    got_may : (k : ℕ) (x : Thing) → Names gets x → May x
    got_may k x n = ⊎_elim
        (λ reached. inl (got_known x reached (find_none (needs a c.holdings) (named_by gets) held_all x n)))
        (λ other. inr other)
        (got_from x n)

    leaves : LeavesOnly (λ k x. May x) stop
    leaves = leaves_only (setting_of options.Roots program a c) (λ k x. May x) (λ i j le x h. h) (λ k. inr (inl refl)) (λ i k l. inr (inr (i, refl))) f c.fields
        (λ x n. inl (here.named x (by_frame (subst (λ o. InFrame o x) (sym frame) n)))) (λ x n. inl (here.named x (by_field n))) got_may

    -- both together
    abbrev Source : Thing → Type 0
    Source x = ReachesThrough all (WalkRoots a c) x ⊎ ((x ≡ Actor a) ⊎ Made a c.holdings.next made x)

    from_seg : (x : Thing) → From (thing_row (row_by_roots a c)) a c.holdings.next f c.fields (length made) x → Source x
    from_seg x (inl h) = inl (given_reached x h)
    from_seg x (inr q) = inr q

    -- known with its owner, or the actor itself, or made
    abbrev Final : Thing → Type 0
    Final x = IsKnownWithOwner a c.holdings x ⊎ ((x ≡ Actor a) ⊎ Made a c.holdings.next made x)

    module _ (grows : Grows all all' a c.holdings.next made) (nf : Option Frame) (nd : Bool) (names_nf : (x : Thing) → InFrame nf x → Names stop.turn.registers x) where
      fresh : (k : ℕ) → c.holdings.next ≤ k → m.get c.holdings.rows k ≡ None
      unfolding own_row_of
      fresh k past = by_entry (m.get c.holdings.rows k) refl
        where
          by_entry : (o : Option (Row × ℕ)) → m.get c.holdings.rows k ≡ o → m.get c.holdings.rows k ≡ None
          by_entry None e = e
          by_entry (Some q) e = absurd (let z = here.mine (record { owner = a; serial = k }) q.0 (rw (eq-eqb a a refl) (ap own_row e)) in let w = grows.past k past in cc)

      -- a thing that was made now was not reached
      unborn : (x : Thing) → IsLeft s x → ¬ MadeAny a c.holdings.next x
      unfolding has_own
      unborn x left (i, e) = not_left i (subst (IsLeft s) e left)
        where
          not_left : (i : ℕ) → ¬ IsLeft s (object a (c.holdings.next + i))
          not_left i left =
              let z = some_seat c left.seat.cell ls left.seat.mail (sym at ∙ left.present) in
              let n = fresh (c.holdings.next + i) (omega arith) in
              let has : is_some (m.get c.holdings.rows (c.holdings.next + i)) ≡ true = subst (λ (d : Cell). is_some (m.get d.holdings.rows (c.holdings.next + i)) ≡ true) (sym z.0) left.kept in
              gone _ n has

      final : (x : Thing) → May x → Source x → Final x
      final x (inl known) source = inl known
      final x (inr (inl self)) source = inr (inl self)
      final x (inr (inr any)) (inl reached) = absurd (unborn x (reached_left all s bal inv.sound inv.bare a c ls at reached) any)
      final x (inr (inr any)) (inr q) = inr q

      abbrev c1 : Cell
      c1 = cell_after_turn stop nf nd c

      same_held : (x : Thing) → held_in c1.holdings x ≡ held_in c.holdings x
      same_held x = held-made a c.holdings.next made c.holdings fresh x

      same_own : (x : Thing) → own_in c1.holdings x ≡ own_in c.holdings x
      same_own x = own-made a c.holdings.next made c.holdings fresh x

      still : (x : Thing) → IsKnown a c.holdings x → IsKnown a c1.holdings x
      still x (inl own) = inl (own.0, has-made_old a c.holdings.next made c.holdings fresh x own.1)
      still x (inr other) = inr (other.0, let z = same_held x in let w = other.1 in omega arith)

      self_known : IsKnown a c1.holdings (Actor a)
      self_known = inl (refl, has_actor c1.holdings a)

      made_known : (x : Thing) → Made a c.holdings.next made x → IsKnownWithOwner a c1.holdings x
      made_known x (i, l, e) = subst (IsKnownWithOwner a c1.holdings) (sym e)
          (inl (refl, has-made_new a c.holdings.next made c.holdings fresh i (record { owner = a; serial = c.holdings.next + i }) l refl), self_known)

      final_known : (x : Thing) → Final x → IsKnownWithOwner a c1.holdings x
      final_known x (inl known) = (still x known.0, still (Actor (owner_of x)) known.1)
      final_known x (inr (inl self)) = subst (IsKnownWithOwner a c1.holdings) (sym self) (self_known, self_known)
      final_known x (inr (inr new)) = made_known x new

      row_in_made : (i : ℕ) (x : Thing) → i < length made → Names (get_or made i []) x → May x
      row_in_made i x l n = leaves.in_rows (get_or made i []) x (i, l, get_or_default made i (get_or made i []) [] l) n

      named_final : (x : Thing) → IsNamedIn a c1 x → IsKnownWithOwner a c1.holdings x
      named_final x (by_field n) = final_known x (final x (leaves.in_fields x n) (from_seg x (seg.in_fields x n)))
      named_final x (by_frame n) = let k = names_nf x n in final_known x (final x (leaves.in_registers x k) (from_seg x (seg.in_registers x k)))
      named_final x (by_row n row e nm) = ⊎_elim
          (λ old. final_known x (inl (here.named x (by_row n row old nm))))
          (λ new.
          let k = subst (λ r. Names r x) new.4 nm in
          final_known x (final x (row_in_made new.0 x new.1 k) (from_seg x (seg.in_made new.0 x new.1 k))))
          (own_row_made a made c.holdings fresh n row e)

      -- ---- the rows

      not_made : (n : ObjName) (row : Row) → all (Obj n) ≡ Some row → all' (Obj n) ≡ Some row
      not_made n row e = ⊎_elim
          (λ same. same ∙ e)
          (λ new. absurd (let z = grows.past (c.holdings.next + new.0) (omega arith) in let w = ap all new.2 in cc))
          (grows.only (Obj n))

      mine_after : (n : ObjName) (row : Row) → own_row_of a c1.holdings n ≡ Some row → all' (Obj n) ≡ Some row
      mine_after n row e = ⊎_elim
          (λ old. not_made n row (here.mine n row old))
          (λ new. (λ i. all' (Obj (record { owner = new.2 i; serial = new.3 i }))) ∙ (grows.news new.0 new.1 ∙ ap (λ r. Some r) (sym new.4)))
          (own_row_made a made c.holdings fresh n row e)

      walk_source : (x : Thing) → WalkRoots a c1 x → Source x
      walk_source x (named (by_field n)) = from_seg x (seg.in_fields x n)
      walk_source x (named (by_frame n)) = from_seg x (seg.in_registers x (names_nf x n))
      walk_source x (named (by_row n row e nm)) = ⊎_elim
          (λ old. inl (root (named (by_row n row old nm))))
          (λ new. from_seg x (seg.in_made new.0 x new.1 (subst (λ r. Names r x) new.4 nm)))
          (own_row_made a made c.holdings fresh n row e)
      walk_source x (held h) = inl (root (held (let z = same_held x in omega arith)))
      walk_source x (mine o has) = ⊎_elim
          (λ old. ⊎_elim (λ own. inl (root (mine own.0 own.1))) (λ other. absurd (other.0 o)) old)
          (λ new. inr (inr new))
          (has-made_back a c.holdings.next made c.holdings fresh x o has)

      source_along : (x y : Thing) (r : Row) → Source x → all' x ≡ Some r → Names r y → Source y
      source_along x y r (inl old) e n = ⊎_elim
          (λ same. inl (along_row all old (sym same ∙ e) n))
          (λ new. absurd (unborn x (reached_left all s bal inv.sound inv.bare a c ls at old) (new.0, new.2)))
          (grows.only x)
      source_along x y r (inr (inl self)) e n = let z = grows.bare a in cc
      source_along x y r (inr (inr new)) e n = from_seg y (seg.in_made new.0 y new.1 (subst (λ r. Names r y) (row_is new) n))
        where
          row_is : (new : Made a c.holdings.next made x) → r ≡ get_or made new.0 []
          row_is new = let z = grows.news new.0 new.1 in let q = new.2 in cc

      source_up : (n : ObjName) → Source (Obj n) → Source (Actor n.owner)
      source_up n (inl old) = inl (owned old)
      source_up n (inr (inl self)) = cc
      source_up n (inr (inr new)) = inr (inl (let q = new.2 in cc))

      brought_after : (n : ObjName) (row : Row) → n.owner ≢ a → ReachesThrough all' (WalkRoots a c1) (Obj n) → all' (Obj n) ≡ Some row → m.get c1.known (Obj n) ≡ Some row
      brought_after n row out h is = by_source (reach_into all' Source walk_source source_along source_up h)
        where
          by_source : Source (Obj n) → m.get c.known (Obj n) ≡ Some row
          by_source (inl old) = ⊎_elim
              (λ same. here.brought n row out old (sym same ∙ is))
              (λ new. absurd (out (ap owner_of new.2)))
              (grows.only (Obj n))
          by_source (inr (inl self)) = cc
          by_source (inr (inr new)) = absurd (out (ap owner_of new.2))

      -- ---- all other actors

      left_same : (x : Thing) → IsLeft s x → all' x ≡ all x
      left_same x left = ⊎_elim (λ e. e) (λ new. absurd (unborn x left (new.0, new.2))) (grows.only x)

      grown : {roots : Thing → Type 0} {x : Thing} → ReachesThrough all roots x → ReachesThrough all' roots x
      grown {roots = roots} h = reach_into all (ReachesThrough all' roots) (λ x r. root r)
          (λ x y r p e n. along_row all' p (grown_row x r e) n) (λ n p. owned p) h
        where
          grown_row : (x : Thing) (r : Row) → all x ≡ Some r → all' x ≡ Some r
          grown_row (Actor b) r e = let z = inv.bare b in cc
          grown_row (Obj n) r e = not_made n r e

      shrunk : {roots : Thing → Type 0} → ((x : Thing) → roots x → IsLeft s x) → {x : Thing} → ReachesThrough all' roots x → ReachesThrough all roots x
      shrunk {roots = roots} from h = (reach_into all' (λ x. ReachesThrough all roots x × IsLeft s x) (λ x r. (root r, from x r))
          (λ x y r p e n. let e' = sym (left_same x p.1) ∙ e in (along_row all p.0 e' n, along_left all s bal inv.sound inv.bare x y r p.1 e' n))
          (λ n p. (owned p.0, owner_left all s bal inv.sound n p.1)) h).0

      rows_grown : (es : List Loaded) → ((x : Thing) → 0 < times_loaded x es → IsLeft s x) → RowsAreIn all es → RowsAreIn all' es
      rows_grown [] left h = tt
      rows_grown (e ∷ es) left h = (
        h.0 ∙ sym (left_same e.0 (left e.0 (let z = loaded-same e.0 e es refl in omega arith))),
        rows_grown es (λ x some. left x (loaded_more x e es some)) h.1,
      )

      letter_grown : (args : List Value) (load rows : List Loaded) → ((x : Thing) → 0 < times_loaded x load → IsLeft s x) → IsRootLetter all args load rows → IsRootLetter all' args load rows
      letter_grown args load rows left ok =
          let from : (x : Thing) → Names args x → IsLeft s x = λ x n. left x (ok.whole x (stands n)) in
          record {
            once = ok.once;
            rising = ok.rising;
            only = ok.only;
            whole = ok.whole;
            rows = record {
              once = ok.rows.once;
              rising = ok.rows.rising;
              reached = λ x h. grown (ok.rows.reached x h);
              whole = λ x h. ok.rows.whole x (shrunk from h);
              rows = rows_grown rows (λ x h. walk_left all s bal inv.sound inv.bare from (ok.rows.reached x h)) ok.rows.rows;
            };
          }

      letters_grown : (ms : List Letter) → ((x : Thing) → 0 < sum_by (load_count x) ms → IsLeft s x) → AreRootLetters all ms → AreRootLetters all' ms
      letters_grown [] left ok = tt
      letters_grown (App b args load rows ∷ ms) left ok = (
        letter_grown args load rows (λ x h. left x (omega (arith, (letter_App x b args load rows).2, sum_by-cons (load_count x) (App b args load rows) ms))) ok.0,
        letters_grown ms (λ x h. left x (omega (arith, sum_by-cons (load_count x) (App b args load rows) ms))) ok.1,
      )
      letters_grown (Inc es ∷ ms) left ok = letters_grown ms (λ x h. left x (omega (arith, sum_by-cons (load_count x) (Inc es) ms))) ok
      letters_grown (Dec es ∷ ms) left ok = letters_grown ms (λ x h. left x (omega (arith, sum_by-cons (load_count x) (Dec es) ms))) ok
      letters_grown (Confirm t ∷ ms) left ok = letters_grown ms (λ x h. left x (omega (arith, sum_by-cons (load_count x) (Confirm t) ms))) ok

      others : (b : ℕ) (d : Cell) (ms : List Letter) → seat_at s b ≡ seat d ms → IsRootsAt all' b d ms
      others b d ms is =
          let q = inv.sound b d ms is in
          record {
            named = q.named;
            owners = q.owners;
            mine = λ n row e. not_made n row (q.mine n row e);
            right = λ n row got. not_made n row (q.right n row got);
            brought = λ n row out h full.
                let from = λ (x : Thing) (r : WalkRoots b d x). root_left all s bal inv.sound inv.bare b d ms is x r in
                let old = shrunk from h in
                q.brought n row out old (sym (left_same (Obj n) (reached_left all s bal inv.sound inv.bare b d ms is old)) ∙ full);
            led = λ n row got. grown (q.led n row got);
            letters = letters_grown ms (λ x h. loaded_left all s bal inv.sound b d ms x is h) q.letters;
            backed = q.backed;
          }

      turned_roots : IsRootsAt all' a c1 ls
      turned_roots = record {
        named = named_final;
        owners = λ x h. still (Actor (owner_of x)) (here.owners x (let z = same_held x in omega arith));
        mine = mine_after;
        right = λ n row got. not_made n row (here.right n row got);
        brought = brought_after;
        led = λ n row got. grown (reach_more all (λ x k. root (still x k)) (here.led n row got));
        letters = letters_grown ls (λ x h. loaded_left all s bal inv.sound a c ls x at h) here.letters;
        backed = λ x k own h. backed_more a c c1 ls k x own (λ y o. let z = same_own y in omega arith) (own_row_kept a made c.holdings fresh) (here.backed x k own h);
      }

      pub turn_keeps_roots : KeepsCounts options.Roots all' (set ps a (person_of c1 ls)) (set s a (seat c1 ls))
      turn_keeps_roots = turn_put options.Roots all all' ps s inv a c c1 ls at made grows refl same_own same_held
          (every_but (IsRootsAt all') s a c1 ls (present_below s a _ at) turned_roots (λ b d ms other is. others b d ms is))

      -- ---- a letter's arguments

      pub args_known : (x : Thing) → Names (laws.act_values stop.act) x → IsKnownWithOwner a c1.holdings x
      args_known x n = final_known x (final x (leaves.in_act x n) (from_seg x (seg.in_act x n)))

  -- ---- the plain machine takes the same turn

  pub same_turn : (rows : ObjName → Option Row) → ((x : Thing) → thing_row rows x ≡ all x) → stop ≡ segment_of (record { program = program; me = a; base = c.holdings.next; rows = rows }) f c.fields
  same_turn rows are = sym (segment_local (record { program = program; me = a; base = c.holdings.next; rows = rows }) f c.fields (row_by_roots a c)
      (λ x h. are x ∙ sym (rows_agree all s bal inv.sound inv.bare a c ls at x (over x h))))
    where
      over : (x : Thing) → ReachesThrough (thing_row rows) (Given f c.fields) x → ReachesThrough all (WalkRoots a c) x
      over x h = reach_into _ (ReachesThrough all (WalkRoots a c)) (λ x n. root (given_root x n)) (λ x y r p e n. along_row all p (sym (are x) ∙ e) n) (λ n p. owned p) h
