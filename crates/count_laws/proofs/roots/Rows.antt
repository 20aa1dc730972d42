-- With root-only tracing: over the rows that it has an actor reaches what it reaches over all; letters are exact.
use Rattle.std.proofs.Common.{◌≡◌, ◌≢◌, ℕ, ◌<◌, cond, true, false, Option, Some, None, List, [], ◌∷◌, map, Contains, refl, sym, ◌∙◌, ap, arith, subst, ⊎_elim, eq-eqb, ne_eqb}
use Rattle.std.specs.FinMap as m
use Rattle.std.specs.List.{filter_map}
use Rattle.std.proofs.lemmas.Bool.{cases_eq}
use Rattle.std.proofs.lemmas.List.Elements.{Contains-append_left, Contains-append_right}
use Rattle.orca_names.proofs.ThingOrder.{is_same}
use Rattle.orca_names.specs.Names.{is_thing, thing_cmp}
use Rattle.orca_names.specs.declared.names.ObjName.{ObjName}
use Rattle.orca_names.specs.declared.names.Thing.{Thing}
use Rattle.orca_names.specs.declared.names.Thing.TheVariants.{Actor, Obj}
use Rattle.orca_names.specs.declared.names.Value.{Value}
use Rattle.reach_walk.specs.Marks.{Covers, load_of, load_roots}
use Rattle.reach_walk.specs.Reach.{root, owned, thing_row}
use Rattle.letter_kinds.proofs.Counts.{loaded-same, loaded_more}
use Rattle.letter_kinds.specs.Counting.{Loaded}
use Rattle.letter_kinds.specs.Holdings.{Row, has_own, object_name}
use Rattle.letter_kinds.specs.Sums.{times_loaded}
use Rattle.letter_kinds.specs.Letters.{Letter}
use Rattle.letter_kinds.proofs.Known.{first_option, later_option, own_found}
use Rattle.count_laws.proofs.balance.InHand.{Balanced}
use Rattle.count_laws.proofs.knowledge.Loads.{load_exact}
use Rattle.count_laws.proofs.knowledge.Paths.{along_row, reach_into}
use Rattle.count_laws.proofs.knowledge.Receiving.{own_row}
use Rattle.count_laws.proofs.roots.Left.{reached_left}
use Rattle.count_laws.proofs.roots.Same.{has_own_row}
use Rattle.count_laws.proofs.roots.Take.{owner_root, root_reached}
use Rattle.count_laws.proofs.balance.Seats.{some_seat}
use Rattle.machine_rules.specs.Actors.{Actors, seat, seat_at, Every}
use Rattle.machine_rules.specs.Cell.{Cell, listed_objects, own_row_of, row_by_roots}
use Rattle.count_laws.specs.Known.{IsLoadOf, Names, ReachesThrough, RowsAreIn}
use Rattle.count_laws.specs.KnownByRoots.{IsRootLetter, IsRootOf, IsRootsAt, WalkRoots, stands}

-- ---- the rows that it has are listed

brought_found : (n : ObjName) (es : List (Thing × Row)) (r : Row) → m.find thing_cmp (Obj n) es ≡ Some r → Contains (filter_map (λ e. object_name e.0) es) n
brought_found n [] r h = cc
brought_found n (e ∷ es) r h = elim (is_thing (Obj n) e.0) as
    (λ t. is_thing (Obj n) e.0 ≡ t → cond t (Some e.1) (m.find thing_cmp (Obj n) es) ≡ Some r → Contains (filter_map (λ e. object_name e.0) (e ∷ es)) n) [
      | true ↦ λ t h. first_option (object_name e.0) n _ (ap object_name (sym (is_same (Obj n) e.0 t)))
      | false ↦ λ t h. later_option (object_name e.0) n _ (brought_found n es r h)
    ] refl h

pub listed-cover : (me : ℕ) (c : Cell) → Covers (listed_objects me c) (row_by_roots me c)
unfolding listed_objects row_by_roots
listed-cover me c n r h = ⊎_elim
    (λ same. Contains-append_left _ _ n (subst (Contains (map (λ (e : ℕ × (Row × ℕ)). record { owner = me; serial = e.0 }) (m.entries c.holdings.rows))) (name same)
    (own_found me n.serial (m.entries c.holdings.rows) r (sym (ap own_row (m.get-entries c.holdings.rows n.serial)) ∙ rw (eq-eqb n.owner me same) at h))))
    (λ other. Contains-append_right _ _ n (brought_found n (m.entries c.known) r (sym (m.get-entries c.known (Obj n)) ∙ rw (ne_eqb n.owner me other) at h)))
    (cases_eq n.owner me)
  where
    name : n.owner ≡ me → record { owner = me; serial = n.serial } ≡ n
    name o = λ i. record { owner = sym o i; serial = n.serial }

-- ---- own rows and brought rows

pub by_own : (me : ℕ) (c : Cell) (n : ObjName) → n.owner ≡ me → row_by_roots me c n ≡ own_row_of me c.holdings n
unfolding row_by_roots own_row_of
by_own me c n o = rw (eq-eqb n.owner me o) refl

pub by_brought : (me : ℕ) (c : Cell) (n : ObjName) → n.owner ≢ me → row_by_roots me c n ≡ m.get c.known (Obj n)
unfolding row_by_roots
by_brought me c n o = rw (ne_eqb n.owner me o) refl

module _ (all : Thing → Option Row) (a : ℕ) (c : Cell) (mail : List Letter) (here : IsRootsAt all a c mail) where
  -- the rows that it has are true
  pub rows_sound : (x : Thing) (r : Row) → thing_row (row_by_roots a c) x ≡ Some r → all x ≡ Some r
  rows_sound (Actor b) r e = cc
  rows_sound (Obj n) r e = ⊎_elim
      (λ o. here.mine n r (sym (by_own a c n o) ∙ e))
      (λ o. here.right n r (sym (by_brought a c n o) ∙ e))
      (cases_eq n.owner a)

  pub own_to_all : {roots : Thing → Type 0} {x : Thing} → ReachesThrough (thing_row (row_by_roots a c)) roots x → ReachesThrough all roots x
  own_to_all {roots = roots} h = reach_into (thing_row (row_by_roots a c)) (ReachesThrough all roots) (λ x r. root r) (λ x y r p e n. along_row all p (rows_sound x r e) n) (λ n p. owned p) h

module _ (all : Thing → Option Row) (s : Actors) (bal : Balanced s) (sound : Every (IsRootsAt all) s) (bare : (b : ℕ) → all (Actor b) ≡ None)
    (a : ℕ) (c : Cell) (ls : List Letter) (at : seat_at s a ≡ seat c ls) where
  here : IsRootsAt all a c ls
  here = sound a c ls at

  -- of what its walks reach it has the rows
  pub rows_agree : (x : Thing) → ReachesThrough all (WalkRoots a c) x → thing_row (row_by_roots a c) x ≡ all x
  rows_agree (Actor b) h = sym (bare b)
  rows_agree (Obj n) h = ⊎_elim mine_case other_case (cases_eq n.owner a)
    where
      mine_case : n.owner ≡ a → row_by_roots a c n ≡ all (Obj n)
      mine_case o =
          let left = reached_left all s bal sound bare a c ls at h in
          let z = some_seat left.seat.cell c left.seat.mail ls (sym left.present ∙ (ap (seat_at s) o ∙ at)) in
          let own = has_own_row a c.holdings n o (subst (λ (d : Cell). has_own d.holdings (Obj n) ≡ true) z.0 left.kept) in
          by_own a c n o ∙ own.1 ∙ sym (here.mine n own.0 own.1)

      other_case : n.owner ≢ a → row_by_roots a c n ≡ all (Obj n)
      other_case o = by_brought a c n o ∙ by_row (all (Obj n)) refl (m.get c.known (Obj n)) refl
        where
          by_row : (r : Option Row) → all (Obj n) ≡ r → (k : Option Row) → m.get c.known (Obj n) ≡ k → m.get c.known (Obj n) ≡ all (Obj n)
          by_row (Some r) e k f = here.brought n r o h e ∙ sym e
          by_row None e None f = f ∙ sym e
          by_row None e (Some k) f = absurd (let z = here.right n k f in cc)

  pub all_to_own : {roots : Thing → Type 0} → ((x : Thing) → roots x → ReachesThrough all (WalkRoots a c) x) → {x : Thing} → ReachesThrough all roots x → ReachesThrough (thing_row (row_by_roots a c)) roots x
  all_to_own {roots = roots} from h = (reach_into all (λ x. ReachesThrough all (WalkRoots a c) x × ReachesThrough (thing_row (row_by_roots a c)) roots x) (λ x r. (from x r, root r))
      (λ x y r p e n. (along_row all p.0 e n, along_row _ p.1 (rows_agree x p.0 ∙ e) n)) (λ n p. (owned p.0, owned p.1)) h).1

  -- ---- a letter

  module _ (args : List Value) (walk : (x : Thing) → Names args x → ReachesThrough all (WalkRoots a c) x) where
    rows_swap : (es : List Loaded) → ((x : Thing) → 0 < times_loaded x es → thing_row (row_by_roots a c) x ≡ all x) → RowsAreIn (thing_row (row_by_roots a c)) es → RowsAreIn all es
    rows_swap [] same h = tt
    rows_swap (e ∷ es) same h = (h.0 ∙ same e.0 (let z = loaded-same e.0 e es refl in omega arith), rows_swap es (λ x some. same x (loaded_more x e es some)) h.1)

    walks_all : (x : Thing) → ReachesThrough all (Names args) x → ReachesThrough all (WalkRoots a c) x
    walks_all x h = reach_into all (ReachesThrough all (WalkRoots a c)) walk (λ x y r p e n. along_row all p e n) (λ n p. owned p) h

    rows_exact : IsLoadOf all args (load_of (row_by_roots a c) (listed_objects a c) args)
    rows_exact =
        let is = load_exact (row_by_roots a c) (listed_objects a c) args (listed-cover a c) in
        record {
          once = is.once;
          rising = is.rising;
          reached = λ x h. own_to_all all a c ls here (is.reached x h);
          whole = λ x h. is.whole x (all_to_own walk h);
          rows = rows_swap (load_of (row_by_roots a c) (listed_objects a c) args) (λ x h. rows_agree x (walks_all x (own_to_all all a c ls here (is.reached x h)))) is.rows;
        }

    pub letter_exact : IsRootLetter all args (load_roots args) (load_of (row_by_roots a c) (listed_objects a c) args)
    letter_exact =
        let is = load_exact (λ n. None) [] args (λ n row e. cc) in
        record {
          once = is.once;
          rising = is.rising;
          only = λ x h. bare_root args x (is.reached x h);
          whole = λ x h. is.whole x (root_bare args x h);
          rows = rows_exact;
        }
      where
        bare_root : (args : List Value) (x : Thing) → ReachesThrough (thing_row (λ n. None)) (Names args) x → IsRootOf args x
        bare_root args x h = reach_into (thing_row (λ n. None)) (IsRootOf args) (λ x n. stands n) (λ x y r p e n. absurd (no_row x r e)) (λ n p. owner_root args (Obj n) p) h
          where
            no_row : (x : Thing) (r : Row) → thing_row (λ n. None) x ≢ Some r
            no_row (Actor b) r e = cc
            no_row (Obj n) r e = cc

        root_bare : (args : List Value) (x : Thing) → IsRootOf args x → ReachesThrough (thing_row (λ n. None)) (Names args) x
        root_bare args x h = root_reached (thing_row (λ n. None)) args x h
