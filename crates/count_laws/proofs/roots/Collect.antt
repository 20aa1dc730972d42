-- With root-only tracing: a collection keeps the facts, and nothing that is backed goes.
use Rattle.std.proofs.Common.{◌≡◌, ◌≢◌, ◌⊎◌, ℕ, zero, suc, ◌+◌, ◌<◌, ◌==◌, ◌||◌, not, cond, Bool, true, false, Option, Some, None, List, set, take, refl, sym, ◌∙◌, ap, arith, subst, inl, inr, ⊎_elim, eq-eqb, ne_eqb}
use Rattle.std.specs.Prelude.{sum_by}
use Rattle.std.specs.FinMap as m
use Rattle.std.specs.List.{list_any}
use Rattle.std.proofs.lemmas.Bool.{cases_eq}
use Rattle.std.proofs.lemmas.Cmp.{eq_by_cmp_equiv}
use Rattle.std.proofs.lemmas.Map.Views.{Contains-from_any, list_any-from_Contains}
use Rattle.orca_names.proofs.ThingOrder.{is_same, thing_exact, thing_total}
use Rattle.orca_names.specs.Names.{is_thing, owner_of}
use Rattle.orca_names.specs.declared.names.ObjName.{ObjName}
use Rattle.orca_names.specs.declared.names.Thing.{Thing}
use Rattle.orca_names.specs.declared.names.Thing.TheVariants.{Actor, Obj}
use Rattle.orca_names.specs.declared.names.Value.{Value}
use Rattle.reach_walk.proofs.MarkLaws.{marks-reached, reached-marks}
use Rattle.reach_walk.specs.Marks.{Covers, marks_of}
use Rattle.reach_walk.specs.Reach.{root, owned, thing_row}
use Rattle.letter_kinds.proofs.Counts.{counted_has}
use Rattle.letter_kinds.proofs.Sums.{sum-nil}
use Rattle.letter_kinds.specs.Counting.{by_owner, given_back, sweep}
use Rattle.letter_kinds.specs.Holdings.{Holdings, Row, held_in, own_in, row_count}
use Rattle.letter_kinds.specs.Sums.{dec_of, inc_of, load_count}
use Rattle.letter_kinds.specs.Letters.{Letter, Dec}
use Rattle.count_laws.proofs.events.Collect.{collect_put}
use Rattle.count_laws.proofs.events.Every.{every_decs, every_set}
use Rattle.count_laws.proofs.balance.InHand.{Balanced, in_hand}
use Rattle.count_laws.proofs.knowledge.Paths.{along_row, reach_into}
use Rattle.count_laws.proofs.knowledge.Receiving.{own_row}
use Rattle.count_laws.proofs.roots.Rows.{by_own, listed-cover, rows_agree, rows_sound}
use Rattle.count_laws.proofs.roots.Same.{has_own_row, own_is_none, own_row_has, roots_push}
use Rattle.count_laws.proofs.balance.Safety.{sum-parts}
use Rattle.count_laws.proofs.balance.SeatReads.{letter_Dec}
use Rattle.machine_rules.proofs.Present.{present_below}
use Rattle.count_laws.proofs.balance.Sweeping.{get_row-sweep, has-sweep, held_before, known-marked, own-sweep, stays}
use Rattle.count_laws.proofs.knowledge.Turns.{along_edges, along_rows}
use Rattle.machine_rules.specs.Actors.{Actors, seat, seat_at}
use Rattle.count_laws.specs.Agreement.{Person}
use Rattle.machine_rules.specs.Cell.{Cell, listed_objects, own_row_of, row_by_roots}
use Rattle.machine_rules.specs.Collect.{after_collect, is_in_use, is_marked_by_roots, start_of_marks, without_unused}
use Rattle.count_laws.specs.Facts.{KeepsCounts}
use Rattle.count_laws.specs.Known.{InFrame, IsKnown, Names, ReachesThrough}
use Rattle.count_laws.specs.KnownByRoots.{IsBacked, IsCountedAfter, IsKnownWithOwner, IsNamedIn, IsRootsAt, WalkRoots, by_count, by_field, by_frame, by_path, by_row, held, mine, named}
use Rattle.orca_names.specs.declared.trace.Trace.TheVariants as options
use Rattle.count_laws.proofs.roots.Starts.{starts, starts_counted, starts_field}
use Rattle.count_laws.specs.Clean.{StartsMarks, of_count, of_field}

-- ---- marks, as a test

module _ (rows : ObjName → Option Row) (all : List ObjName) (roots : List Value) where
  any_reached : (x : Thing) → list_any (is_thing x) (marks_of rows all roots) ≡ true → ReachesThrough (thing_row rows) (Names roots) x
  any_reached x e = along_rows rows (λ y n. n) (marks-reached rows all roots x (Contains-from_any is_same x (marks_of rows all roots) e))

  reached_any : Covers all rows → (x : Thing) → ReachesThrough (thing_row rows) (Names roots) x → list_any (is_thing x) (marks_of rows all roots) ≡ true
  reached_any covers x r = list_any-from_Contains (eq_by_cmp_equiv thing_total) x (marks_of rows all roots) (reached-marks rows all roots covers x (along_edges rows (λ y n. n) r))

-- ---- the marks of an actor

module _ (a : ℕ) (c : Cell) where
  abbrev pub IsMarked : Thing → Type 0
  IsMarked x = ReachesThrough (thing_row (own_row_of a c.holdings)) (Names (start_of_marks a c)) x

  own_cover : Covers (listed_objects a c) (own_row_of a c.holdings)
  own_cover n row e = listed-cover a c n row (by_own a c n (own_row_has a c.holdings n row e).0 ∙ e)

  pub marks_sound : (x : Thing) → is_marked_by_roots a c x ≡ true → IsMarked x
  unfolding is_marked_by_roots
  marks_sound x e = any_reached (own_row_of a c.holdings) (listed_objects a c) (start_of_marks a c) x e

  pub marks_whole : (x : Thing) → IsMarked x → is_marked_by_roots a c x ≡ true
  unfolding is_marked_by_roots
  marks_whole x h = reached_any (own_row_of a c.holdings) (listed_objects a c) (start_of_marks a c) own_cover x h

  pub use_whole : (x : Thing) → ReachesThrough (thing_row (row_by_roots a c)) (Names (start_of_marks a c)) x → is_in_use a c x ≡ true
  unfolding is_in_use
  use_whole x h = reached_any (row_by_roots a c) (listed_objects a c) (start_of_marks a c) (listed-cover a c) x h

  pub use_sound : (x : Thing) → is_in_use a c x ≡ true → ReachesThrough (thing_row (row_by_roots a c)) (Names (start_of_marks a c)) x
  unfolding is_in_use
  use_sound x e = any_reached (row_by_roots a c) (listed_objects a c) (start_of_marks a c) x e

-- ---- own rows through a sweep

module _ (marked : Thing → Bool) (me : ℕ) (h : Holdings) where
  stayed : (b : Bool) (o : Option (Row × ℕ)) (row : Row) → own_row (cond (b || not (row_count o == 0)) o None) ≡ Some row → (own_row o ≡ Some row) × ((b ≡ true) ⊎ (0 < row_count o))
  stayed true o row e = (e, inl refl)
  stayed false None row e = cc
  stayed false (Some r) row e = ⊎_elim (λ z. absurd (let w = rw (eq-eqb r.1 0 z) at e in none_some row w)) (λ n. (rw (ne_eqb r.1 0 n) at e, inr (omega arith))) (cases_eq r.1 0)
    where
      none_some : (row : Row) → None ≢ Some row
      none_some row e = cc

  pub own_row-stayed : (n : ObjName) (row : Row) → own_row_of me (sweep marked me h) n ≡ Some row → (own_row_of me h n ≡ Some row) × ((marked (Obj n) ≡ true) ⊎ (0 < own_in h (Obj n)))
  unfolding own_row_of own_in stays
  own_row-stayed n row e = ⊎_elim
      (λ o.
      let z = stayed (marked (Obj (record { owner = me; serial = n.serial }))) (m.get h.rows n.serial) row (sym (ap own_row (get_row-sweep marked me h n.serial)) ∙ rw (eq-eqb n.owner me o) at e) in
      (rw (eq-eqb n.owner me o) z.0, ⊎_elim (λ t. inl (subst (λ i. marked (Obj (record { owner = i; serial = n.serial })) ≡ true) (sym o) t)) (λ s. inr s) z.1))
      (λ o. absurd (none_some row (rw (ne_eqb n.owner me o) at e)))
      (cases_eq n.owner me)
    where
      none_some : (row : Row) → None ≢ Some row
      none_some row e = cc

  pub own_row-marked : (n : ObjName) (row : Row) → marked (Obj n) ≡ true → own_row_of me h n ≡ Some row → own_row_of me (sweep marked me h) n ≡ Some row
  unfolding own_row_of stays
  own_row-marked n row t e = ⊎_elim
      (λ o.
      let t' : marked (Obj (record { owner = me; serial = n.serial })) ≡ true = subst (λ i. marked (Obj (record { owner = i; serial = n.serial })) ≡ true) o t in
      rw (eq-eqb n.owner me o) (ap own_row (get_row-sweep marked me h n.serial ∙ ap (λ b. cond (b || not (row_count (m.get h.rows n.serial) == 0)) (m.get h.rows n.serial) None) t') ∙ (rw (eq-eqb n.owner me o) at e)))
      (λ o. absurd (let z = own_is_none me h n o in none_some row (sym z ∙ e)))
      (cases_eq n.owner me)
    where
      none_some : (row : Row) → None ≢ Some row
      none_some row e = cc

-- ---- a collection

module _ (all : Thing → Option Row) (ps : List Person) (s : Actors) (inv : KeepsCounts options.Roots all ps s)
    (a : ℕ) (c : Cell) (ls : List Letter) (at : seat_at s a ≡ seat c ls) (idle : c.frame ≡ None) where
  abbrev marked : Thing → Bool
  marked = is_marked_by_roots a c

  abbrev d : Cell
  d = record (without_unused options.Roots a c) { holdings = sweep marked a c.holdings; dirty = false }

  bal : Balanced s
  bal = in_hand s inv.balanced

  here : IsRootsAt all a c ls
  here = inv.sound a c ls at

  none_some : (row : Row) → None ≢ Some row
  none_some row e = cc

  -- what an own row that stays names is marked
  row_marked : (n : ObjName) (row : Row) → own_row_of a d.holdings n ≡ Some row → (own_row_of a c.holdings n ≡ Some row) × IsMarked a c (Obj n)
  row_marked n row e =
      let z = own_row-stayed marked a c.holdings n row e in
      (z.0, ⊎_elim (λ t. marks_sound a c (Obj n) t) (λ some. root (starts_counted a c n (own_row_has a c.holdings n row z.0).0 some)) z.1)

  owner_marked : (x : Thing) → IsMarked a c x → IsMarked a c (Actor (owner_of x))
  owner_marked (Actor i) h = h
  owner_marked (Obj n) h = owned h

  both_kept : (x : Thing) → IsMarked a c x → IsKnownWithOwner a c.holdings x → IsKnownWithOwner a d.holdings x
  both_kept x h k = (known-marked marked a c.holdings x (marks_whole a c x h) k.0, known-marked marked a c.holdings (Actor (owner_of x)) (marks_whole a c (Actor (owner_of x)) (owner_marked x h)) k.1)

  name_marked : (x : Thing) → IsNamedIn a d x → IsNamedIn a c x × IsMarked a c x
  name_marked x (by_field n) = (by_field n, root (starts_field a c x n))
  name_marked x (by_frame n) = absurd (no_frame (subst (λ o. InFrame o x) idle n))
    where
      no_frame : ¬ InFrame None x
      no_frame h = elim h [ ]
  name_marked x (by_row n row e nm) =
      let z = row_marked n row e in (by_row n row z.0 nm, along_row (thing_row (own_row_of a c.holdings)) z.1 z.0 nm)

  named_after : (x : Thing) → IsNamedIn a d x → IsKnownWithOwner a d.holdings x
  named_after x n = let z = name_marked x n in both_kept x z.1 (here.named x z.0)

  owners_after : (x : Thing) → 0 < held_in d.holdings x → IsKnown a d.holdings (Actor (owner_of x))
  owners_after x h =
      let z = held_before marked a c.holdings x h in
      known-marked marked a c.holdings (Actor (owner_of x)) (marks_whole a c (Actor (owner_of x)) (owner_marked x (marks_sound a c x z.0))) (here.owners x z.1)

  -- ---- rows that letters brought stay where they are in use

  abbrev pub IsUsed : Thing → Type 0
  IsUsed x = ReachesThrough (thing_row (row_by_roots a c)) (Names (start_of_marks a c)) x

  pub marked_used : {x : Thing} → IsMarked a c x → IsUsed x
  marked_used h = reach_into (thing_row (own_row_of a c.holdings)) IsUsed (λ x n. root n) (λ x y r p e n. along_row (thing_row (row_by_roots a c)) p (up_row x r e) n) (λ n p. owned p) h
    where
      up_row : (x : Thing) (r : Row) → thing_row (own_row_of a c.holdings) x ≡ Some r → thing_row (row_by_roots a c) x ≡ Some r
      up_row (Actor i) r e = cc
      up_row (Obj n) r e = by_own a c n (own_row_has a c.holdings n r e).0 ∙ e

  -- where its walks begin afterwards they began, and it is in use, or is the actor itself
  root_used : (x : Thing) → WalkRoots a d x → WalkRoots a c x × (IsUsed x ⊎ (x ≡ Actor a))
  root_used x (named n) = let z = name_marked x n in (named z.0, inl (marked_used z.1))
  root_used x (held h) = let z = held_before marked a c.holdings x h in (held z.1, inl (marked_used (marks_sound a c x z.0)))
  root_used (Actor i) (mine o has) = (mine o (has-sweep marked a c.holdings (Actor i) has), inr (ap Actor o))
  root_used (Obj n) (mine o has) =
      let own = has_own_row a d.holdings n o has in
      (mine o (has-sweep marked a c.holdings (Obj n) has), inl (marked_used (row_marked n own.0 own.1).1))

  walk_used : (x : Thing) → ReachesThrough all (WalkRoots a d) x → ReachesThrough all (WalkRoots a c) x × (IsUsed x ⊎ (x ≡ Actor a))
  walk_used x h = reach_into all (λ x. ReachesThrough all (WalkRoots a c) x × (IsUsed x ⊎ (x ≡ Actor a)))
      (λ x r. let z = root_used x r in (root z.0, z.1))
      (λ x y r p e n. (
        along_row all p.0 e n,
        inl (⊎_elim
            (λ used. along_row (thing_row (row_by_roots a c)) used (rows_agree all s bal inv.sound inv.bare a c ls at x p.0 ∙ e) n)
            (λ self. absurd (none_some r (sym (inv.bare a) ∙ (ap all (sym self) ∙ e))))
            p.1),
      ))
      (λ n p. (owned p.0, ⊎_elim (λ used. inl (owned used)) (λ self. absurd (obj_actor n self)) p.1)) h
    where
      obj_actor : (n : ObjName) → Obj n ≢ Actor a
      obj_actor n e = cc

  known_kept : (n : ObjName) (row : Row) → m.get d.known (Obj n) ≡ Some row → m.get c.known (Obj n) ≡ Some row
  known_kept n row e = by_use (is_in_use a c (Obj n)) (sym (m.get-retain_keys c.known (is_in_use a c) (Obj n) (λ y t. ap (is_in_use a c) (sym (thing_exact (Obj n) y t)))) ∙ e)
    where
      by_use : (b : Bool) → cond b (m.get c.known (Obj n)) None ≡ Some row → m.get c.known (Obj n) ≡ Some row
      by_use true h = h
      by_use false h = cc

  known_stays : (n : ObjName) → IsUsed (Obj n) → m.get d.known (Obj n) ≡ m.get c.known (Obj n)
  known_stays n used = m.get-retain_keys c.known (is_in_use a c) (Obj n) (λ y t. ap (is_in_use a c) (sym (thing_exact (Obj n) y t)))
      ∙ ap (λ b. cond b (m.get c.known (Obj n)) None) (use_whole a c (Obj n) used)

  brought_after : (n : ObjName) (row : Row) → n.owner ≢ a → ReachesThrough all (WalkRoots a d) (Obj n) → all (Obj n) ≡ Some row → m.get d.known (Obj n) ≡ Some row
  brought_after n row out h is =
      let z = walk_used (Obj n) h in
      known_stays n (⊎_elim (λ used. used) (λ self. absurd (obj_actor n self)) z.1) ∙ here.brought n row out z.0 is
    where
      obj_actor : (n : ObjName) → Obj n ≢ Actor a
      obj_actor n e = cc

  -- what is in use is led to by what is marked, which is known still
  used_led : {x : Thing} → IsUsed x → ReachesThrough all (IsKnown a d.holdings) x
  used_led h = reach_into (thing_row (row_by_roots a c)) (ReachesThrough all (IsKnown a d.holdings)) start (λ x y r p e n. along_row all p (rows_sound all a c ls here x r e) n) (λ n p. owned p) h
    where
      known_start : (x : Thing) → StartsMarks a c x → IsKnown a c.holdings x
      known_start x (of_field n) = (here.named x (by_field n)).0
      known_start y (of_count {n = n} o some) = inl (o, counted_has c.holdings (Obj n) some)

      start : (x : Thing) → Names (start_of_marks a c) x → ReachesThrough all (IsKnown a d.holdings) x
      start x n = root (known-marked marked a c.holdings x (marks_whole a c x (root n)) (known_start x (starts a c x n)))

  led_after : (n : ObjName) (row : Row) → m.get d.known (Obj n) ≡ Some row → ReachesThrough all (IsKnown a d.holdings) (Obj n)
  led_after n row got = used_led (use_sound a c (Obj n) (by_use (is_in_use a c (Obj n)) (sym (m.get-retain_keys c.known (is_in_use a c) (Obj n) (λ y t. ap (is_in_use a c) (sym (thing_exact (Obj n) y t)))) ∙ got)))
    where
      by_use : (b : Bool) → cond b (m.get c.known (Obj n)) None ≡ Some row → b ≡ true
      by_use true e = refl
      by_use false e = cc

  -- ---- what is backed stays

  abbrev pub IsKept : Thing → Type 0
  IsKept x = IsMarked a c x ⊎ (x ≡ Actor a)

  -- own rows lead from what is kept to what is kept
  leads_kept : {roots : Thing → Type 0} → ((x : Thing) → roots x → IsKept x) → {x : Thing} → ReachesThrough (thing_row (own_row_of a c.holdings)) roots x → IsKept x
  leads_kept from h = reach_into (thing_row (own_row_of a c.holdings)) IsKept from
      (λ x y r p e n. inl (⊎_elim (λ k. along_row (thing_row (own_row_of a c.holdings)) k e n) (λ self. absurd (none_some r (ap (thing_row (own_row_of a c.holdings)) (sym self) ∙ e))) p))
      (λ n p. ⊎_elim (λ k. inl (owned k)) (λ self. absurd (obj_actor n self)) p) h
    where
      obj_actor : (n : ObjName) → Obj n ≢ Actor a
      obj_actor n e = cc

  counted_kept : (x : Thing) → owner_of x ≡ a → 0 < own_in c.holdings x → IsKept x
  counted_kept (Actor i) o h = inr (ap Actor o)
  counted_kept (Obj n) o h = inl (root (starts_counted a c n o h))

  -- what is backed now is kept
  pub backed_kept : (x : Thing) → owner_of x ≡ a → IsBacked a c ls 0 x → IsKept x
  backed_kept x o (by_count counted) = counted_kept x o (omega (arith, sum-nil (dec_of x), sum-nil (load_count x), sum-nil (inc_of x)))
  backed_kept x o (by_path path) =
      let y = Obj path.from in
      leads_kept (λ z e. subst IsKept (sym e) (counted_kept y path.own (let w = path.counted in omega (arith, sum-nil (dec_of y), sum-nil (load_count y), sum-nil (inc_of y))))) path.leads

  waiting_kept : (x : Thing) → owner_of x ≡ a → 0 < sum_by (inc_of x) ls → IsKept x
  waiting_kept x o h = backed_kept x o (here.backed x 0 o h)

  after_kept : (k : ℕ) (x : Thing) → owner_of x ≡ a → 0 < own_in c.holdings x + sum_by (inc_of x) (take k ls) → IsKept x
  after_kept k x o h = either (own_in c.holdings x) refl
    where
      either : (n : ℕ) → own_in c.holdings x ≡ n → IsKept x
      either zero e = waiting_kept x o (let w = sum-parts (inc_of x) k ls in omega arith)
      either (suc n) e = counted_kept x o (omega arith)

  not_self : (n : ObjName) → Obj n ≢ Actor a
  not_self n e = cc

  kept_row : (y : Thing) (r : Row) → IsKept y → thing_row (own_row_of a c.holdings) y ≡ Some r → thing_row (own_row_of a d.holdings) y ≡ Some r
  kept_row (Actor i) r kept e = cc
  kept_row (Obj n) r kept e = own_row-marked marked a c.holdings n r (marks_whole a c (Obj n) (⊎_elim (λ k. k) (λ self. absurd (not_self n self)) kept)) e

  -- what own rows lead to from what is kept is kept, and they lead to it afterwards
  led_on : (y : Thing) → IsKept y → {x : Thing} → ReachesThrough (thing_row (own_row_of a c.holdings)) (λ z. z ≡ y) x
      → IsKept x × ReachesThrough (thing_row (own_row_of a d.holdings)) (λ z. z ≡ y) x
  led_on y kept h = reach_into (thing_row (own_row_of a c.holdings)) (λ z. IsKept z × ReachesThrough (thing_row (own_row_of a d.holdings)) (λ z. z ≡ y) z)
      (λ z e. (subst IsKept (sym e) kept, root e))
      (λ z w r p e n. (leads_kept {roots = λ q. q ≡ z} (λ q e. subst IsKept (sym e) p.0) (along_row (thing_row (own_row_of a c.holdings)) (root refl) e n), along_row (thing_row (own_row_of a d.holdings)) p.1 (kept_row z r p.0 e) n))
      (λ n p. (⊎_elim (λ k. inl (owned k)) (λ self. absurd (not_self n self)) p.0, owned p.1)) h

  counted_after : (k : ℕ) (x : Thing) → IsCountedAfter c ls k x → IsCountedAfter d ls k x
  counted_after k x counted = let z = own-sweep marked a c.holdings x in omega arith

  backed_after : (x : Thing) (k : ℕ) → owner_of x ≡ a → IsBacked a c ls k x → IsBacked a d ls k x
  backed_after x k o (by_count counted) = by_count (counted_after k x counted)
  backed_after x k o (by_path {n = n} path) =
      let kept = led_on (Obj path.from) (after_kept k (Obj path.from) path.own (let w = path.counted in omega arith)) path.leads in
      let row = has_own_row a c.holdings n o path.there in
      by_path (record {
        there = (own_row_has a d.holdings n row.0 (kept_row (Obj n) row.0 kept.0 row.1)).1;
        from = path.from;
        own = path.own;
        counted = counted_after k (Obj path.from) path.counted;
        leads = kept.1;
      })

  swept_roots : IsRootsAt all a d ls
  swept_roots = record {
    named = named_after;
    owners = owners_after;
    mine = λ n row e. here.mine n row (row_marked n row e).0;
    right = λ n row e. here.right n row (known_kept n row e);
    brought = brought_after;
    led = led_after;
    letters = here.letters;
    backed = λ x k o h. backed_after x k o (here.backed x k o h);
  }

  pub collect_keeps_roots : KeepsCounts options.Roots all ps (after_collect (is_marked_by_roots a c) a (without_unused options.Roots a c) ls s)
  collect_keeps_roots = collect_put options.Roots all ps s inv a c (without_unused options.Roots a c) ls at marked refl refl
      (every_decs (IsRootsAt all) (λ es. roots_push all (Dec es) tt (λ x. (letter_Dec x es).0)) (by_owner (given_back marked c.holdings)) (set s a (seat d ls))
      (every_set (IsRootsAt all) s a d ls (present_below s a _ at) swept_roots inv.sound))
