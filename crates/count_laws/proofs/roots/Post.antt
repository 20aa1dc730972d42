-- With root-only tracing: who posts, mints, makes an actor or goes keeps the facts.
use Rattle.std.proofs.Common.{◌≡◌, ◌≢◌, ◌⊎◌, ℕ, zero, suc, ◌+◌, ◌-◌, ◌<◌, ◌≤◌, true, false, Option, Some, None, List, [], ◌∷◌, ◌++◌, length, set, drop, refl, sym, ◌∙◌, ap, arith, subst, inl, inr, ⊎_elim}
use Rattle.std.specs.Prelude.{sum_by}
use Rattle.std.specs.FinMap as m
use Rattle.std.proofs.lemmas.Bool.{cases_eq}
use Rattle.std.proofs.lemmas.List.Sums.{sum_by-cons}
use Rattle.orca_names.proofs.ThingOrder.{cases_thing}
use Rattle.orca_names.specs.Names.{owner_of}
use Rattle.orca_names.specs.declared.names.ObjName.{ObjName}
use Rattle.orca_names.specs.declared.names.Thing.{Thing}
use Rattle.orca_names.specs.declared.names.Thing.TheVariants.{Actor, Obj}
use Rattle.orca_names.specs.declared.names.Value.{Value}
use Rattle.orca_names.specs.declared.names.Value.TheVariants as values
use Rattle.turn_rules.specs.declared.act.Frame.{Frame}
use Rattle.reach_walk.specs.Marks.{load_of, load_roots}
use Rattle.letter_kinds.proofs.Amounts.{held-mint_all, own-mint_all}
use Rattle.letter_kinds.proofs.Counts.{held-send, held-send_own, held_set_same, own-send, own_set_held}
use Rattle.letter_kinds.proofs.Sums.{sum-nil}
use Rattle.letter_kinds.specs.Counting.{Amount, Loaded, gain, lacking_of, mint_all, send}
use Rattle.letter_kinds.specs.Detector.{has}
use Rattle.letter_kinds.specs.Holdings.{Row, has_own, held_in, own_in}
use Rattle.letter_kinds.specs.Sums.{amount_of, inc_of, load_count, times_loaded}
use Rattle.letter_kinds.specs.Letters.{Letter, App, Inc, Dec, Confirm}
use Rattle.count_laws.proofs.agreement.Agreeing.{with_letter}
use Rattle.count_laws.proofs.events.Every.{every_more, every_push, every_set}
use Rattle.count_laws.proofs.balance.InHand.{AllCounted, Balanced, in_hand}
use Rattle.count_laws.proofs.events.Make.{make_put}
use Rattle.count_laws.proofs.balance.Makes.{IsFresh, fresh_held, given_other, held_given}
use Rattle.count_laws.proofs.knowledge.Naming.{set_names}
use Rattle.reach_walk.specs.Reach.{root}
use Rattle.count_laws.proofs.knowledge.Paths.{reach_into, reach_more}
use Rattle.count_laws.proofs.events.Post.{known_enough, known_has, mint_put, post_put}
use Rattle.count_laws.proofs.events.Reap.{AllSealed, every_reap, reap_put}
use Rattle.count_laws.proofs.balance.Reaps.{AllIn}
use Rattle.count_laws.proofs.roots.Left.{known_left}
use Rattle.count_laws.proofs.roots.Rows.{letter_exact}
use Rattle.count_laws.proofs.roots.Same.{still_known, SameOwn, backed_more, backed_push, carried_mine, carried_named, carried_owners, letters_push, own_gained, own_minted, own_row_has, own_sent, roots_push, same_rows_more, walks}
use Rattle.count_laws.proofs.roots.Take.{owner_root, still_roots}
use Rattle.count_laws.proofs.balance.SeatReads.{letter_App, letter_Confirm, letter_Dec, letter_Inc}
use Rattle.count_laws.proofs.balance.Seats.{IsPresent, at_other}
use Rattle.machine_rules.proofs.Present.{present_below}
use Rattle.count_laws.proofs.balance.Sends.{push_is}
use Rattle.machine_rules.specs.Actors.{Actors, Seat, push_letter, seat, seat_at, Every}
use Rattle.count_laws.specs.Agreement.{Person, person_at, person_of}
use Rattle.machine_rules.specs.Cell.{Cell, listed_objects, own_row_of, row_by_roots}
use Rattle.machine_rules.specs.Detect.{reap_members}
use Rattle.count_laws.specs.Facts.{KeepsCounts}
use Rattle.machine_rules.specs.Go.{make, mint, post}
use Rattle.count_laws.specs.Known.{InFrame, IsKnown, Names, ReachesThrough, StartsWalks, in_fields, in_frame}
use Rattle.count_laws.specs.KnownByRoots.{AreRootLetters, IsBacked, IsKnownWithOwner, IsNamedIn, IsRootLetter, IsRootOf, IsRootsAt, WalkRoots, by_field, by_frame, by_row, held, mine, named, stands, owns}
use Rattle.orca_names.specs.declared.trace.Trace.TheVariants as options
use Rattle.plain_rules.specs.Machine.{with_name}

-- one seat gets a letter
every_pushed : (Q : ℕ → Cell → List Letter → Type 0) (s : Actors) (b : ℕ) (l : Letter) (o : Seat) → seat_at s b ≡ Some o → Q b o.cell (o.mail ++ l ∷ []) → Every Q s → Every Q (push_letter b l s)
every_pushed Q s b l o at new every = rw (push_is s b l o at) (every_set Q s b o.cell (o.mail ++ l ∷ []) (present_below s b o at) new every)

-- ---- post

module _ (all : Thing → Option Row) (ps : List Person) (s : Actors) (inv : KeepsCounts options.Roots all ps s)
    (a : ℕ) (c : Cell) (ls : List Letter) (at : seat_at s a ≡ seat c ls) (to b : ℕ) (args : List Value)
    (known_args : (x : Thing) → Names args x → IsKnownWithOwner a c.holdings x) (walk : (x : Thing) → Names args x → ReachesThrough all (WalkRoots a c) x)
    (known_to : IsKnown a c.holdings (Actor to)) (full : lacking_of a c.holdings (load_roots args) ≡ []) where
  abbrev load : List Loaded
  load = load_roots args

  abbrev rows : List Loaded
  rows = load_of (row_by_roots a c) (listed_objects a c) args

  bal : Balanced s
  bal = in_hand s inv.balanced

  here : IsRootsAt all a c ls
  here = inv.sound a c ls at

  ok : IsRootLetter all args load rows
  ok = letter_exact all s bal inv.sound inv.bare a c ls at args walk

  known_root : (x : Thing) → IsRootOf args x → IsKnown a c.holdings x
  known_root x (stands n) = (known_args x n).0
  known_root y (owns {x = x} n) = (known_args x n).1

  pub post_known : (x : Thing) → 0 < times_loaded x load → IsKnown a c.holdings x
  post_known x h = known_root x (ok.only x h)

  enough : (x : Thing) → owner_of x ≢ a → 0 < times_loaded x load → times_loaded x load < held_in c.holdings x
  enough = known_enough a c.holdings load ok.once post_known full

  has_load : (x : Thing) → owner_of x ≡ a → 0 < times_loaded x load → has_own c.holdings x ≡ true
  has_load = known_has a c.holdings load ok.once post_known full

  abbrev sender : Cell
  sender = record c { holdings = send a load c.holdings }

  sent_held : (x : Thing) → 0 < held_in c.holdings x → 0 < held_in sender.holdings x
  sent_held x h = ⊎_elim
      (λ own. let z = held-send_own a x load c.holdings own in omega arith)
      (λ other. let z = held-send a x load c.holdings other in some_left (times_loaded x load) (held_in c.holdings x) (held_in sender.holdings x) z (enough x other) h)
      (cases_eq (owner_of x) a)
    where
      some_left : (n h k : ℕ) → k ≡ h - n → (0 < n → n < h) → 0 < h → 0 < k
      some_left zero h k e f pos = omega arith
      some_left (suc n) h k e f pos = let z = f (omega arith) in omega arith

  held_sent : (x : Thing) → 0 < held_in sender.holdings x → 0 < held_in c.holdings x
  held_sent x h = ⊎_elim
      (λ own. let z = held-send_own a x load c.holdings own in omega arith)
      (λ other. let z = held-send a x load c.holdings other in omega arith)
      (cases_eq (owner_of x) a)

  up : (y : Thing) → owner_of y ≡ a → own_in c.holdings y ≤ own_in sender.holdings y
  up y o = let z = own-send a y load c.holdings o (has_load y o) in omega arith

  sender_roots : IsRootsAt all a sender ls
  sender_roots = still_roots all a c sender ls here (own_sent a load c.holdings) sent_held held_sent refl refl refl ls here.letters
      (λ x k o h. backed_more a c sender ls k x o up (same_rows_more a c.holdings sender.holdings (own_sent a load c.holdings)) (here.backed x k o h))

  target : IsPresent s to
  target = let left = known_left all s bal inv.sound a c ls (Actor to) at known_to in (left.seat, left.present)

  pub post_keeps_roots : KeepsCounts options.Roots all (set (set ps a (person_of sender ls)) to (with_letter b args (person_at (set ps a (person_of sender ls)) to))) (post a c ls to b args load rows s)
  post_keeps_roots = post_put options.Roots all ps s inv a c ls at to b args load rows enough has_load target
      (every_push (IsRootsAt all) (App b args load rows) (roots_push all (App b args load rows) (ok, tt) (λ x. (letter_App x b args load rows).0)) (set s a (seat sender ls)) to
      (every_set (IsRootsAt all) s a sender ls (present_below s a _ at) sender_roots inv.sound))

-- ---- mint

module _ (all : Thing → Option Row) (ps : List Person) (s : Actors) (inv : KeepsCounts options.Roots all ps s)
    (a : ℕ) (c : Cell) (ls : List Letter) (at : seat_at s a ≡ seat c ls)
    (b : ℕ) (es : List Amount) (theirs : (x : Thing) → 0 < amount_of x es → owner_of x ≡ b) (other : b ≢ a) (pos : AllCounted es)
    (owner_known : (x : Thing) → 0 < amount_of x es → IsKnown a (mint_all es c.holdings) (Actor (owner_of x)))
    (walk : (x : Thing) → 0 < amount_of x es → ReachesThrough all (WalkRoots a c) x)
    (o : Seat) (there : seat_at s b ≡ Some o) (backs : (x : Thing) (k : ℕ) → owner_of x ≡ b → 0 < amount_of x es → IsBacked b o.cell o.mail k x) where
  abbrev minter : Cell
  minter = record c { holdings = mint_all es c.holdings }

  abbrev New : Thing → Type 0
  New x = 0 < amount_of x es

  mint_here : IsRootsAt all a c ls
  mint_here = inv.sound a c ls at

  mint_kept : (x : Thing) → 0 < held_in c.holdings x → 0 < held_in minter.holdings x
  mint_kept x h = let z = held-mint_all x es c.holdings in omega arith

  mint_holds : (x : Thing) → 0 < held_in minter.holdings x → (0 < held_in c.holdings x) ⊎ New x
  mint_holds x h = either (held_in c.holdings x) (amount_of x es) refl refl (let z = held-mint_all x es c.holdings in omega arith)
    where
      either : (p q : ℕ) → held_in c.holdings x ≡ p → amount_of x es ≡ q → 0 < p + q → (0 < held_in c.holdings x) ⊎ New x
      either zero q e f h = inr (omega arith)
      either (suc p) q e f h = inl (omega arith)

  mint_new : (x : Thing) → New x → IsKnownWithOwner a minter.holdings x
  mint_new x n = (inr ((λ same. other (sym (theirs x n) ∙ same)), let z = held-mint_all x es c.holdings in omega arith), owner_known x n)

  minted : (x : Thing) → IsKnown a c.holdings x → IsKnown a minter.holdings x
  minted x k = still_known all a c minter ls mint_here (own_minted a es c.holdings) mint_kept New (λ x n. inl n) (λ x n. inl n) mint_holds mint_new x k

  minter_roots : IsRootsAt all a minter ls
  minter_roots =
      let same = own_minted a es c.holdings in
      record {
        named = carried_named all a c minter ls mint_here same mint_kept New (λ x n. inl n) (λ x n. inl n) mint_holds mint_new;
        owners = carried_owners all a c minter ls mint_here same mint_kept New (λ x n. inl n) (λ x n. inl n) mint_holds mint_new;
        mine = carried_mine all a c minter ls mint_here same mint_kept New (λ x n. inl n) (λ x n. inl n) mint_holds mint_new;
        right = mint_here.right;
        brought = λ n row out h is. mint_here.brought n row out
            (⊎_elim (λ old. old) (λ new. reach_more all (λ x r. walk x r) new) (walks all a c minter ls mint_here same mint_kept New (λ x n. inl n) (λ x n. inl n) mint_holds mint_new (Obj n) h)) is;
        led = λ n row got. reach_more all (λ x k. root (minted x k)) (mint_here.led n row got);
        letters = mint_here.letters;
        backed = λ x k own h. backed_more a c minter ls k x own (λ y own. let z = own-mint_all y es c.holdings in omega arith) (same_rows_more a c.holdings minter.holdings same) (mint_here.backed x k own h);
      }

  pub mint_keeps_roots : KeepsCounts options.Roots all ps (mint a c ls b es s)
  mint_keeps_roots =
      let s1 : Actors = set s a (seat minter ls) in
      let there1 : seat_at s1 b ≡ Some o = at_other s a (seat c ls) (seat minter ls) (present_below s a _ at) at b other ∙ there in
      let q = inv.sound b o.cell o.mail there in
      mint_put options.Roots all ps s inv a c ls at b es theirs (λ deep. absurd (let z : options.Roots ≡ options.Deep = deep in cc)) pos (o, there)
      (every_pushed (IsRootsAt all) s1 b (Inc es) o there1
      (record {
        named = q.named;
        owners = q.owners;
        mine = q.mine;
        right = q.right;
        brought = q.brought;
        led = q.led;
        letters = letters_push all o.mail (Inc es) tt q.letters;
        backed = backed_push b o.cell o.mail (Inc es) q.backed (λ x k own some. backs x k own (let z = (letter_Inc x es).0 in omega arith));
      })
      (every_set (IsRootsAt all) s a minter ls (present_below s a _ at) minter_roots inv.sound))

-- ---- one actor more

module _ (wt : ℕ) (heavy : 0 < wt) (all : Thing → Option Row) (ps : List Person) (s : Actors) (inv : KeepsCounts options.Roots all ps s)
    (a : ℕ) (c : Cell) (ls : List Letter) (at : seat_at s a ≡ seat c ls) (f : Frame) (frame : c.frame ≡ Some f) (into : ℕ)
    (fresh : Cell) (is_fresh : IsFresh wt fresh.holdings) (blank : (x : Thing) → ¬ StartsWalks fresh x) (unlearned : (x : Thing) → m.get fresh.known x ≡ None) where
  abbrev n : ℕ
  n = length s

  abbrev maker : Cell
  maker = record c { frame = Some (with_name f into n); holdings = gain wt (Actor n) None c.holdings }

  abbrev NewActor : Thing → Type 0
  NewActor x = x ≡ Actor n

  make_here : IsRootsAt all a c ls
  make_here = inv.sound a c ls at

  within : a < n
  within = present_below s a _ at

  make_same : SameOwn a c.holdings maker.holdings
  make_same = own_gained a (λ h. h + wt) (Actor n) None c.holdings

  make_kept : (x : Thing) → 0 < held_in c.holdings x → 0 < held_in maker.holdings x
  make_kept x h = let z = held_given wt n c.holdings x in omega arith

  make_holds : (x : Thing) → 0 < held_in maker.holdings x → (0 < held_in c.holdings x) ⊎ NewActor x
  make_holds x h = ⊎_elim inr (λ apart. inl (let z = held_given wt n c.holdings x in let w = given_other wt n x apart in omega arith)) (cases_thing x (Actor n))

  make_frame : (x : Thing) → InFrame maker.frame x → InFrame c.frame x ⊎ NewActor x
  make_frame x h = ⊎_elim
      (λ old. inl (subst (λ o. InFrame o x) (sym frame) old))
      (λ new. inr (is_named new))
      (set_names f.registers into (values.Actor n) x h)
    where
      is_named : {x : Thing} → Some (Actor n) ≡ Some x → x ≡ Actor n
      is_named e = cc

  known_new : IsKnown a maker.holdings (Actor n)
  known_new = inr ((λ same. let w = within in absurd (omega arith)), (let z = held_set_same (λ h. h + wt) (Actor n) (Actor n) None c.holdings refl in omega arith))

  make_new : (x : Thing) → NewActor x → IsKnownWithOwner a maker.holdings x
  make_new x e = subst (IsKnownWithOwner a maker.holdings) (sym e) (known_new, known_new)

  no_object : (x : Thing) → ReachesThrough all NewActor x → x ≡ Actor n
  no_object x h = reach_into all NewActor (λ x e. e) (λ x y r e f nm. absurd (let z = inv.bare n in let w = ap all e in none_some r (sym f ∙ w ∙ z))) (λ q e. absurd (obj_actor q e)) h
    where
      none_some : (r : Row) → Some r ≢ None
      none_some r e = cc

      obj_actor : (q : ObjName) → Obj q ≢ Actor n
      obj_actor q e = cc

  maker_roots : IsRootsAt all a maker ls
  maker_roots = record {
    named = carried_named all a c maker ls make_here make_same make_kept NewActor (λ x n. inl n) make_frame make_holds make_new;
    owners = carried_owners all a c maker ls make_here make_same make_kept NewActor (λ x n. inl n) make_frame make_holds make_new;
    mine = carried_mine all a c maker ls make_here make_same make_kept NewActor (λ x n. inl n) make_frame make_holds make_new;
    right = make_here.right;
    brought = λ q row out h is. make_here.brought q row out
        (⊎_elim (λ old. old) (λ new. absurd (obj_actor q (no_object (Obj q) new))) (walks all a c maker ls make_here make_same make_kept NewActor (λ x n. inl n) make_frame make_holds make_new (Obj q) h)) is;
    led = λ q row got. reach_more all (λ x k. root (still_known all a c maker ls make_here make_same make_kept NewActor (λ x n. inl n) make_frame make_holds make_new x k)) (make_here.led q row got);
    letters = make_here.letters;
    backed = λ x k own h. backed_more a c maker ls k x own (λ y own. let z = own_set_held (λ h. h + wt) y (Actor n) None c.holdings in omega arith) (same_rows_more a c.holdings maker.holdings make_same) (make_here.backed x k own h);
  }
    where
      obj_actor : (q : ObjName) → Obj q ≢ Actor n
      obj_actor q e = cc

  no_own : (i : ℕ) (q : ObjName) (row : Row) → own_row_of i fresh.holdings q ≢ Some row
  unfolding has_own
  no_own i q row e = let z = (own_row_has i fresh.holdings q row e).1 in let w = is_fresh.1 q.serial in cc

  fresh_named : (i : ℕ) (x : Thing) → ¬ IsNamedIn i fresh x
  fresh_named i x (by_field nm) = blank x (in_fields nm)
  fresh_named i x (by_frame nm) = blank x (in_frame nm)
  fresh_named i x (by_row q row e nm) = no_own i q row e

  only_itself : (i : ℕ) (x : Thing) → owner_of x ≡ i → has_own fresh.holdings x ≡ true → x ≡ Actor i
  unfolding has_own
  only_itself i (Actor j) o h = ap Actor o
  only_itself i (Obj q) o h = absurd (let w = is_fresh.1 q.serial in cc)

  fresh_walk : (i : ℕ) (x : Thing) → ReachesThrough all (WalkRoots i fresh) x → x ≡ Actor i
  fresh_walk i x h = reach_into all (λ x. x ≡ Actor i) from (λ x y r e f nm. absurd (let z = inv.bare i in let w = ap all e in none_some r (sym f ∙ w ∙ z))) (λ q e. absurd (obj_actor q e)) h
    where
      none_some : (r : Row) → Some r ≢ None
      none_some r e = cc

      obj_actor : (q : ObjName) → Obj q ≢ Actor i
      obj_actor q e = cc

      from : (x : Thing) → WalkRoots i fresh x → x ≡ Actor i
      from x (named nm) = absurd (fresh_named i x nm)
      from x (held k) = absurd (let z = fresh_held wt fresh.holdings is_fresh x in omega arith)
      from x (mine o k) = only_itself i x o k

  fresh_roots : (i : ℕ) → IsRootsAt all i fresh []
  fresh_roots i = record {
    named = λ x nm. absurd (fresh_named i x nm);
    owners = λ x h. absurd (let z = fresh_held wt fresh.holdings is_fresh x in omega arith);
    mine = λ q row e. absurd (no_own i q row e);
    right = λ q row got. absurd (let z = unlearned (Obj q) in cc);
    brought = λ q row out h is. absurd (obj_actor q (fresh_walk i (Obj q) h));
    led = λ q row got. absurd (let z = unlearned (Obj q) in cc);
    letters = tt;
    backed = λ x k own h. absurd (nothing x k h);
  }
    where
      obj_actor : (q : ObjName) → Obj q ≢ Actor i
      obj_actor q e = cc

      nothing : (x : Thing) (k : ℕ) → ¬ (0 < sum_by (inc_of x) (drop k []))
      nothing x zero h = absurd (omega (arith, sum-nil (inc_of x)))
      nothing x (suc k) h = absurd (omega (arith, sum-nil (inc_of x)))

  pub make_keeps_roots : KeepsCounts options.Roots all (set ps a (person_of maker ls) ++ person_of fresh [] ∷ []) (make wt a (record c { frame = Some (with_name f into n) }) ls fresh s)
  make_keeps_roots = make_put options.Roots wt heavy all ps s inv a c ls at (with_name f into n) fresh is_fresh
      (every_more (IsRootsAt all) (set s a (seat maker ls)) fresh [] (fresh_roots (length (set s a (seat maker ls))))
      (every_set (IsRootsAt all) s a maker ls within maker_roots inv.sound))

-- ---- members of a set go

-- a letter that loads a thing loads its owner
pub owner_loaded : (all : Thing → Option Row) (x : Thing) (ls : List Letter) → AreRootLetters all ls → 0 < sum_by (load_count x) ls → 0 < sum_by (load_count (Actor (owner_of x))) ls
owner_loaded all x [] ok h = absurd (omega (arith, sum-nil (load_count x)))
owner_loaded all x (App b args load rows ∷ ls) ok h = ⊎_elim
    (λ some.
    let z = ok.0.whole (Actor (owner_of x)) (owner_root args x (ok.0.only x some)) in
    omega (arith, (letter_App (Actor (owner_of x)) b args load rows).2, sum_by-cons (load_count (Actor (owner_of x))) (App b args load rows) ls))
    (λ none.
    let r = owner_loaded all x ls ok.1 (omega (arith, (letter_App x b args load rows).2, sum_by-cons (load_count x) (App b args load rows) ls)) in
    omega (arith, sum_by-cons (load_count (Actor (owner_of x))) (App b args load rows) ls))
    (some_or (times_loaded x load))
  where
    some_or : (n : ℕ) → (0 < n) ⊎ (n ≡ 0)
    some_or zero = inr refl
    some_or (suc n) = inl (omega arith)
owner_loaded all x (Inc es ∷ ls) ok h =
    let r = owner_loaded all x ls ok (omega (arith, (letter_Inc x es).2, sum_by-cons (load_count x) (Inc es) ls)) in omega (arith, sum_by-cons (load_count (Actor (owner_of x))) (Inc es) ls)
owner_loaded all x (Dec es ∷ ls) ok h =
    let r = owner_loaded all x ls ok (omega (arith, (letter_Dec x es).2, sum_by-cons (load_count x) (Dec es) ls)) in omega (arith, sum_by-cons (load_count (Actor (owner_of x))) (Dec es) ls)
owner_loaded all x (Confirm t ∷ ls) ok h =
    let r = owner_loaded all x ls ok (omega (arith, (letter_Confirm x t).2, sum_by-cons (load_count x) (Confirm t) ls)) in omega (arith, sum_by-cons (load_count (Actor (owner_of x))) (Confirm t) ls)

module _ (all : Thing → Option Row) (ps : List Person) (s : Actors) (inv : KeepsCounts options.Roots all ps s) (ms : List ℕ)
    (ins : AllIn ms ms) (is_sealed : AllSealed s ms)
    (alone : (m i : ℕ) (c : Cell) (ls : List Letter) → has ms m ≡ true → has ms i ≡ false → seat_at s i ≡ seat c ls → (held_in c.holdings (Actor m) ≡ 0) × (sum_by (load_count (Actor m)) ls ≡ 0)) where
  some_or_none : (k : ℕ) → (k ≡ 0) ⊎ (0 < k)
  some_or_none zero = inl refl
  some_or_none (suc k) = inr (omega arith)

  -- who holds a thing of a member holds the member
  held_none : (x : Thing) (i : ℕ) (c : Cell) (ls : List Letter) → has ms (owner_of x) ≡ true → has ms i ≡ false → seat_at s i ≡ seat c ls → held_in c.holdings x ≡ 0
  held_none x i c ls inside out at = ⊎_elim (λ z. z) (λ some. absurd (by_known ((inv.sound i c ls at).owners x some))) (some_or_none (held_in c.holdings x))
    where
      by_known : ¬ IsKnown i c.holdings (Actor (owner_of x))
      by_known (inl own) = let z = ap (has ms) own.0 in cc
      by_known (inr other) = let z = (alone (owner_of x) i c ls inside out at).0 in let w = other.1 in absurd (omega arith)

  loads_none : (x : Thing) (i : ℕ) (c : Cell) (ls : List Letter) → has ms (owner_of x) ≡ true → has ms i ≡ false → seat_at s i ≡ seat c ls → sum_by (load_count x) ls ≡ 0
  loads_none x i c ls inside out at = ⊎_elim (λ z. z)
      (λ some. absurd (let z = (alone (owner_of x) i c ls inside out at).1 in let w = owner_loaded all x ls (inv.sound i c ls at).letters some in omega arith))
      (some_or_none (sum_by (load_count x) ls))

  pub reap_keeps_roots : KeepsCounts options.Roots all ps (reap_members ms s)
  reap_keeps_roots = reap_put options.Roots all ps s inv ms ins is_sealed held_none loads_none
      (every_reap (IsRootsAt all) (λ es. roots_push all (Dec es) tt (λ x. (letter_Dec x es).0)) ms s inv.sound)
