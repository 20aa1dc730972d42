-- With root-only tracing: who takes a letter knows what it should.
use Rattle.std.proofs.Common.{◌≡◌, ◌≢◌, ◌⊎◌, ℕ, zero, suc, ◌+◌, ◌<◌, ◌==◌, Bool, cond, true, false, Option, Some, None, List, [], ◌∷◌, length-set, drop, take, refl, sym, ◌∙◌, ap, arith, subst, inl, inr, ⊎_elim, eq-eqb, ne_eqb}
use Rattle.std.specs.Prelude.{sum_by}
use Rattle.std.specs.FinMap as m
use Rattle.std.specs.Option.{option_map_or}
use Rattle.std.proofs.lemmas.Bool.{cases_eq}
use Rattle.std.proofs.lemmas.List.Sums.{sum_by-cons}
use Rattle.orca_names.proofs.ThingOrder.{cases_thing, is_eq_true, is_ne_false, thing_total}
use Rattle.orca_names.specs.Names.{owner_of, thing_cmp}
use Rattle.orca_names.specs.declared.names.ObjName.{ObjName}
use Rattle.orca_names.specs.declared.names.Thing.{Thing}
use Rattle.orca_names.specs.declared.names.Thing.TheVariants.{Actor, Obj}
use Rattle.orca_names.specs.declared.names.Value.{Value}
use Rattle.behaviour_code.specs.declared.code.Program.{Program}
use Rattle.turn_rules.specs.declared.act.Frame.{Frame}
use Rattle.reach_walk.specs.Reach.{root, owned}
use Rattle.letter_kinds.proofs.Counts.{held-receive, held-receive_own, loaded-nil, loaded-other, loaded-same, loaded_more}
use Rattle.letter_kinds.specs.Counting.{Loaded, receive}
use Rattle.letter_kinds.specs.Holdings.{Holdings, Row, has_own, held_in, own_in}
use Rattle.letter_kinds.specs.Sums.{dec_of, inc_of, load_count, times_loaded}
use Rattle.letter_kinds.specs.Letters.{Letter, App, Inc, Dec, Confirm}
use Rattle.count_laws.proofs.agreement.Agreeing.{agrees_set}
use Rattle.count_laws.proofs.balance.InHand.{take_letter}
use Rattle.count_laws.proofs.knowledge.Paths.{reach_into, reach_more}
use Rattle.count_laws.proofs.roots.Left.{inc_there}
use Rattle.count_laws.proofs.roots.Same.{SameOwn, backed_on, carried_mine, carried_named, carried_owners, own_alike, own_received, same_rows_more, walks}
use Rattle.count_laws.proofs.balance.SeatReads.{letter_App}
use Rattle.machine_rules.proofs.Present.{present_below}
use Rattle.count_laws.proofs.events.Take.{Alike, alike_lower, alike_put, alike_raise, alike_self, firm_receive, load_there, next_receive, people_after, starts_named, take_put, held_alike}
use Rattle.count_laws.proofs.balance.Takes.{own-taken}
use Rattle.machine_rules.specs.Actors.{Actors, seat, seat_at}
use Rattle.count_laws.specs.Agreement.{Person, app_letters}
use Rattle.count_laws.specs.Prefixes.{IsCoveredAt}
use Rattle.machine_rules.specs.Cell.{Cell}
use Rattle.count_laws.specs.Facts.{KeepsCounts}
use Rattle.count_laws.specs.Known.{InFrame, IsKnown, Names, ReachesThrough, RowsAreIn}
use Rattle.count_laws.specs.KnownByRoots.{AreRootLetters, IsBacked, IsKnownWithOwner, IsRootLetter, IsRootOf, IsRootsAt, WalkRoots, stands, owns}
use Rattle.orca_names.specs.declared.trace.Trace.TheVariants as options
use Rattle.plain_rules.specs.Machine.{frame_of}
use Rattle.machine_rules.specs.Take.{cell_after, learn}
use Rattle.plain_rules.specs.declared.PlainLetter.{PlainLetter}

-- ---- rows that are learnt

abbrev KnownRows : Type 0
KnownRows = m.FinMap thing_cmp Row

get_added : (known : KnownRows) (y x : Thing) (row : Row) → x ≡ y → m.get (m.insert known y row) x ≡ Some row
get_added known y x row e = rw (m.get-insert thing_total) (rw (is_eq_true x y e) refl)

get_other : (known : KnownRows) (y x : Thing) (row : Row) → x ≢ y → m.get (m.insert known y row) x ≡ m.get known x
get_other known y x row e = rw (m.get-insert thing_total) (rw (is_ne_false x y e) refl)

module _ (all : Thing → Option Row) (me : ℕ) where
  -- what one row more leaves: what was there, or the row
  added : (P : KnownRows → Type 0) (e : Loaded) (known : KnownRows) → P known → ((row : Row) → e.1 ≡ Some row → owner_of e.0 ≢ me → P (m.insert known e.0 row))
      → P (option_map_or (λ row. cond (owner_of e.0 == me) known (m.insert known e.0 row)) e.1 known)
  added P e known old new = by_row e.1 refl
    where
      by_row : (o : Option Row) → e.1 ≡ o → P (option_map_or (λ row. cond (owner_of e.0 == me) known (m.insert known e.0 row)) o known)
      by_row None is = old
      by_row (Some row) is = ⊎_elim
          (λ same. rw (eq-eqb (owner_of e.0) me same) old)
          (λ other. rw (ne_eqb (owner_of e.0) me other) (new row is other))
          (cases_eq (owner_of e.0) me)

  pub learn_right : (es : List Loaded) (known : KnownRows) → RowsAreIn all es → ((n : ObjName) (row : Row) → m.get known (Obj n) ≡ Some row → all (Obj n) ≡ Some row)
      → (n : ObjName) (row : Row) → m.get (learn me es known) (Obj n) ≡ Some row → all (Obj n) ≡ Some row
  unfolding learn
  learn_right [] known ins right = right
  learn_right (e ∷ es) known ins right = learn_right es _ ins.1
      (added (λ k. (n : ObjName) (row : Row) → m.get k (Obj n) ≡ Some row → all (Obj n) ≡ Some row) e known right
      (λ row is other n r got. ⊎_elim
      (λ same. ap all same ∙ (sym ins.0 ∙ (is ∙ (sym (get_added known e.0 (Obj n) row same) ∙ got))))
      (λ apart. right n r (sym (get_other known e.0 (Obj n) row apart) ∙ got))
      (cases_thing (Obj n) e.0)))

  -- of whatever a row is learnt, it stood among those that came, or the row was there
  pub learn_only : (P : Thing → Type 0) (es : List Loaded) (known : KnownRows) → ((x : Thing) → 0 < times_loaded x es → P x) → ((n : ObjName) (row : Row) → m.get known (Obj n) ≡ Some row → P (Obj n))
      → (n : ObjName) (row : Row) → m.get (learn me es known) (Obj n) ≡ Some row → P (Obj n)
  unfolding learn
  learn_only P [] known came was = was
  learn_only P (e ∷ es) known came was = learn_only P es _ (λ x some. came x (loaded_more x e es some))
      (added (λ k. (n : ObjName) (row : Row) → m.get k (Obj n) ≡ Some row → P (Obj n)) e known was
      (λ row is other n r got. ⊎_elim
      (λ same. came (Obj n) (let z = loaded-same (Obj n) e es same in omega arith))
      (λ apart. was n r (sym (get_other known e.0 (Obj n) row apart) ∙ got))
      (cases_thing (Obj n) e.0)))

  pub learn_keeps : (es : List Loaded) (known : KnownRows) → RowsAreIn all es → (x : Thing) (row : Row) → all x ≡ Some row → m.get known x ≡ Some row → m.get (learn me es known) x ≡ Some row
  unfolding learn
  learn_keeps [] known ins x row is got = got
  learn_keeps (e ∷ es) known ins x row is got = learn_keeps es _ ins.1 x row is
      (added (λ k. m.get k x ≡ Some row) e known got
      (λ r mine other. ⊎_elim
      (λ same. get_added known e.0 x r same ∙ (sym mine ∙ (ins.0 ∙ (ap all (sym same) ∙ is))))
      (λ apart. get_other known e.0 x r apart ∙ got)
      (cases_thing x e.0)))

  pub learn_new : (es : List Loaded) (known : KnownRows) → RowsAreIn all es → (x : Thing) (row : Row) → owner_of x ≢ me → 0 < times_loaded x es → all x ≡ Some row → m.get (learn me es known) x ≡ Some row
  unfolding learn
  learn_new [] known ins x row other some is = absurd (omega (arith, loaded-nil x))
  learn_new (e ∷ es) known ins x row other some is = ⊎_elim
      (λ same.
      let mine : e.1 ≡ Some row = ins.0 ∙ ap all (sym same) ∙ is in
      let apart : owner_of e.0 ≢ me = λ o. other (ap owner_of same ∙ o) in
      learn_keeps es _ ins.1 x row is (rw (mine, ne_eqb (owner_of e.0) me apart) (get_added known e.0 x row same)))
      (λ apart. learn_new es _ ins.1 x row other (let z = loaded-other x e es apart in omega arith) is)
      (cases_thing x e.0)

-- what comes with a letter is what its arguments reach
pub root_reached : (all : Thing → Option Row) (args : List Value) (x : Thing) → IsRootOf args x → ReachesThrough all (Names args) x
root_reached all args x (stands n) = root n
root_reached all args y (owns {x = x} n) = up x (root n)
  where
    up : (x : Thing) → ReachesThrough all (Names args) x → ReachesThrough all (Names args) (Actor (owner_of x))
    up (Actor b) h = h
    up (Obj n) h = owned h

pub owner_root : (args : List Value) (x : Thing) → IsRootOf args x → IsRootOf args (Actor (owner_of x))
owner_root args x (stands n) = owns n
owner_root args y (owns {x = x} n) = owns {x = x} n

-- ---- an application letter

module _ (all : Thing → Option Row) (bare : (b : ℕ) → all (Actor b) ≡ None) (a : ℕ) (c : Cell) (mail : List Letter) (here : IsRootsAt all a c mail) (args : List Value) (load rows : List Loaded)
    (ok : IsRootLetter all args load rows) (frame : Option Frame) (starts : (x : Thing) → InFrame frame x → Names args x)
    (mine : (x : Thing) → owner_of x ≡ a → 0 < times_loaded x load → has_own c.holdings x ≡ true) where
  abbrev pub after : Cell
  after = record c { frame = frame; holdings = receive a load c.holdings; known = learn a rows c.known; dirty = true; reported = false }

  abbrev New : Thing → Type 0
  New x = IsRootOf args x

  same : SameOwn a c.holdings after.holdings
  same = own_received a load c.holdings

  kept : (x : Thing) → 0 < held_in c.holdings x → 0 < held_in after.holdings x
  kept x h = ⊎_elim
      (λ own. let z = held-receive_own a x load c.holdings own in omega arith)
      (λ other. let z = held-receive a x load c.holdings other in omega arith)
      (cases_eq (owner_of x) a)

  holds : (x : Thing) → 0 < held_in after.holdings x → (0 < held_in c.holdings x) ⊎ New x
  holds x h = ⊎_elim
      (λ own. inl (let z = held-receive_own a x load c.holdings own in omega arith))
      (λ other. either (held_in c.holdings x) (times_loaded x load) refl refl (let z = held-receive a x load c.holdings other in omega arith))
      (cases_eq (owner_of x) a)
    where
      either : (p q : ℕ) → held_in c.holdings x ≡ p → times_loaded x load ≡ q → 0 < p + q → (0 < held_in c.holdings x) ⊎ New x
      either zero q e f h = inr (ok.only x (omega arith))
      either (suc p) q e f h = inl (omega arith)

  loaded_known : (x : Thing) → 0 < times_loaded x load → IsKnown a after.holdings x
  loaded_known x h = ⊎_elim
      (λ own. inl (own, same.has x ∙ mine x own h))
      (λ other. inr (other, let z = held-receive a x load c.holdings other in omega arith))
      (cases_eq (owner_of x) a)

  new_known : (x : Thing) → New x → IsKnownWithOwner a after.holdings x
  new_known x n = (loaded_known x (ok.whole x n), loaded_known (Actor (owner_of x)) (ok.whole (Actor (owner_of x)) (owner_root args x n)))

  still : (x : Thing) → IsKnown a c.holdings x → IsKnown a after.holdings x
  still x (inl own) = inl (own.0, same.has x ∙ own.1)
  still x (inr other) = inr (other.0, kept x other.1)

  frames : (x : Thing) → InFrame after.frame x → InFrame c.frame x ⊎ New x
  frames x n = inr (stands (starts x n))

  brought : (n : ObjName) (row : Row) → n.owner ≢ a → ReachesThrough all (WalkRoots a after) (Obj n) → all (Obj n) ≡ Some row → m.get after.known (Obj n) ≡ Some row
  brought n row other h is = ⊎_elim
      (λ old. learn_keeps all a rows c.known ok.rows.rows (Obj n) row is (here.brought n row other old is))
      (λ new. learn_new all a rows c.known ok.rows.rows (Obj n) row other (ok.rows.whole (Obj n) (reach_more all (λ x r. root_reached all args x r) new)) is)
      (walks all a c after mail here same kept New (λ x n. inl n) frames holds new_known (Obj n) h)

  pub app_roots : (ls : List Letter) → AreRootLetters all ls → ((x : Thing) (k : ℕ) → owner_of x ≡ a → 0 < sum_by (inc_of x) (drop k ls) → IsBacked a after ls k x) → IsRootsAt all a after ls
  app_roots ls letters backed = record {
    named = carried_named all a c after mail here same kept New (λ x n. inl n) frames holds new_known;
    owners = carried_owners all a c after mail here same kept New (λ x n. inl n) frames holds new_known;
    mine = carried_mine all a c after mail here same kept New (λ x n. inl n) frames holds new_known;
    right = learn_right all a rows c.known ok.rows.rows here.right;
    brought = brought;
    led = learn_only all a (λ x. ReachesThrough all (IsKnown a after.holdings) x) rows c.known
        (λ x some. reach_more all (λ y n. root (new_known y (stands n)).0) (ok.rows.reached x some))
        (λ n row got. reach_more all (λ y k. root (still y k)) (here.led n row got));
    letters = letters;
    backed = backed;
  }

-- ---- where nothing new is known

-- fields, frame and the rows that letters brought are the same, and it holds what it held
module _ (all : Thing → Option Row) (a : ℕ) (c d : Cell) (mail : List Letter) (here : IsRootsAt all a c mail) (same : SameOwn a c.holdings d.holdings)
    (kept' : (x : Thing) → 0 < held_in c.holdings x → 0 < held_in d.holdings x) (before : (x : Thing) → 0 < held_in d.holdings x → 0 < held_in c.holdings x)
    (fields : d.fields.values ≡ c.fields.values) (frame : d.frame ≡ c.frame) (known : d.known ≡ c.known) where
  holds' : (x : Thing) → 0 < held_in d.holdings x → (0 < held_in c.holdings x) ⊎ ⊥
  holds' x h = inl (before x h)

  fields' : (x : Thing) → Names d.fields.values x → Names c.fields.values x ⊎ ⊥
  fields' x n = inl (subst (λ vs. Names vs x) fields n)

  frame' : (x : Thing) → InFrame d.frame x → InFrame c.frame x ⊎ ⊥
  frame' x n = inl (subst (λ f. InFrame f x) frame n)

  no_new : (x : Thing) → ⊥ → IsKnownWithOwner a d.holdings x
  no_new x e = absurd e

  same_walk : (x : Thing) → ReachesThrough all (WalkRoots a d) x → ReachesThrough all (WalkRoots a c) x
  same_walk x h = ⊎_elim (λ old. old) (λ new. absurd (reach_into all (λ x. ⊥) (λ x e. e) (λ x y r p e n. p) (λ n p. p) new))
      (walks all a c d mail here same kept' (λ x. ⊥) fields' frame' holds' no_new x h)

  still' : (x : Thing) → IsKnown a c.holdings x → IsKnown a d.holdings x
  still' x (inl own) = inl (own.0, same.has x ∙ own.1)
  still' x (inr other) = inr (other.0, kept' x other.1)

  pub still_roots : (ls : List Letter) → AreRootLetters all ls → ((x : Thing) (k : ℕ) → owner_of x ≡ a → 0 < sum_by (inc_of x) (drop k ls) → IsBacked a d ls k x) → IsRootsAt all a d ls
  still_roots ls letters backed = record {
    named = carried_named all a c d mail here same kept' (λ x. ⊥) fields' frame' holds' no_new;
    owners = carried_owners all a c d mail here same kept' (λ x. ⊥) fields' frame' holds' no_new;
    mine = carried_mine all a c d mail here same kept' (λ x. ⊥) fields' frame' holds' no_new;
    right = λ n row got. here.right n row (sym (ap (λ k. m.get k (Obj n)) known) ∙ got);
    brought = λ n row other h is. ap (λ k. m.get k (Obj n)) known ∙ here.brought n row other (same_walk (Obj n) h) is;
    led = λ n row got. reach_more all (λ x k. root (still' x k)) (here.led n row (sym (ap (λ k. m.get k (Obj n)) known) ∙ got));
    letters = letters;
    backed = backed;
  }

pub same_roots : (all : Thing → Option Row) (a : ℕ) (c d : Cell) (mail : List Letter) (here : IsRootsAt all a c mail) (same : SameOwn a c.holdings d.holdings)
    (held_same : (x : Thing) → held_in d.holdings x ≡ held_in c.holdings x) (fields : d.fields.values ≡ c.fields.values) (frame : d.frame ≡ c.frame) (known : d.known ≡ c.known)
    (ls : List Letter) → AreRootLetters all ls → ((x : Thing) (k : ℕ) → owner_of x ≡ a → 0 < sum_by (inc_of x) (drop k ls) → IsBacked a d ls k x) → IsRootsAt all a d ls
same_roots all a c d mail here same held_same fields frame known ls letters backed =
    still_roots all a c d mail here same (λ x h. let z = held_same x in omega arith) (λ x h. let z = held_same x in omega arith) fields frame known ls letters backed

-- ---- take

-- what the first letter takes from a count of an own thing, it takes
taken_backed : (a : ℕ) (c d : Cell) (l : Letter) (ls : List Letter) → ((y : Thing) → owner_of y ≡ a → own_in d.holdings y + load_count y l + dec_of y l ≡ own_in c.holdings y + inc_of y l)
    → SameOwn a c.holdings d.holdings → ((x : Thing) (k : ℕ) → owner_of x ≡ a → 0 < sum_by (inc_of x) (drop k (l ∷ ls)) → IsBacked a c (l ∷ ls) k x)
    → (x : Thing) (k : ℕ) → owner_of x ≡ a → 0 < sum_by (inc_of x) (drop k ls) → IsBacked a d ls k x
taken_backed a c d l ls took same old x k o h = backed_on a c d (l ∷ ls) ls (suc k) k
    (λ y own counted. omega (
      arith,
      took y own,
      sum_by-cons (dec_of y) l (take k ls),
      sum_by-cons (load_count y) l (take k ls),
      sum_by-cons (inc_of y) l (take k ls),
    ))
    (same_rows_more a c.holdings d.holdings same) x o (old x (suc k) o h)

module _ (program : Program) (all : Thing → Option Row) (ps : List Person) (s : Actors) (inv : KeepsCounts options.Roots all ps s)
    (a : ℕ) (c : Cell) (l : Letter) (ls : List Letter) (at : seat_at s a ≡ seat c (l ∷ ls)) where
  here : IsRootsAt all a c (l ∷ ls)
  here = inv.sound a c (l ∷ ls) at

  has : (x : Thing) → owner_of x ≡ a → 0 < inc_of x l → has_own c.holdings x ≡ true
  has x o h = inc_there all a c (l ∷ ls) here x o (omega (arith, sum_by-cons (inc_of x) l ls))

  took : (y : Thing) → owner_of y ≡ a → own_in (cell_after program a l c).holdings y + load_count y l + dec_of y l ≡ own_in c.holdings y + inc_of y l
  took y o = own-taken program a y c ls options.Roots l o (subst (IsCoveredAt options.Roots y) (ap (seat_at s) o ∙ at) (inv.prefixes y)) (has y o)

  alike_take : (h : Holdings) (dirty reported : Bool) → cell_after program a l c ≡ record c { holdings = h; dirty = dirty; reported = reported } → Alike a c.holdings h → app_letters (l ∷ ls) ≡ app_letters ls → AreRootLetters all ls
      → KeepsCounts options.Roots all ps (take_letter program a c l ls s)
  alike_take h dirty reported is p e letters =
      let d : Cell = record c { holdings = h; dirty = dirty; reported = reported } in
      let took' : (y : Thing) → owner_of y ≡ a → own_in h y + load_count y l + dec_of y l ≡ own_in c.holdings y + inc_of y l = subst (λ (d : Cell). (y : Thing) → owner_of y ≡ a → own_in d.holdings y + load_count y l + dec_of y l ≡ own_in c.holdings y + inc_of y l) is took in
      alike_put options.Roots program all ps s inv a c l ls at has h dirty reported is p e
      (subst (λ d. IsRootsAt all a d ls) (sym is)
      (same_roots all a c d (l ∷ ls) here (own_alike a c.holdings h p) (held_alike a c.holdings h p) refl refl refl ls letters (taken_backed a c d l ls took' (own_alike a c.holdings h p) here.backed)))

pub take_keeps_roots : (program : Program) (all : Thing → Option Row) (ps : List Person) (s : Actors) (inv : KeepsCounts options.Roots all ps s)
    (a : ℕ) (c : Cell) (l : Letter) (ls : List Letter) (at : seat_at s a ≡ seat c (l ∷ ls)) → KeepsCounts options.Roots all (people_after program a c l ls ps) (take_letter program a c l ls s)
take_keeps_roots program all ps s inv a c (App b args load rows) ls at =
    let l = App b args load rows in
    let letter : PlainLetter = record { behaviour = b; args = args } in
    let q = inv.sound a c (l ∷ ls) at in
    let there = has program all ps s inv a c l ls at in
    let mine : (x : Thing) → owner_of x ≡ a → 0 < times_loaded x load → has_own c.holdings x ≡ true = λ x o h.
    let w = letter_App x b args load rows in load_there options.Roots program all ps s inv a c l ls at there x o (omega (arith, w.2)) w.0 in
    let f = frame_of program c.kind letter in
    take_put options.Roots program all ps s inv a c l ls at there _ (length-set ps a _)
    (app_roots all inv.bare a c (l ∷ ls) q args load rows q.letters.0 f (starts_named program c.kind letter) mine ls q.letters.1
    (taken_backed a c (cell_after program a l c) l ls (took program all ps s inv a c l ls at) (own_received a load c.holdings) q.backed))
    (next_receive a load c.holdings)
    (firm_receive a load c.holdings (inv.firm a c (l ∷ ls) at))
    (agrees_set ps s a c _ (l ∷ ls) ls at (let z = present_below s a _ at in let w = inv.long in omega arith) inv.agrees)
take_keeps_roots program all ps s inv a c (Inc es) ls at = alike_take program all ps s inv a c (Inc es) ls at _ true false refl (alike_raise a es c.holdings) refl (inv.sound a c (Inc es ∷ ls) at).letters
take_keeps_roots program all ps s inv a c (Dec es) ls at = alike_take program all ps s inv a c (Dec es) ls at _ true false refl (alike_lower a es c.holdings) refl (inv.sound a c (Dec es ∷ ls) at).letters
take_keeps_roots program all ps s inv a c (Confirm t) ls at = alike_take program all ps s inv a c (Confirm t) ls at c.holdings c.dirty c.reported refl (alike_self a c.holdings) refl (inv.sound a c (Confirm t ∷ ls) at).letters
