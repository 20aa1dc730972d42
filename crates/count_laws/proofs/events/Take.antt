-- A take keeps all that is kept of the counts.
use Rattle.behaviour_code.specs.Find.{behaviours_of, takes_call}
use Rattle.behaviour_code.specs.declared.code.Program.{Program}
use Rattle.letter_kinds.proofs.Counts.{cond_eq, cond_ne, has_set_own, counted_has}
use Rattle.letter_kinds.specs.Counting.{Amount, Loaded, set_own, lower, set_held, gain, raise_all, lower_all, receive_one, receive}
use Rattle.letter_kinds.specs.Holdings.{Entries, Holdings, Row, own_in, held_in, has_own, entry_count}
use Rattle.letter_kinds.specs.Sums.{inc_of, times_loaded, load_count}
use Rattle.letter_kinds.specs.Letters.{App, Inc, Dec, Confirm}
use Rattle.letter_kinds.specs.Letters.{Letter}
use Rattle.count_laws.proofs.agreement.Agreeing.{agrees_set, agrees_same}
use Rattle.count_laws.proofs.events.Every.{every_set}
use Rattle.count_laws.proofs.balance.InHand.{take_letter, in_hand, out_of_hand}
use Rattle.count_laws.proofs.knowledge.Naming.{padded_names}
use Rattle.count_laws.proofs.knowledge.Paths.{reach_more}
use Rattle.count_laws.proofs.knowledge.Receiving.{get_other, row_set_own, take_closed, take_rows}
use Rattle.count_laws.proofs.balance.Safety.{safe_first, safe_inc}
use Rattle.count_laws.proofs.balance.SeatReads.{letter_App}
use Rattle.machine_rules.proofs.Present.{present_below}
use Rattle.count_laws.proofs.balance.Takes.{take_balanced, take_prefix}
use Rattle.machine_rules.specs.Actors.{Actors, seat_at, seat}
use Rattle.count_laws.specs.Agreement.{Person, person_of, Agrees, app_letters}
use Rattle.count_laws.specs.Prefixes.{IsCoveredAt}
use Rattle.machine_rules.specs.Cell.{Cell}
use Rattle.orca_names.specs.declared.trace.Trace.{Trace}
use Rattle.orca_names.specs.declared.trace.Trace.TheVariants.{Deep}
use Rattle.count_laws.specs.Facts.{IsFirm, IsFirmAt, KeepsCounts, IsSound}
use Rattle.count_laws.specs.Known.{Names, IsKnown, InFrame, StartsWalks, in_fields, in_frame, in_table, IsClosedAt, RowsAreAt, row_at, IsSoundAt}
use Rattle.plain_rules.specs.Machine.{frame_of}
use Rattle.turn_rules.specs.Frames.{registers_of}
use Rattle.machine_rules.specs.Take.{cell_after, learn}
use Rattle.plain_rules.specs.declared.PlainLetter.{PlainLetter}
use Rattle.orca_names.proofs.ThingOrder.{is_eq_true, cases_thing, thing_total}
use Rattle.orca_names.specs.Names.{owner_of}
use Rattle.orca_names.specs.declared.names.Thing.TheVariants.{Actor, Obj}
use Rattle.orca_names.specs.declared.names.Thing.{Thing}
use Rattle.reach_walk.specs.Reach.{root}
use Rattle.std.proofs.Common.{◌≡◌, ℕ, ◌+◌, ◌-◌, ◌<◌, ◌==◌, cond, Bool, true, false, Option, Some, None, List, [], ◌∷◌, length, set, refl, sym, ◌∙◌, ap, arith, subst, inl, inr, ⊎_elim, length-set}
use Rattle.std.proofs.lemmas.Bool.{cases_eq}
use Rattle.std.specs.FinMap as m
use Rattle.std.specs.Prelude.{option_map, position}

-- all but the own counts is as it was
pub record Alike (me : ℕ) (c d : Holdings) : Type 0 where
  pub foreign : d.foreign ≡ c.foreign
  pub next : d.next ≡ c.next
  pub has : (x : Thing) → has_own d x ≡ has_own c x
  pub rows : (x : Thing) → row_at me d x ≡ row_at me c x

pub alike_self : (me : ℕ) (c : Holdings) → Alike me c c
alike_self me c = record { foreign = refl; next = refl; has = λ x. refl; rows = λ x. refl }

alike_then : (me : ℕ) (c d e : Holdings) → Alike me c d → Alike me d e → Alike me c e
alike_then me c d e p q = record {
  foreign = q.foreign ∙ p.foreign;
  next = q.next ∙ p.next;
  has = λ x. q.has x ∙ p.has x;
  rows = λ x. q.rows x ∙ p.rows x;
}

pub alike_own : (me : ℕ) (f : ℕ → ℕ) (y : Thing) (c : Holdings) → Alike me c (set_own f y c)
unfolding set_own
alike_own me f (Actor a) c = record { foreign = refl; next = refl; has = λ x. has_set_own f x (Actor a) c; rows = λ x. row_set_own me f (Actor a) x c }
alike_own me f (Obj n) c = record { foreign = refl; next = refl; has = λ x. has_set_own f x (Obj n) c; rows = λ x. row_set_own me f (Obj n) x c }

alike_if : (me : ℕ) (b : Bool) (f : ℕ → ℕ) (y : Thing) (c : Holdings) → Alike me c (cond b (set_own f y c) c)
alike_if me true f y c = alike_own me f y c
alike_if me false f y c = alike_self me c

pub alike_raise : (me : ℕ) (es : List Amount) (c : Holdings) → Alike me c (raise_all me es c)
unfolding raise_all
alike_raise me [] c = alike_self me c
alike_raise me (e ∷ es) c = alike_then me c _ _ (alike_if me (owner_of e.0 == me) (λ h. h + e.1) e.0 c) (alike_raise me es _)

pub alike_lower : (me : ℕ) (es : List Amount) (c : Holdings) → Alike me c (lower_all me es c)
unfolding lower_all
alike_lower me [] c = alike_self me c
alike_lower me (e ∷ es) c = alike_then me c _ _ (alike_if me (owner_of e.0 == me) (λ h. h - e.1) e.0 c) (alike_lower me es _)

pub held_alike : (me : ℕ) (c d : Holdings) → Alike me c d → (x : Thing) → held_in d x ≡ held_in c x
unfolding held_in
held_alike me c d p x = ap (λ (t : Entries). entry_count (m.get t x)) p.foreign

module _ (all : Thing → Option Row) (me : ℕ) (c : Cell) (h : Holdings) (dirty reported : Bool) (alike : Alike me c.holdings h) where
  abbrev changed : Cell
  changed = record c { holdings = h; dirty = dirty; reported = reported }

  alike_back : (x : Thing) → IsKnown me h x → IsKnown me c.holdings x
  alike_back x (inl own) = inl (own.0, sym (alike.has x) ∙ own.1)
  alike_back x (inr other) = inr (other.0, subst (λ n. 0 < n) (held_alike me c.holdings h alike x) other.1)

  alike_on : (x : Thing) → IsKnown me c.holdings x → IsKnown me h x
  alike_on x (inl own) = inl (own.0, alike.has x ∙ own.1)
  alike_on x (inr other) = inr (other.0, subst (λ n. 0 < n) (sym (held_alike me c.holdings h alike x)) other.1)

  alike_root : (x : Thing) → StartsWalks changed x → StartsWalks c x
  alike_root x (in_fields k) = in_fields k
  alike_root x (in_frame k) = in_frame k
  alike_root x (in_table k) = in_table (subst (λ n. 0 < n) (held_alike me c.holdings h alike x) k)

  pub alike_closed : IsClosedAt all me c → IsClosedAt all me changed
  alike_closed closed x k = alike_on x (closed x (reach_more _ (λ x r. root (alike_root x r)) k))

  pub alike_rows : RowsAreAt all me c.holdings → RowsAreAt all me h
  alike_rows rows x k = alike.rows x ∙ rows x (alike_back x k)

pub alike_firm : (me : ℕ) (c d : Holdings) → Alike me c d → IsFirm c → IsFirm d
alike_firm me c d p f x e is = f x e (ap (λ t. m.get t x) (sym p.foreign) ∙ is)

-- ---- at least 1 of each, through a load received

get_same : (es : Entries) (y x : Thing) (v : ℕ × Option Row) → x ≡ y → m.get (m.insert es y v) x ≡ Some v
get_same es y x v e = rw (m.get-insert thing_total) (rw (is_eq_true x y e) refl)

pub firm_set_held : (f : ℕ → ℕ) (y : Thing) (r : Option Row) (c : Holdings) → 0 < f (held_in c y) → IsFirm c → IsFirm (set_held f y r c)
unfolding set_held
firm_set_held f y r c pos firm x e is = ⊎_elim
    (λ same. let z : Some (f (held_in c y), r) ≡ Some e = sym (get_same c.foreign y x (f (held_in c y), r) same) ∙ is in let w = ap (entry_count) z in omega arith)
    (λ other. firm x e (sym (get_other c.foreign y x (f (held_in c y), r) other) ∙ is))
    (cases_thing x y)

pub firm_set_own : (f : ℕ → ℕ) (y : Thing) (c : Holdings) → IsFirm c → IsFirm (set_own f y c)
firm_set_own f y c firm = alike_firm 0 c (set_own f y c) (alike_own 0 f y c) firm

pub firm_receive : (me : ℕ) (es : List Loaded) (c : Holdings) → IsFirm c → IsFirm (receive me es c)
unfolding receive
firm_receive me [] c firm = firm
firm_receive me (e ∷ es) c firm = firm_receive me es (receive_one me e c) (⊎_elim
    (λ same. rw (cond_eq (owner_of e.0) me (lower 1 e.0 c) (gain 1 e.0 e.1 c) same) (firm_set_own (λ h. h - 1) e.0 c firm))
    (λ other. rw (cond_ne (owner_of e.0) me (lower 1 e.0 c) (gain 1 e.0 e.1 c) other) (firm_set_held (λ h. h + 1) e.0 e.1 c (omega arith) firm))
    (cases_eq (owner_of e.0) me))

pub next_own : (f : ℕ → ℕ) (y : Thing) (c : Holdings) → (set_own f y c).next ≡ c.next
next_own f y c = (alike_own 0 f y c).next

pub next_held : (f : ℕ → ℕ) (y : Thing) (r : Option Row) (c : Holdings) → (set_held f y r c).next ≡ c.next
unfolding set_held
next_held f y r c = refl

next_one : (me : ℕ) (e : Loaded) (c : Holdings) (b : Bool) → (cond b (lower 1 e.0 c) (gain 1 e.0 e.1 c)).next ≡ c.next
next_one me e c true = next_own (λ h. h - 1) e.0 c
next_one me e c false = next_held (λ h. h + 1) e.0 e.1 c

pub next_receive : (me : ℕ) (es : List Loaded) (c : Holdings) → (receive me es c).next ≡ c.next
unfolding receive
next_receive me [] c = refl
next_receive me (e ∷ es) c = next_receive me es _ ∙ next_one me e c (owner_of e.0 == me)

-- ---- registers with which a behaviour starts name what the arguments name

pub starts_named : (program : Program) (kind : ℕ) (letter : PlainLetter) (x : Thing) → InFrame (frame_of program kind letter) x → Names letter.args x
starts_named program kind letter x = by_place (position (takes_call letter.behaviour (length letter.args)) (behaviours_of program kind))
  where
    by_place : (found : Option ℕ) → InFrame (option_map (λ b. record { kind = kind; behaviour = b; place = 0; registers = registers_of letter.args }) found) x → Names letter.args x
    by_place None h = absurd h
    by_place (Some b) h = padded_names letter.args (16 - length letter.args) x h

-- ---- take

module _ (trace : Trace) (program : Program) (all : Thing → Option Row) (ps : List Person) (s : Actors) (inv : KeepsCounts trace all ps s)
    (a : ℕ) (c : Cell) (l : Letter) (ls : List Letter) (at : seat_at s a ≡ seat c (l ∷ ls)) (has : (x : Thing) → owner_of x ≡ a → 0 < inc_of x l → has_own c.holdings x ≡ true) where
  within : a < length s
  within = present_below s a _ at

  abbrev next : Cell
  next = cell_after program a l c

  pub take_put : (ps' : List Person) → length ps' ≡ length ps → IsSound trace all a next ls → next.holdings.next ≡ c.holdings.next → IsFirm next.holdings → Agrees ps' (take_letter program a c l ls s)
      → KeepsCounts trace all ps' (take_letter program a c l ls s)
  take_put ps' long sound serial firm agrees = record {
    balanced = out_of_hand _ (take_balanced trace program s a c l ls at inv.prefixes has (in_hand s inv.balanced));
    prefixes = take_prefix trace program s a c l ls at inv.prefixes has;
    sound = every_set (IsSound trace all) s a next ls within sound inv.sound;
    agrees = agrees;
    bare = inv.bare;
    long = long ∙ inv.long ∙ sym (length-set s a _);
    firm = every_set IsFirmAt s a next ls within firm inv.firm;
  }

  -- the load's own things are there
  pub load_there : (x : Thing) → owner_of x ≡ a → 0 < load_count x l → inc_of x l ≡ 0 → has_own c.holdings x ≡ true
  load_there x o h none = counted_has c.holdings x (let z = safe_first trace x (own_in c.holdings x) l ls (subst (IsCoveredAt trace x) (ap (seat_at s) o ∙ at) (inv.prefixes x)) in omega (arith, z, none))

  -- where the counts of own things alone change, who stands beside it is the same
  pub alike_agrees : (h : Holdings) (dirty reported : Bool) → next ≡ record c { holdings = h; dirty = dirty; reported = reported } → Alike a c.holdings h → app_letters (l ∷ ls) ≡ app_letters ls → Agrees ps (take_letter program a c l ls s)
  alike_agrees h dirty reported is p e = agrees_same ps s a c next (l ∷ ls) ls at (same_person ∙ ap (λ d. person_of d ls) (sym is)) inv.agrees
    where
      same_person : person_of c (l ∷ ls) ≡ person_of (record c { holdings = h; dirty = dirty; reported = reported }) ls
      same_person i = record { kind = c.kind; fields = c.fields; frame = c.frame; serial = sym p.next i; letters = e i }

  pub alike_put : (h : Holdings) (dirty reported : Bool) → next ≡ record c { holdings = h; dirty = dirty; reported = reported } → Alike a c.holdings h → app_letters (l ∷ ls) ≡ app_letters ls
      → IsSound trace all a next ls → KeepsCounts trace all ps (take_letter program a c l ls s)
  alike_put h dirty reported is p e sound = take_put ps refl sound
      (ap (λ (d : Cell). d.holdings.next) is ∙ p.next)
      (subst (λ (d : Cell). IsFirm d.holdings) (sym is) (alike_firm a c.holdings h p (inv.firm a c (l ∷ ls) at)))
      (alike_agrees h dirty reported is p e)

module _ (program : Program) (all : Thing → Option Row) (ps : List Person) (s : Actors) (inv : KeepsCounts Deep all ps s)
    (a : ℕ) (c : Cell) (l : Letter) (ls : List Letter) (at : seat_at s a ≡ seat c (l ∷ ls)) where
  has : (x : Thing) → owner_of x ≡ a → 0 < inc_of x l → has_own c.holdings x ≡ true
  has x o some = counted_has c.holdings x (safe_inc x (own_in c.holdings x) l ls (subst (IsCoveredAt Deep x) (ap (seat_at s) o ∙ at) (inv.prefixes x)) some)

  -- the counts of own things change, and nothing else
  alike_take : (h : Holdings) (dirty reported : Bool) → cell_after program a l c ≡ record c { holdings = h; dirty = dirty; reported = reported } → Alike a c.holdings h → app_letters (l ∷ ls) ≡ app_letters ls → KeepsCounts Deep all ps (take_letter program a c l ls s)
  alike_take h dirty reported is p e =
      let here = inv.sound a c (l ∷ ls) at in
      alike_put Deep program all ps s inv a c l ls at has h dirty reported is p e
      (subst (λ d. IsSoundAt all a d ls) (sym is) (record { closed = alike_closed all a c h dirty reported p here.closed; rows = alike_rows all a c h dirty reported p here.rows; loads = here.loads.1 }))

-- who stands beside it afterwards in the plain machine
abbrev pub people_after : Program → ℕ → Cell → Letter → List Letter → List Person → List Person
people_after program a c (App b args load rows) ls ps = set ps a (person_of (cell_after program a (App b args load rows) c) ls)
people_after program a c l ls ps = ps

pub take_keeps_counts : (program : Program) (all : Thing → Option Row) (ps : List Person) (s : Actors) (inv : KeepsCounts Deep all ps s)
    (a : ℕ) (c : Cell) (l : Letter) (ls : List Letter) (at : seat_at s a ≡ seat c (l ∷ ls)) → KeepsCounts Deep all (people_after program a c l ls ps) (take_letter program a c l ls s)
take_keeps_counts program all ps s inv a c (App b args load rows) ls at =
    let l = App b args load rows in
    let letter : PlainLetter = record { behaviour = b; args = args } in
    let here = inv.sound a c (l ∷ ls) at in
    let there = has program all ps s inv a c l ls at in
    let mine : (x : Thing) → owner_of x ≡ a → 0 < times_loaded x load → has_own c.holdings x ≡ true = λ x o h.
    let w = letter_App x b args load rows in load_there Deep program all ps s inv a c l ls at there x o (omega (arith, w.2)) w.0 in
    take_put Deep program all ps s inv a c l ls at there _ (length-set ps a _)
    (record {
      closed = take_closed all inv.bare a c args load (frame_of program c.kind letter) (learn a rows c.known) (starts_named program c.kind letter) here.loads.0 mine here.closed here.rows;
      rows = take_rows all inv.bare a c args load (frame_of program c.kind letter) (learn a rows c.known) (starts_named program c.kind letter) here.loads.0 mine here.closed here.rows;
      loads = here.loads.1;
    })
    (next_receive a load c.holdings)
    (firm_receive a load c.holdings (inv.firm a c (l ∷ ls) at))
    (agrees_set ps s a c _ (l ∷ ls) ls at (let z = present_below s a _ at in let w = inv.long in omega arith) inv.agrees)
take_keeps_counts program all ps s inv a c (Inc es) ls at = alike_take program all ps s inv a c (Inc es) ls at _ true false refl (alike_raise a es c.holdings) refl
take_keeps_counts program all ps s inv a c (Dec es) ls at = alike_take program all ps s inv a c (Dec es) ls at _ true false refl (alike_lower a es c.holdings) refl
take_keeps_counts program all ps s inv a c (Confirm t) ls at = alike_take program all ps s inv a c (Confirm t) ls at c.holdings c.dirty c.reported refl (alike_self a c.holdings) refl
