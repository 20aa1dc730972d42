-- Posting a letter, and minting, keep all that is kept of the counts.
use Rattle.std.proofs.Common.{◌≡◌, ◌≢◌, ℕ, ◌+◌, ◌-◌, ◌<◌, ◌≤◌, ◌==◌, cond, Bool, true, false, Option, List, [], ◌∷◌, length, set, refl, sym, ◌∙◌, arith, ⊎_elim, length-set}
use Rattle.std.proofs.lemmas.Bool.{cases_eq}
use Rattle.std.specs.FinMap as m
use Rattle.orca_names.specs.Names.{owner_of}
use Rattle.orca_names.specs.declared.names.Thing.{Thing}
use Rattle.orca_names.specs.declared.names.Thing.TheVariants.{Actor}
use Rattle.orca_names.specs.declared.names.Value.{Value}
use Rattle.letter_kinds.proofs.Counts.{cond_eq, cond_ne, held_one_sent, loaded-same, loaded_more}
use Rattle.letter_kinds.specs.Counting.{Amount, Loaded, is_lacking, lacking_of, mint_all, mint_one, raise, send, send_one, spend}
use Rattle.letter_kinds.specs.Holdings.{Holdings, Row, entry_row, has_own, held_in}
use Rattle.letter_kinds.specs.Sums.{amount_of, times_loaded}
use Rattle.letter_kinds.specs.Letters.{Letter, App, Inc}
use Rattle.count_laws.proofs.agreement.Agreeing.{agrees_push_app, agrees_push_other, agrees_same, agrees_set, with_letter}
use Rattle.count_laws.proofs.events.Every.{every_push, every_set}
use Rattle.machine_rules.proofs.Posting.{length-push}
use Rattle.count_laws.proofs.knowledge.Freed.{known_left}
use Rattle.count_laws.proofs.knowledge.Global.{sound_push, sound_set}
use Rattle.count_laws.proofs.knowledge.Going.{left_present}
use Rattle.count_laws.proofs.balance.InHand.{AllCounted, in_hand, out_of_hand}
use Rattle.count_laws.proofs.events.Take.{firm_set_held, firm_set_own, next_held, next_own}
use Rattle.count_laws.proofs.knowledge.Lacking.{filter_none, no_load, one_or_more, some_load}
use Rattle.count_laws.proofs.knowledge.Minting.{mint_closed, mint_rows}
use Rattle.count_laws.proofs.balance.Seats.{IsPresent}
use Rattle.machine_rules.proofs.Present.{present_below}
use Rattle.count_laws.proofs.knowledge.Sending.{send_closed, send_rows}
use Rattle.count_laws.proofs.balance.Sends.{cell_present, mint_balanced, mint_prefix, post_balanced, post_prefix}
use Rattle.orca_names.specs.declared.trace.Trace.{Trace}
use Rattle.orca_names.specs.declared.trace.Trace.TheVariants.{Deep}
use Rattle.machine_rules.specs.Actors.{Actors, seat, seat_at, Every}
use Rattle.count_laws.specs.Agreement.{Person, person_at, person_of}
use Rattle.machine_rules.specs.Cell.{Cell}
use Rattle.count_laws.specs.Facts.{IsFirm, IsFirmAt, KeepsCounts, IsSound}
use Rattle.machine_rules.specs.Go.{mint, post}
use Rattle.count_laws.specs.Known.{IsKnown, IsLoadOf}

-- ---- at least 1 of each, and the next serial, through a load sent

next_send_one : (me : ℕ) (e : Loaded) (c : Holdings) (b : Bool) → (cond b (raise 1 e.0 c) (spend 1 e.0 c)).next ≡ c.next
next_send_one me e c true = next_own (λ h. h + 1) e.0 c
next_send_one me e c false = next_held (λ h. h - 1) e.0 (entry_row (m.get c.foreign e.0)) c

pub next_send : (me : ℕ) (es : List Loaded) (c : Holdings) → (send me es c).next ≡ c.next
unfolding send
next_send me [] c = refl
next_send me (e ∷ es) c = next_send me es _ ∙ next_send_one me e c (owner_of e.0 == me)

abbrev Enough : ℕ → List Loaded → Holdings → Type 0
Enough me es c = (x : Thing) → owner_of x ≢ me → 0 < times_loaded x es → times_loaded x es < held_in c x

firm_send : (me : ℕ) (es : List Loaded) (c : Holdings) → Enough me es c → IsFirm c → IsFirm (send me es c)
unfolding send
firm_send me [] c enough firm = firm
firm_send me (e ∷ es) c enough firm = firm_send me es (send_one me e c) later now
  where
    now : IsFirm (send_one me e c)
    now = ⊎_elim
        (λ same. rw (cond_eq (owner_of e.0) me (raise 1 e.0 c) (spend 1 e.0 c) same) (firm_set_own (λ h. h + 1) e.0 c firm))
        (λ other. rw (cond_ne (owner_of e.0) me (raise 1 e.0 c) (spend 1 e.0 c) other)
        (firm_set_held (λ h. h - 1) e.0 (entry_row (m.get c.foreign e.0)) c (let z = loaded-same e.0 e es refl in let w = enough e.0 other (omega arith) in omega arith) firm))
        (cases_eq (owner_of e.0) me)

    later : Enough me es (send_one me e c)
    later x o h = let z = held_one_sent me x e es c o in let w = enough x o (loaded_more x e es h) in omega arith

module _ (trace : Trace) (all : Thing → Option Row) (ps : List Person) (s : Actors) (inv : KeepsCounts trace all ps s)
    (a : ℕ) (c : Cell) (ls : List Letter) (at : seat_at s a ≡ seat c ls)
    (to b : ℕ) (args : List Value) (load rows : List Loaded)
    (enough : Enough a load c.holdings) (has_load : (x : Thing) → owner_of x ≡ a → 0 < times_loaded x load → has_own c.holdings x ≡ true) (target : IsPresent s to) where
  abbrev pub sender : Cell
  sender = record c { holdings = send a load c.holdings }

  abbrev pub sent : Actors
  sent = set s a (seat sender ls)

  pub there : IsPresent sent to
  there = cell_present s a c sender ls at to target

  pub within : a < length s
  within = present_below s a _ at

  abbrev people : List Person
  people = set ps a (person_of sender ls)

  pub post_put : Every (IsSound trace all) (post a c ls to b args load rows s) → KeepsCounts trace all (set people to (with_letter b args (person_at people to))) (post a c ls to b args load rows s)
  post_put sound = record {
    balanced = out_of_hand _ (post_balanced s a c c ls at to b args load rows (λ x o. refl) (λ x. refl) has_load (λ x o. no_load (times_loaded x load) (held_in c.holdings x) (enough x o)) target (in_hand s inv.balanced));
    prefixes = post_prefix s a c c ls at to b args load rows (λ x o. refl) (λ x. refl) has_load (λ x o. no_load (times_loaded x load) (held_in c.holdings x) (enough x o)) target trace (in_hand s inv.balanced) inv.prefixes;
    sound = sound;
    agrees = agrees_push_app people sent to b args load rows there.0 there.1
        (let w = present_below sent to there.0 there.1 in let l = length-set ps a (person_of sender ls) in let k = length-set s a (seat sender ls) in let i = inv.long in omega arith)
        (agrees_set ps s a c sender ls ls at (let w = inv.long in let z = within in omega arith) inv.agrees);
    bare = inv.bare;
    long = length-set people to _ ∙ length-set ps a _ ∙ inv.long ∙ sym (length-push to (App b args load rows) sent ∙ length-set s a _);
    firm = every_push IsFirmAt (App b args load rows) (λ i d ms q. q) sent to
        (every_set IsFirmAt s a sender ls within (firm_send a load c.holdings enough (inv.firm a c ls at)) inv.firm);
  }

-- who knows what is loaded and lacks nothing of it has enough
module _ (a : ℕ) (h : Holdings) (load : List Loaded) (once : (x : Thing) → times_loaded x load ≤ 1)
    (known : (x : Thing) → 0 < times_loaded x load → IsKnown a h x) (full : lacking_of a h load ≡ []) where
  held_load : (x : Thing) → owner_of x ≢ a → 0 < times_loaded x load → 0 < held_in h x
  held_load x o some = ⊎_elim (λ own. absurd (o own.0)) (λ other. other.1) (known x some)

  pub known_enough : Enough a load h
  known_enough x o some = some_load (times_loaded x load) (held_in h x) (once x) (held_load x o some) (one_or_more a h x o (filter_none (is_lacking a h) x load full some)) some

  pub known_has : (x : Thing) → owner_of x ≡ a → 0 < times_loaded x load → has_own h x ≡ true
  known_has x o some = ⊎_elim (λ own. own.1) (λ other. absurd (other.0 o)) (known x some)

module _ (all : Thing → Option Row) (ps : List Person) (s : Actors) (inv : KeepsCounts Deep all ps s)
    (a : ℕ) (c : Cell) (ls : List Letter) (at : seat_at s a ≡ seat c ls)
    (to b : ℕ) (args : List Value) (load rows : List Loaded) (exact : IsLoadOf all args load)
    (known : (x : Thing) → 0 < times_loaded x load → IsKnown a c.holdings x) (known_to : IsKnown a c.holdings (Actor to)) (full : lacking_of a c.holdings load ≡ []) where
  enough : Enough a load c.holdings
  enough = known_enough a c.holdings load exact.once known full

  has_load : (x : Thing) → owner_of x ≡ a → 0 < times_loaded x load → has_own c.holdings x ≡ true
  has_load = known_has a c.holdings load exact.once known full

  target : IsPresent s to
  target = left_present s to (known_left s (in_hand s inv.balanced) inv.prefixes a c ls (Actor to) at known_to)

  abbrev people' : List Person
  people' = set ps a (person_of (record c { holdings = send a load c.holdings }) ls)

  pub post_keeps_counts : KeepsCounts Deep all (set people' to (with_letter b args (person_at people' to))) (post a c ls to b args load rows s)
  post_keeps_counts =
      let goes = there Deep all ps s inv a c ls at to b args load rows enough has_load target in
      post_put Deep all ps s inv a c ls at to b args load rows enough has_load target
      (sound_push all (sent Deep all ps s inv a c ls at to b args load rows enough has_load target) to (App b args load rows) goes.0 goes.1 exact
      (sound_set all s a (seat c ls) (record c { holdings = send a load c.holdings }) ls (present_below s a _ at) at
      (let here = inv.sound a c ls at in record {
        closed = send_closed all a c load enough here.closed here.rows;
        rows = send_rows all a c load enough here.closed here.rows;
        loads = here.loads;
      }) inv.sound))

-- ---- minting

firm_mint : (es : List Amount) (c : Holdings) → AllCounted es → IsFirm c → IsFirm (mint_all es c)
unfolding mint_all
firm_mint [] c pos firm = firm
firm_mint (e ∷ es) c pos firm = firm_mint es (mint_one e c) pos.1 (firm_set_held (λ h. h + e.1) e.0 (entry_row (m.get c.foreign e.0)) c (let z = pos.0 in omega arith) firm)

pub next_mint : (es : List Amount) (c : Holdings) → (mint_all es c).next ≡ c.next
unfolding mint_all
next_mint [] c = refl
next_mint (e ∷ es) c = next_mint es _ ∙ next_held (λ h. h + e.1) e.0 (entry_row (m.get c.foreign e.0)) c

module _ (trace : Trace) (all : Thing → Option Row) (ps : List Person) (s : Actors) (inv : KeepsCounts trace all ps s)
    (a : ℕ) (c : Cell) (ls : List Letter) (at : seat_at s a ≡ seat c ls)
    (b : ℕ) (es : List Amount) (theirs : (x : Thing) → 0 < amount_of x es → owner_of x ≡ b) (some : trace ≡ Deep → (x : Thing) → 0 < amount_of x es → 0 < held_in c.holdings x)
    (pos : AllCounted es) (target : IsPresent s b) where
  abbrev pub minter : Cell
  minter = record c { holdings = mint_all es c.holdings }

  abbrev pub minted : Actors
  minted = set s a (seat minter ls)

  pub in_b : IsPresent minted b
  in_b = cell_present s a c minter ls at b target

  pub inside : a < length s
  inside = present_below s a _ at

  same_person : person_of c ls ≡ person_of minter ls
  same_person i = record (person_of c ls) { serial = sym (next_mint es c.holdings) i }

  pub mint_put : Every (IsSound trace all) (mint a c ls b es s) → KeepsCounts trace all ps (mint a c ls b es s)
  mint_put sound = record {
    balanced = out_of_hand _ (mint_balanced s a c ls at b es theirs target (in_hand s inv.balanced));
    prefixes = mint_prefix s a c ls at b es theirs target trace some (in_hand s inv.balanced) inv.prefixes;
    sound = sound;
    agrees = agrees_push_other ps minted b (Inc es) in_b.0 in_b.1 refl (agrees_same ps s a c minter ls ls at same_person inv.agrees);
    bare = inv.bare;
    long = inv.long ∙ sym (length-push b (Inc es) minted ∙ length-set s a _);
    firm = every_push IsFirmAt (Inc es) (λ i d ms q. q) minted b
        (every_set IsFirmAt s a minter ls inside (firm_mint es c.holdings pos (inv.firm a c ls at)) inv.firm);
  }

pub mint_keeps_counts : (all : Thing → Option Row) (ps : List Person) (s : Actors) (inv : KeepsCounts Deep all ps s)
    (a : ℕ) (c : Cell) (ls : List Letter) (at : seat_at s a ≡ seat c ls)
    (b : ℕ) (es : List Amount) (theirs : (x : Thing) → 0 < amount_of x es → (owner_of x ≡ b) × (0 < held_in c.holdings x)) (pos : AllCounted es) (target : IsPresent s b) → KeepsCounts Deep all ps (mint a c ls b es s)
mint_keeps_counts all ps s inv a c ls at b es theirs pos target =
    let own = λ (x : Thing) (h : 0 < amount_of x es). (theirs x h).0 in
    let some = λ (deep : Deep ≡ Deep) (x : Thing) (h : 0 < amount_of x es). (theirs x h).1 in
    let goes = in_b Deep all ps s inv a c ls at b es own some pos target in
    mint_put Deep all ps s inv a c ls at b es own some pos target
    (sound_push all (set s a (seat (record c { holdings = mint_all es c.holdings }) ls)) b (Inc es) goes.0 goes.1 tt
    (sound_set all s a (seat c ls) (record c { holdings = mint_all es c.holdings }) ls (present_below s a _ at) at
    (let here = inv.sound a c ls at in record {
      closed = mint_closed all a c es some_held here.closed here.rows;
      rows = mint_rows all a c es some_held here.closed here.rows;
      loads = here.loads;
    }) inv.sound))
  where
    some_held : (x : Thing) → 0 < amount_of x es → 0 < held_in c.holdings x
    some_held x h = (theirs x h).1
