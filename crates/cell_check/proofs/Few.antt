-- The counts of an actor allow letters that name few things of others.
use Rattle.std.proofs.Common.{◌≡◌, ◌≢◌, ℕ, ◌+◌, ◌<◌, ◌≤◌, ◌*◌, List, [], ◌∷◌, length, Option, None, Some, refl, ap, ◌∙◌, arith, ⊎_elim}
use Rattle.std.specs.FinMap as m
use Rattle.std.specs.Prelude.{All, IsSomeAnd}
use Rattle.std.proofs.lemmas.Bool.{cases_eq}
use Rattle.std.proofs.lemmas.List.Elements.{All-head, All-tail, All-weaker}
use Rattle.orca_names.proofs.ThingOrder.{cases_thing}
use Rattle.orca_names.specs.Names.{owner_of, thing_cmp}
use Rattle.orca_names.specs.declared.names.Thing.{Thing}
use Rattle.orca_names.specs.declared.names.Value.{Value}
use Rattle.orca_names.specs.declared.options.Options.{Options}
use Rattle.behaviour_code.specs.declared.code.Program.{Program}
use Rattle.turn_rules.specs.declared.act.Frame.{Frame}
use Rattle.turn_rules.specs.Segment.{Turn}
use Rattle.ref_weights.specs.Limit.{count_limit}
use Rattle.letter_kinds.proofs.Amounts.{held-mint_all}
use Rattle.letter_kinds.proofs.Counts.{amount-nil, amount-other, amount-same, held-receive, held-receive_own, held-send, loaded-nil, loaded-other, loaded-same}
use Rattle.letter_kinds.specs.Counting.{Amount, Loaded, mint_all, mint_one, receive, receive_one, send, send_one}
use Rattle.letter_kinds.specs.Holdings.{Holdings, Row, held_in, nothing_held, with_made}
use Rattle.letter_kinds.specs.Sums.{amount_of, times_loaded}
use Rattle.trace_send.specs.Can.{CanReceive, CanSend}
use Rattle.machine_rules.specs.Cell.{Cell}
use Rattle.trace_send.specs.Can.{CanMint}
use Rattle.actor_cell.specs.Goes.{CanGo, CanMove, IsTold, told, turned_in}
use Rattle.actor_cell.specs.Moves.{Move, Post, Mint, New, Print, End, Rest, move_of}
use Rattle.actor_cell.specs.declared.turning.Doing.{Doing}
use Rattle.actor_cell.specs.declared.turning.Doing.TheVariants as doing
use Rattle.cell_check.specs.Spare.{AreLow, AreSpare, IsSpare}

loaded_once : (x : Thing) (e : Loaded) → times_loaded x (e ∷ []) ≤ 1
loaded_once x e = ⊎_elim
    (λ is. omega (arith, loaded-same x e [] is, loaded-nil x))
    (λ not. omega (arith, loaded-other x e [] not, loaded-nil x))
    (cases_thing x e.0)

amount_once : (x : Thing) (e : Amount) → amount_of x (e ∷ []) ≤ e.1
amount_once x e = ⊎_elim
    (λ is. omega (arith, amount-same x e [] is, amount-nil x))
    (λ not. omega (arith, amount-other x e [] not, amount-nil x))
    (cases_thing x e.0)

held_received : (me : ℕ) (x : Thing) (e : Loaded) (h : Holdings) → held_in (receive_one me e h) x ≤ held_in h x + 1
unfolding receive
held_received me x e h = ⊎_elim
    (λ same. let k = held-receive_own me x (e ∷ []) h same in omega arith)
    (λ apart. let k = held-receive me x (e ∷ []) h apart in let once = loaded_once x e in omega arith)
    (cases_eq (owner_of x) me)

held_sent : (me : ℕ) (x : Thing) (e : Loaded) (h : Holdings) → owner_of x ≢ me → held_in h x ≤ held_in (send_one me e h) x + 1
unfolding send
held_sent me x e h apart = let k = held-send me x (e ∷ []) h apart in let once = loaded_once x e in omega arith

held_minted : (x : Thing) (e : Amount) (h : Holdings) → held_in (mint_one e h) x ≤ held_in h x + e.1
unfolding mint_all
held_minted x e h = let k = held-mint_all x (e ∷ []) h in let once = amount_once x e in omega arith

-- where little is held, a few more can be received
can_receive : (me : ℕ) (load : List Loaded) (h : Holdings) (most : ℕ) → All (λ e. owner_of e.0 ≢ me) load
    → ((x : Thing) → held_in h x ≤ most) → most + length load < count_limit → CanReceive me load h
can_receive me [] h most others few fits = tt
can_receive me (e ∷ load) h most others few fits = (
  record {
    own = λ mine. absurd (All-head (λ e. owner_of e.0 ≢ me) e load others mine);
    held = λ _. let f = few e.0 in omega arith;
  },
  can_receive me load (receive_one me e h) (most + 1) (All-tail (λ e. owner_of e.0 ≢ me) e load others)
      (λ x. let f = few x in let r = held_received me x e h in omega arith) (omega arith),
)

-- where each is held as often as there are, they can be sent
can_send : (me : ℕ) (load : List Loaded) (h : Holdings) → All (IsSpare me h (length load)) load → CanSend me load h
can_send me [] h spare = tt
can_send me (e ∷ load) h spare = (
  record {
    there = λ mine. absurd (first.0 mine);
    own = λ mine. absurd (first.0 mine);
    held = λ _. let f = first.1 in omega arith;
  },
  can_send me load (send_one me e h)
      (All-weaker (IsSpare me h (length (e ∷ load))) (IsSpare me (send_one me e h) (length load))
      (λ f s. (s.0, let k = s.1 in let r = held_sent me f.0 e h s.0 in omega arith)) load
      (All-tail (IsSpare me h (length (e ∷ load))) e load spare)),
)
  where
    first : IsSpare me h (length (e ∷ load)) e
    first = All-head (IsSpare me h (length (e ∷ load))) e load spare

abbrev IsBelow : Holdings → ℕ → Amount → Type 0
IsBelow h most e = (held_in h e.0 ≤ most) × (e.1 ≤ 256)

-- where little is held, a little more can be minted
can_mint : (things : List Amount) (h : Holdings) (most : ℕ) → All (IsBelow h most) things
    → most + 256 * length things < count_limit → CanMint things h
can_mint [] h most few fits = tt
can_mint (e ∷ things) h most few fits = (
  let held = first.0 in let by = first.1 in omega arith,
  can_mint things (mint_one e h) (most + 256)
      (All-weaker (IsBelow h most) (IsBelow (mint_one e h) (most + 256))
      (λ f s. (let k = s.0 in let r = held_minted f.0 e h in let one = first.1 in omega arith, s.1)) things
      (All-tail (IsBelow h most) e things few)) (omega arith),
)
  where
    first : IsBelow h most e
    first = All-head (IsBelow h most) e things few

-- what an actor holds that holds nothing
held_none : (x : Thing) → held_in (nothing_held 256) x ≡ 0
unfolding held_in
held_none x = rw (m.get-empty {X = ℕ × Option Row} thing_cmp x) refl

-- it can receive a few things of others
pub few_received : (me : ℕ) (load : List Loaded) (h : Holdings) → h ≡ nothing_held 256 → AreSpare me h 0 load → CanReceive me load h
few_received me load h nothing spare =
    can_receive me load h 0 (All-weaker (IsSpare me h 0) (λ e. owner_of e.0 ≢ me) (λ e s. s.0) load spare.1)
    (λ x. let none = ap (λ k. held_in k x) nothing ∙ held_none x in omega arith)
    (let few = spare.0 in omega arith)

-- what is made in a turn changes nothing of what is held
spare_made : (me : ℕ) (made : List Row) (h : Holdings) (least : ℕ) (e : Loaded) → IsSpare me h 8 e → least ≤ 8 → IsSpare me (with_made made h) least e
unfolding held_in
spare_made me made h least e s few = (s.0, let k = s.1 in omega arith)

-- what is found can be done where its load can be sent, and what it mints can be
pub can_move : (me : ℕ) (h : Holdings) (turn : Turn) (does : Doing) (args : List Value) (load rows : List Loaded) (things : List Amount)
    → AreSpare me h 8 load → AreLow h things → CanMove me h turn (move_of does args load rows things)
can_move me h turn (doing.Post to behaviour) args load rows things spare low =
    can_send me load (with_made turn.made h)
    (All-weaker (IsSpare me h 8) (IsSpare me (with_made turn.made h) (length load))
    (λ e s. spare_made me turn.made h (length load) e s spare.0) load spare.1)
can_move me h turn (doing.Mint owner) args load rows things spare low =
    can_mint things h 1000 low.1 (let few = low.0 in omega arith)
can_move me h turn (doing.New kind register) args load rows things spare low = tt
can_move me h turn (doing.Print value) args load rows things spare low = tt
can_move me h turn doing.End args load rows things spare low = tt
can_move me h turn doing.Rest args load rows things spare low = tt

-- what is told can be done where what was found can
can_told : (frame : Frame) (c : Cell) (me : ℕ) (h : Holdings) (turn : Turn) (place : ℕ) (act : Move)
    → CanMove me h turn act → (let t = told frame c turn place act in CanMove me h t.turn t.act)
can_told frame c me h turn place (Post to letter) can = can
can_told frame c me h turn place (Mint owner things) can = can
can_told frame c me h turn place (New kind register) can = can
can_told frame c me h turn place (Print value) can = can
can_told frame c me h turn place End can = can
can_told frame c me h turn place Rest can = can

-- a turn that was found can be gone where what it does can be done
pub can_go : (options : Options) (program : Program) (me : ℕ) (c : Cell) (turn : Turn) (place : ℕ) (act : Move)
    → IsSomeAnd c.frame (IsTold options program me c turn place act) → CanMove me c.holdings turn act
    → CanGo options program me c
can_go options program me c turn place act is can = in_frame c.frame is
  where
    in_frame : (frame : Option Frame) → IsSomeAnd frame (IsTold options program me c turn place act)
        → IsSomeAnd frame (λ f. let t = turned_in options program me c f in CanMove me c.holdings t.turn t.act)
    in_frame None none = absurd none
    in_frame (Some f) same = rw same (can_told f c me c.holdings turn place act can)
