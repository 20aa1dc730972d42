-- When the counts of an actor allow a load, an increment, a decrement or a mint: there is enough to
-- lower or spend, and no count becomes too large.
use Rattle.std.specs.Prelude.{ℕ, ◌≡◌, ◌≢◌, ◌+◌, ◌<◌, ◌≤◌, true, All, List, [], ◌∷◌, Option, ⊤}
use Rattle.orca_names.specs.Names.{owner_of}
use Rattle.orca_names.specs.declared.names.ObjName.{ObjName}
use Rattle.orca_names.specs.declared.names.Thing.{Thing}
use Rattle.orca_names.specs.declared.names.Value.{Value}
use Rattle.reach_walk.specs.Marks.{Covers, load_of}
use Rattle.ref_weights.specs.Limit.{count_limit}
use Rattle.letter_kinds.specs.Counting.{Amount, Loaded, lower_all, mint_one, raise_all, receive_one, send_one}
use Rattle.letter_kinds.specs.Holdings.{Holdings, Row, own_in, held_in, has_own}
use Rattle.letter_kinds.specs.Sums.{times_loaded}

-- the taker's counts allow one thing: an own one is counted, and there is room for another's
pub record CanReceiveOne (me : ℕ) (e : Loaded) (h : Holdings) : Type 0 where
  pub own : owner_of e.0 ≡ me → 1 ≤ own_in h e.0
  pub held : owner_of e.0 ≢ me → held_in h e.0 + 1 < count_limit

-- they allow each thing in its turn
abbrev pub CanReceive : ℕ → List Loaded → Holdings → Type 0
CanReceive me [] h = ⊤
CanReceive me (e ∷ load) h = CanReceiveOne me e h × CanReceive me load (receive_one me e h)

-- the sender's counts allow one thing: an own one is there, and another's can be spent
pub record CanSendOne (me : ℕ) (e : Loaded) (h : Holdings) : Type 0 where
  pub there : owner_of e.0 ≡ me → has_own h e.0 ≡ true
  pub own : owner_of e.0 ≡ me → own_in h e.0 + 1 < count_limit
  pub held : owner_of e.0 ≢ me → 1 ≤ held_in h e.0

-- they allow each thing in its turn
abbrev pub CanSend : ℕ → List Loaded → Holdings → Type 0
CanSend me [] h = ⊤
CanSend me (e ∷ load) h = CanSendOne me e h × CanSend me load (send_one me e h)

-- ---- amounts

-- what an increment names of one's own has room for the amount
abbrev pub CanRaise : ℕ → List Amount → Holdings → Type 0
CanRaise me [] h = ⊤
CanRaise me (e ∷ things) h =
    (owner_of e.0 ≡ me → own_in h e.0 + e.1 < count_limit)
    × CanRaise me things (raise_all me (e ∷ []) h)

-- what a decrement names of one's own has at least the amount
abbrev pub CanLower : ℕ → List Amount → Holdings → Type 0
CanLower me [] h = ⊤
CanLower me (e ∷ things) h =
    (owner_of e.0 ≡ me → e.1 ≤ own_in h e.0) × CanLower me things (lower_all me (e ∷ []) h)

-- what is minted has room for the amount
abbrev pub CanMint : List Amount → Holdings → Type 0
CanMint [] h = ⊤
CanMint (e ∷ things) h =
    (held_in h e.0 + e.1 < count_limit) × CanMint things (mint_one e h)

-- ---- in terms of the counts before the first thing

-- no thing stands there twice
abbrev pub IsOnce : List Loaded → Type 0
IsOnce load = (x : Thing) → times_loaded x load ≤ 1

-- what a load has once can be received where each thing can
abbrev pub OnceIsReceived : Type 0
OnceIsReceived =
    (me : ℕ) (load : List Loaded) (h : Holdings) → IsOnce load
    → All (λ e. CanReceiveOne me e h) load → CanReceive me load h

-- and sent where each thing can be
abbrev pub OnceIsSent : Type 0
OnceIsSent =
    (me : ℕ) (load : List Loaded) (h : Holdings) → IsOnce load
    → All (λ e. CanSendOne me e h) load → CanSend me load h

-- each load has each thing once
abbrev pub LoadsAreOnce : Type 0
LoadsAreOnce =
    (rows : ObjName → Option Row) (all : List ObjName) (args : List Value) → Covers all rows
    → IsOnce (load_of rows all args)
