-- What letters do to the counts of an actor that sends, takes, mints or collects
-- (Orca, OOPSLA 2017).
use Rattle.std.specs.Prelude.{ℕ, ◌+◌, ◌-◌, Bool, not, ◌&&◌, ◌||◌, ◌==◌, if◌then◌else◌, Option, List, [], ◌∷◌, filter, map}
use Rattle.std.specs.Option.{option_map_or}
use Rattle.std.specs.FinMap as m
use Rattle.orca_names.specs.Names.{owner_of}
use Rattle.orca_names.specs.declared.names.Thing.{Thing}
use Rattle.orca_names.specs.declared.names.Thing.TheVariants.{Actor, Obj}
use Rattle.letter_kinds.specs.Holdings.{Row, OwnRows, Holdings, row_count, entry_row, held_in}

-- a thing of a load, with its row
abbrev pub Loaded : Type 0
Loaded = Thing × Option Row

-- a thing with an amount of counts
abbrev pub Amount : Type 0
Amount = Thing × ℕ

-- ---- one count

-- an own object's count is changed, where the object is there
abbrev pub with_row_count : OwnRows → ℕ → (ℕ → ℕ) → Option (Row × ℕ) → OwnRows
with_row_count rows serial change found =
    option_map_or (λ e. m.insert rows serial (e.0, change e.1)) found rows

unfoldable pub set_own : (ℕ → ℕ) → Thing → Holdings → Holdings
set_own change (Actor a) h = record h { count = change h.count }
set_own change (Obj n) h = record h {
  rows = with_row_count h.rows n.serial change (m.get h.rows n.serial);
}

abbrev pub raise : ℕ → Thing → Holdings → Holdings
raise amount x h = set_own (λ count. count + amount) x h

abbrev pub lower : ℕ → Thing → Holdings → Holdings
lower amount x h = set_own (λ count. count - amount) x h

-- the count held on another's thing is changed; its row is as given
unfoldable pub set_held : (ℕ → ℕ) → Thing → Option Row → Holdings → Holdings
set_held change x row h = record h { foreign = m.insert h.foreign x (change (held_in h x), row) }

abbrev pub gain : ℕ → Thing → Option Row → Holdings → Holdings
gain amount x row h = set_held (λ count. count + amount) x row h

abbrev pub spend : ℕ → Thing → Holdings → Holdings
spend amount x h = set_held (λ count. count - amount) x (entry_row (m.get h.foreign x)) h

-- ---- a load

-- who takes a letter counts what it loads: one less on an own thing, which the letter held so far,
-- one more on another's
abbrev pub receive_one : ℕ → Loaded → Holdings → Holdings
receive_one me e h = if owner_of e.0 == me then lower 1 e.0 h else gain 1 e.0 e.1 h

unfoldable pub receive : ℕ → List Loaded → Holdings → Holdings
receive me [] h = h
receive me (e ∷ load) h = receive me load (receive_one me e h)

-- who sends a letter counts the other way round
abbrev pub send_one : ℕ → Loaded → Holdings → Holdings
send_one me e h = if owner_of e.0 == me then raise 1 e.0 h else spend 1 e.0 h

unfoldable pub send : ℕ → List Loaded → Holdings → Holdings
send me [] h = h
send me (e ∷ load) h = send me load (send_one me e h)

-- ---- increments and decrements

-- who takes an Inc raises the counts of its own things
unfoldable pub raise_all : ℕ → List Amount → Holdings → Holdings
raise_all me [] h = h
raise_all me (e ∷ things) h = raise_all me things (if owner_of e.0 == me then raise e.1 e.0 h else h)

-- who takes a Dec lowers them
unfoldable pub lower_all : ℕ → List Amount → Holdings → Holdings
lower_all me [] h = h
lower_all me (e ∷ things) h = lower_all me things (if owner_of e.0 == me then lower e.1 e.0 h else h)

-- ---- minting: who holds 1 of a thing can't spend it, and first makes more of it

-- of another's thing just one is held
abbrev pub is_lacking : ℕ → Holdings → Thing → Bool
is_lacking me h x = not (owner_of x == me) && (held_in h x == 1)

abbrev pub lacking_of : ℕ → Holdings → List Loaded → List Loaded
lacking_of me h load = filter (λ e. is_lacking me h e.0) load

-- those of one owner, with the amount by which the counts rise
abbrev pub to_mint : ℕ → ℕ → List Loaded → List Amount
to_mint weight b load = map (λ e. (e.0, weight)) (filter (λ e. owner_of e.0 == b) load)

abbrev pub mint_one : Amount → Holdings → Holdings
mint_one e h = set_held (λ count. count + e.1) e.0 (entry_row (m.get h.foreign e.0)) h

unfoldable pub mint_all : List Amount → Holdings → Holdings
mint_all [] h = h
mint_all (e ∷ things) h = mint_all things (mint_one e h)

-- ---- a sweep

-- what is not marked goes; an own object stays where it is counted
unfoldable pub sweep : (Thing → Bool) → ℕ → Holdings → Holdings
sweep marked me h = record h {
  rows =
      m.retain_keys h.rows (λ serial. marked (Obj (record { owner = me; serial = serial }))
      || not (row_count (m.get h.rows serial) == 0));
  foreign = m.retain_keys h.foreign marked;
}

-- the counts on others' things that go back, in the order of things
unfoldable pub given_back : (Thing → Bool) → Holdings → List Amount
given_back marked h = map (λ e. (e.0, e.1.0)) (filter (λ e. not (marked e.0)) (m.entries h.foreign))

-- neighbours of one owner stand together
abbrev pub join_owner : Amount → List (ℕ × List Amount) → List (ℕ × List Amount)
join_owner e [] = (owner_of e.0, e ∷ []) ∷ []
join_owner e (group ∷ groups) =
    if owner_of e.0 == group.0 then (group.0, e ∷ group.1) ∷ groups else (owner_of e.0, e ∷ [])
    ∷ group ∷ groups

unfoldable pub by_owner : List Amount → List (ℕ × List Amount)
by_owner [] = []
by_owner (e ∷ things) = join_owner e (by_owner things)
