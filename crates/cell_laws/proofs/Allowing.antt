-- Conditions on a list of amounts, in terms of the counts before the first of them.
use Rattle.std.proofs.Common.{◌≡◌, ℕ, ◌+◌, ◌<◌, ◌≤◌, List, [], ◌∷◌, refl, arith, ⊎_elim}
use Rattle.std.specs.Prelude.{All}
use Rattle.std.proofs.lemmas.List.Elements.{All-cons, All-nil}
use Rattle.orca_names.proofs.ThingOrder.{cases_thing}
use Rattle.orca_names.specs.Names.{owner_of}
use Rattle.orca_names.specs.declared.names.Thing.{Thing}
use Rattle.ref_weights.specs.Limit.{count_limit}
use Rattle.letter_kinds.proofs.Amounts.{held-mint_all, own-lower_all}
use Rattle.letter_kinds.proofs.Counts.{amount-nil, amount-other, amount-same, loaded-same, loaded_more}
use Rattle.letter_kinds.proofs.Raising.{own_le-raise_all}
use Rattle.letter_kinds.specs.Counting.{Amount, Loaded, lower_all, mint_all, mint_one, raise_all}
use Rattle.letter_kinds.specs.Holdings.{Holdings, held_in, own_in}
use Rattle.letter_kinds.specs.Sums.{amount_of, times_loaded}
use Rattle.trace_send.specs.Can.{CanLower, CanMint, CanRaise}

-- what holds of each thing that is loaded holds of each element
pub each_loaded : (P : Loaded → Type 0) (load : List Loaded) → ((e : Loaded) → 0 < times_loaded e.0 load → P e) → All P load
each_loaded P [] one = All-nil P
each_loaded P (e ∷ load) one = All-cons P e load
    (one e (let z = loaded-same e.0 e load refl in omega arith))
    (each_loaded P load (λ f some. one f (loaded_more f.0 e load some)))

-- the amounts of the first and of the others
amount_parts : (x : Thing) (e : Amount) (things : List Amount) → amount_of x (e ∷ things) ≡ amount_of x (e ∷ []) + amount_of x things
amount_parts x e things = ⊎_elim
    (λ is. omega (arith, amount-same x e things is, amount-same x e [] is, amount-nil x))
    (λ not. omega (arith, amount-other x e things not, amount-other x e [] not, amount-nil x))
    (cases_thing x e.0)

pub can_raise : (me : ℕ) (things : List Amount) (h : Holdings) → ((x : Thing) → owner_of x ≡ me → own_in h x + amount_of x things < count_limit) → CanRaise me things h
can_raise me [] h room = tt
can_raise me (e ∷ things) h room = (
  λ mine. let r = room e.0 mine in let z = amount-same e.0 e things refl in omega arith,
  can_raise me things (raise_all me (e ∷ []) h)
      (λ x mine. let r = room x mine in let z = amount_parts x e things in let up = own_le-raise_all me x (e ∷ []) h mine in omega arith),
)

pub can_lower : (me : ℕ) (things : List Amount) (h : Holdings) → ((x : Thing) → owner_of x ≡ me → amount_of x things ≤ own_in h x) → CanLower me things h
can_lower me [] h enough = tt
can_lower me (e ∷ things) h enough = (
  λ mine. let r = enough e.0 mine in let z = amount-same e.0 e things refl in omega arith,
  can_lower me things (lower_all me (e ∷ []) h)
      (λ x mine. let r = enough x mine in let z = amount_parts x e things in let down = own-lower_all me x (e ∷ []) h mine in omega arith),
)

held-mint_one : (x : Thing) (e : Amount) (h : Holdings) → held_in (mint_one e h) x ≡ held_in h x + amount_of x (e ∷ [])
unfolding mint_all
held-mint_one x e h = held-mint_all x (e ∷ []) h

pub can_mint : (things : List Amount) (h : Holdings) → ((x : Thing) → held_in h x + amount_of x things < count_limit) → CanMint things h
can_mint [] h room = tt
can_mint (e ∷ things) h room = (
  (let r = room e.0 in let z = amount-same e.0 e things refl in omega arith),
  can_mint things (mint_one e h) (λ x. let r = room x in let z = amount_parts x e things in let k = held-mint_one x e h in omega arith),
)
