-- The balance with something in the hand: what was taken from one list and is not yet in another.
use Rattle.std.proofs.Common.{◌≡◌, ℕ, ◌+◌, ◌<◌, ◌==◌, cond, Option, List, [], ◌∷◌, set, arith}
use Rattle.std.specs.Prelude.{⊤}
use Rattle.orca_names.specs.Names.{owner_of}
use Rattle.orca_names.specs.declared.names.Thing.{Thing}
use Rattle.behaviour_code.specs.declared.code.Program.{Program}
use Rattle.letter_kinds.specs.Letters.{Letter}
use Rattle.letter_kinds.specs.Counting.{Amount}
use Rattle.letter_kinds.specs.Holdings.{Row}
use Rattle.letter_kinds.specs.Sums.{inc_of, dec_of, load_count}
use Rattle.machine_rules.specs.Actors.{Actors, seat, Every}
use Rattle.machine_rules.specs.Balance.{IsBalanced, own_at, incs_at, decs_at, owner_seat, held_sum, load_sum}
use Rattle.machine_rules.specs.Cell.{Cell}
use Rattle.count_laws.specs.Known.{IsSoundAt}
use Rattle.machine_rules.specs.Take.{cell_after}

-- the counts balance, but for credits d and debits e
abbrev pub BalancedWith : (Thing → ℕ) → (Thing → ℕ) → Actors → Type 0
BalancedWith d e s = (x : Thing) →
    own_at x (owner_seat s x) + incs_at x (owner_seat s x) + d x
    ≡ held_sum x s + load_sum x s + decs_at x (owner_seat s x) + e x

-- what a letter on its way to b stands for
abbrev pub credit : ℕ → Letter → Thing → ℕ
credit b l x = cond (owner_of x == b) (inc_of x l) 0

abbrev pub debit : ℕ → Letter → Thing → ℕ
debit b l x = load_count x l + cond (owner_of x == b) (dec_of x l) 0

abbrev pub none : Thing → ℕ
none x = 0

-- with nothing in the hand
abbrev pub Balanced : Actors → Type 0
Balanced s = BalancedWith none none s

pub in_hand : (s : Actors) → IsBalanced s → Balanced s
in_hand s bal x = omega (arith, bal x)

pub out_of_hand : (s : Actors) → Balanced s → IsBalanced s
out_of_hand s bal x = omega (arith, bal x)

-- each amount is at least 1
abbrev pub AllCounted : List Amount → Type 0
AllCounted [] = ⊤
AllCounted (e ∷ things) = (0 < e.1) × AllCounted things

abbrev pub Sound : (Thing → Option Row) → Actors → Type 0
Sound all s = Every (IsSoundAt all) s

-- the actors after one of them took a letter
abbrev pub take_letter : Program → ℕ → Cell → Letter → List Letter → Actors → Actors
take_letter program a c l ls s = set s a (seat (cell_after program a l c) ls)
