-- Open tokens, in rising order of their numbers.
use Rattle.std.specs.Prelude.{ℕ, ◌≡◌, ◌<◌, ◌==◌, true, false, List, filter, map, not, length, Option, Some, None, min, slice_get, slice_index_or, option_and_then, option_map, if◌then◌else◌, suc, [], ◌≤◌, Bool}
use Rattle.std.specs.List.{AllByRecursion, find}
use Rattle.std.specs.Option.{option_map_or}
use Rattle.letter_kinds.specs.Detector.{Detector, Token, all_acked, has, in_token, token_numbered}
use Rattle.std.specs.List.Sorted.{IsStrictlySortedBy}
use Rattle.std.specs.Ordering.{nat_cmp}

abbrev pub numbers : List Token → List ℕ
numbers tokens = map (λ t. t.number) tokens

-- the token of this number stands at the place
pub record IsNumberedAt (tokens : List Token) (number i : ℕ) : Type 0 where
  pub within : i < length tokens
  pub same : (d : Token) → (slice_index_or tokens i d).number ≡ number
  pub found : slice_get tokens i ≡ find (λ t. t.number == number) tokens

-- the number of the first token that all its members acknowledged
abbrev pub first_acked : List Token → Option ℕ
first_acked tokens = option_map (λ t. t.number) (find all_acked tokens)

-- the same, once this token stands behind the others
abbrev pub first_with : Option ℕ → Token → Option ℕ
first_with None t = if all_acked t then Some t.number else None
first_with (Some k) t = Some k

-- the lower of two numbers, where there is a first one
abbrev pub lower_with : Option ℕ → ℕ → ℕ
lower_with None n = n
lower_with (Some k) n = min k n

-- each member is told the token's number
abbrev pub IsTold : (ℕ → Option ℕ) → Token → Type 0
IsTold told t = (m : ℕ) → has t.members m ≡ true → told m ≡ Some t.number

-- the numbers rise, each member is told, and so is the first that all its members acknowledged
pub record AreIndexed (tokens : List Token) (told : ℕ → Option ℕ) (ready : Option ℕ) : Type 0 where
  pub numbered : IsStrictlySortedBy nat_cmp (numbers tokens)
  pub members : AllByRecursion (IsTold told) tokens
  pub first : ready ≡ first_acked tokens

-- the actor is a member of the token at this place
pub record HasMemberAt (tokens : List Token) (actor i : ℕ) : Type 0 where
  pub within : i < length tokens
  pub member : (d : Token) → has (slice_index_or tokens i d).members actor ≡ true

-- the first of these tokens of which the actor is a member
abbrev pub token_of : ℕ → List Token → Option Token
token_of actor tokens = find (λ t. has t.members actor) tokens

-- the actor is a member of this open token, and of no other
pub record IsTokenOf (tokens : List Token) (actor : ℕ) (t : Token) : Type 0 where
  pub member : has t.members actor ≡ true
  pub found : find (λ u. u.number == t.number) tokens ≡ Some t
  pub alone : filter (λ u. not (has u.members actor)) tokens
      ≡ filter (λ u. not (u.number == t.number)) tokens

-- these may be the members of a further token: they rise, and none of them is in an open one
pub record CanOpen (members : List ℕ) (d : Detector) : Type 0 where
  pub rising : IsStrictlySortedBy nat_cmp members
  pub apart : (m : ℕ) → has members m ≡ true → in_token d.tokens m ≡ false

-- the token that is opened next, with these members
abbrev pub new_token : List ℕ → Detector → Token
new_token members d = record { number = suc d.opened; members = members; acked = [] }

-- the token of this number is open, and all its members acknowledged
abbrev pub acked_by_all : Detector → ℕ → Bool
acked_by_all d number = option_map_or all_acked (token_numbered number d) false

-- the open token of this number, if all its members acknowledged
abbrev pub acked_numbered : ℕ → Detector → Option Token
acked_numbered number d =
    option_and_then (λ t. if all_acked t then Some t else None) (token_numbered number d)

-- it is, and no token of a lower number
pub record IsLowestAcked (d : Detector) (number : ℕ) : Type 0 where
  pub acked : acked_by_all d number ≡ true
  pub lowest : AllByRecursion (λ t. all_acked t ≡ true → number ≤ t.number) d.tokens
