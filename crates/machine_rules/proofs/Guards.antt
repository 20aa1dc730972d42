-- What the guards say of a cell and its letters.
use Rattle.std.proofs.Common.{◌≡◌, ◌≢◌, ◌||◌, ◌&&◌, not, ℕ, Bool, true, false, Option, Some, None, is_none, is_some, List, [], ◌∷◌, ap, eqb-true, ◌==◌, option_and_then, refl, sym, ◌∙◌}
use Rattle.std.specs.Prelude.{if◌then◌else◌}
use Rattle.std.proofs.lemmas.Bool.{and_parts}
use Rattle.plain_list.specs.Lists.{is_empty}
use Rattle.turn_rules.specs.declared.act.Frame.{Frame}
use Rattle.letter_kinds.specs.Letters.{Letter}
use Rattle.letter_kinds.specs.Detector.{Detector, Token, all_acked, token_numbered}
use Rattle.machine_rules.specs.Cell.{Cell}
use Rattle.machine_rules.specs.Detect.{acked_token}
use Rattle.machine_rules.specs.Guards.{may_block, may_collect, may_go, may_leave, may_take}
use Rattle.machine_rules.specs.Next.{IsAtRest}

no_frame : (f : Option Frame) → is_none f ≡ true → f ≡ None
no_frame None e = refl
no_frame (Some f) e = cc

some_letter : (mail : List Letter) → not (is_empty mail) ≡ true → mail ≢ []
some_letter [] e = cc
some_letter (l ∷ mail) e = λ none. cc

pub taker : (c : Cell) (mail : List Letter) → may_take c mail ≡ true → (c.frame ≡ None) × (mail ≢ [])
taker c mail e = let both = and_parts (is_none c.frame) (not (is_empty mail)) e in (no_frame c.frame both.0, some_letter mail both.1)

pub may_take-first : (c : Cell) (l : Letter) (mail : List Letter) → c.frame ≡ None → may_take c (l ∷ mail) ≡ true
may_take-first c l mail idle = rw idle refl

pub may_take-some : (c : Cell) (mail : List Letter) → c.frame ≡ None → mail ≢ [] → may_take c mail ≡ true
may_take-some c [] idle some = absurd (some refl)
may_take-some c (l ∷ mail) idle some = may_take-first c l mail idle

pub framed : (c : Cell) (mail : List Letter) → may_go c mail ≡ true → (f : Frame) × (c.frame ≡ Some f)
framed c mail e = by_frame c.frame e
  where
    by_frame : (g : Option Frame) → is_some g ≡ true → (f : Frame) × (g ≡ Some f)
    by_frame None e = cc
    by_frame (Some f) e = (f, refl)

pub collector : (c : Cell) (mail : List Letter) → may_collect c mail ≡ true → (c.frame ≡ None) × (c.dirty ≡ true)
collector c mail e = let both = and_parts (is_none c.frame) c.dirty e in (no_frame c.frame both.0, both.1)

pub may_collect-dirty : (c : Cell) (mail : List Letter) → c.frame ≡ None → c.dirty ≡ true → may_collect c mail ≡ true
may_collect-dirty c mail idle dirty = rw (idle, dirty) refl

-- at rest, not pinned, and not reported yet
pub record MayReport (c : Cell) (mail : List Letter) : Type 0 where
  pub rest : IsAtRest c mail
  pub unpinned : c.fields.pinned ≡ false
  pub unreported : c.reported ≡ false

idle_if : (f : Option Frame) (mail : List Letter) (dirty pinned reported : Bool) → (is_none f && (is_empty mail && not (dirty || (pinned || reported)))) ≡ true
    → (f ≡ None) × (mail ≡ []) × (dirty ≡ false) × (pinned ≡ false) × (reported ≡ false)
idle_if None [] false false false e = (refl, refl, refl, refl, refl)
idle_if None [] false false true e = cc
idle_if None [] false true reported e = cc
idle_if None [] true pinned reported e = cc
idle_if None (l ∷ ls) dirty pinned reported e = cc
idle_if (Some f) mail dirty pinned reported e = cc

pub may_report : (c : Cell) (mail : List Letter) → may_block c mail ≡ true → MayReport c mail
may_report c mail e =
    let z = idle_if c.frame mail c.dirty c.fields.pinned c.reported e in
    record { rest = record { idle = z.0; clean = z.2; empty = z.1 }; unpinned = z.3; unreported = z.4 }

pub reporter : (c : Cell) (mail : List Letter) → MayReport c mail → may_block c mail ≡ true
reporter c mail r = rw (r.rest.idle, r.rest.empty, r.rest.clean, r.unpinned, r.unreported) refl

pub leaver : (c : Cell) (mail : List Letter) → may_leave c mail ≡ true → MayReport c mail × (c.holdings.count ≡ 0)
leaver c mail e =
    let both = and_parts (may_block c mail) (c.holdings.count == 0) e in
    (may_report c mail both.0, eqb-true c.holdings.count 0 both.1)

pub may_leave-none : (c : Cell) (mail : List Letter) → MayReport c mail → c.holdings.count ≡ 0 → may_leave c mail ≡ true
may_leave-none c mail r none = rw (reporter c mail r, none) refl

-- ---- the token that is reaped

-- it is open, and all its members acknowledged
pub acked_open : (number : ℕ) (d : Detector) (t : Token) → acked_token number d ≡ Some t → (token_numbered number d ≡ Some t) × (all_acked t ≡ true)
acked_open number d t is = by_found (token_numbered number d) refl is
  where
    by_test : (u : Token) (q : Bool) → all_acked u ≡ q → (if q then Some u else None) ≡ Some t → (Some u ≡ Some t) × (all_acked t ≡ true)
    by_test u false acked is = cc
    by_test u true acked is = let same : u ≡ t = cc in (ap Some same, ap all_acked (sym same) ∙ acked)

    by_found : (found : Option Token) → token_numbered number d ≡ found → option_and_then (λ u. if all_acked u then Some u else None) found ≡ Some t → (token_numbered number d ≡ Some t) × (all_acked t ≡ true)
    by_found None at is = cc
    by_found (Some u) at is = let z = by_test u (all_acked u) refl is in (at ∙ z.0, z.1)

pub acked_is : (number : ℕ) (d : Detector) (t : Token) → token_numbered number d ≡ Some t → all_acked t ≡ true → acked_token number d ≡ Some t
acked_is number d t at acked = ap (option_and_then (λ u. if all_acked u then Some u else None)) at ∙ ap (λ q. if q then Some t else None) acked
