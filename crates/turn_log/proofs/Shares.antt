-- A log that is a list, whose passes have eight parts together: for tests.
use Rattle.std.proofs.Common.{◌≡◌, ℕ, ◌+◌, ◌-◌, ◌≤◌, List, [], ◌∷◌, ◌++◌, set, sum_by, sym, ap, ◌∙◌, subst, arith}
use Rattle.std.proofs.lemmas.List.Sums.{sum_by_push}
use mathlib.Core.List.{IsPrefix}
use Rattle.turn_log.specs.declared.rule.Known.{Known}
use Rattle.turn_log.specs.Ends.{IsClosed}
use Rattle.turn_log.specs.Knowing.{at_turn, having_joined, having_written, newcomer, half}
use Rattle.turn_log.specs.Owed.{MayJoin, MayLook, MaySplit, MayWrite}
use Rattle.turn_log.proofs.Closings.{ended}
use Rattle.turn_log.proofs.Places.{at_other}
use Rattle.turn_log.proofs.Sums.{sum_set}

abbrev parts : Known ℕ ℕ → ℕ
parts k = k.client

module _ {T : Type 0} (list : T → List ℕ) where
  abbrev Rule : List ℕ → T → List (Known ℕ ℕ) → List ℕ → Type 0
  Rule log value passes words = (list value ≡ log) × (sum_by (λ (k : Known ℕ ℕ). k.client) passes ≡ 8)

  pub may_look : MayLook Rule (λ k log value. list value ≡ log)
  may_look log value passes words id k rule at saw =
      let s = sum_set parts passes id k (at_turn log k) at in let eight = rule.1 in
      ((rule.0, omega arith), rule.0)

  pub may_write : (id : ℕ) (k : Known ℕ ℕ) (puts : List (ℕ × ℕ)) (before value : T) (i : ℕ)
      → list value ≡ list before ++ i ∷ [] → MayWrite Rule (λ i parts. parts) id k puts before value i
  may_write id k puts before value i more passes words rule at stand =
      let s = sum_set parts passes id k (having_written (λ i parts. parts) i k) at in let eight = rule.1 in
      (more ∙ ap (λ l. l ++ i ∷ []) rule.0, omega arith)

  pub may_split : (id : ℕ) (k : Known ℕ ℕ) → 1 ≤ k.client
      → MaySplit Rule id k (half (λ parts. parts - 1) k) (half (λ _. 1) k)
  may_split id k some_parts log value passes words rule at =
      let left = half (λ parts. parts - 1) k in
      let s = sum_set parts passes id k left at in
      let p = sum_by_push parts (set passes id left) (half (λ _. 1) k) in let eight = rule.1 in
      (rule.0, omega arith)

  pub may_join : (id : ℕ) (k : Known ℕ ℕ) (other : ℕ) (w : Known ℕ ℕ)
      → MayJoin Rule id k other w (having_joined (λ parts others. parts + others) w k) (newcomer 0)
  may_join id k other w log value passes words rule at apart there saw saw' =
      let both = having_joined (λ parts others. parts + others) w k in
      let s = sum_set parts passes id k both at in
      let t = sum_set parts (set passes id both) other w (newcomer 0) (at_other passes id other w both apart there) in
      let eight = rule.1 in
      (rule.0, omega arith)

  -- at the end the list begins with what the pass saw and heard
  pub begins_with : (live : ℕ → ℕ) (calm : ℕ → Type 0) (k : Known ℕ ℕ) (value : T) (words : List ℕ)
      → IsClosed Rule live calm k value words
      → IsPrefix k.seen (list value) × IsPrefix k.heard (list value)
  begins_with live calm k value words closed =
      let end = ended Rule live calm k value words closed in
      subst (λ (log : List ℕ). IsPrefix k.seen log × IsPrefix k.heard log) (sym end.3.0) (end.5, end.6)
