-- A load that has each thing once: what one thing needs, the others leave.
use Rattle.std.proofs.Common.{◌≡◌, ◌≢◌, ℕ, ◌+◌, ◌-◌, ◌<◌, ◌≤◌, inl, inr, List, [], ◌∷◌, refl, sym, subst, ◌∙◌, arith}
use Rattle.std.specs.Prelude.{All}
use Rattle.std.proofs.lemmas.Bool.{cases_eq}
use Rattle.std.proofs.lemmas.List.Elements.{All-nil, All-cons, All-head, All-tail, All-weaker}
use Rattle.std.specs.FinMap as m
use Rattle.ref_weights.specs.Limit.{count_limit}
use Rattle.orca_names.specs.Names.{owner_of}
use Rattle.orca_names.specs.declared.names.Thing.{Thing}
use Rattle.orca_names.proofs.ThingOrder.{cases_thing}
use Rattle.letter_kinds.specs.Counting.{Loaded, receive_one, send_one, lower, raise, gain, spend}
use Rattle.letter_kinds.specs.Holdings.{Holdings, entry_row}
use Rattle.letter_kinds.specs.Sums.{times_loaded}
use Rattle.letter_kinds.proofs.Counts.{cond_eq, cond_ne, loaded-same, loaded-other, has_set_own, has_set_held, own_set_other, own_set_held, held_set_own, held_set_other}
use Rattle.reach_walk.specs.Marks.{load_of}
use Rattle.reach_walk.proofs.Loads.{loads-exact}
use Rattle.reach_walk.proofs.MarkLaws.{cases_reached}
use Rattle.trace_send.specs.Can.{CanReceiveOne, CanSendOne, IsOnce, LoadsAreOnce, OnceIsReceived, OnceIsSent}

once-tail : (e : Loaded) (load : List Loaded) → IsOnce (e ∷ load) → IsOnce load
once-tail e load once x = elim (cases_thing x e.0) as (λ _. times_loaded x load ≤ 1) [
  | inl same ↦ omega (arith, once x, loaded-same x e load same)
  | inr other ↦ omega (arith, once x, loaded-other x e load other)
]

-- a thing that is not loaded is none of the load's
none_of : (x : Thing) (load : List Loaded) → times_loaded x load ≡ 0 → All (λ f. f.0 ≢ x) load
none_of x [] none = All-nil (λ f. f.0 ≢ x)
none_of x (e ∷ load) none = elim (cases_thing x e.0) as (λ _. All (λ f. f.0 ≢ x) (e ∷ load)) [
  | inl same ↦ absurd (omega (arith, none, loaded-same x e load same))
  | inr other ↦ All-cons (λ f. f.0 ≢ x) e load (λ same. other (sym same)) (none_of x load (sym (loaded-other x e load other) ∙ none))
]

others : (e : Loaded) (load : List Loaded) → IsOnce (e ∷ load) → All (λ f. f.0 ≢ e.0) load
others e load once = none_of e.0 load (omega (arith, once e.0, loaded-same e.0 e load refl))

module _ (me : ℕ) (e f : Loaded) (h : Holdings) (apart : f.0 ≢ e.0) where
  receive_keeps : CanReceiveOne me f h → CanReceiveOne me f (receive_one me e h)
  receive_keeps can = elim (cases_eq (owner_of e.0) me) as (λ _. CanReceiveOne me f (receive_one me e h)) [
    | inl mine ↦ subst (CanReceiveOne me f) (sym (cond_eq (owner_of e.0) me (lower 1 e.0 h) (gain 1 e.0 e.1 h) mine)) (record {
      own = λ same. subst (λ n. 1 ≤ n) (sym (own_set_other (λ n. n - 1) f.0 e.0 h (same ∙ sym mine) apart)) (can.own same);
      held = λ other. subst (λ n. n + 1 < count_limit) (sym (held_set_own (λ n. n - 1) f.0 e.0 h)) (can.held other);
    })
    | inr others ↦ subst (CanReceiveOne me f) (sym (cond_ne (owner_of e.0) me (lower 1 e.0 h) (gain 1 e.0 e.1 h) others)) (record {
      own = λ same. subst (λ n. 1 ≤ n) (sym (own_set_held (λ n. n + 1) f.0 e.0 e.1 h)) (can.own same);
      held = λ other. subst (λ n. n + 1 < count_limit) (sym (held_set_other (λ n. n + 1) f.0 e.0 e.1 h apart)) (can.held other);
    })
  ]

  send_keeps : CanSendOne me f h → CanSendOne me f (send_one me e h)
  send_keeps can = elim (cases_eq (owner_of e.0) me) as (λ _. CanSendOne me f (send_one me e h)) [
    | inl mine ↦ subst (CanSendOne me f) (sym (cond_eq (owner_of e.0) me (raise 1 e.0 h) (spend 1 e.0 h) mine)) (record {
      there = λ same. has_set_own (λ n. n + 1) f.0 e.0 h ∙ can.there same;
      own = λ same. subst (λ n. n + 1 < count_limit) (sym (own_set_other (λ n. n + 1) f.0 e.0 h (same ∙ sym mine) apart)) (can.own same);
      held = λ other. subst (λ n. 1 ≤ n) (sym (held_set_own (λ n. n + 1) f.0 e.0 h)) (can.held other);
    })
    | inr others ↦
        let row = entry_row (m.get h.foreign e.0) in
        subst (CanSendOne me f) (sym (cond_ne (owner_of e.0) me (raise 1 e.0 h) (spend 1 e.0 h) others)) (record {
          there = λ same. has_set_held (λ n. n - 1) f.0 e.0 row h ∙ can.there same;
          own = λ same. subst (λ n. n + 1 < count_limit) (sym (own_set_held (λ n. n - 1) f.0 e.0 row h)) (can.own same);
          held = λ other. subst (λ n. 1 ≤ n) (sym (held_set_other (λ n. n - 1) f.0 e.0 row h apart)) (can.held other);
        })
  ]

-- both facts on each element
both : (P Q : Loaded → Type 0) (load : List Loaded) → All P load → All Q load → All (λ f. P f × Q f) load
both P Q load p q k d within = (p k d within, q k d within)

pub once-received : OnceIsReceived
once-received me [] h once can = tt
once-received me (e ∷ load) h once can = (
  All-head (λ f. CanReceiveOne me f h) e load can,
  once-received me load (receive_one me e h) (once-tail e load once)
      (All-weaker (λ f. (f.0 ≢ e.0) × CanReceiveOne me f h) (λ f. CanReceiveOne me f (receive_one me e h)) (λ f p. receive_keeps me e f h p.0 p.1) load
      (both (λ f. f.0 ≢ e.0) (λ f. CanReceiveOne me f h) load (others e load once) (All-tail (λ f. CanReceiveOne me f h) e load can))),
)

pub once-sent : OnceIsSent
once-sent me [] h once can = tt
once-sent me (e ∷ load) h once can = (
  All-head (λ f. CanSendOne me f h) e load can,
  once-sent me load (send_one me e h) (once-tail e load once)
      (All-weaker (λ f. (f.0 ≢ e.0) × CanSendOne me f h) (λ f. CanSendOne me f (send_one me e h)) (λ f p. send_keeps me e f h p.0 p.1) load
      (both (λ f. f.0 ≢ e.0) (λ f. CanSendOne me f h) load (others e load once) (All-tail (λ f. CanSendOne me f h) e load can))),
)

pub loads-once : LoadsAreOnce
unfolding times_loaded
loads-once rows all args covers x =
    let exact = loads-exact rows all args covers in
    elim (cases_reached rows all args covers x) as (λ _. times_loaded x (load_of rows all args) ≤ 1) [
      | inl reached ↦ omega (arith, exact.once x reached)
      | inr not_reached ↦ omega (arith, exact.no_other x not_reached)
    ]
