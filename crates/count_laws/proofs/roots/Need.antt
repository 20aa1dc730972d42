-- With root-only tracing: what a turn gets from a row is backed where its owner keeps it, so the actor may mint for it.
use Rattle.std.proofs.Common.{◌≡◌, ◌≢◌, ◌⊎◌, ℕ, ◌<◌, cond, Bool, true, false, Option, Some, List, [], ◌∷◌, map, refl, sym, ◌∙◌, ap, arith, subst, inl, inr, ⊎_elim, eq-eqb}
use Rattle.std.proofs.lemmas.Bool.{cases_eq, cases_Bool, false≢true}
use Rattle.std.specs.Prelude.{Contains}
use Rattle.std.specs.List.{filter}
use Rattle.orca_names.proofs.ThingOrder.{cases_thing}
use Rattle.orca_names.specs.Names.{owner_of}
use Rattle.orca_names.specs.declared.names.ObjName.{ObjName}
use Rattle.orca_names.specs.declared.names.Thing.{Thing}
use Rattle.orca_names.specs.declared.names.Thing.TheVariants.{Actor, Obj}
use Rattle.behaviour_code.specs.declared.code.Program.{Program}
use Rattle.reach_walk.proofs.Elements.{Contains-cons_cases, Contains-head, Contains-later, none_in_nil, only_one}
use Rattle.reach_walk.proofs.InOrder.{in_order-has, in_order-only}
use Rattle.reach_walk.specs.Marks.{in_order, with_owners}
use Rattle.reach_walk.specs.Reach.{named_by, owned}
use Rattle.turn_rules.specs.Segment.{gets_of}
use Rattle.turn_rules.specs.declared.act.Frame.{Frame}
use Rattle.letter_kinds.proofs.Amounts.{held-mint_all}
use Rattle.letter_kinds.proofs.Counts.{amount-nil, amount-same, amount-other, has_actor}
use Rattle.letter_kinds.specs.Counting.{Amount, mint_all}
use Rattle.letter_kinds.specs.Holdings.{Holdings, Row, has_own, held_in}
use Rattle.letter_kinds.specs.Sums.{amount_of}
use Rattle.letter_kinds.specs.Letters.{Letter}
use Rattle.count_laws.proofs.balance.InHand.{AllCounted, Balanced, in_hand}
use Rattle.count_laws.proofs.knowledge.Paths.{reach_into}
use Rattle.count_laws.proofs.roots.Left.{along_left, held_backed, owner_left, reached_left, root_left}
use Rattle.count_laws.proofs.roots.Post.{mint_keeps_roots}
use Rattle.count_laws.proofs.roots.Same.{backed_along, has_own_row}
use Rattle.count_laws.proofs.roots.Turn.{MadeAny, find_some, got_from, not_lacking}
use Rattle.count_laws.proofs.balance.Seats.{some_seat}
use Rattle.count_laws.proofs.balance.Sends.{held_below}
use Rattle.machine_rules.specs.Actors.{Actors, seat, seat_at}
use Rattle.count_laws.specs.Agreement.{Person}
use Rattle.machine_rules.specs.Balance.{held_sum}
use Rattle.machine_rules.specs.Cell.{Cell, own_row_of}
use Rattle.count_laws.specs.Facts.{KeepsCounts}
use Rattle.machine_rules.specs.Go.{lacks, mint, needed, needs, setting_of, to_need}
use Rattle.count_laws.specs.Known.{IsKnown, Names, ReachesThrough}
use Rattle.count_laws.specs.KnownByRoots.{IsBacked, IsKnownWithOwner, IsRootsAt, WalkRoots, by_row, held, mine, named}
use Rattle.machine_rules.specs.Left.{IsLeft}
use Rattle.orca_names.specs.declared.trace.Trace.TheVariants as options

-- ---- what is minted for a thing

needed_of : (w : ℕ) (y : Thing) (p : Thing → Bool) (xs : List Thing) → 0 < amount_of y (map (λ z. (z, w)) (filter p xs)) → Contains xs y
needed_of w y p [] h = absurd (omega (arith, amount-nil y))
needed_of w y p (x ∷ xs) h = elim (p x) as (λ b. 0 < amount_of y (map (λ (z : Thing). (z, w)) (cond b (x ∷ filter p xs) (filter p xs))) → Contains (x ∷ xs) y) [
  | true ↦ λ h. ⊎_elim
      (λ same. subst (Contains (x ∷ xs)) (sym same) (Contains-head x xs))
      (λ other. Contains-later x xs y (needed_of w y p xs (let z = amount-other y (x, w) (map (λ (z : Thing). (z, w)) (filter p xs)) other in omega arith)))
      (cases_thing y x)
  | false ↦ λ h. Contains-later x xs y (needed_of w y p xs h)
] h

of_needed : (w : ℕ) → 0 < w → (y : Thing) (p : Thing → Bool) (xs : List Thing) → Contains xs y → p y ≡ true → 0 < amount_of y (map (λ z. (z, w)) (filter p xs))
of_needed w pos y p [] c t = none_in_nil y _ c
of_needed w pos y p (x ∷ xs) c t = elim (p x) as (λ b. p x ≡ b → 0 < amount_of y (map (λ (z : Thing). (z, w)) (cond b (x ∷ filter p xs) (filter p xs)))) [
  | true ↦ λ pt. ⊎_elim
      (λ same. let z = amount-same y (x, w) (map (λ (z : Thing). (z, w)) (filter p xs)) same in omega arith)
      (λ other. ⊎_elim
      (λ same. absurd (other (sym same)))
      (λ later. let r = of_needed w pos y p xs later t in let z = amount-other y (x, w) (map (λ (z : Thing). (z, w)) (filter p xs)) other in omega arith)
      (Contains-cons_cases x xs y c))
      (cases_thing y x)
  | false ↦ λ pf. ⊎_elim
      (λ same. absurd (false≢true (sym pf ∙ (ap p same ∙ t))))
      (λ later. of_needed w pos y p xs later t)
      (Contains-cons_cases x xs y c)
] refl

pub counted_need : (w : ℕ) → 0 < w → (p : Thing → Bool) (xs : List Thing) → AllCounted (map (λ z. (z, w)) (filter p xs))
counted_need w pos p [] = tt
counted_need w pos p (x ∷ xs) = elim (p x) as (λ b. AllCounted (map (λ (z : Thing). (z, w)) (cond b (x ∷ filter p xs) (filter p xs)))) [
  | true ↦ (pos, counted_need w pos p xs)
  | false ↦ counted_need w pos p xs
]

-- it is the thing or its owner
pub is_pair : (w me : ℕ) (h : Holdings) (x y : Thing) → 0 < amount_of y (to_need w me h x) → (y ≡ x) ⊎ (y ≡ Actor (owner_of x))
is_pair w me h x y some =
    let inside = in_order-only (with_owners (x ∷ [])) y (needed_of w y (lacks me h) (in_order (with_owners (x ∷ []))) some) in
    ⊎_elim (λ e. inl (sym e)) (λ later. inr (sym (only_one (Actor (owner_of x)) y later))) (Contains-cons_cases x (Actor (owner_of x) ∷ []) y inside)

pub itself_minted : (w : ℕ) → 0 < w → (me : ℕ) (h : Holdings) (x : Thing) → lacks me h x ≡ true → 0 < amount_of x (to_need w me h x)
itself_minted w pos me h x t = of_needed w pos x (lacks me h) (in_order (with_owners (x ∷ []))) (in_order-has (with_owners (x ∷ [])) x (Contains-head x (Actor (owner_of x) ∷ []))) t

pub owner_minted : (w : ℕ) → 0 < w → (me : ℕ) (h : Holdings) (x : Thing) → lacks me h (Actor (owner_of x)) ≡ true → 0 < amount_of (Actor (owner_of x)) (to_need w me h x)
owner_minted w pos me h x t = of_needed w pos (Actor (owner_of x)) (lacks me h) (in_order (with_owners (x ∷ [])))
    (in_order-has (with_owners (x ∷ [])) (Actor (owner_of x)) (Contains-later x (Actor (owner_of x) ∷ []) (Actor (owner_of x)) (Contains-head (Actor (owner_of x)) []))) t

-- ---- what an actor's walks reach of others is backed there, and its owner is held

module _ (all : Thing → Option Row) (ps : List Person) (s : Actors) (inv : KeepsCounts options.Roots all ps s)
    (a : ℕ) (c : Cell) (ls : List Letter) (at : seat_at s a ≡ seat c ls) where
  bal : Balanced s
  bal = in_hand s inv.balanced

  here : IsRootsAt all a c ls
  here = inv.sound a c ls at

  abbrev BackedThere : Thing → Type 0
  BackedThere x = (d : Cell) (ms : List Letter) → seat_at s (owner_of x) ≡ seat d ms → (k : ℕ) → IsBacked (owner_of x) d ms k x

  abbrev Kept : Thing → Type 0
  Kept x = owner_of x ≢ a → (0 < held_sum (Actor (owner_of x)) s) × BackedThere x

  -- who holds a thing and its owner
  by_holder : (x : Thing) (b : ℕ) (d : Cell) (ms : List Letter) → seat_at s b ≡ seat d ms → owner_of x ≢ b → IsKnownWithOwner b d.holdings x → (0 < held_sum (Actor (owner_of x)) s) × BackedThere x
  by_holder x b d ms there out known = (
    let z = held_below (Actor (owner_of x)) s b d ms there in let w = held_if known.1 in omega arith,
    λ e ns is k. held_backed all s bal inv.sound inv.bare x (owner_of x) e ns is refl (let z = held_below x s b d ms there in let w = held_if' known.0 in omega arith) k,
  )
    where
      held_if : IsKnown b d.holdings (Actor (owner_of x)) → 0 < held_in d.holdings (Actor (owner_of x))
      held_if (inl own) = absurd (out own.0)
      held_if (inr other) = other.1

      held_if' : IsKnown b d.holdings x → 0 < held_in d.holdings x
      held_if' (inl own) = absurd (out own.0)
      held_if' (inr other) = other.1

  from_root : (x : Thing) → WalkRoots a c x → Kept x
  from_root x (named n) = λ out. by_holder x a c ls at out (here.named x n)
  from_root x (held h) = λ out. by_holder x a c ls at out (inr (out, h), here.owners x h)
  from_root x (mine o h) = λ out. absurd (out o)

  along : (x y : Thing) (r : Row) → IsLeft s x × Kept x → all x ≡ Some r → Names r y → Kept y
  along (Actor i) y r p e nm = absurd (let z = inv.bare i in cc)
  along (Obj n) y r p e nm = λ out. ⊎_elim
      (λ same.
      let z = p.1 (λ o. out (same ∙ o)) in (
        subst (λ i. 0 < held_sum (Actor i) s) (sym same) z.0,
        subst (λ i. (d : Cell) (ms : List Letter) → seat_at s i ≡ seat d ms → (k : ℕ) → IsBacked i d ms k y) (sym same) (λ d ms is k. on y same nm d ms is k z.0 (z.1 d ms is k)),
      ))
      (λ other. by_holder y n.owner left.seat.cell left.seat.mail left.present other (q.named y (by_row n own.0 own.1 (subst (λ r. Names r y) (sym row_is) nm))))
      (cases_eq (owner_of y) n.owner)
    where
      left : IsLeft s (Obj n)
      left = p.0

      q : IsRootsAt all n.owner left.seat.cell left.seat.mail
      q = inv.sound n.owner left.seat.cell left.seat.mail left.present

      own : (r : Row) × (own_row_of n.owner left.seat.cell.holdings n ≡ Some r)
      own = has_own_row n.owner left.seat.cell.holdings n refl left.kept

      row_is : own.0 ≡ r
      row_is = let z = q.mine n own.0 own.1 in cc

      has : (m : ObjName) → IsKnown n.owner left.seat.cell.holdings (Obj m) → m.owner ≡ n.owner → has_own left.seat.cell.holdings (Obj m) ≡ true
      has m (inl own) same = own.1
      has m (inr other) same = absurd (other.0 same)

      -- its owner is held, so it is counted
      on : (y : Thing) → owner_of y ≡ n.owner → Names r y → (d : Cell) (ms : List Letter) → seat_at s n.owner ≡ seat d ms → (k : ℕ) → 0 < held_sum (Actor n.owner) s
          → IsBacked n.owner d ms k (Obj n) → IsBacked n.owner d ms k y
      on (Actor i) same nm d ms is k owner b = held_backed all s bal inv.sound inv.bare (Actor i) n.owner d ms is same (subst (λ i. 0 < held_sum (Actor i) s) (sym same) owner) k
      on (Obj m) same nm d ms is k owner b =
          let z = some_seat left.seat.cell d left.seat.mail ms (sym left.present ∙ is) in
          let names = subst (λ r. Names r (Obj m)) (sym row_is) nm in
          backed_along n.owner d ms k n m own.0 refl (subst (λ (e : Cell). own_row_of n.owner e.holdings n ≡ Some own.0) z.0 own.1) names
          (subst (λ (e : Cell). has_own e.holdings (Obj m) ≡ true) z.0 (has m (q.named (Obj m) (by_row n own.0 own.1 names)).0 same)) b

  up : (n : ObjName) → Kept (Obj n) → Kept (Actor n.owner)
  up n kept = λ out. let z = kept out in (z.0, λ d ms is k. held_backed all s bal inv.sound inv.bare (Actor n.owner) n.owner d ms is refl z.0 k)

  pub reached_kept : {x : Thing} → ReachesThrough all (WalkRoots a c) x → Kept x
  reached_kept h = (reach_into all (λ x. IsLeft s x × Kept x)
      (λ x r. (root_left all s bal inv.sound inv.bare a c ls at x r, from_root x r))
      (λ x y r p e n. (along_left all s bal inv.sound inv.bare x y r p.0 e n, along x y r p e n))
      (λ n p. (owner_left all s bal inv.sound n p.0, up n p.1)) h).1

  -- ---- the actor mints for what it needs

  module _ (wt : ℕ) (heavy : 0 < wt) (program : Program) (f : Frame) (frame : c.frame ≡ Some f) (x : Thing) (need : needed options.Roots program a c f ≡ Some x) where
    abbrev es : List Amount
    es = to_need wt a c.holdings x

    found : Contains (named_by (gets_of (setting_of options.Roots program a c) f c.fields)) x × (needs a c.holdings x ≡ true)
    found = find_some (needs a c.holdings) (named_by (gets_of (setting_of options.Roots program a c) f c.fields)) x need

    pub foreign : owner_of x ≢ a
    foreign o = let t : needs a c.holdings x ≡ false = rw (eq-eqb (owner_of x) a o) refl in false≢true (sym t ∙ found.1)

    pub reached : ReachesThrough all (WalkRoots a c) x
    reached = ⊎_elim
        (λ r. r)
        (λ p. ⊎_elim (λ self. absurd (foreign (ap owner_of self))) (λ (any : MadeAny a c.holdings.next x). absurd (foreign (ap owner_of any.1))) p)
        (got_from program all all ps s inv a c ls at f frame x found.0)

    owner_is : (y : Thing) → 0 < amount_of y es → owner_of y ≡ owner_of x
    owner_is y some = ⊎_elim (λ e. ap owner_of e) (λ e. ap owner_of e) (is_pair wt a c.holdings x y some)

    owner_reached : (x : Thing) → ReachesThrough all (WalkRoots a c) x → ReachesThrough all (WalkRoots a c) (Actor (owner_of x))
    owner_reached (Actor i) h = h
    owner_reached (Obj n) h = owned h

    pub walk : (y : Thing) → 0 < amount_of y es → ReachesThrough all (WalkRoots a c) y
    walk y some = ⊎_elim
        (λ e. subst (λ y. ReachesThrough all (WalkRoots a c) y) (sym e) reached)
        (λ e. subst (λ y. ReachesThrough all (WalkRoots a c) y) (sym e) (owner_reached x reached))
        (is_pair wt a c.holdings x y some)

    owner_known : (y : Thing) → 0 < amount_of y es → IsKnown a (mint_all es c.holdings) (Actor (owner_of y))
    owner_known y some = subst (λ i. IsKnown a (mint_all es c.holdings) (Actor i)) (sym (owner_is y some)) (⊎_elim
        (λ t. inr (foreign, let z = held-mint_all (Actor (owner_of x)) es c.holdings in let w = owner_minted wt heavy a c.holdings x t in omega arith))
        (λ f. ⊎_elim (λ own. absurd (foreign own.0))
        (λ other. inr (foreign, let z = held-mint_all (Actor (owner_of x)) es c.holdings in let w = other.1 in omega arith))
        (not_lacking a c.holdings (Actor (owner_of x)) f (λ o. has_actor c.holdings (owner_of x))))
        (cases_Bool (lacks a c.holdings (Actor (owner_of x)))))

    pub left : IsLeft s x
    left = reached_left all s bal inv.sound inv.bare a c ls at reached

    pub need_keeps_roots : KeepsCounts options.Roots all ps (mint a c ls (owner_of x) es s)
    need_keeps_roots = mint_keeps_roots all ps s inv a c ls at (owner_of x) es owner_is foreign (counted_need wt heavy (lacks a c.holdings) (in_order (with_owners (x ∷ []))))
        owner_known walk left.seat left.present
        (λ y k o some. subst (λ i. IsBacked i left.seat.cell left.seat.mail k y) o
        ((reached_kept (walk y some) (λ e. foreign (sym (owner_is y some) ∙ e))).1 left.seat.cell left.seat.mail (ap (seat_at s) o ∙ left.present) k))
