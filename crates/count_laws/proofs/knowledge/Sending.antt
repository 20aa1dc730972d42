-- Sending and minting change no row, and who sends knows what it knew.
use Rattle.std.proofs.Common.{◌≡◌, ◌≢◌, ℕ, ◌+◌, ◌-◌, ◌<◌, Option, List, [], ◌∷◌, refl, sym, ◌∙◌, arith, subst, inl, inr, ⊎_elim}
use Rattle.std.proofs.lemmas.Bool.{cases_eq}
use Rattle.std.specs.FinMap as m
use Rattle.orca_names.specs.Names.{owner_of}
use Rattle.orca_names.specs.declared.names.Thing.{Thing}
use Rattle.orca_names.specs.declared.names.Thing.TheVariants.{Actor, Obj}
use Rattle.orca_names.specs.declared.names.Value.{Value}
use Rattle.reach_walk.specs.Reach.{root, owned}
use Rattle.letter_kinds.proofs.Counts.{cond_eq, cond_ne, has_set_own, has_set_held, held-send, held-send_own}
use Rattle.letter_kinds.proofs.Minting.{row-set_held}
use Rattle.letter_kinds.specs.Counting.{Amount, Loaded, raise, set_held, spend, send_one, send, mint_one, mint_all}
use Rattle.letter_kinds.specs.Holdings.{Row, Holdings, held_in, has_own, entry_row}
use Rattle.letter_kinds.specs.Sums.{times_loaded}
use Rattle.count_laws.proofs.knowledge.Paths.{along_row, reach_into, reach_more}
use Rattle.count_laws.proofs.knowledge.Receiving.{row_set_own}
use Rattle.machine_rules.specs.Cell.{Cell}
use Rattle.count_laws.specs.Known.{Names, ReachesThrough, row_at, IsKnown, StartsWalks, in_fields, in_frame, in_table, IsClosedAt, RowsAreAt}

-- ---- a count is changed and the row stays

row_kept : (me : ℕ) (f : ℕ → ℕ) (y x : Thing) (c : Holdings) → row_at me (set_held f y (entry_row (m.get c.foreign y)) c) x ≡ row_at me c x
row_kept me f y (Actor a) c = refl
row_kept me f y (Obj n) c = row-set_held me f y n c

-- ---- sending a load

send_row_one : (me : ℕ) (x : Thing) (e : Loaded) (c : Holdings) → row_at me (send_one me e c) x ≡ row_at me c x
send_row_one me x e c = ⊎_elim
    (λ same. rw (cond_eq (owner_of e.0) me (raise 1 e.0 c) (spend 1 e.0 c) same) (row_set_own me (λ h. h + 1) e.0 x c))
    (λ other. rw (cond_ne (owner_of e.0) me (raise 1 e.0 c) (spend 1 e.0 c) other) (row_kept me (λ h. h - 1) e.0 x c))
    (cases_eq (owner_of e.0) me)

pub row-send : (me : ℕ) (x : Thing) (es : List Loaded) (c : Holdings) → row_at me (send me es c) x ≡ row_at me c x
unfolding send
row-send me x [] c = refl
row-send me x (e ∷ es) c = row-send me x es (send_one me e c) ∙ send_row_one me x e c

send_has_one : (me : ℕ) (x : Thing) (e : Loaded) (c : Holdings) → has_own (send_one me e c) x ≡ has_own c x
send_has_one me x e c = ⊎_elim
    (λ same. rw (cond_eq (owner_of e.0) me (raise 1 e.0 c) (spend 1 e.0 c) same) (has_set_own (λ h. h + 1) x e.0 c))
    (λ other. rw (cond_ne (owner_of e.0) me (raise 1 e.0 c) (spend 1 e.0 c) other) (has_set_held (λ h. h - 1) x e.0 (entry_row (m.get c.foreign e.0)) c))
    (cases_eq (owner_of e.0) me)

pub has-send : (me : ℕ) (x : Thing) (es : List Loaded) (c : Holdings) → has_own (send me es c) x ≡ has_own c x
unfolding send
has-send me x [] c = refl
has-send me x (e ∷ es) c = has-send me x es (send_one me e c) ∙ send_has_one me x e c

-- ---- minting

pub has-mint_all : (x : Thing) (es : List Amount) (c : Holdings) → has_own (mint_all es c) x ≡ has_own c x
unfolding mint_all
has-mint_all x [] c = refl
has-mint_all x (e ∷ es) c = has-mint_all x es (mint_one e c) ∙ has_set_held (λ h. h + e.1) x e.0 (entry_row (m.get c.foreign e.0)) c

-- ---- sending keeps what the actor has closed

module _ (all : Thing → Option Row) (me : ℕ) (c : Cell) (load : List Loaded)
    (enough : (x : Thing) → owner_of x ≢ me → 0 < times_loaded x load → times_loaded x load < held_in c.holdings x)
    (closed : IsClosedAt all me c) (rows : RowsAreAt all me c.holdings) where
  abbrev sent : Cell
  sent = record c { holdings = send me load c.holdings }

  held_less : (x : Thing) → 0 < held_in sent.holdings x → 0 < held_in c.holdings x
  held_less x h = ⊎_elim
      (λ same. subst (λ n. 0 < n) (held-send_own me x load c.holdings same) h)
      (λ other. let z = held-send me x load c.holdings other in omega arith)
      (cases_eq (owner_of x) me)

  pub known_on : (x : Thing) → IsKnown me c.holdings x → IsKnown me sent.holdings x
  known_on x (inl own) = inl (own.0, has-send me x load c.holdings ∙ own.1)
  known_on x (inr other) = inr (other.0, left (held-send me x load c.holdings other.0) (enough x other.0) other.1)
    where
      left : {h h' n : ℕ} → h' ≡ h - n → (0 < n → n < h) → 0 < h → 0 < h'
      left e some pos = grind arith

  known_off : (x : Thing) → IsKnown me sent.holdings x → IsKnown me c.holdings x
  known_off x (inl own) = inl (own.0, sym (has-send me x load c.holdings) ∙ own.1)
  known_off x (inr other) = inr (other.0, held_less x other.1)

  send_root : (x : Thing) → StartsWalks sent x → ReachesThrough all (StartsWalks c) x
  send_root x (in_fields h) = root (in_fields h)
  send_root x (in_frame h) = root (in_frame h)
  send_root x (in_table h) = root (in_table (held_less x h))

  pub send_closed : IsClosedAt all me sent
  send_closed x h = known_on x (closed x (reach_more all send_root h))

  pub send_rows : RowsAreAt all me sent.holdings
  send_rows x k = row-send me x load c.holdings ∙ rows x (known_off x k)

-- ---- what the arguments reach over the actor's own rows is what they reach over all rows

module _ (all : Thing → Option Row) (me : ℕ) (c : Holdings) (args : List Value)
    (known : (x : Thing) → ReachesThrough all (Names args) x → IsKnown me c x) (rows : RowsAreAt all me c) where
  pub over_own : (x : Thing) → ReachesThrough all (Names args) x → ReachesThrough (row_at me c) (Names args) x
  over_own x h = (reach_into all (λ x. ReachesThrough (row_at me c) (Names args) x × ReachesThrough all (Names args) x)
      (λ x n. (root n, root n))
      (λ x y r p e n. (along_row (row_at me c) p.0 (rows x (known x p.1) ∙ e) n, along_row all p.1 e n))
      (λ q p. (owned p.0, owned p.1)) h).0

  pub over_all : (x : Thing) → ReachesThrough (row_at me c) (Names args) x → ReachesThrough all (Names args) x
  over_all x h = reach_into (row_at me c) (ReachesThrough all (Names args)) (λ x n. root n)
      (λ x y r p e n. along_row all p (sym (rows x (known x p)) ∙ e) n)
      (λ q p. owned p) h
