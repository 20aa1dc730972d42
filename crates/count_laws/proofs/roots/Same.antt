-- Own rows through changes of counts; and what an actor knows with root-only tracing where its cell changes.
use Rattle.std.proofs.Common.{◌≡◌, ◌≢◌, ◌⊎◌, ℕ, ◌+◌, ◌-◌, ◌<◌, ◌≤◌, true, Option, Some, None, is_some, List, [], ◌∷◌, ◌++◌, length, take, drop, refl, sym, ◌∙◌, ap, arith, inl, inr, ⊎_elim, eq-eqb, ne_eqb, drop_of_length-le, length-append}
use Rattle.std.specs.Prelude.{sum_by}
use Rattle.std.proofs.lemmas.Bool.{cases_eq, cases_lt}
use Rattle.std.proofs.lemmas.List.{take-append-le}
use Rattle.std.proofs.lemmas.List.Sums.{sum_by_push}
use Rattle.std.specs.FinMap as m
use Rattle.orca_names.specs.Names.{owner_of}
use Rattle.orca_names.specs.declared.names.ObjName.{ObjName}
use Rattle.orca_names.specs.declared.names.Thing.{Thing}
use Rattle.orca_names.specs.declared.names.Thing.TheVariants.{Actor, Obj}
use Rattle.reach_walk.specs.Reach.{root, owned, thing_row}
use Rattle.letter_kinds.proofs.Counts.{cond_eq, cond_ne, has_set_held}
use Rattle.letter_kinds.proofs.Sums.{sum-nil}
use Rattle.letter_kinds.specs.Counting.{Amount, Loaded, gain, lower, mint_all, receive, receive_one, send, set_held}
use Rattle.letter_kinds.specs.Holdings.{Holdings, Row, has_own, held_in, own_in, row_of}
use Rattle.letter_kinds.specs.Sums.{dec_of, inc_of, load_count}
use Rattle.letter_kinds.specs.Letters.{Letter, App}
use Rattle.count_laws.proofs.knowledge.Paths.{along_row, reach_into}
use Rattle.count_laws.proofs.knowledge.Receiving.{has-receive, own_row, row_set_held_own, row_set_own}
use Rattle.count_laws.proofs.balance.Safety.{drop-push}
use Rattle.count_laws.proofs.knowledge.Sending.{has-mint_all, has-send, row-send}
use Rattle.letter_kinds.proofs.Minting.{row-mint_all}
use Rattle.count_laws.proofs.events.Take.{Alike}
use Rattle.machine_rules.specs.Cell.{Cell, own_row_of}
use Rattle.count_laws.specs.Known.{InFrame, IsKnown, Names, ReachesThrough, row_at}
use Rattle.count_laws.specs.KnownByRoots.{AreRootLetters, IsBacked, IsCountedAfter, IsKnownWithOwner, IsNamedIn, IsRootsAt, WalkRoots, by_count, by_field, by_frame, by_path, by_row, held, mine, named}

-- ---- own rows

pub own_is_row : (me : ℕ) (h : Holdings) (n : ObjName) → n.owner ≡ me → own_row_of me h n ≡ row_at me h (Obj n)
unfolding own_row_of row_of
own_is_row me h n o = rw (eq-eqb n.owner me o) refl

pub own_is_none : (me : ℕ) (h : Holdings) (n : ObjName) → n.owner ≢ me → own_row_of me h n ≡ None
unfolding own_row_of
own_is_none me h n o = rw (ne_eqb n.owner me o) refl

own_some : (o : Option (Row × ℕ)) (row : Row) → own_row o ≡ Some row → is_some o ≡ true
own_some None row e = cc
own_some (Some e') row e = refl

some_own : (o : Option (Row × ℕ)) → is_some o ≡ true → (row : Row) × (own_row o ≡ Some row)
some_own None e = cc
some_own (Some e') e = (e'.0, refl)

-- whose row it has, it owns and has
pub own_row_has : (me : ℕ) (h : Holdings) (n : ObjName) (row : Row) → own_row_of me h n ≡ Some row → (n.owner ≡ me) × (has_own h (Obj n) ≡ true)
unfolding own_row_of has_own
own_row_has me h n row e = ⊎_elim
    (λ same. (same, own_some (m.get h.rows n.serial) row (rw (eq-eqb n.owner me same) at e)))
    (λ other. absurd (let z = rw (ne_eqb n.owner me other) at e in no_row row z))
    (cases_eq n.owner me)
  where
    no_row : (row : Row) → None ≢ Some row
    no_row row e = cc

pub has_own_row : (me : ℕ) (h : Holdings) (n : ObjName) → n.owner ≡ me → has_own h (Obj n) ≡ true → (row : Row) × (own_row_of me h n ≡ Some row)
unfolding own_row_of has_own
has_own_row me h n o e = let z = some_own (m.get h.rows n.serial) e in (z.0, rw (eq-eqb n.owner me o) z.1)

-- own things and their rows are the same
pub record SameOwn (me : ℕ) (h k : Holdings) : Type 0 where
  pub has : (x : Thing) → has_own k x ≡ has_own h x
  pub rows : (n : ObjName) → own_row_of me k n ≡ own_row_of me h n

from_rows : (me : ℕ) (h k : Holdings) → ((x : Thing) → has_own k x ≡ has_own h x) → ((n : ObjName) → n.owner ≡ me → row_at me k (Obj n) ≡ row_at me h (Obj n)) → SameOwn me h k
from_rows me h k has rows = record {
  has = has;
  rows = λ n. ⊎_elim
      (λ o. own_is_row me k n o ∙ rows n o ∙ sym (own_is_row me h n o))
      (λ o. own_is_none me k n o ∙ sym (own_is_none me h n o))
      (cases_eq n.owner me);
}

pub own_self : (me : ℕ) (h : Holdings) → SameOwn me h h
own_self me h = record { has = λ x. refl; rows = λ n. refl }

pub own_alike : (me : ℕ) (h k : Holdings) → Alike me h k → SameOwn me h k
own_alike me h k alike = from_rows me h k alike.has (λ n o. alike.rows (Obj n))

pub own_sent : (me : ℕ) (es : List Loaded) (h : Holdings) → SameOwn me h (send me es h)
own_sent me es h = from_rows me h (send me es h) (λ x. has-send me x es h) (λ n o. row-send me (Obj n) es h)

pub own_minted : (me : ℕ) (es : List Amount) (h : Holdings) → SameOwn me h (mint_all es h)
own_minted me es h = from_rows me h (mint_all es h) (λ x. has-mint_all x es h) (λ n o. row-mint_all me n es h)

pub own_gained : (me : ℕ) (f : ℕ → ℕ) (y : Thing) (r : Option Row) (h : Holdings) → SameOwn me h (set_held f y r h)
own_gained me f y r h = from_rows me h (set_held f y r h) (λ x. has_set_held f x y r h) (λ n o. row_set_held_own me f y r (Obj n) h o)

row_received_one : (me : ℕ) (n : ObjName) (e : Loaded) (h : Holdings) → n.owner ≡ me → row_at me (receive_one me e h) (Obj n) ≡ row_at me h (Obj n)
row_received_one me n e h o = ⊎_elim
    (λ same. rw (cond_eq (owner_of e.0) me (lower 1 e.0 h) (gain 1 e.0 e.1 h) same) (row_set_own me (λ k. k - 1) e.0 (Obj n) h))
    (λ other. rw (cond_ne (owner_of e.0) me (lower 1 e.0 h) (gain 1 e.0 e.1 h) other) (row_set_held_own me (λ k. k + 1) e.0 e.1 (Obj n) h o))
    (cases_eq (owner_of e.0) me)

row_received : (me : ℕ) (n : ObjName) (es : List Loaded) (h : Holdings) → n.owner ≡ me → row_at me (receive me es h) (Obj n) ≡ row_at me h (Obj n)
unfolding receive
row_received me n [] h o = refl
row_received me n (e ∷ es) h o = row_received me n es (receive_one me e h) o ∙ row_received_one me n e h o

pub own_received : (me : ℕ) (es : List Loaded) (h : Holdings) → SameOwn me h (receive me es h)
own_received me es h = from_rows me h (receive me es h) (λ x. has-receive me x es h) (λ n o. row_received me n es h o)

-- ---- what it knows, where its cell changes

module _ (all : Thing → Option Row) (a : ℕ) (c d : Cell) (mail : List Letter) (here : IsRootsAt all a c mail) (same : SameOwn a c.holdings d.holdings)
    (kept : (x : Thing) → 0 < held_in c.holdings x → 0 < held_in d.holdings x) (New : Thing → Type 0)
    (fields : (x : Thing) → Names d.fields.values x → Names c.fields.values x ⊎ New x)
    (frame : (x : Thing) → InFrame d.frame x → InFrame c.frame x ⊎ New x)
    (holds : (x : Thing) → 0 < held_in d.holdings x → (0 < held_in c.holdings x) ⊎ New x)
    (new_known : (x : Thing) → New x → IsKnownWithOwner a d.holdings x) where
  pub still_known : (x : Thing) → IsKnown a c.holdings x → IsKnown a d.holdings x
  still_known x (inl own) = inl (own.0, same.has x ∙ own.1)
  still_known x (inr other) = inr (other.0, kept x other.1)

  still_both : (x : Thing) → IsKnownWithOwner a c.holdings x → IsKnownWithOwner a d.holdings x
  still_both x k = (still_known x k.0, still_known (Actor (owner_of x)) k.1)

  from_old : (x : Thing) → IsNamedIn a d x → IsNamedIn a c x ⊎ New x
  from_old x (by_field n) = ⊎_elim (λ old. inl (by_field old)) inr (fields x n)
  from_old x (by_frame n) = ⊎_elim (λ old. inl (by_frame old)) inr (frame x n)
  from_old x (by_row n row e nm) = inl (by_row n row (sym (same.rows n) ∙ e) nm)

  pub carried_named : (x : Thing) → IsNamedIn a d x → IsKnownWithOwner a d.holdings x
  carried_named x n = ⊎_elim (λ old. still_both x (here.named x old)) (λ new. new_known x new) (from_old x n)

  pub carried_owners : (x : Thing) → 0 < held_in d.holdings x → IsKnown a d.holdings (Actor (owner_of x))
  carried_owners x h = ⊎_elim (λ old. still_known (Actor (owner_of x)) (here.owners x old)) (λ new. (new_known x new).1) (holds x h)

  pub carried_mine : (n : ObjName) (row : Row) → own_row_of a d.holdings n ≡ Some row → all (Obj n) ≡ Some row
  carried_mine n row e = here.mine n row (sym (same.rows n) ∙ e)

  walk_root : (x : Thing) → WalkRoots a d x → ReachesThrough all (WalkRoots a c) x ⊎ ReachesThrough all New x
  walk_root x (named n) = ⊎_elim (λ old. inl (root (named old))) (λ new. inr (root new)) (from_old x n)
  walk_root x (held h) = ⊎_elim (λ old. inl (root (held old))) (λ new. inr (root new)) (holds x h)
  walk_root x (mine o has) = inl (root (mine o (sym (same.has x) ∙ has)))

  pub walks : (x : Thing) → ReachesThrough all (WalkRoots a d) x → ReachesThrough all (WalkRoots a c) x ⊎ ReachesThrough all New x
  walks x h = reach_into all (λ x. ReachesThrough all (WalkRoots a c) x ⊎ ReachesThrough all New x) walk_root
      (λ x y r p e n. ⊎_elim (λ old. inl (along_row all old e n)) (λ new. inr (along_row all new e n)) p)
      (λ n p. ⊎_elim (λ old. inl (owned old)) (λ new. inr (owned new)) p) h

-- ---- what is backed

-- what is counted after some letters is counted after others, and own rows stay
pub backed_on : (a : ℕ) (c d : Cell) (mail later : List Letter) (j k : ℕ) → ((y : Thing) → owner_of y ≡ a → IsCountedAfter c mail j y → IsCountedAfter d later k y)
    → ((n : ObjName) (row : Row) → own_row_of a c.holdings n ≡ Some row → own_row_of a d.holdings n ≡ Some row)
    → (x : Thing) → owner_of x ≡ a → IsBacked a c mail j x → IsBacked a d later k x
backed_on a c d mail later j k up rows x o (by_count counted) = by_count (up x o counted)
backed_on a c d mail later j k up rows x o (by_path {n = n} path) = by_path (record {
  there = let row = has_own_row a c.holdings n o path.there in (own_row_has a d.holdings n row.0 (rows n row.0 row.1)).1;
  from = path.from;
  own = path.own;
  counted = up (Obj path.from) path.own path.counted;
  leads = reach_into (thing_row (own_row_of a c.holdings)) (ReachesThrough (thing_row (own_row_of a d.holdings)) (λ y. y ≡ Obj path.from)) (λ y e. root e)
      (λ y z r p e n. along_row _ p (grown y r e) n) (λ n p. owned p) path.leads;
})
  where
    grown : (y : Thing) (r : Row) → thing_row (own_row_of a c.holdings) y ≡ Some r → thing_row (own_row_of a d.holdings) y ≡ Some r
    grown (Actor i) r e = cc
    grown (Obj n) r e = rows n r e

-- so is an own object that a row of a backed one names
pub backed_along : (a : ℕ) (c : Cell) (mail : List Letter) (k : ℕ) (n m : ObjName) (row : Row) → n.owner ≡ a → own_row_of a c.holdings n ≡ Some row → Names row (Obj m) → has_own c.holdings (Obj m) ≡ true
    → IsBacked a c mail k (Obj n) → IsBacked a c mail k (Obj m)
backed_along a c mail k n m row o e nm there (by_count counted) =
    by_path (record { there = there; from = n; own = o; counted = counted; leads = along_row (thing_row (own_row_of a c.holdings)) (root refl) e nm })
backed_along a c mail k n m row o e nm there (by_path path) =
    by_path (record { there = there; from = path.from; own = path.own; counted = path.counted; leads = along_row (thing_row (own_row_of a c.holdings)) path.leads e nm })

-- the counts of own things rise, or stay
pub backed_more : (a : ℕ) (c d : Cell) (mail : List Letter) (k : ℕ) (x : Thing) → owner_of x ≡ a → ((y : Thing) → owner_of y ≡ a → own_in c.holdings y ≤ own_in d.holdings y)
    → ((n : ObjName) (row : Row) → own_row_of a c.holdings n ≡ Some row → own_row_of a d.holdings n ≡ Some row) → IsBacked a c mail k x → IsBacked a d mail k x
backed_more a c d mail k x o up rows b = backed_on a c d mail mail k k (λ y own counted. let z = up y own in omega arith) rows x o b

pub same_rows_more : (a : ℕ) (h k : Holdings) → SameOwn a h k → (n : ObjName) (row : Row) → own_row_of a h n ≡ Some row → own_row_of a k n ≡ Some row
same_rows_more a h k same n row e = same.rows n ∙ e

-- a prefix that is not the whole is not changed by a letter behind
prefix_same : (f : Letter → ℕ) (k : ℕ) (mail : List Letter) (l : Letter) → k ≤ length mail → sum_by f (take k (mail ++ l ∷ [])) ≡ sum_by f (take k mail)
prefix_same f k mail l h = ap (sum_by f) (take-append-le k mail (l ∷ []) h)

backed_longer : (a : ℕ) (c : Cell) (mail : List Letter) (l : Letter) (k : ℕ) (x : Thing) → owner_of x ≡ a → k ≤ length mail → IsBacked a c mail k x → IsBacked a c (mail ++ l ∷ []) k x
backed_longer a c mail l k x o h b = backed_on a c c mail (mail ++ l ∷ []) k k
    (λ y own counted. omega (arith, prefix_same (dec_of y) k mail l h, prefix_same (load_count y) k mail l h, prefix_same (inc_of y) k mail l h)) (λ n row e. e) x o b

-- a letter comes; where it is an Inc for an own thing, that is backed after each prefix
pub backed_push : (a : ℕ) (c : Cell) (mail : List Letter) (l : Letter)
    → ((x : Thing) (k : ℕ) → owner_of x ≡ a → 0 < sum_by (inc_of x) (drop k mail) → IsBacked a c mail k x)
    → ((x : Thing) (k : ℕ) → owner_of x ≡ a → 0 < inc_of x l → IsBacked a c mail k x)
    → (x : Thing) (k : ℕ) → owner_of x ≡ a → 0 < sum_by (inc_of x) (drop k (mail ++ l ∷ [])) → IsBacked a c (mail ++ l ∷ []) k x
backed_push a c mail l old new x k o h = ⊎_elim
    (λ past.
    let long : length (mail ++ l ∷ []) ≤ k = omega (arith, length-append mail (l ∷ [])) in
    absurd (let z : sum_by (inc_of x) (drop k (mail ++ l ∷ [])) ≡ 0 = rw (drop_of_length-le (mail ++ l ∷ []) long) (sum-nil (inc_of x)) in omega arith))
    (λ within. backed_longer a c mail l k x o within (⊎_elim
    (λ later. old x k o later)
    (λ none. new x k o (let z = ap (sum_by (inc_of x)) (drop-push k mail l within) in omega (arith, sum_by_push (inc_of x) (drop k mail) l)))
    (some_or (sum_by (inc_of x) (drop k mail)))))
    (cases_lt (length mail) k)
  where
    some_or : (n : ℕ) → (0 < n) ⊎ (n ≡ 0)
    some_or n = ⊎_elim (λ e. inr e) (λ ne. inl (omega arith)) (cases_eq n 0)

-- ---- letters that say nothing of what is known

pub letters_push : (all : Thing → Option Row) (ls : List Letter) (l : Letter) → AreRootLetters all (l ∷ []) → AreRootLetters all ls → AreRootLetters all (ls ++ l ∷ [])
letters_push all [] l ok h = ok
letters_push all (App b args load rows ∷ ls) l ok h = (h.0, letters_push all ls l ok h.1)
letters_push all (m ∷ ls) l ok h = letters_push all ls l ok h

-- a letter with no Inc for an own thing comes
pub roots_push : (all : Thing → Option Row) (l : Letter) → AreRootLetters all (l ∷ []) → ((x : Thing) → inc_of x l ≡ 0) → (a : ℕ) (c : Cell) (ls : List Letter) → IsRootsAt all a c ls → IsRootsAt all a c (ls ++ l ∷ [])
roots_push all l ok none a c ls q = record {
  named = q.named;
  owners = q.owners;
  mine = q.mine;
  right = q.right;
  brought = q.brought;
  led = q.led;
  letters = letters_push all ls l ok q.letters;
  backed = backed_push a c ls l q.backed (λ x k o h. absurd (let z = none x in omega arith));
}
