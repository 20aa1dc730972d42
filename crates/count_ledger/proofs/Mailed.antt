-- What letters add to a line.
use Rattle.std.proofs.Common.{◌≡◌, ◌≤◌, ◌<◌, ◌+◌, ◌^◌, ℕ, List, [], ◌∷◌, ◌++◌, Some, take, refl, sym, ap, ◌∙◌, arith, slice_get}
use Rattle.std.specs.Prelude.{if◌then◌else◌, sum_by}
use Rattle.std.specs.List.{All}
use Rattle.std.proofs.lemmas.List.{take_more}
use Rattle.std.proofs.lemmas.List.Elements.{All-weaker}
use Rattle.std.proofs.lemmas.Option.{get_or_from_slice_get, slice_get_within}
use Rattle.std.proofs.lemmas.List.Folds.{fold-map}
use Rattle.std.proofs.lemmas.List.Sums.{sum_by-append, sum_by-take-le}
use Rattle.orca_names.specs.Names.{is_thing, times_among}
use Rattle.orca_names.specs.declared.names.Thing.{Thing}
use Rattle.orca_names.specs.declared.tally.Sums.{Sums}
use Rattle.orca_names.specs.declared.names.Value.{Value}
use Rattle.letter_kinds.specs.Load.{as_load, as_loaded}
use Rattle.row_store.specs.Told.{Lying}
use Rattle.letter_kinds.specs.Counting.{Amount, Loaded}
use Rattle.letter_kinds.specs.Sums.{amount_of, dec_of, inc_of, load_count, times_loaded}
use Rattle.letter_kinds.specs.Letters.{Letter}
use Rattle.letter_kinds.specs.Letters as letters
use Rattle.count_ledger.specs.Lines.{Fits, HasRoom, own_only, raised, raised_by, read, with_mail}
use Rattle.count_ledger.specs.declared.lines.Column.{Column}
use Rattle.count_ledger.specs.declared.lines.Column.TheVariants.{Inc, Dec, Held, Letters}
use Rattle.count_ledger.proofs.Adding.{read_raised}
use Rattle.count_ledger.proofs.Said.{own_both, own_le, own_none, own_same}

-- ---- a line with so much more

-- so much more in three columns
abbrev more : ℕ → ℕ → ℕ → Sums → Sums
more i d n s = record s { inc = s.inc + i; dec = s.dec + d; letters = s.letters + n }

-- as much more is the same
more_same : (i j d e n o : ℕ) (s : Sums) → i ≡ j → d ≡ e → n ≡ o → more i d n s ≡ more j e o s
more_same i j d e n o s p q r = (λ k. more (p k) (q k) (r k) s)

-- nothing more is the same line
more_none : (s : Sums) → more 0 0 0 s ≡ s
more_none s =
    let p : s.inc + 0 ≡ s.inc = omega arith in
    let q : s.dec + 0 ≡ s.dec = omega arith in
    let r : s.letters + 0 ≡ s.letters = omega arith in
    (λ k. record s { inc = p k; dec = q k; letters = r k })

-- one addition after another is one of both
more_twice : (i j d e n o : ℕ) (s : Sums) → more j e o (more i d n s) ≡ more (i + j) (d + e) (n + o) s
more_twice i j d e n o s =
    let p : (s.inc + i) + j ≡ s.inc + (i + j) = omega arith in
    let q : (s.dec + d) + e ≡ s.dec + (d + e) = omega arith in
    let r : (s.letters + n) + o ≡ s.letters + (n + o) = omega arith in
    (λ k. record s { inc = p k; dec = q k; letters = r k })

-- more increments alone
inc_alone : (n : ℕ) (s : Sums) → more n 0 0 s ≡ raised Inc n s
inc_alone n s =
    let q : s.dec + 0 ≡ s.dec = omega arith in
    let r : s.letters + 0 ≡ s.letters = omega arith in
    (λ k. record s { inc = s.inc + n; dec = q k; letters = r k })

-- more decrements alone
dec_alone : (n : ℕ) (s : Sums) → more 0 n 0 s ≡ raised Dec n s
dec_alone n s =
    let p : s.inc + 0 ≡ s.inc = omega arith in
    let r : s.letters + 0 ≡ s.letters = omega arith in
    (λ k. record s { inc = p k; dec = s.dec + n; letters = r k })

-- more letters alone
letters_alone : (n : ℕ) (s : Sums) → more 0 0 n s ≡ raised Letters n s
letters_alone n s =
    let p : s.inc + 0 ≡ s.inc = omega arith in
    let q : s.dec + 0 ≡ s.dec = omega arith in
    (λ k. record s { inc = p k; dec = q k; letters = s.letters + n })

-- ---- no letter, and one more

-- the sum over one letter
one_of : (f : Letter → ℕ) (l : Letter) → sum_by f (l ∷ []) ≡ f l
one_of f l = omega arith

-- a load has a thing as often with rows as values
loaded_as : (x : Thing) (load : List (Thing × Lying)) → times_loaded x (as_load load) ≡ times_among x load
unfolding times_loaded
loaded_as x load = fold-map (λ n (e : Loaded). n + (if is_thing x e.0 then 1 else 0)) as_loaded 0 load

module _ (to : ℕ) where
  -- what increments to an actor say of its own things
  abbrev incs : List Letter → Thing → ℕ
  incs ls = own_only to (λ x. sum_by (inc_of x) ls)

  -- what their decrements say
  abbrev decs : List Letter → Thing → ℕ
  decs ls = own_only to (λ x. sum_by (dec_of x) ls)

  -- no letter changes nothing
  pub no_mail : (s : Sums) → with_mail to [] s ≡ s
  no_mail s =
      more_same (incs [] s.thing) 0 (decs [] s.thing) 0 0 0 s (own_none to (λ x. 0) (λ x. refl) s.thing)
      (own_none to (λ x. 0) (λ x. refl) s.thing) refl ∙ more_none s

  -- letters after letters are all of them
  pub mail_twice : (ls ms : List Letter) (s : Sums)
      → with_mail to ms (with_mail to ls s) ≡ with_mail to (ls ++ ms) s
  mail_twice ls ms s =
      let x = s.thing in
      let joined = λ (f : Thing → Letter → ℕ).
      own_both to (λ y. sum_by (f y) ls) (λ y. sum_by (f y) ms) x
      ∙ own_same to (λ y. sum_by (f y) ls + sum_by (f y) ms) (λ y. sum_by (f y) (ls ++ ms))
      (λ y. sym (sum_by-append (f y) ls ms)) x in
      more_twice (incs ls x) (incs ms x) (decs ls x) (decs ms x) (sum_by (load_count x) ls)
      (sum_by (load_count x) ms) s
      ∙ more_same _ _ _ _ _ _ s (joined inc_of) (joined dec_of) (sym (sum_by-append (load_count x) ls ms))

  -- the first letters add no more than all
  pub mail_le : (n : ℕ) (ls : List Letter) (s : Sums) (column : Column)
      → read column (with_mail to (take n ls) s) ≤ read column (with_mail to ls s)
  mail_le n ls s Inc =
      let le = own_le to (λ x. sum_by (inc_of x) (take n ls)) (λ x. sum_by (inc_of x) ls)
      (λ x. sum_by-take-le (inc_of x) ls n) s.thing in
      omega (arith, le)
  mail_le n ls s Dec =
      let le = own_le to (λ x. sum_by (dec_of x) (take n ls)) (λ x. sum_by (dec_of x) ls)
      (λ x. sum_by-take-le (dec_of x) ls n) s.thing in
      omega (arith, le)
  mail_le n ls s Held = omega arith
  mail_le n ls s Letters = omega (arith, sum_by-take-le (load_count s.thing) ls n)

  -- ---- one letter

  module _ (l : Letter) (s : Sums) where
    -- what one letter adds
    one_letter : with_mail to (l ∷ []) s
        ≡ more (own_only to (λ x. inc_of x l) s.thing) (own_only to (λ x. dec_of x l) s.thing)
        (load_count s.thing l) s
    one_letter = more_same _ _ _ _ _ _ s
        (own_same to (λ x. sum_by (inc_of x) (l ∷ [])) (λ x. inc_of x l) (λ x. one_of (inc_of x) l) s.thing)
        (own_same to (λ x. sum_by (dec_of x) (l ∷ [])) (λ x. dec_of x l) (λ x. one_of (dec_of x) l) s.thing)
        (one_of (load_count s.thing) l)

  -- ---- of each kind of letter

  -- a load
  pub app_line : (behaviour : ℕ) (args : List Value) (load rows : List (Thing × Lying)) (s : Sums)
      → raised_by Letters (λ x. times_among x load) s
      ≡ with_mail to (letters.App behaviour args (as_load load) (as_load rows) ∷ []) s
  unfolding inc_of dec_of load_count
  app_line behaviour args load rows s =
      let none = own_none to (λ x. 0) (λ x. refl) s.thing in
      let n = times_among s.thing load in
      sym (one_letter (letters.App behaviour args (as_load load) (as_load rows)) s
      ∙ more_same _ 0 _ 0 _ n s none none (loaded_as s.thing load) ∙ letters_alone n s)

  -- increments
  pub inc_line : (things : List Amount) (s : Sums)
      → raised_by Inc (own_only to (λ x. amount_of x things)) s ≡ with_mail to (letters.Inc things ∷ []) s
  unfolding inc_of dec_of load_count
  inc_line things s =
      let n = own_only to (λ x. amount_of x things) s.thing in
      sym (one_letter (letters.Inc things) s
      ∙ more_same _ n _ 0 _ 0 s refl (own_none to (λ x. 0) (λ x. refl) s.thing) refl ∙ inc_alone n s)

  -- decrements
  pub dec_line : (things : List Amount) (s : Sums)
      → raised_by Dec (own_only to (λ x. amount_of x things)) s ≡ with_mail to (letters.Dec things ∷ []) s
  unfolding inc_of dec_of load_count
  dec_line things s =
      let n = own_only to (λ x. amount_of x things) s.thing in
      sym (one_letter (letters.Dec things) s
      ∙ more_same _ 0 _ n _ 0 s (own_none to (λ x. 0) (λ x. refl) s.thing) refl refl ∙ dec_alone n s)

  -- a question of the detector
  pub confirm_line : (token : ℕ) (s : Sums) → with_mail to (letters.Confirm token ∷ []) s ≡ s
  unfolding inc_of dec_of load_count
  confirm_line token s =
      let none = own_none to (λ x. 0) (λ x. refl) s.thing in
      one_letter (letters.Confirm token) s ∙ more_same _ 0 _ 0 _ 0 s none none refl ∙ more_none s

  -- ---- room

  -- one letter more
  pub next_mail : (ls : List Letter) (i : ℕ) (l : Letter) → slice_get ls i ≡ Some l → (s : Sums)
      → with_mail to (l ∷ []) (with_mail to (take i ls) s) ≡ with_mail to (take (i + 1) ls) s
  next_mail ls i l is s =
      let more = take_more ls i l (slice_get_within ls i l is)
      ∙ ap (λ m. take i ls ++ m ∷ []) (get_or_from_slice_get ls i l l is) in
      mail_twice (take i ls) (l ∷ []) s ∙ ap (λ ms. with_mail to ms s) (sym more)

  -- the next letter has room where all have
  pub next_fits : (ls : List Letter) (i : ℕ) (l : Letter) → slice_get ls i ≡ Some l → (s : Sums)
      → Fits (with_mail to ls s) → Fits (with_mail to (l ∷ []) (with_mail to (take i ls) s))
  next_fits ls i l is s fits column =
      let same = ap (read column) (next_mail ls i l is s) in
      omega (arith, same, mail_le (i + 1) ls s column, fits column)

-- what is raised has room where the line fits
pub room_from : (column : Column) (said : Thing → ℕ) (f : Sums → Sums) (sums : List Sums)
    → ((s : Sums) → raised_by column said s ≡ f s) → All (λ s. Fits (f s)) sums → HasRoom column said sums
room_from column said f sums same room =
    All-weaker (λ s. Fits (f s)) (λ s. read column s + said s.thing < 2 ^ 64) step sums room
  where
    step : (s : Sums) → Fits (f s) → read column s + said s.thing < 2 ^ 64
    step s fits = omega (arith, ap (read column) (same s), read_raised column (said s.thing) s, fits column)
