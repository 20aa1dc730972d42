-- Where a text has a fault, and where it has none.
use Rattle.std.proofs.Common.{◌≡◌, ◌≢◌, ℕ, ◌+◌, ◌<◌, ◌≤◌, Bool, false, List, [], ◌∷◌, ◌++◌, length, map, drop, All, refl, ap, sym, ◌∙◌, subst, arith, codes, append_assoc, append-nil, length-append, drop_of_length-le, take_all, inl, inr, Some, zero, suc, add-one}
use Rattle.std.specs.List.{flat_map, slice_get}
use Rattle.std.proofs.lemmas.Bool.{cases_lt}
use Rattle.std.proofs.lemmas.List.{length-map}
use Rattle.std.proofs.lemmas.List.Elements.{All-head, All-tail}
use Rattle.std.proofs.lemmas.Option.{same_Some, slice_get_within}
use Rattle.orca_names.specs.declared.limits.TheConstants.{BOOK_LIMIT}
use Rattle.event_rule.specs.declared.event.Event.{Event}
use Rattle.event_rule.specs.Events.{event_text}
use Rattle.text_lines.specs.Lines.{lines_of}
use Rattle.run_book.specs.Books.{BookValue, entry_line}
use Rattle.run_book.specs.Reading.{Begins, HasFault, IsBookText, IsEntry, IsFirstFault, IsOneTooMany, LacksEntry, LacksFeed, LacksHeader, MayFollow, Says, TellsFirst, TellsNone}
use Rattle.run_book.specs.Progress.{HasEntry, IsLowestFault, IsReadTo}
use Rattle.run_book.specs.declared.errors.BookErr.{BookErr}
use Rattle.run_book.specs.declared.errors.BookErr.TheVariants as E
use Rattle.run_book.specs.declared.header.Header.{Header}
use Rattle.run_book.proofs.Alike.{said_same}
use Rattle.run_book.proofs.Lines.{lines_read}
use Rattle.run_book.proofs.Steps.{read_whole}

-- ---- kinds

-- what is so at a fault of each kind is so at each fault
pub by_kind : (Q : ℕ → Type 0) (bytes : List ℕ) (number kind : ℕ) →
    (LacksHeader bytes number → Q 1) → (LacksEntry bytes number → Q 2) →
    (IsOneTooMany bytes number → Q 3) → (LacksFeed bytes number → Q 4) →
    HasFault bytes number kind → Q kind
by_kind Q bytes number kind one two three four (inl h) = subst Q (sym h.0) (one h.1)
by_kind Q bytes number kind one two three four (inr (inl h)) = subst Q (sym h.0) (two h.1)
by_kind Q bytes number kind one two three four (inr (inr (inl h))) = subst Q (sym h.0) (three h.1)
by_kind Q bytes number kind one two three four (inr (inr (inr h))) = subst Q (sym h.0) (four h.1)

-- ---- lists of lines

-- a line among the first ones is that of an entry
entry_at : (leaves : Bool) (entries : List Event) (more : List (List ℕ)) (i : ℕ) (line : List ℕ) →
    All (MayFollow leaves) entries → i < length entries →
    slice_get (map event_text entries ++ more) i ≡ Some line → (e : Event) × IsEntry leaves e line
entry_at leaves [] more i line h inside is = absurd (omega arith)
entry_at leaves (e ∷ entries) more zero line h inside is =
    (e, (All-head (MayFollow leaves) e entries h, sym (same_Some (event_text e) line is)))
entry_at leaves (e ∷ entries) more (suc i) line h inside is =
    entry_at leaves entries more i line (All-tail (MayFollow leaves) e entries h) (omega arith) is

behind_first : (first : List ℕ) (lines : List (List ℕ)) (i : ℕ) (line : List ℕ) →
    slice_get (first ∷ lines) (i + 1) ≡ Some line → slice_get lines i ≡ Some line
behind_first first lines i line e = rw add-one at e

before_others : (first : List ℕ) (lines : List (List ℕ)) (i : ℕ) (line : List ℕ) →
    slice_get lines i ≡ Some line → slice_get (first ∷ lines) (i + 1) ≡ Some line
before_others first lines i line e = rw add-one e

-- the one behind them
line_at : (entries : List Event) (line : List ℕ) (more : List (List ℕ)) →
    slice_get (map event_text entries ++ line ∷ more) (length entries) ≡ Some line
line_at [] line more = refl
line_at (e ∷ entries) line more = line_at entries line more

count_lines : (entries : List Event) (more : List (List ℕ)) →
    length (map event_text entries ++ more) ≡ length entries + length more
count_lines entries more = length-append (map event_text entries) more
    ∙ ap (λ (n : ℕ). n + length more) (length-map entries event_text)

-- ---- a text that is read so far

ends_in_feed : (entries : List Event) (front : List ℕ) →
    (before : List ℕ) × (front ++ codes "\n" ++ flat_map entry_line entries ≡ before ++ codes "\n")
ends_in_feed [] front = (front, append-nil (front ++ codes "\n"))
ends_in_feed (e ∷ entries) front =
    let next = ends_in_feed entries (front ++ codes "\n" ++ event_text e) in (
      next.0,
      sym (append_assoc (front ++ codes "\n") (event_text e ++ codes "\n")
          (flat_map entry_line entries))
          ∙ ap (λ (l : List ℕ). l ++ flat_map entry_line entries)
          (sym (append_assoc (front ++ codes "\n") (event_text e) (codes "\n"))) ∙ next.1,
    )

module _ (bytes : List ℕ) (h : Header) (entries : List Event) (from : ℕ)
    (r : IsReadTo bytes h entries from) where
  pub told : lines_of bytes ≡ r.first ∷ (map event_text entries ++ lines_of (drop from bytes))
  told = lines_read bytes h entries from r

  pub begins : Begins bytes h
  begins = (r.first, ap (λ (ls : List (List ℕ)). slice_get ls 0) told, r.says)

  pub count : length (lines_of bytes) ≡ length entries + length (lines_of (drop from bytes)) + 1
  count = ap length told ∙ omega (arith, count_lines entries (lines_of (drop from bytes)))

  -- a line that is no entry comes behind these
  pub lacks_behind : (number : ℕ) → LacksEntry bytes number → length entries + 2 ≤ number
  lacks_behind number f = elim (cases_lt f.before (length entries)) [
    | inl inside ↦ let known =
        entry_at h.leaves entries (lines_of (drop from bytes)) f.before f.line r.follow inside
        (behind_first r.first _ f.before f.line
        (sym (ap (λ (ls : List (List ℕ)). slice_get ls (f.before + 1)) told) ∙ f.is)) in
        absurd (f.none h known.0 begins known.1)
    | inr past ↦ omega (arith, f.at)
  ]

  -- at the end nothing is wrong
  ended : length bytes ≤ from → (number kind : ℕ) → ¬ HasFault bytes number kind
  ended end number kind = by_kind (λ k. ⊥) bytes number kind (λ f. f.none h begins)
      (λ f. let late = lacks_behind number f in
      let there = slice_get_within (lines_of bytes) (f.before + 1) f.line f.is in
      omega (arith, f.at, counted))
      (λ f. omega (arith, f.there, counted, r.few))
      (λ f. let last = ends_in_feed entries r.first in
      f.none last.0 (sym (take_all from bytes end) ∙ r.whole ∙ last.1))
    where
      counted : length (lines_of bytes) ≡ length entries + 1
      counted = count ∙ ap (λ (ls : List ℕ). length entries + length (lines_of ls) + 1)
          (drop_of_length-le bytes end) ∙ omega arith

pub faultless : (bytes : List ℕ) (b : BookValue) → IsBookText bytes b → (number kind : ℕ) →
    ¬ HasFault bytes number kind
faultless bytes b t =
    ended bytes t.header b.entries (length bytes) (read_whole bytes b t) (omega arith)

-- ---- a fault of the next line

module _ (bytes : List ℕ) (h : Header) (entries : List Event) (from : ℕ)
    (r : IsReadTo bytes h entries from)
    (line : List ℕ) (rest : List (List ℕ)) (next : lines_of (drop from bytes) ≡ line ∷ rest) where
  abbrev pub number : ℕ
  number = length entries + 2

  there : slice_get (lines_of bytes) (length entries + 1) ≡ Some line
  there =
      ap (λ (ls : List (List ℕ)). slice_get ls (length entries + 1)) (told bytes h entries from r
      ∙ ap (λ (ls : List (List ℕ)). r.first ∷ (map event_text entries ++ ls)) next)
      ∙ before_others r.first (map event_text entries ++ line ∷ rest) (length entries) line
      (line_at entries line rest)

  more : length (lines_of bytes) ≡ length entries + length rest + 2
  more = count bytes h entries from r
      ∙ ap (λ (ls : List (List ℕ)). length entries + length ls + 1) next ∙ omega arith

  -- each entry that another reading of the first line lets follow may follow
  said : (g : Header) → Begins bytes g → g.leaves ≡ h.leaves
  said g b =
      let first = same_Some b.0 r.first (sym b.1
      ∙ ap (λ (ls : List (List ℕ)). slice_get ls 0) (told bytes h entries from r)) in
      (said_same r.first g h (subst (λ (l : List ℕ). Says l g) first b.2) r.says).2

  lacks_this : (k : ℕ) → k ≡ number → LacksEntry bytes k → (e : Event) → ¬ IsEntry h.leaves e line
  lacks_this k is f e entry =
      let place : f.before + 1 ≡ length entries + 1 = omega (arith, f.at) in
      let same = same_Some line f.line (sym there
      ∙ ap (λ (i : ℕ). slice_get (lines_of bytes) i) (sym place) ∙ f.is) in
      f.none h e (begins bytes h entries from r)
      (subst (λ (l : List ℕ). IsEntry h.leaves e l) same entry)

  later : (k kind : ℕ) → HasFault bytes k kind → number ≤ k
  later k kind = by_kind (λ _. number ≤ k) bytes k kind
      (λ f. absurd (f.none h (begins bytes h entries from r)))
      (λ f. lacks_behind bytes h entries from r k f) (λ f. omega (arith, f.at, r.few))
      (λ f. omega (arith, f.at, more))

  first_at : (kind : ℕ) → HasFault bytes number kind →
      ((other : ℕ) → HasFault bytes number other → kind ≤ other) → IsFirstFault bytes number kind
  first_at kind f lowest = record {
    there = f;
    first = λ k other g. elim (cases_lt number k) [
      | inl before ↦ inl before
      | inr upto ↦ let same : number ≡ k = omega (arith, later k other g) in
          inr (same, lowest other (subst (λ (m : ℕ). HasFault bytes m other) (sym same) g))
    ];
  }

  not_the_first : LacksHeader bytes number → ⊥
  not_the_first f = omega (arith, f.at)

  no_entry : ¬ HasEntry h.leaves line → IsFirstFault bytes number 2
  no_entry none = first_at 2
      (inr (inl (
        refl,
        record {
          before = length entries;
          line = line;
          at = refl;
          is = there;
          none = λ g e b entry. none
              (e, subst (λ (leaves : Bool). IsEntry leaves e line) (said g b) entry);
        },
      )))
      (λ other. by_kind (λ k. 2 ≤ k) bytes number other (λ f. absurd (not_the_first f))
      (λ f. omega arith) (λ f. omega arith) (λ f. omega arith))

  one_too_many : HasEntry h.leaves line → BOOK_LIMIT ≤ length entries → IsFirstFault bytes number 3
  one_too_many entry full = first_at 3
      (inr (inr (inl (refl, record { at = omega (arith, r.few); there = omega (arith, more) }))))
      (λ other. by_kind (λ k. 3 ≤ k) bytes number other (λ f. absurd (not_the_first f))
      (λ f. absurd (lacks_this number refl f entry.0 entry.1)) (λ f. omega arith)
      (λ f. omega arith))

  no_feed : HasEntry h.leaves line → length entries < BOOK_LIMIT → rest ≡ [] →
      ((before : List ℕ) → bytes ≢ before ++ codes "\n") → IsFirstFault bytes number 4
  no_feed entry room alone none = first_at 4
      (inr (inr (inr (
        refl,
        record {
          some = omega arith;
          at =
              omega (arith, more, ap length alone);
          none = none;
        },
      ))))
      (λ other. by_kind (λ k. 4 ≤ k) bytes number other (λ f. absurd (not_the_first f))
      (λ f. absurd (lacks_this number refl f entry.0 entry.1)) (λ f. omega (arith, f.at))
      (λ f. omega arith))

  pub first_fault : (ended : Bool) (kind : ℕ) →
      IsLowestFault h.leaves line (length entries) ended kind →
      (ended ≡ false → (rest ≡ []) × ((before : List ℕ) → bytes ≢ before ++ codes "\n")) →
      IsFirstFault bytes number kind
  first_fault ended kind (inl f) last = subst (IsFirstFault bytes number) (sym f.0) (no_entry f.1)
  first_fault ended kind (inr (inl f)) last =
      subst (IsFirstFault bytes number) (sym f.0) (one_too_many f.1 f.2)
  first_fault ended kind (inr (inr f)) last =
      let unfed = last f.3 in
      subst (IsFirstFault bytes number) (sym f.0) (no_feed f.1 f.2 unfed.0 unfed.1)

-- what has a first fault is no book's text
pub no_book : (bytes : List ℕ) (e : BookErr) → TellsFirst bytes e → TellsNone bytes e
no_book bytes (E.Fault line kind) f = λ b t. faultless bytes b t line kind f.there
no_book bytes E.NoMemory f = tt
