-- What the lines of an actor say of a thing.
use Rattle.std.proofs.Common.{◌≡◌, ◌<◌, ◌+◌, ◌==◌, ◌^◌, ℕ, Bool, false, not, if◌then◌else◌, List, [], ◌∷◌, ◌++◌, map, drop, Option, refl, ap, sym, ◌∙◌, arith}
use Rattle.std.specs.Prelude.{bytes_eq, codes, flat_map, sum_by, ⊤}
use Rattle.std.specs.FinMap as m
use Rattle.std.specs.Fmt.{decimal}
use Rattle.std.specs.List.{AllByRecursion}
use Rattle.std.proofs.lemmas.List.Sums.{sum_by-cons}
use Rattle.orca_names.specs.Names.{is_thing, owner_of}
use Rattle.orca_names.specs.declared.names.Thing.{Thing}
use Rattle.orca_names.specs.declared.names.Thing.TheVariants.{Actor}
use Rattle.behaviour_code.specs.Names.{text_of}
use Rattle.behaviour_text.specs.Words.{number_at, number_of, word_at}
use Rattle.letter_kinds.proofs.Counts.{loaded-nil}
use Rattle.letter_kinds.specs.Counting.{Loaded}
use Rattle.letter_kinds.specs.Holdings.{Row, held_in, own_in}
use Rattle.letter_kinds.specs.Sums.{dec_of, inc_of, load_count, times_loaded}
use Rattle.letter_kinds.specs.Letters.{Letter, App, Inc, Dec, Confirm}
use Rattle.machine_rules.specs.Cell.{Cell}
use Rattle.count_laws.proofs.balance.SeatReads.{letter_App, letter_Confirm, letter_Dec, letter_Inc}
use Rattle.picture_rules.specs.Seats.{actor_line, brings_line, cell_lines, fields_lines, holds_line, knows_line, letter_lines, loads_lines, object_line, turn_lines}
use Rattle.picture_rules.specs.Words.{Line, Word, amount_words, thing_word, value_words}
use Rattle.picture_laws.specs.Applying.{further, is_further}
use Rattle.picture_laws.specs.Sums.{amounts, count_in, if_of, object_count, own_count, said_by, times}
use Rattle.picture_laws.proofs.Amounts.{IsFew, IsOfFit, all_said, amount_in, amounts_said, has_of, once, one_said, thing_in, thing_of, times_said, word_of, words_of}
use Rattle.picture_laws.proofs.Blocks.{inner_further, seat_inner}
use Rattle.picture_laws.proofs.Bytes.{Pass, all_append, all_cons, all_weaker, said}
use Rattle.picture_laws.proofs.Shown.{first_passes, off, others_pass}
use Rattle.picture_laws.proofs.Silent.{alone, both_add, brings_off, fields_off, holds_off, is_silent, knows_off, letters_off, loads_off, objects_off, one_more, passed_by, silent, turn_off}
use Rattle.picture_laws.proofs.Tables.{held_amount, held_is, held_thing, own_is, row_amount, row_thing}

-- ---- numbers of 64 bits

-- those of a letter
abbrev pub LetterFits : Letter → Type 0
LetterFits (App behaviour args load rows) = AllByRecursion (IsOfFit thing_in once) load
LetterFits (Inc things) = AllByRecursion (IsFew thing_of amount_in) things × AllByRecursion (IsOfFit thing_of amount_in) things
LetterFits (Dec things) = AllByRecursion (IsFew thing_of amount_in) things × AllByRecursion (IsOfFit thing_of amount_in) things
LetterFits (Confirm token) = ⊤

-- those of an actor
pub record SeatFits (a : ℕ) (c : Cell) (mail : List Letter) : Type 0 where
  pub number : a < 2 ^ 64
  pub count : c.holdings.count < 2 ^ 64
  pub rows_few : AllByRecursion (IsFew (row_thing a) (row_amount a)) (m.entries c.holdings.rows)
  pub rows_fit : AllByRecursion (IsOfFit (row_thing a) (row_amount a)) (m.entries c.holdings.rows)
  pub held_few : AllByRecursion (IsFew held_thing held_amount) (m.entries c.holdings.foreign)
  pub held_fit : AllByRecursion (IsOfFit held_thing held_amount) (m.entries c.holdings.foreign)
  pub letters : AllByRecursion LetterFits mail

all_further : (lines : List Line) → Pass is_further lines → further lines ≡ lines
all_further [] h = refl
all_further (l ∷ lines) h =
    ap (λ (b : Bool). if b then l ∷ further lines else []) (first_passes h) ∙ ap (λ ls. l ∷ ls) (all_further lines (others_pass h))

-- where no actor begins, nothing is counted
pub no_counts : (x : Thing) (lines : List Line) → Pass (is_silent (codes "actor")) lines → count_in (thing_word x) lines ≡ 0
no_counts x [] h = refl
no_counts x (l ∷ lines) h =
    let none : own_count (thing_word x) l lines ≡ 0 = ap (λ (b : Bool). if b then if_of (thing_word x) (codes "a" ++ word_at l 1) (number_at l 6)
    + sum_by (object_count (thing_word x) (word_at l 1)) (further lines) else 0) (off (bytes_eq (word_at l 0) (codes "actor")) (first_passes h)) in
    omega (arith, none, no_counts x lines (others_pass h))

module _ (x : Thing) (texts : List (List ℕ)) where
  -- ---- letters

  inc_said : (l : Letter) → LetterFits l → said_by (codes "inc") (amounts (thing_word x)) (letter_lines texts l) ≡ inc_of x l
  inc_said (App behaviour args load rows) f =
      silent (codes "inc") (λ line. amounts (thing_word x) (drop 1 line)) (letter_lines texts (App behaviour args load rows))
      (all_cons refl (all_append (loads_off (codes "inc") refl load) (brings_off (codes "inc") refl rows)))
      ∙ sym (letter_App x behaviour args load rows).0
  inc_said (Inc things) f =
      alone (codes "inc") (λ line. amounts (thing_word x) (drop 1 line)) (codes "inc" ∷ flat_map amount_words things) refl ∙ amounts_said x things f.0 f.1 ∙ sym (letter_Inc x things).0
  inc_said (Dec things) f =
      silent (codes "inc") (λ line. amounts (thing_word x) (drop 1 line)) (letter_lines texts (Dec things)) (all_cons refl (said refl))
      ∙ sym (letter_Dec x things).0
  inc_said (Confirm token) f =
      silent (codes "inc") (λ line. amounts (thing_word x) (drop 1 line)) (letter_lines texts (Confirm token)) (all_cons refl (said refl))
      ∙ sym (letter_Confirm x token).0

  dec_said : (l : Letter) → LetterFits l → said_by (codes "dec") (amounts (thing_word x)) (letter_lines texts l) ≡ dec_of x l
  dec_said (App behaviour args load rows) f =
      silent (codes "dec") (λ line. amounts (thing_word x) (drop 1 line)) (letter_lines texts (App behaviour args load rows))
      (all_cons refl (all_append (loads_off (codes "dec") refl load) (brings_off (codes "dec") refl rows)))
      ∙ sym (letter_App x behaviour args load rows).1
  dec_said (Inc things) f =
      silent (codes "dec") (λ line. amounts (thing_word x) (drop 1 line)) (letter_lines texts (Inc things)) (all_cons refl (said refl))
      ∙ sym (letter_Inc x things).1
  dec_said (Dec things) f =
      alone (codes "dec") (λ line. amounts (thing_word x) (drop 1 line)) (codes "dec" ∷ flat_map amount_words things) refl ∙ amounts_said x things f.0 f.1 ∙ sym (letter_Dec x things).1
  dec_said (Confirm token) f =
      silent (codes "dec") (λ line. amounts (thing_word x) (drop 1 line)) (letter_lines texts (Confirm token)) (all_cons refl (said refl))
      ∙ sym (letter_Confirm x token).1

  load_said : (load : List Loaded) → AllByRecursion (IsOfFit thing_in once) load
      → said_by (codes "loads") (times (thing_word x)) (loads_lines load) ≡ times_loaded x load
  load_said [] f = sym (loaded-nil x)
  load_said (e ∷ load) f = alone (codes "loads") (λ line. times (thing_word x) (drop 1 line)) (codes "loads" ∷ map (λ (l : Loaded). thing_word l.0) (e ∷ load)) refl ∙ times_said x (e ∷ load) f

  loads_said : (l : Letter) → LetterFits l → said_by (codes "loads") (times (thing_word x)) (letter_lines texts l) ≡ load_count x l
  loads_said (App behaviour args load rows) f =
      let says = λ (line : Line). times (thing_word x) (drop 1 line) in
      passed_by (codes "loads") says (codes "letter" ∷ text_of texts behaviour ∷ value_words args) (loads_lines load ++ map brings_line rows) refl
      ∙ omega (
        arith,
        both_add (codes "loads") says (loads_lines load) (map brings_line rows),
        load_said load f,
        silent (codes "loads") says (map brings_line rows) (brings_off (codes "loads") refl rows),
        (letter_App x behaviour args load rows).2,
      )
  loads_said (Inc things) f =
      silent (codes "loads") (λ line. times (thing_word x) (drop 1 line)) (letter_lines texts (Inc things)) (all_cons refl (said refl))
      ∙ sym (letter_Inc x things).2
  loads_said (Dec things) f =
      silent (codes "loads") (λ line. times (thing_word x) (drop 1 line)) (letter_lines texts (Dec things)) (all_cons refl (said refl))
      ∙ sym (letter_Dec x things).2
  loads_said (Confirm token) f =
      silent (codes "loads") (λ line. times (thing_word x) (drop 1 line)) (letter_lines texts (Confirm token)) (all_cons refl (said refl))
      ∙ sym (letter_Confirm x token).2

  -- what each letter says, all say together
  all_letters : (w : Word) (f : List Word → ℕ) (k : Letter → ℕ) → ((l : Letter) → LetterFits l → said_by w f (letter_lines texts l) ≡ k l)
      → (mail : List Letter) → AllByRecursion LetterFits mail → said_by w f (flat_map (letter_lines texts) mail) ≡ sum_by k mail
  all_letters w f k each [] fits = refl
  all_letters w f k each (l ∷ mail) fits =
      both_add w (λ line. f (drop 1 line)) (letter_lines texts l) (flat_map (letter_lines texts) mail)
      ∙ ap (λ n. n + said_by w f (flat_map (letter_lines texts) mail)) (each l fits.0)
      ∙ ap (λ n. k l + n) (all_letters w f k each mail fits.1) ∙ sym (sum_by-cons k l mail)

  -- ---- an actor

  module _ (a : ℕ) (c : Cell) (mail : List Letter) (fits : SeatFits a c mail) where
    abbrev letters : List Line
    letters = flat_map (letter_lines texts) mail

    -- letters say what no line of a cell says
    in_letters : (w : Word) (f : List Word → ℕ) → bytes_eq (codes "actor") w ≡ false → bytes_eq (codes "turn") w ≡ false
        → bytes_eq (codes "fields") w ≡ false → bytes_eq (codes "object") w ≡ false → bytes_eq (codes "holds") w ≡ false
        → bytes_eq (codes "knows") w ≡ false → said_by w f (cell_lines a c ++ letters) ≡ said_by w f letters
    in_letters w f actor turn fields object holds knows =
        let says = λ (line : Line). f (drop 1 line) in
        let none = silent w says (cell_lines a c) (all_cons (ap not actor) (all_append (all_append (all_append (all_append (turn_off w turn c.frame)
        (fields_off w fields c.fields.values)) (objects_off w object (m.entries c.holdings.rows)))
        (holds_off w holds (m.entries c.holdings.foreign))) (knows_off w knows (m.entries c.known)))) in
        omega (arith, both_add w says (cell_lines a c) letters, none)

    pub seat_incs : said_by (codes "inc") (amounts (thing_word x)) (cell_lines a c ++ letters) ≡ sum_by (inc_of x) mail
    seat_incs =
        in_letters (codes "inc") (amounts (thing_word x)) refl refl refl refl refl refl
        ∙ all_letters (codes "inc") (amounts (thing_word x)) (inc_of x) inc_said mail fits.letters

    pub seat_decs : said_by (codes "dec") (amounts (thing_word x)) (cell_lines a c ++ letters) ≡ sum_by (dec_of x) mail
    seat_decs =
        in_letters (codes "dec") (amounts (thing_word x)) refl refl refl refl refl refl
        ∙ all_letters (codes "dec") (amounts (thing_word x)) (dec_of x) dec_said mail fits.letters

    pub seat_loads : said_by (codes "loads") (times (thing_word x)) (cell_lines a c ++ letters) ≡ sum_by (load_count x) mail
    seat_loads =
        in_letters (codes "loads") (times (thing_word x)) refl refl refl refl refl refl
        ∙ all_letters (codes "loads") (times (thing_word x)) (load_count x) loads_said mail fits.letters

    -- ---- what it holds

    held_said : (es : List (Thing × (ℕ × Option Row))) → said_by (codes "holds") (amounts (thing_word x)) (map holds_line es) ≡ words_of held_thing held_amount x es
    held_said [] = refl
    held_said (e ∷ es) =
        let first = one_more (codes "holds") (λ line. amounts (thing_word x) (drop 1 line)) (holds_line e) (map holds_line es) refl in
        let one : amounts (thing_word x) (drop 1 (holds_line e)) ≡ word_of held_thing held_amount x e = omega arith in
        omega (arith, first, one, held_said es, sum_by-cons (word_of held_thing held_amount x) e es)

    pub seat_held : said_by (codes "holds") (amounts (thing_word x)) (cell_lines a c ++ letters) ≡ held_in c.holdings x
    seat_held =
        let w = codes "holds" in
        let says = λ (line : Line). amounts (thing_word x) (drop 1 line) in
        let front = turn_lines c.frame ++ fields_lines c.fields.values ++ map object_line (m.entries c.holdings.rows) in
        let holds = map holds_line (m.entries c.holdings.foreign) in
        let knows = map knows_line (m.entries c.known) in
        omega (
          arith,
          both_add w says (cell_lines a c) letters,
          passed_by w says (actor_line a c) (front ++ holds ++ knows) refl,
          both_add w says (front ++ holds) knows,
          both_add w says front holds,
          silent w says front (all_append (all_append (turn_off w refl c.frame) (fields_off w refl c.fields.values)) (objects_off w refl (m.entries c.holdings.rows))),
          silent w says knows (knows_off w refl (m.entries c.known)),
          silent w says letters (letters_off w refl refl refl refl refl refl texts mail),
          held_said (m.entries c.holdings.foreign),
          all_said held_thing held_amount x (m.entries c.holdings.foreign) fits.held_few fits.held_fit,
          held_is x c.holdings,
        )

    -- ---- what it counts

    objects_said : (es : List (ℕ × (Row × ℕ))) → sum_by (object_count (thing_word x) (decimal a)) (map object_line es) ≡ words_of (row_thing a) (row_amount a) x es
    objects_said [] = refl
    objects_said (e ∷ es) =
        sum_by-cons (object_count (thing_word x) (decimal a)) (object_line e) (map object_line es)
        ∙ ap (λ n. word_of (row_thing a) (row_amount a) x e + n) (objects_said es) ∙ sym (sum_by-cons (word_of (row_thing a) (row_amount a) x) e es)

    abbrev body : List Line
    body = turn_lines c.frame ++ fields_lines c.fields.values ++ map object_line (m.entries c.holdings.rows)
        ++ map holds_line (m.entries c.holdings.foreign) ++ map knows_line (m.entries c.known)

    objects_in : sum_by (object_count (thing_word x) (decimal a)) (body ++ letters) ≡ has_of (row_thing a) (row_amount a) x (m.entries c.holdings.rows)
    objects_in =
        let w = codes "object" in
        let says = λ (line : Line). if_of (thing_word x) (codes "o" ++ decimal a ++ codes "." ++ word_at line 1) (number_at line 2) in
        let front = turn_lines c.frame ++ fields_lines c.fields.values in
        let objects = map object_line (m.entries c.holdings.rows) in
        let holds = map holds_line (m.entries c.holdings.foreign) in
        let knows = map knows_line (m.entries c.known) in
        omega (
          arith,
          both_add w says body letters,
          both_add w says (front ++ objects ++ holds) knows,
          both_add w says (front ++ objects) holds,
          both_add w says front objects,
          silent w says front (all_append (turn_off w refl c.frame) (fields_off w refl c.fields.values)),
          silent w says holds (holds_off w refl (m.entries c.holdings.foreign)),
          silent w says knows (knows_off w refl (m.entries c.known)),
          silent w says letters (letters_off w refl refl refl refl refl refl texts mail),
          objects_said (m.entries c.holdings.rows),
          all_said (row_thing a) (row_amount a) x (m.entries c.holdings.rows) fits.rows_few fits.rows_fit,
        )

    actor_said : if_of (thing_word x) (thing_word (Actor a)) (number_of (decimal c.holdings.count)) ≡ (if is_thing x (Actor a) then c.holdings.count else 0)
    actor_said = one_said (λ (k : ℕ). Actor a) (λ (k : ℕ). k) x c.holdings.count fits.count (λ some. fits.number)

    body_silent : Pass (is_silent (codes "actor")) (body ++ letters)
    body_silent =
        let w = codes "actor" in
        all_append (all_append (all_append (all_append (all_append (turn_off w refl c.frame) (fields_off w refl c.fields.values))
        (objects_off w refl (m.entries c.holdings.rows))) (holds_off w refl (m.entries c.holdings.foreign))) (knows_off w refl (m.entries c.known)))
        (letters_off w refl refl refl refl refl refl texts mail)

    pub seat_counts : count_in (thing_word x) (cell_lines a c ++ letters) ≡ (if owner_of x == a then own_in c.holdings x else 0)
    seat_counts =
        let further_ones = all_further (body ++ letters) (all_weaker inner_further (seat_inner texts c mail)) in
        let objects = ap (λ ls. sum_by (object_count (thing_word x) (decimal a)) ls) further_ones ∙ objects_in in
        omega (arith, actor_said, objects, no_counts x (body ++ letters) body_silent, own_is a x c.holdings)
