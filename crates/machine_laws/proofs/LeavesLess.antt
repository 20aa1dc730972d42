-- Each event that is no choice leaves less to do.
use Rattle.std.proofs.Common.{◌≡◌, ℕ, suc, ◌+◌, ◌*◌, ◌≤◌, ◌<◌, ◌==◌, not, Bool, true, false, cond, if◌then◌else◌, Some, None, List, [], ◌∷◌, ◌++◌, length, filter, set, length-append, refl, ap, sym, subst, ◌∙◌, arith, ⊎_elim, eq-eqb, eqb-true, Contains}
use Rattle.std.specs.Prelude.{sum_by}
use Rattle.std.specs.FinMap as m
use Rattle.std.proofs.Math.Nat.{suc-mul}
use Rattle.std.proofs.lemmas.Bool.{and_parts, false≢true}
use Rattle.std.proofs.lemmas.List.{length-map}
use Rattle.std.proofs.lemmas.List.Sums.{sum_by-cons, sum_by_push}
use Rattle.orca_names.specs.Names.{owner_of, thing_cmp}
use Rattle.orca_names.specs.declared.names.Thing.{Thing}
use Rattle.event_rule.specs.declared.event.Event.{Event}
use Rattle.turn_rules.specs.Segment.{Stop}
use Rattle.turn_rules.specs.declared.act.Frame.{Frame}
use Rattle.letter_kinds.proofs.Filters.{length-filter_le}
use Rattle.letter_kinds.specs.Counting.{Loaded, by_owner, given_back, is_lacking, lacking_of, mint_all, sweep, to_mint}
use Rattle.letter_kinds.specs.Detector.{Detector, Token, close_token, closed_set, has, hear_note, note_ack, after_scan}
use Rattle.letter_kinds.specs.Holdings.{Holdings, Row, held_in, with_made}
use Rattle.letter_kinds.specs.Sums.{amount_of}
use Rattle.letter_kinds.specs.Letters.{Letter, App, Inc, Dec, Confirm}
use Rattle.letter_kinds.specs.declared.note.Note.{Note}
use Rattle.letter_kinds.specs.declared.note.Note.TheVariants as notes
use Rattle.count_laws.proofs.balance.InHand.{AllCounted}
use Rattle.count_laws.proofs.knowledge.Lacking.{counted_mint, to_mint_theirs}
use Rattle.machine_rules.proofs.Present.{present_below}
use Rattle.count_laws.proofs.events.Take.{alike_lower, alike_raise}
use Rattle.machine_rules.specs.Actors.{Actors, seat, seat_at}
use Rattle.machine_rules.specs.Block.{held_actors}
use Rattle.machine_rules.specs.Cell.{Cell}
use Rattle.machine_rules.specs.Collect.{after_collect, is_in_use, is_marked, without_unused}
use Rattle.machine_rules.specs.Detect.{ask_all, reap_members}
use Rattle.machine_rules.specs.Go.{load_from, mint, needed, to_need, turn_of_cell}
use Rattle.plain_list.specs.Lists.{is_empty}
use Rattle.event_rule.specs.Runs.{Goes}
use Rattle.machine_rules.specs.Next.{next}
use Rattle.orca_names.specs.declared.trace.Trace.{Trace}
use Rattle.orca_names.specs.declared.trace.Trace.TheVariants.{Deep, Roots}
use Rattle.machine_rules.specs.Run.{is_choice, starts_with_app}
use Rattle.machine_rules.specs.State.{State}
use Rattle.machine_rules.specs.Take.{cell_after, note_of, notes_after}
use Rattle.detector_laws.proofs.Members.{first_or_later, none_in_empty}
use Rattle.detector_laws.proofs.Named.{numbered_is_open}
use Rattle.machine_laws.proofs.ActorsWork.{asks-work, decs-work, leave-work, more_times, push-work, reaped-work, set-work}
use Rattle.machine_laws.proofs.Blocking.{reporting}
use Rattle.machine_laws.proofs.GetsWork.{asks-gets, decs-gets, gets, idle-gets, mint-gets, need-length, need_mint-gets, push-gets, reaped-gets}
use Rattle.machine_laws.proofs.TableWork.{by_owner-length, mint_all-more, mint_first-work, sweep-work}
use Rattle.machine_laws.specs.Work.{actors_work, count_work, detector_work, entry_work, get_work, gets_left, letter_work, news_work, note_work, seat_work, silence_work, table_work}
use Rattle.machine_rules.proofs.Guards.{may_report, acked_open, collector, leaver}
use Rattle.machine_rules.specs.Guards.{may_block, may_leave}
use Rattle.machine_rules.specs.Rules as rule
use Rattle.machine_rules.proofs.Choices.{stopping_is, taking_is}
use Rattle.machine_rules.proofs.Stepping.{step_of}
use Rattle.count_laws.proofs.local.NoSelf.{held-with_made}

-- what a filter lets through first passes
first_passes : {A : Type 0} (p : A → Bool) (xs : List A) (y : A) (ys : List A) → filter p xs ≡ y ∷ ys → p y ≡ true
first_passes p [] y ys is = cc
first_passes p (x ∷ xs) y ys is = by_test (first_passes p xs y ys) (p x) refl is
  where
    by_test : (filter p xs ≡ y ∷ ys → p y ≡ true) → (b : Bool) → p x ≡ b → cond b (x ∷ filter p xs) (filter p xs) ≡ y ∷ ys → p y ≡ true
    by_test later true passes is = let same : x ≡ y = cc in ap p (sym same) ∙ passes
    by_test later false passes is = later is

-- a collection changes what letters brought, and else the holdings alone
with_known : (trace : Trace) (a : ℕ) (c : Cell) → (known : m.FinMap thing_cmp Row) × (without_unused trace a c ≡ record c { known = known })
with_known Deep a c = (c.known, refl)
with_known Roots a c = (m.retain_keys c.known (is_in_use a c), refl)

-- ---- what is there, where n actors were made

module _ (n : ℕ) where
  abbrev pub work_of : State → ℕ
  work_of s = actors_work n s.actors + detector_work n s.detector + sum_by (note_work n) s.notes + gets_left s * get_work n

  -- without what turns get
  abbrev pub plain_work : State → ℕ
  plain_work s = actors_work n s.actors + detector_work n s.detector + sum_by (note_work n) s.notes

  -- the parts of what a seat counts, where it is known whether its actor is dirty and reported
  seat_is : (c : Cell) (ls : List Letter) (dirty reported : Bool) → c.dirty ≡ dirty → c.reported ≡ reported
      → seat_work n (seat c ls) ≡ table_work n c.holdings + sum_by (letter_work n) ls + (if dirty then 1 else 0) + (if reported then 0 else silence_work n)
  seat_is c ls dirty reported d r = λ i. table_work n c.holdings + sum_by (letter_work n) ls + (if d i then 1 else 0) + (if r i then 0 else silence_work n)

  same_table : (h k : Holdings) → k.foreign ≡ h.foreign → table_work n k ≡ table_work n h
  same_table h k same = λ i. sum_by (λ e. entry_work n e.1.0) (m.entries (same i))

  -- who has its report out may tell one thing more
  told-work : (reported : Bool) (note : Note) (told : List Note) → sum_by (note_work n) (notes_after reported note told) ≡ sum_by (note_work n) told + (if reported then note_work n note else 0)
  told-work true note told = sum_by_push (note_work n) told note
  told-work false note told = omega arith

  -- fewer tokens
  closed-work : (t : Token) (tokens : List Token) → Contains tokens t → length (filter (λ u. not (u.number == t.number)) tokens) < length tokens
  closed-work t [] i = absurd (none_in_empty t i)
  closed-work t (u ∷ tokens) i = ⊎_elim
      (λ (same : t ≡ u). let test = eq-eqb u.number t.number (ap (λ (x : Token). x.number) (sym same)) in rw test (omega (arith, length-filter_le (λ (v : Token). not (v.number == t.number)) tokens)))
      (λ later. by_test (closed-work t tokens later) (not (u.number == t.number)))
      (first_or_later u tokens t i)
    where
      by_test : length (filter (λ u. not (u.number == t.number)) tokens) < length tokens → (b : Bool)
          → length (cond b (u ∷ filter (λ u. not (u.number == t.number)) tokens) (filter (λ u. not (u.number == t.number)) tokens)) < suc (length tokens)
      by_test less true = omega arith
      by_test less false = omega arith

  -- ---- one event

  module _ (s : State) (heavy : 0 < s.options.weight) where
    abbrev tracing : Trace
    tracing = s.options.trace

    abbrev left : Actors → ℕ
    left actors = gets tracing s.program actors

    abbrev Less : State → Type 0
    Less u = work_of u < work_of s

    abbrev so : Actors → Detector → List Note → State
    so actors detector told = record s { actors = actors; detector = detector; notes = told }

    -- there is less besides, and no more that turns get
    both : (actors : Actors) (detector : Detector) (told : List Note) → plain_work (so actors detector told) < plain_work s → left actors ≤ left s.actors → Less (so actors detector told)
    both actors detector told less few =
        add_less (plain_work (so actors detector told)) (plain_work s) (left actors * get_work n) (left s.actors * get_work n) less (more_times (left actors) (left s.actors) (get_work n) few)
      where
        add_less : (a b c d : ℕ) → a < b → c ≤ d → a + c < b + d
        add_less a b c d less few = omega arith

    -- there is one less that a turn gets, and not so much more besides
    fewer : (actors : Actors) → plain_work (so actors s.detector s.notes) < plain_work s + get_work n → left actors < left s.actors → Less (so actors s.detector s.notes)
    fewer actors less few =
        add_more (plain_work (so actors s.detector s.notes)) (plain_work s) (left actors) (left s.actors) (get_work n) less (more_times (suc (left actors)) (left s.actors) (get_work n) few)
      where
        add_more : (a b c d each : ℕ) → a < b + each → suc c * each ≤ d * each → a + c * each < b + d * each
        add_more a b c d each less few = omega (arith, less, few, suc-mul c each)

    -- ---- take

    -- an Inc or a Dec changes no table
    counts : (a : ℕ) (c c' : Cell) (letter : Letter) (ls : List Letter) → seat_at s.actors a ≡ seat c (letter ∷ ls) → letter_work n letter ≡ count_work n → note_work n (note_of a letter) ≡ suc (news_work n)
        → c'.holdings.foreign ≡ c.holdings.foreign → c'.dirty ≡ true → c'.reported ≡ false → c'.frame ≡ None → Less (record s { actors = set s.actors a (seat c' ls); notes = notes_after c.reported (note_of a letter) s.notes })
    counts a c c' letter ls at one tells same dirty quiet idle = by_report c.reported refl
      where
        by_report : (q : Bool) → c.reported ≡ q → Less (record s { actors = set s.actors a (seat c' ls); notes = notes_after q (note_of a letter) s.notes })
        by_report true is =
            let was = seat_is c (letter ∷ ls) c.dirty true refl is in
            let now = seat_is c' ls true false dirty quiet in
            let mail = sum_by-cons (letter_work n) letter ls in
            let told = told-work true (note_of a letter) s.notes in
            both (set s.actors a (seat c' ls)) s.detector (notes_after true (note_of a letter) s.notes) (omega (arith, one, tells, ap (seat_work n) at, was, now, mail, told, same_table c.holdings c'.holdings same, set-work n s.actors a (seat c' ls) (present_below s.actors a _ at))) (idle-gets tracing s.program s.actors a c' ls idle)
        by_report false is =
            let was = seat_is c (letter ∷ ls) c.dirty false refl is in
            let now = seat_is c' ls true false dirty quiet in
            let mail = sum_by-cons (letter_work n) letter ls in
            both (set s.actors a (seat c' ls)) s.detector (notes_after false (note_of a letter) s.notes) (omega (arith, one, ap (seat_work n) at, was, now, mail, same_table c.holdings c'.holdings same, set-work n s.actors a (seat c' ls) (present_below s.actors a _ at))) (idle-gets tracing s.program s.actors a c' ls idle)

    confirm : (a token : ℕ) (c : Cell) (ls : List Letter) → c.frame ≡ None → seat_at s.actors a ≡ seat c (Confirm token ∷ ls) → Less (record s { actors = set s.actors a (seat c ls); notes = notes_after c.reported (notes.Ack token a) s.notes })
    confirm a token c ls idle at = by_report c.reported refl
      where
        by_report : (q : Bool) → c.reported ≡ q → Less (record s { actors = set s.actors a (seat c ls); notes = notes_after q (notes.Ack token a) s.notes })
        by_report true is =
            both (set s.actors a (seat c ls)) s.detector (notes_after true (notes.Ack token a) s.notes) (omega (arith, ap (seat_work n) at, sum_by-cons (letter_work n) (Confirm token) ls, told-work true (notes.Ack token a) s.notes, set-work n s.actors a (seat c ls) (present_below s.actors a _ at)))
            (idle-gets tracing s.program s.actors a c ls idle)
        by_report false is =
            both (set s.actors a (seat c ls)) s.detector (notes_after false (notes.Ack token a) s.notes) (omega (arith, ap (seat_work n) at, sum_by-cons (letter_work n) (Confirm token) ls, set-work n s.actors a (seat c ls) (present_below s.actors a _ at)))
            (idle-gets tracing s.program s.actors a c ls idle)

    takes-less : (a : ℕ) (c : Cell) (l : Letter) (ls : List Letter) → c.frame ≡ None → seat_at s.actors a ≡ seat c (l ∷ ls) → starts_with_app (l ∷ ls) ≡ false
        → Less (record s { actors = set s.actors a (seat (cell_after s.program a l c) ls); notes = notes_after c.reported (note_of a l) s.notes })
    takes-less a c (App behaviour args load rows) ls idle at calm = absurd (false≢true (sym calm))
    takes-less a c (Inc es) ls idle at calm = counts a c (cell_after s.program a (Inc es) c) (Inc es) ls at refl refl (alike_raise a es c.holdings).foreign refl refl idle
    takes-less a c (Dec es) ls idle at calm = counts a c (cell_after s.program a (Dec es) c) (Dec es) ls at refl refl (alike_lower a es c.holdings).foreign refl refl idle
    takes-less a c (Confirm token) ls idle at calm = confirm a token c ls idle at

    -- ---- collect

    -- the rows that letters brought count for nothing
    swept : (a : ℕ) (c : Cell) (ls : List Letter) → c.frame ≡ None → c.dirty ≡ true → seat_at s.actors a ≡ seat c ls → (marked : Thing → Bool) (known : m.FinMap thing_cmp Row)
        → Less (record s { actors = after_collect marked a (record c { known = known }) ls s.actors })
    swept a c ls idle is at marked known =
        let back = given_back marked c.holdings in
        let after : Cell = record c { holdings = sweep marked a c.holdings; dirty = false; known = known } in
        both (after_collect marked a (record c { known = known }) ls s.actors) s.detector s.notes
        (omega (
          arith,
          decs-work n (by_owner back) (set s.actors a (seat after ls)),
          more_times (length (by_owner back)) (length back) (count_work n) (by_owner-length back),
          sweep-work n marked a c.holdings,
          set-work n s.actors a (seat after ls) (present_below s.actors a _ at),
          ap (seat_work n) at,
          seat_is c ls true c.reported is refl,
        ))
        (omega (arith, decs-gets tracing s.program (by_owner back) (set s.actors a (seat after ls)), idle-gets tracing s.program s.actors a after ls idle))

    collects-less : (a : ℕ) (c : Cell) (ls : List Letter) → c.frame ≡ None → c.dirty ≡ true → seat_at s.actors a ≡ seat c ls
        → Less (record s { actors = after_collect (is_marked tracing a c) a (without_unused tracing a c) ls s.actors })
    collects-less a c ls idle is at =
        let kept = with_known tracing a c in
        subst (λ d. Less (record s { actors = after_collect (is_marked tracing a c) a d ls s.actors })) (sym kept.1) (swept a c ls idle is at (is_marked tracing a c) kept.0)

    -- ---- block

    blocks-less : (a : ℕ) (c : Cell) (ls : List Letter) → may_block c ls ≡ true → seat_at s.actors a ≡ seat c ls
        → Less (record s { actors = set s.actors a (seat (reporting c) ls); notes = s.notes ++ notes.Block a c.holdings.count (held_actors c.holdings) ∷ [] })
    blocks-less a c ls may at =
        let quiet = (may_report c ls may).unreported in
        both (set s.actors a (seat (reporting c) ls)) s.detector (s.notes ++ notes.Block a c.holdings.count (held_actors c.holdings) ∷ [])
        (omega (
          arith,
          set-work n s.actors a (seat (reporting c) ls) (present_below s.actors a _ at),
          ap (seat_work n) at,
          seat_is c ls c.dirty false refl quiet,
          sum_by_push (note_work n) s.notes (notes.Block a c.holdings.count (held_actors c.holdings)),
        ))
        (idle-gets tracing s.program s.actors a (reporting c) ls (may_report c ls may).rest.idle)

    leaves-less : (a : ℕ) (c : Cell) (ls : List Letter) → may_leave c ls ≡ true → seat_at s.actors a ≡ seat c ls → Less (record s { actors = reap_members (a ∷ []) s.actors })
    leaves-less a c ls may at =
        both (reap_members (a ∷ []) s.actors) s.detector s.notes (omega (arith, leave-work n s.actors a _ at (leaver c ls may).0.unreported)) (reaped-gets tracing s.program (a ∷ []) s.actors)

    -- ---- a go that mints

    mints : (a : ℕ) (c : Cell) (ls : List Letter) (stop : Stop) → seat_at s.actors a ≡ seat c ls → (load : List Loaded) (e : Loaded) (es : List Loaded) → lacking_of a (with_made stop.turn.made c.holdings) load ≡ e ∷ es
        → Less (record s { actors = mint a c ls (owner_of e.0) (to_mint s.options.weight (owner_of e.0) (e ∷ es)) s.actors })
    mints a c ls stop at load e es lacks =
        let owner = owner_of e.0 in
        let things = to_mint s.options.weight owner (e ∷ es) in
        let held = held-with_made stop.turn.made c.holdings in
        let first : things ≡ (e.0, s.options.weight) ∷ to_mint s.options.weight owner es = rw (eq-eqb owner owner refl) refl in
        let one : held_in c.holdings e.0 ≡ 1 = sym (held e.0) ∙ eqb-true _ 1 (and_parts (not (owner == a)) _ (first_passes (λ x. is_lacking a (with_made stop.turn.made c.holdings) x.0) load e es lacks)).1 in
        let known = λ (x : Thing) (some : 0 < amount_of x things).
        subst (λ k. 0 < k) (held x) (to_mint_theirs s.options.weight a owner (with_made stop.turn.made c.holdings) load x (subst (λ q. 0 < amount_of x (to_mint s.options.weight owner q)) (sym lacks) some)).1 in
        let table = subst (λ ts. table_work n (mint_all ts c.holdings) + suc (count_work n) ≤ table_work n c.holdings) (sym first)
        (mint_first-work n (e.0, s.options.weight) (to_mint s.options.weight owner es) c.holdings (subst AllCounted first (counted_mint s.options.weight heavy owner (e ∷ es))) (λ x some. known x (subst (λ ts. 0 < amount_of x ts) (sym first) some)) one) in
        let minted : Cell = record c { holdings = mint_all things c.holdings } in
        both (mint a c ls owner things s.actors) s.detector s.notes (omega (arith, table, push-work n owner (Inc things) (set s.actors a (seat minted ls)), set-work n s.actors a (seat minted ls) (present_below s.actors a _ at), ap (seat_work n) at))
        (omega (arith, push-gets tracing s.program owner (Inc things) (set s.actors a (seat minted ls)), mint-gets tracing s.program s.actors a c ls at things))

    -- ---- a go that mints for what the turn gets

    needs-less : (a : ℕ) (c : Cell) (ls : List Letter) (f : Frame) → c.frame ≡ Some f → seat_at s.actors a ≡ seat c ls → (x : Thing) → needed tracing s.program a c f ≡ Some x
        → Less (record s { actors = mint a c ls (owner_of x) (to_need s.options.weight a c.holdings x) s.actors })
    needs-less a c ls f is at x found =
        let things = to_need s.options.weight a c.holdings x in
        let within = present_below s.actors a _ at in
        let minted : Cell = record c { holdings = mint_all things c.holdings } in
        let few = more_times (length things) 2 (suc (2 * count_work n)) (need-length s.options.weight a c.holdings x) in
        fewer (mint a c ls (owner_of x) things s.actors)
        (omega (arith, mint_all-more n things c.holdings, few, push-work n (owner_of x) (Inc things) (set s.actors a (seat minted ls)), set-work n s.actors a (seat minted ls) within, ap (seat_work n) at))
        (omega (arith, push-gets tracing s.program (owner_of x) (Inc things) (set s.actors a (seat minted ls)), need_mint-gets tracing s.program s.actors a c ls at s.options.weight heavy f x within is found))

    -- ---- the detector's events

    hears-less : (note : Note) (ns : List Note) → s.notes ≡ note ∷ ns → Less (record s { detector = hear_note note s.detector; notes = ns })
    hears-less (notes.Block a count held) ns is =
        both s.actors (hear_note (notes.Block a count held) s.detector) ns (omega (arith, ap (sum_by (note_work n)) is, sum_by-cons (note_work n) (notes.Block a count held) ns)) (omega arith)
    hears-less (notes.Unblock a) ns is =
        both s.actors (hear_note (notes.Unblock a) s.detector) ns (omega (arith, ap (sum_by (note_work n)) is, sum_by-cons (note_work n) (notes.Unblock a) ns, length-filter_le (λ (u : Token). not (has u.members a)) s.detector.tokens)) (omega arith)
    hears-less (notes.Ack token a) ns is =
        both s.actors (hear_note (notes.Ack token a) s.detector) ns (omega (arith, ap (sum_by (note_work n)) is, sum_by-cons (note_work n) (notes.Ack token a) ns, length-map s.detector.tokens (note_ack token a))) (omega arith)

    scanned-work : (d : Detector) (members : List ℕ) → d.news ≡ true → length members ≤ n → detector_work n (after_scan d members) + 2 * length members < detector_work n d
    scanned-work d [] news few = rw news (omega arith)
    scanned-work d (a ∷ members) news few = rw news (omega (arith, few, length-append d.tokens (record { number = suc d.opened; members = a ∷ members; acked = [] } ∷ [])))

    scans-less : length (closed_set s.detector) ≤ n → s.detector.news ≡ true
        → Less (record s { actors = ask_all (closed_set s.detector) (suc s.detector.opened) s.actors; detector = after_scan s.detector (closed_set s.detector) })
    scans-less few is =
        both (ask_all (closed_set s.detector) (suc s.detector.opened) s.actors) (after_scan s.detector (closed_set s.detector)) s.notes (omega (arith, scanned-work s.detector (closed_set s.detector) is few, asks-work n (closed_set s.detector) (suc s.detector.opened) s.actors))
        (asks-gets tracing s.program (closed_set s.detector) (suc s.detector.opened) s.actors)

    reaps-less : (token : Token) → Contains s.detector.tokens token → Less (record s { actors = reap_members token.members s.actors; detector = close_token token s.detector })
    reaps-less token listed =
        both (reap_members token.members s.actors) (close_token token s.detector) s.notes (omega (arith, closed-work token s.detector.tokens listed, reaped-work n token.members s.actors)) (reaped-gets tracing s.program token.members s.actors)

    -- ---- each rule that is no choice

    rule_less : length (closed_set s.detector) ≤ n → {e : Event} {t : State} → rule.IsStep tracing s e t → is_choice s e ≡ false → Less t
    rule_less few (rule.takes a c l ls at idle) calm = takes-less a c l ls idle at (sym (taking_is s a c l ls at) ∙ calm)
    rule_less few (rule.ends a c ls f stops) calm = absurd (false≢true (sym calm ∙ stopping_is tracing s refl a c ls f _ stops))
    rule_less few (rule.prints a c ls f v stops) calm = absurd (false≢true (sym calm ∙ stopping_is tracing s refl a c ls f _ stops))
    rule_less few (rule.makes a c ls f kind register stops room) calm = absurd (false≢true (sym calm ∙ stopping_is tracing s refl a c ls f _ stops))
    rule_less few (rule.posts a c ls f to behaviour args stops lacked) calm = absurd (false≢true (sym calm ∙ stopping_is tracing s refl a c ls f _ stops ∙ ap is_empty lacked))
    rule_less few (rule.mints a c ls f to behaviour args e es stops lacked) calm =
        let stop = turn_of_cell tracing s.program a c f in
        mints a c ls stop stops.going.present (load_from tracing a (with_made stop.turn.made c.holdings) args) e es lacked
    rule_less few (rule.gets a c ls f x going need) calm = needs-less a c ls f going.framed going.present x need
    rule_less few (rule.collects a c ls at may) calm = let z = collector c ls may in collects-less a c ls z.0 z.1 at
    rule_less few (rule.leaves a c ls at may) calm = leaves-less a c ls may at
    rule_less few (rule.blocks a c ls at may) calm = blocks-less a c ls may at
    rule_less few (rule.hears note later is) calm = hears-less note later is
    rule_less few (rule.scans is) calm = scans-less few is
    rule_less few (rule.reaps number token is) calm = reaps-less token (numbered_is_open s.detector number token (acked_open number s.detector token is).0).0

    pub leaves_less : length (closed_set s.detector) ≤ n → (t : State) (e : Event) → next s e ≡ Goes t → is_choice s e ≡ false → Less t
    leaves_less few t e goes calm = rule_less few (step_of s t e goes) calm
