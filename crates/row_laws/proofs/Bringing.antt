-- With deep tracing letters bring no rows uncounted, and actors keep none.
use Rattle.std.proofs.Common.{◌≡◌, ℕ, suc, true, false, Option, Some, None, List, [], ◌∷◌, ◌++◌, length, set, refl, ap, subst, ◌∙◌}
use Rattle.std.specs.FinMap as m
use Rattle.std.specs.Option.{option_map_or}
use Rattle.orca_names.specs.Names.{thing_cmp}
use Rattle.orca_names.specs.declared.names.Thing.TheVariants.{Actor}
use Rattle.orca_names.specs.declared.trace.Trace.TheVariants.{Deep}
use Rattle.behaviour_code.specs.Find.{start_name}
use Rattle.behaviour_code.specs.declared.code.Program.{Program}
use Rattle.event_rule.specs.Runs.{Leads}
use Rattle.event_rule.specs.declared.event.Event.{Event}
use Rattle.letter_kinds.specs.Counting.{Amount, by_owner, gain, given_back, mint_all, send, sweep}
use Rattle.letter_kinds.specs.Detector.{closed_set}
use Rattle.letter_kinds.specs.Holdings.{Holdings, with_made}
use Rattle.letter_kinds.specs.Letters.{Letter, App, Inc, Dec, Confirm}
use Rattle.plain_rules.specs.Machine.{with_name}
use Rattle.machine_rules.specs.Actors.{Actors, Every, push_letter, seat, seat_at}
use Rattle.machine_rules.specs.Cell.{Cell, first_cell, fresh_cell}
use Rattle.machine_rules.specs.Collect.{is_marked}
use Rattle.machine_rules.specs.Detect.{ask_all}
use Rattle.machine_rules.specs.Go.{cell_after_turn, load_from, mint, turn_of_cell}
use Rattle.machine_rules.specs.Next.{next}
use Rattle.machine_rules.specs.Options.{Options}
use Rattle.machine_rules.specs.Rules.{IsStep, cell_kept, cell_kept_in, later_frame}
use Rattle.machine_rules.specs.Rules as rule
use Rattle.machine_rules.specs.State.{State, first_state, start_letters}
use Rattle.machine_rules.specs.Take.{cell_after, learn}
use Rattle.machine_rules.proofs.Present.{present_below}
use Rattle.machine_rules.proofs.Stepping.{step_of}
use Rattle.count_laws.proofs.bounds.Bounding.{options_stay}
use Rattle.count_laws.proofs.events.Every.{every_decs, every_more, every_push, every_set}
use Rattle.count_laws.proofs.events.Reap.{every_reap}
use Rattle.letter_kinds.specs.Sums.{brought_by}
use Rattle.row_laws.specs.Laws.{BringsNone, DeepBringsNone}

abbrev Brings : ℕ → Cell → List Letter → Type 0
Brings a c mail = BringsNone c mail

-- ---- one actor

brought_more : (mail : List Letter) (l : Letter) → brought_by mail ≡ [] → brought_by (l ∷ []) ≡ [] → brought_by (mail ++ l ∷ []) ≡ []
brought_more [] l none one = one
brought_more (App behaviour args load [] ∷ mail) l none one = brought_more mail l none one
brought_more (App behaviour args load (e ∷ rows) ∷ mail) l none one = cc
brought_more (Inc things ∷ mail) l none one = brought_more mail l none one
brought_more (Dec things ∷ mail) l none one = brought_more mail l none one
brought_more (Confirm token ∷ mail) l none one = brought_more mail l none one

told : (l : Letter) → brought_by (l ∷ []) ≡ [] → (a : ℕ) (c : Cell) (mail : List Letter) → Brings a c mail → Brings a c (mail ++ l ∷ [])
told l none a c mail q = record { known = q.known; letters = brought_more mail l q.letters none }

took : (program : Program) (a : ℕ) (l : Letter) (c : Cell) (mail : List Letter) → Brings a c (l ∷ mail) → Brings a (cell_after program a l c) mail
unfolding learn
took program a (App behaviour args load []) c mail q = record { known = q.known; letters = q.letters }
took program a (App behaviour args load (e ∷ rows)) c mail q = let none = q.letters in cc
took program a (Inc things) c mail q = record { known = q.known; letters = q.letters }
took program a (Dec things) c mail q = record { known = q.known; letters = q.letters }
took program a (Confirm token) c mail q = record { known = q.known; letters = q.letters }

start_brings : (name : Option ℕ) → brought_by (option_map_or (λ name. App name [] [] [] ∷ []) name []) ≡ []
start_brings None = refl
start_brings (Some name) = refl

-- ---- all actors

-- one changes, but not in the rows that letters brought
changed : (s : Actors) (b : ℕ) (c d : Cell) (mail : List Letter) → seat_at s b ≡ seat c mail → d.known ≡ c.known
    → Every Brings s → Every Brings (set s b (seat d mail))
changed s b c d mail at same all =
    let q = all b c mail at in
    every_set Brings s b d mail (present_below s b _ at)
    (record { known = λ x. ap (λ known. m.get known x) same ∙ q.known x; letters = q.letters }) all

pushed : (s : Actors) (b : ℕ) (l : Letter) → brought_by (l ∷ []) ≡ [] → Every Brings s → Every Brings (push_letter b l s)
pushed s b l none all = every_push Brings l (told l none) s b all

asked : (members : List ℕ) (token : ℕ) (s : Actors) → Every Brings s → Every Brings (ask_all members token s)
asked [] token s all = all
asked (a ∷ members) token s all = asked members token (push_letter a (Confirm token) s) (pushed s a (Confirm token) refl all)

minted : (s : Actors) (a : ℕ) (c : Cell) (mail : List Letter) → seat_at s a ≡ seat c mail → (b : ℕ) (things : List Amount)
    → Every Brings s → Every Brings (mint a c mail b things s)
minted s a c mail at b things all =
    let minter : Cell = record c { holdings = mint_all things c.holdings } in
    pushed (set s a (seat minter mail)) b (Inc things) refl (changed s a c minter mail at refl all)

-- ---- each event

brings : (s : State) {e : Event} {t : State} → IsStep Deep s e t → Every Brings s.actors → Every Brings t.actors
brings s (rule.takes a c l mail at is) all =
    every_set Brings s.actors a (cell_after s.program a l c) mail (present_below s.actors a _ at) (took s.program a l c mail (all a c (l ∷ mail) at)) all
brings s (rule.ends a c mail f stops) all =
    changed s.actors a c (cell_after_turn (turn_of_cell Deep s.program a c f) None true c) mail stops.going.present refl all
brings s (rule.prints a c mail f v stops) all = changed s.actors a c (cell_kept Deep s a c f) mail stops.going.present refl all
brings s (rule.makes a c mail f kind register stops room) all =
    let stop = turn_of_cell Deep s.program a c f in
    let h : Holdings = with_made stop.turn.made c.holdings in
    let w = s.options.weight in
    let d : Cell = record (cell_kept_in Deep s a c f (with_name (later_frame Deep s a c f) register (length s.actors))) {
      holdings = gain w (Actor (length s.actors)) None h;
    } in
    every_more Brings (set s.actors a (seat d mail)) (fresh_cell w s.program kind) []
    (record { known = λ x. m.get-empty thing_cmp x; letters = refl }) (changed s.actors a c d mail stops.going.present refl all)
brings s (rule.posts a c mail f to behaviour args stops none) all =
    let stop = turn_of_cell Deep s.program a c f in
    let h : Holdings = with_made stop.turn.made c.holdings in
    let load = load_from Deep a (cell_kept Deep s a c f).holdings args in
    let d : Cell = record (cell_kept Deep s a c f) { holdings = send a load h } in
    pushed (set s.actors a (seat d mail)) to (App behaviour args load []) refl (changed s.actors a c d mail stops.going.present refl all)
brings s (rule.mints a c mail f to behaviour args e lacked stops is) all = minted s.actors a c mail stops.going.present _ _ all
brings s (rule.gets a c mail f x going need) all = minted s.actors a c mail going.present _ _ all
brings s (rule.collects a c mail at may) all =
    let marked = is_marked Deep a c in
    let swept : Cell = record c { holdings = sweep marked a c.holdings; dirty = false } in
    every_decs Brings (λ things. told (Dec things) refl) (by_owner (given_back marked c.holdings)) (set s.actors a (seat swept mail))
    (changed s.actors a c swept mail at refl all)
brings s (rule.leaves a c mail at may) all = every_reap Brings (λ things. told (Dec things) refl) (a ∷ []) s.actors all
brings s (rule.blocks a c mail at may) all = changed s.actors a c (record c { reported = true }) mail at refl all
brings s (rule.hears note later is) all = all
brings s (rule.scans news) all = asked (closed_set s.detector) (suc s.detector.opened) s.actors all
brings s (rule.reaps number token is) all = every_reap Brings (λ things. told (Dec things) refl) token.members s.actors all

-- ---- runs

leads_bring : (book : List Event) (s t : State) → s.options.trace ≡ Deep → Leads next s book t → Every Brings s.actors → Every Brings t.actors
leads_bring [] s t deep same all = subst (λ (u : State). Every Brings u.actors) same all
leads_bring (e ∷ book) s t deep (u, goes, leads) all =
    leads_bring book u t (ap (λ (o : Options). o.trace) (options_stay s u e goes) ∙ deep) leads
    (brings s (subst (λ q. IsStep q s e u) deep (step_of s u e goes)) all)

first_brings : (program : Program) (options : Options) → Every Brings (first_state program options).actors
first_brings program options = every_more Brings [] (first_cell program) (start_letters program)
    (record { known = λ x. m.get-empty thing_cmp x; letters = start_brings (start_name program) }) (λ a c mail at. absurd (nobody a c mail at))
  where
    nobody : (a : ℕ) (c : Cell) (mail : List Letter) → seat_at [] a ≡ seat c mail → ⊥
    nobody a c mail at = cc

pub deep_brings_none : DeepBringsNone
deep_brings_none program options deep book s run =
    leads_bring book (first_state program options) s deep run (first_brings program options)
