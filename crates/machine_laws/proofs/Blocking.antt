-- A block, as the detector's laws see it; it keeps all that is kept of the counts.
use Rattle.std.proofs.Common.{◌≡◌, ◌≢◌, ℕ, ◌<◌, true, Option, Some, None, List, [], ◌∷◌, ◌++◌, length, set, refl, ap, sym, ◌∙◌, arith, ⊎_elim, get_or-set_same, get_or-set_other, length-set, eq-eqb, ne_eqb}
use Rattle.std.proofs.lemmas.Bool.{cases_eq}
use mathlib.Core.Path.{fun_ext}
use Rattle.orca_names.specs.declared.names.Thing.{Thing}
use Rattle.orca_names.specs.declared.names.Thing.TheVariants.{Actor}
use Rattle.letter_kinds.specs.Detector.{Detector}
use Rattle.letter_kinds.specs.Holdings.{Row}
use Rattle.letter_kinds.specs.Reports.{report_told}
use Rattle.letter_kinds.specs.Letters.{Letter}
use Rattle.letter_kinds.specs.declared.note.Note.{Note}
use Rattle.letter_kinds.specs.declared.note.Note.TheVariants.{Block}
use Rattle.letter_kinds.specs.declared.note.Report.{Report}
use Rattle.count_laws.proofs.roots.Same.{backed_more, own_self}
use Rattle.count_laws.proofs.roots.Take.{same_roots}
use Rattle.count_laws.specs.KnownByRoots.{IsRootsAt}
use Rattle.count_laws.proofs.agreement.Agreeing.{agrees_same}
use Rattle.count_laws.proofs.events.Every.{every_set}
use Rattle.count_laws.proofs.balance.InHand.{in_hand, none, out_of_hand}
use Rattle.machine_rules.proofs.Present.{present_below}
use Rattle.count_laws.proofs.balance.Sends.{cell_balanced, cell_prefix}
use Rattle.count_laws.proofs.events.Take.{alike_closed, alike_self}
use Rattle.orca_names.specs.declared.trace.Trace.{Trace}
use Rattle.orca_names.specs.declared.trace.Trace.TheVariants.{Deep}
use Rattle.orca_names.specs.declared.trace.Trace.TheVariants as options
use Rattle.machine_rules.specs.Actors.{Actors, cell_at, cell_of, letters_of, mail_at, seat, seat_at, Every}
use Rattle.count_laws.specs.Agreement.{Person}
use Rattle.machine_rules.specs.Balance.{load_sum}
use Rattle.machine_rules.specs.Block.{held_actors}
use Rattle.machine_rules.specs.Cell.{Cell}
use Rattle.count_laws.specs.Facts.{IsFirmAt, KeepsCounts, IsSound}
use Rattle.count_laws.specs.Known.{IsSoundAt}
use Rattle.detector_laws.specs.Events.{CanBlock}
use Rattle.detector_laws.specs.World as view
use Rattle.machine_laws.proofs.Collecting.{same_loads}
use Rattle.machine_laws.proofs.HeldActors.{count_on-held_actors}
use Rattle.machine_laws.proofs.Seen.{world_of}
use Rattle.machine_rules.proofs.Guards.{MayReport, reporter}

-- the actor has its report out
abbrev pub reporting : Cell → Cell
reporting c = record c { reported = true }

-- what it reports
abbrev pub report_of_cell : ℕ → Cell → Report
report_of_cell a c = report_told a c.holdings.count (held_actors c.holdings)

-- ---- the counts

module _ (s : Actors) (a : ℕ) (c : Cell) (ls : List Letter) (at : seat_at s a ≡ seat c ls) where
  within : a < length s
  within = present_below s a _ at

  pub block_put : (trace : Trace) (all : Thing → Option Row) (ps : List Person) → KeepsCounts trace all ps s → Every (IsSound trace all) (set s a (seat (reporting c) ls)) → KeepsCounts trace all ps (set s a (seat (reporting c) ls))
  block_put trace all ps keeps sound = record {
    balanced = out_of_hand _ (cell_balanced s a c (reporting c) ls at none none none none (λ x is. omega arith) (λ x not. omega arith) (in_hand s keeps.balanced));
    prefixes = cell_prefix s a c (reporting c) ls at trace (λ x is. omega arith) keeps.prefixes;
    sound = sound;
    agrees = agrees_same ps s a c (reporting c) ls ls at refl keeps.agrees;
    bare = keeps.bare;
    long = keeps.long ∙ sym (length-set s a (seat (reporting c) ls));
    firm = every_set IsFirmAt s a (reporting c) ls within (keeps.firm a c ls at) keeps.firm;
  }

  pub block_keeps : (trace : Trace) (all : Thing → Option Row) (ps : List Person) → KeepsCounts trace all ps s → KeepsCounts trace all ps (set s a (seat (reporting c) ls))
  block_keeps options.Roots all ps keeps =
      let q = keeps.sound a c ls at in
      block_put options.Roots all ps keeps (every_set (IsRootsAt all) s a (reporting c) ls within
      (same_roots all a c (reporting c) ls q (own_self a c.holdings) (λ x. refl) refl refl refl ls q.letters (λ x k o h. backed_more a c (reporting c) ls k x o (λ y o. omega arith) (λ n row e. e) (q.backed x k o h))) keeps.sound)
  block_keeps Deep all ps keeps =
      let here = keeps.sound a c ls at in
      block_put Deep all ps keeps (every_set (IsSoundAt all) s a (reporting c) ls within
      (record { closed = alike_closed all a c c.holdings c.dirty true (alike_self a c.holdings) here.closed; rows = here.rows; loads = here.loads }) keeps.sound)

  -- ---- the world

  pub can_block : (d : Detector) (ns : List Note) → MayReport c ls → CanBlock (world_of s d ns) a c (report_of_cell a c)
  can_block d ns may = record {
    here = ap cell_of at;
    made = within;
    may = reporter c [] (record { rest = record { idle = may.rest.idle; clean = may.rest.clean; empty = refl }; unpinned = may.unpinned; unreported = may.unreported });
    exact = record { actor = refl; count = refl; held = count_on-held_actors c.holdings };
  }

  there : (b : ℕ) → b ≢ a → seat_at (set s a (seat (reporting c) ls)) b ≡ seat_at s b
  there b n = get_or-set_other s a b (seat (reporting c) ls) None n

  mine : seat_at (set s a (seat (reporting c) ls)) a ≡ seat (reporting c) ls
  mine = get_or-set_same s a (seat (reporting c) ls) None within

  pub block_is : (d : Detector) (ns : List Note)
      → world_of (set s a (seat (reporting c) ls)) d (ns ++ Block a c.holdings.count (held_actors c.holdings) ∷ []) ≡ view.block_in_world (world_of s d ns) a c (report_of_cell a c)
  block_is d ns =
      let s1 = set s a (seat (reporting c) ls) in
      let made : length s1 ≡ length s = length-set s a (seat (reporting c) ls) in
      let cell : cell_at s1 ≡ view.at (cell_at s) a (Some (reporting c)) = fun_ext (λ b. ⊎_elim
      (λ same. rw (eq-eqb b a same, same) (ap cell_of mine))
      (λ other. rw (ne_eqb b a other) (ap cell_of (there b other)))
      (cases_eq b a)) in
      let mail : mail_at s1 ≡ mail_at s = fun_ext (λ b. ⊎_elim
      (λ same. rw same (ap letters_of mine ∙ sym (ap letters_of at)))
      (λ other. ap letters_of (there b other))
      (cases_eq b a)) in
      let loaded : (λ x. load_sum (Actor x) s1) ≡ (λ x. load_sum (Actor x) s) = fun_ext (λ x. same_loads s a c (reporting c) ls at (Actor x)) in
      λ i. record { made = made i; cell = cell i; mail = mail i; loaded = loaded i; detector = d; notes = ns ++ Block a c.holdings.count (held_actors c.holdings) ∷ [] }
