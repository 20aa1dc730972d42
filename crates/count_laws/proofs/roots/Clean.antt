-- With root-only tracing, an idle actor that did nothing since it collected has just what is marked, after every event.
use Rattle.std.proofs.Common.{◌≡◌, ℕ, true, false, Some, List, refl, sym, ◌∙◌, arith, ⊎_elim}
use Rattle.std.specs.FinMap as m
use Rattle.std.specs.Ordering.{nat_cmp}
use Rattle.orca_names.specs.Names.{thing_cmp}
use Rattle.orca_names.specs.declared.names.Thing.{Thing}
use Rattle.orca_names.specs.declared.names.Thing.TheVariants.{Actor, Obj}
use Rattle.behaviour_code.specs.declared.code.Program.{Program}
use Rattle.turn_rules.specs.declared.act.Frame.{Frame}
use Rattle.event_rule.specs.declared.event.Event.{Event}
use Rattle.reach_walk.specs.Reach.{root, owned, thing_row}
use Rattle.letter_kinds.specs.Counting.{sweep}
use Rattle.letter_kinds.specs.Holdings.{Row, has_own, nothing_held}
use Rattle.letter_kinds.specs.Letters.{Letter, App, Inc, Dec, Confirm}
use Rattle.count_laws.proofs.local.Local.{Local}
use Rattle.count_laws.proofs.local.Locals.{every_first, every_next}
use Rattle.count_laws.proofs.knowledge.Paths.{along_row, reach_into}
use Rattle.count_laws.proofs.roots.Collect.{IsMarked, marks_sound, marks_whole, own_row-marked, own_row-stayed}
use Rattle.count_laws.proofs.roots.Same.{has_own_row}
use Rattle.count_laws.proofs.balance.Sweeping.{get_entry-sweep, own-sweep}
use Rattle.machine_rules.specs.Cell.{Cell, clean_cell, own_row_of}
use Rattle.count_laws.specs.Clean.{IsCleanByRootsAt, IsInOwnReach, IsSweptByRootsAt, StartsMarks, of_count, of_field}
use Rattle.machine_rules.specs.Collect.{is_marked_by_roots, without_unused}
use Rattle.machine_rules.specs.Actors.{Every}
use Rattle.event_rule.specs.Runs.{Goes}
use Rattle.machine_rules.specs.Next.{next}
use Rattle.machine_rules.specs.Options.{Options}
use Rattle.orca_names.specs.declared.trace.Trace.TheVariants as options
use Rattle.machine_rules.specs.State.{State, first_state}
use Rattle.machine_rules.specs.Take.{cell_after}
use Rattle.count_laws.proofs.roots.Starts.{starts, starts_counted}
use Rattle.count_laws.proofs.local.Cleaning.{kept_entry, no_entry, none_there}

-- ---- a collection

module _ (a : ℕ) (c : Cell) where
  abbrev d : Cell
  d = record (without_unused options.Roots a c) { holdings = sweep (is_marked_by_roots a c) a c.holdings; dirty = false }

  start_after : (x : Thing) → StartsMarks a c x → StartsMarks a d x
  start_after x (of_field n) = of_field n
  start_after x (of_count {n = n} o some) = of_count o (let z = own-sweep (is_marked_by_roots a c) a c.holdings (Obj n) in omega arith)

  still_marked : (x : Thing) → IsMarked a c x → IsInOwnReach a d x
  still_marked x h = (reach_into (thing_row (own_row_of a c.holdings)) (λ x. IsMarked a c x × IsInOwnReach a d x)
      (λ x n. (root n, root (start_after x (starts a c x n))))
      (λ x y r p e n. (along_row (thing_row (own_row_of a c.holdings)) p.0 e n, along_row (thing_row (own_row_of a d.holdings)) p.1 (row_on x r p.0 e) n))
      (λ n p. (owned p.0, owned p.1)) h).1
    where
      row_on : (x : Thing) (r : Row) → IsMarked a c x → thing_row (own_row_of a c.holdings) x ≡ Some r → thing_row (own_row_of a d.holdings) x ≡ Some r
      row_on (Actor i) r h e = cc
      row_on (Obj n) r h e = own_row-marked (is_marked_by_roots a c) a c.holdings n r (marks_whole a c (Obj n) h) e

  swept_by_roots : IsSweptByRootsAt a d
  swept_by_roots = record {
    foreign = λ x e is. still_marked x (marks_sound a c x (kept_entry (is_marked_by_roots a c x) (m.get c.holdings.foreign x) e (sym (get_entry-sweep (is_marked_by_roots a c) a c.holdings x) ∙ is)));
    own = λ n o has.
        let row = has_own_row a d.holdings n o has in
        let z = own_row-stayed (is_marked_by_roots a c) a c.holdings n row.0 row.1 in
        ⊎_elim
        (λ t. still_marked (Obj n) (marks_sound a c (Obj n) t))
        (λ some. still_marked (Obj n) (root (starts_counted a c n o some)))
        z.1;
  }

-- ---- all events

bare_swept : (program : Program) (me kind count : ℕ) → IsSweptByRootsAt me (clean_cell program kind count)
unfolding has_own
bare_swept program me kind count =
    let h = nothing_held count in
    record {
      foreign = λ x e is. absurd (no_entry (m.get h.foreign x) e (m.get-empty thing_cmp x) is);
      own = λ n o has. absurd (none_there (m.get h.rows n.serial) (m.get-empty nat_cmp n.serial) has);
    }

told_swept : (me : ℕ) (c : Cell) → IsSweptByRootsAt me c → IsSweptByRootsAt me (record c { reported = true })
told_swept me c q = record { foreign = λ x e is. same (q.foreign x e is); own = λ n o has. same (q.own n o has) }
  where
    start : (x : Thing) → StartsMarks me c x → StartsMarks me (record c { reported = true }) x
    start x (of_field n) = of_field n
    start x (of_count o some) = of_count o some

    same : {x : Thing} → IsInOwnReach me c x → IsInOwnReach me (record c { reported = true }) x
    same h = reach_into (thing_row (own_row_of me c.holdings)) (IsInOwnReach me (record c { reported = true })) (λ x s. root (start x s)) (λ x y r p e n. along_row (thing_row (own_row_of me c.holdings)) p e n) (λ n p. owned p) h

busy : (a : ℕ) (c : Cell) (mail : List Letter) (f : Frame) → c.frame ≡ Some f → IsCleanByRootsAt a c mail
busy a c mail f is idle d = cc

dirty : (a : ℕ) (c : Cell) (mail : List Letter) → c.dirty ≡ true → IsCleanByRootsAt a c mail
dirty a c mail is idle d = cc

took : (program : Program) (a : ℕ) (c : Cell) (l : Letter) (mail : List Letter) → IsCleanByRootsAt a c mail → IsCleanByRootsAt a (cell_after program a l c) mail
took program a c (App behaviour args load rows) mail q = dirty a (cell_after program a (App behaviour args load rows) c) mail refl
took program a c (Inc things) mail q = dirty a (cell_after program a (Inc things) c) mail refl
took program a c (Dec things) mail q = dirty a (cell_after program a (Dec things) c) mail refl
took program a c (Confirm token) mail q = q

pub clean_local : Local options.Roots IsCleanByRootsAt
clean_local = record {
  start = λ program idle d. bare_swept program 0 0 0;
  fresh = λ weight program a kind idle d. bare_swept program a kind weight;
  letter = λ l a c mail q. q;
  take = λ program a c l mail idle q. took program a c l mail q;
  collect = λ a c mail idle d q i e. swept_by_roots a c;
  block = λ a c mail may q idle d. told_swept a c (q idle d);
  turn = λ program a c mail f is q. busy a _ mail _ refl;
  end = λ program a c mail f is q. dirty a _ mail refl;
  make = λ weight a n c mail f g below is q. busy a _ mail g refl;
  send = λ a c mail f load is q. busy a _ mail f is;
  mint = λ a c mail f things is some q. busy a _ mail f is;
}

pub roots_clean-first : (program : Program) (o : Options) → Every IsCleanByRootsAt (first_state program o).actors
roots_clean-first program o = every_first options.Roots IsCleanByRootsAt clean_local program o

pub roots_clean-next : (s t : State) (e : Event) → s.options.trace ≡ options.Roots → next s e ≡ Goes t → Every IsCleanByRootsAt s.actors → Every IsCleanByRootsAt t.actors
roots_clean-next s t e roots now h = every_next options.Roots IsCleanByRootsAt clean_local s t e roots now h
