-- An idle actor that did nothing since it collected is swept, after every event.
use Rattle.std.proofs.Common.{◌≡◌, ◌≢◌, ◌⊎◌, ℕ, ◌<◌, ◌==◌, ◌||◌, not, cond, Bool, true, false, is_some, Option, Some, None, List, refl, sym, ap, subst, ◌∙◌, arith, inl, inr, ⊎_elim, eq-eqb, ne_eqb}
use Rattle.std.proofs.lemmas.Bool.{cases_eq}
use Rattle.std.specs.FinMap as m
use Rattle.std.specs.Ordering.{nat_cmp}
use Rattle.orca_names.specs.Names.{thing_cmp}
use Rattle.orca_names.specs.declared.names.Thing.{Thing}
use Rattle.orca_names.specs.declared.names.Thing.TheVariants.{Actor, Obj}
use Rattle.behaviour_code.specs.declared.code.Program.{Program}
use Rattle.turn_rules.specs.declared.act.Frame.{Frame}
use Rattle.event_rule.specs.declared.event.Event.{Event}
use Rattle.reach_walk.specs.Reach.{root, owned}
use Rattle.letter_kinds.specs.Letters.{Letter, App, Inc, Dec, Confirm}
use Rattle.letter_kinds.specs.Counting.{sweep}
use Rattle.letter_kinds.specs.Holdings.{Holdings, Row, entry_row, has_own, nothing_held, own_in, row_count, row_of}
use Rattle.count_laws.proofs.knowledge.Loads.{marked_reached, reached_marked}
use Rattle.count_laws.proofs.local.Local.{Local}
use Rattle.count_laws.proofs.local.Locals.{every_next, every_first}
use Rattle.count_laws.proofs.knowledge.Paths.{along_row, reach_into}
use Rattle.count_laws.proofs.knowledge.Receiving.{own_row}
use Rattle.count_laws.proofs.balance.Sweeping.{stays, get_row-sweep, get_entry-sweep, own-sweep}
use Rattle.machine_rules.specs.Cell.{Cell, clean_cell}
use Rattle.count_laws.specs.Clean.{IsInReach, IsSweptAt, IsCleanAt, CleanAreSwept}
use Rattle.machine_rules.specs.Collect.{is_marked}
use Rattle.count_laws.specs.Known.{row_at}
use Rattle.event_rule.specs.Runs.{Goes}
use Rattle.machine_rules.specs.Next.{next}
use Rattle.orca_names.specs.declared.trace.Trace.TheVariants.{Deep}
use Rattle.machine_rules.specs.Options.{Options}
use Rattle.machine_rules.specs.State.{State, first_state}
use Rattle.machine_rules.specs.Take.{cell_after}

-- ---- of an actor with a frame, or that did something, nothing is said

busy : (a : ℕ) (c : Cell) (mail : List Letter) (f : Frame) → c.frame ≡ Some f → IsCleanAt a c mail
busy a c mail f is idle d = cc

dirty : (a : ℕ) (c : Cell) (mail : List Letter) → c.dirty ≡ true → IsCleanAt a c mail
dirty a c mail is idle d = cc

-- ---- a collection sweeps

-- what is left of an entry is marked
pub kept_entry : (b : Bool) (o : Option (ℕ × Option Row)) (e : ℕ × Option Row) → cond b o None ≡ Some e → b ≡ true
kept_entry true o e h = refl
kept_entry false o e h = cc

module _ (marked : Thing → Bool) (me : ℕ) (c : Cell)
    (sound : (x : Thing) → marked x ≡ true → IsInReach me c x)
    (whole : (x : Thing) → IsInReach me c x → marked x ≡ true) where
  abbrev after : Cell
  after = record c { holdings = sweep marked me c.holdings; dirty = false }

  abbrev mine : ℕ → Thing
  mine k = Obj (record { owner = me; serial = k })

  row_marked : (x : Thing) → marked x ≡ true → row_at me after.holdings x ≡ row_at me c.holdings x
  unfolding row_of stays
  row_marked (Actor a) h = refl
  row_marked (Obj n) h = ⊎_elim
      (λ same.
      let h' : marked (mine n.serial) ≡ true = subst (λ i. marked (Obj (record { owner = i; serial = n.serial })) ≡ true) same h in
      rw (eq-eqb n.owner me same) (ap own_row (get_row-sweep marked me c.holdings n.serial)
      ∙ ap (λ t. own_row (cond (t || not (row_count (m.get c.holdings.rows n.serial) == 0)) (m.get c.holdings.rows n.serial) None)) h'))
      (λ other. rw (ne_eqb n.owner me other) (ap entry_row (get_entry-sweep marked me c.holdings (Obj n)) ∙ ap (λ t. entry_row (cond t (m.get c.holdings.foreign (Obj n)) None)) h))
      (cases_eq n.owner me)

  still_reached : (x : Thing) → IsInReach me c x → IsInReach me after x
  still_reached x h = (reach_into (row_at me c.holdings) (λ x. IsInReach me c x × IsInReach me after x)
      (λ x n. (root n, root n))
      (λ x y r p e n. (along_row (row_at me c.holdings) p.0 e n, along_row (row_at me after.holdings) p.1 (row_marked x (whole x p.0) ∙ e) n))
      (λ n p. (owned p.0, owned p.1)) h).1

  kept_row : (b : Bool) (o : Option (Row × ℕ)) → is_some (cond (b || not (row_count o == 0)) o None) ≡ true → (b ≡ true) ⊎ (0 < row_count o)
  kept_row true o h = inl refl
  kept_row false None h = cc
  kept_row false (Some e) h = ⊎_elim (λ z. let w = rw (eq-eqb e.1 0 z) at h in cc) (λ n. inr (omega arith)) (cases_eq e.1 0)

  own_case : (k : ℕ) → has_own after.holdings (mine k) ≡ true → (marked (mine k) ≡ true) ⊎ (0 < own_in c.holdings (mine k))
  unfolding has_own own_in stays
  own_case k h = kept_row (marked (mine k)) (m.get c.holdings.rows k) (sym (ap is_some (get_row-sweep marked me c.holdings k)) ∙ h)

  pub sweep_swept : IsSweptAt me after
  sweep_swept = record {
    foreign = λ x e is. still_reached x (sound x (kept_entry (marked x) (m.get c.holdings.foreign x) e (sym (get_entry-sweep marked me c.holdings x) ∙ is)));
    own = λ k has. ⊎_elim
        (λ z. inl (still_reached (mine k) (sound (mine k) z)))
        (λ n. inr (let w = own-sweep marked me c.holdings (mine k) in omega arith))
        (own_case k has);
  }

-- ---- an actor that was just made has nothing to sweep

pub none_there : (o : Option (Row × ℕ)) → o ≡ None → is_some o ≢ true
none_there None e h = cc
none_there (Some r) e h = cc

pub no_entry : (o : Option (ℕ × Option Row)) (e : ℕ × Option Row) → o ≡ None → o ≢ Some e
no_entry None e n is = cc
no_entry (Some r) e n is = cc

bare_swept : (program : Program) (me kind count : ℕ) → IsSweptAt me (clean_cell program kind count)
unfolding has_own
bare_swept program me kind count =
    let h : Holdings = nothing_held count in
    record {
      foreign = λ x e is. absurd (no_entry (m.get h.foreign x) e (m.get-empty thing_cmp x) is);
      own = λ k has. absurd (none_there (m.get h.rows k) (m.get-empty nat_cmp k) has);
    }

-- ---- whether it told the detector says nothing of what it reaches

told_swept : (me : ℕ) (c : Cell) → IsSweptAt me c → IsSweptAt me (record c { reported = true })
told_swept me c q = record { foreign = q.foreign; own = q.own }

-- ---- all events

took : (program : Program) (a : ℕ) (c : Cell) (l : Letter) (mail : List Letter) → IsCleanAt a c mail → IsCleanAt a (cell_after program a l c) mail
took program a c (App behaviour args load rows) mail q = dirty a (cell_after program a (App behaviour args load rows) c) mail refl
took program a c (Inc things) mail q = dirty a (cell_after program a (Inc things) c) mail refl
took program a c (Dec things) mail q = dirty a (cell_after program a (Dec things) c) mail refl
took program a c (Confirm token) mail q = q

pub clean_local : Local Deep IsCleanAt
clean_local = record {
  start = λ program idle d. bare_swept program 0 0 0;
  fresh = λ weight program a kind idle d. bare_swept program a kind weight;
  letter = λ l a c mail q. q;
  take = λ program a c l mail idle q. took program a c l mail q;
  collect = λ a c mail idle d q i e. sweep_swept (is_marked Deep a c) a c (marked_reached a c) (reached_marked a c);
  block = λ a c mail may q idle d. told_swept a c (q idle d);
  turn = λ program a c mail f is q. busy a _ mail _ refl;
  end = λ program a c mail f is q. dirty a _ mail refl;
  make = λ weight a n c mail f g below is q. busy a _ mail g refl;
  send = λ a c mail f load is q. busy a _ mail f is;
  mint = λ a c mail f things is some q. busy a _ mail f is;
}

pub clean-first : (program : Program) (options : Options) → CleanAreSwept (first_state program options).actors
clean-first program options = every_first Deep IsCleanAt clean_local program options

pub clean-next : (s t : State) (e : Event) → s.options.trace ≡ Deep → next s e ≡ Goes t → CleanAreSwept s.actors → CleanAreSwept t.actors
clean-next s t e deep now h = every_next Deep IsCleanAt clean_local s t e deep now h
