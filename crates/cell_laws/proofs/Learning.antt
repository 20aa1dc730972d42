-- An actor keeps no row of its own objects among those that letters brought.
use Rattle.std.proofs.Common.{◌≡◌, ◌≢◌, ℕ, cond, Bool, true, false, Option, Some, None, is_some, List, [], ◌∷◌, refl, ap, sym, ◌∙◌, ⊎_elim, subst}
use Rattle.std.specs.FinMap as m
use Rattle.std.proofs.lemmas.Bool.{cases_eq}
use Rattle.orca_names.proofs.ThingOrder.{cases_thing, is_ne_false, thing_exact, thing_total}
use Rattle.orca_names.specs.Names.{owner_of, thing_cmp}
use Rattle.orca_names.specs.declared.names.Thing.{Thing}
use Rattle.orca_names.specs.declared.trace.Trace.{Trace}
use Rattle.orca_names.specs.declared.trace.Trace.TheVariants.{Deep, Roots}
use Rattle.behaviour_code.specs.declared.code.Program.{Program}
use Rattle.event_rule.specs.Runs.{Leads}
use Rattle.event_rule.specs.declared.event.Event.{Event}
use Rattle.letter_kinds.proofs.Counts.{cond_eq, cond_ne}
use Rattle.letter_kinds.specs.Counting.{Loaded}
use Rattle.letter_kinds.specs.Holdings.{Row}
use Rattle.letter_kinds.specs.Letters.{Letter, App, Confirm, Dec, Inc}
use Rattle.machine_rules.specs.Actors.{Every}
use Rattle.machine_rules.specs.Cell.{Cell}
use Rattle.machine_rules.specs.Collect.{is_in_use, without_unused}
use Rattle.machine_rules.specs.Next.{next}
use Rattle.machine_rules.specs.State.{State, first_state}
use Rattle.machine_rules.specs.Take.{cell_after, learn}
use Rattle.count_laws.proofs.local.Local.{Local}
use Rattle.count_laws.proofs.local.Locals.{every_first, every_next}
use Rattle.cell_laws.specs.Held.{RunsKnowOthersOnly}

abbrev Rows : Type 0
Rows = m.FinMap thing_cmp Row

abbrev AreOthers : ℕ → Rows → Type 0
AreOthers me known = (x : Thing) → m.contains_key known x ≡ true → owner_of x ≢ me

none_known : (me : ℕ) → AreOthers me m.empty
none_known me x some = absurd (not_empty (ap is_some (sym (m.get-empty thing_cmp x)) ∙ some))
  where
    not_empty : ◌≢◌ {A = Bool} false true
    not_empty e = cc

others_insert : (me : ℕ) (known : Rows) (y : Thing) (row : Row) → owner_of y ≢ me → AreOthers me known → AreOthers me (m.insert known y row)
others_insert me known y row theirs others x there = ⊎_elim
    (λ same mine. theirs (ap owner_of (sym same) ∙ mine))
    (λ other. others x (sym (ap is_some (kept other)) ∙ there))
    (cases_thing x y)
  where
    kept : x ≢ y → m.get (m.insert known y row) x ≡ m.get known x
    kept other = rw (m.get-insert thing_total) (rw (is_ne_false x y other) refl)

others_learn : (me : ℕ) (rows : List Loaded) (known : Rows) → AreOthers me known → AreOthers me (learn me rows known)
unfolding learn
others_learn me [] known others = others
others_learn me ((y, None) ∷ rows) known others = others_learn me rows known others
others_learn me ((y, Some row) ∷ rows) known others = others_learn me rows _ (⊎_elim
    (λ mine. subst (AreOthers me) (sym (cond_eq (owner_of y) me known (m.insert known y row) mine)) others)
    (λ theirs. subst (AreOthers me) (sym (cond_ne (owner_of y) me known (m.insert known y row) theirs)) (others_insert me known y row theirs others))
    (cases_eq (owner_of y) me))

-- what stays was there
others_retain : (me : ℕ) (known : Rows) (stays : Thing → Bool) → AreOthers me known → AreOthers me (m.retain_keys known stays)
others_retain me known stays others x there = others x (was (stays x) (m.get known x)
    (sym (ap is_some (m.get-retain_keys known stays x (λ y t. ap stays (sym (thing_exact x y t))))) ∙ there))
  where
    was : (b : Bool) (o : Option Row) → is_some (cond b o None) ≡ true → is_some o ≡ true
    was true o some = some
    was false o some = cc

abbrev KnowsOthers : ℕ → Cell → List Letter → Type 0
KnowsOthers a c mail = AreOthers a c.known

others_taken : (program : Program) (a : ℕ) (c : Cell) (letter : Letter) → AreOthers a c.known → AreOthers a (cell_after program a letter c).known
others_taken program a c (App behaviour args load rows) others = others_learn a rows c.known others
others_taken program a c (Inc things) others = others
others_taken program a c (Dec things) others = others
others_taken program a c (Confirm token) others = others

others_used : (trace : Trace) (a : ℕ) (c : Cell) → AreOthers a c.known → AreOthers a (without_unused trace a c).known
others_used Deep a c others = others
others_used Roots a c others = others_retain a c.known (is_in_use a c) others

others_local : (trace : Trace) → Local trace KnowsOthers
others_local trace = record {
  start = λ program. none_known 0;
  fresh = λ weight program a kind. none_known a;
  letter = λ l a c mail q. q;
  take = λ program a c l mail idle q. others_taken program a c l q;
  collect = λ a c mail idle d q. others_used trace a c q;
  block = λ a c mail may q. q;
  turn = λ program a c mail f is q. q;
  end = λ program a c mail f is q. q;
  make = λ weight a n c mail f g below is q. q;
  send = λ a c mail f load is q. q;
  mint = λ a c mail f things is some q. q;
}

others_lead : (book : List Event) (s t : State) → Leads next s book t → Every KnowsOthers s.actors → Every KnowsOthers t.actors
others_lead [] s t same others = subst (λ (u : State). Every KnowsOthers u.actors) same others
others_lead (e ∷ book) s t (u, goes, leads) others =
    others_lead book u t leads (every_next s.options.trace KnowsOthers (others_local s.options.trace) s u e refl goes others)

pub runs_know_others_only : RunsKnowOthersOnly
runs_know_others_only program options book t short a c mail at x there =
    others_lead book (first_state program options) t short.run (every_first options.trace KnowsOthers (others_local options.trace) program options) a c mail at x there
