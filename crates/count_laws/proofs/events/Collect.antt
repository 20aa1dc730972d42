-- A collection keeps all that is kept of the counts.
use Rattle.std.proofs.Common.{◌≡◌, subst, refl, ℕ, ◌<◌, Bool, true, false, Option, None, List, length, set, sym, ◌∙◌, length-set}
use Rattle.orca_names.specs.declared.names.Thing.{Thing}
use Rattle.letter_kinds.specs.Counting.{by_owner, given_back, sweep}
use Rattle.letter_kinds.specs.Holdings.{Row}
use Rattle.letter_kinds.specs.Letters.{Letter, Dec}
use Rattle.count_laws.proofs.agreement.Agreeing.{agrees_same}
use Rattle.count_laws.proofs.events.Every.{every_set, every_decs, agrees_decs, length-decs}
use Rattle.count_laws.proofs.knowledge.Global.{mail_push}
use Rattle.count_laws.proofs.balance.InHand.{Balanced, in_hand, out_of_hand}
use Rattle.machine_rules.proofs.Present.{present_below}
use Rattle.count_laws.proofs.balance.Sweeping.{collect_closed, collect_rows, firm_counted, firm_sweep, next-sweep}
use Rattle.count_laws.proofs.balance.Sweeps.{collect_keeps}
use Rattle.orca_names.specs.declared.trace.Trace.{Trace}
use Rattle.orca_names.specs.declared.trace.Trace.TheVariants.{Deep}
use Rattle.machine_rules.specs.Actors.{Actors, seat, seat_at, Every}
use Rattle.count_laws.specs.Agreement.{Person, person_of}
use Rattle.count_laws.specs.Prefixes.{NeverOverdraws}
use Rattle.machine_rules.specs.Cell.{Cell}
use Rattle.machine_rules.specs.Collect.{after_collect}
use Rattle.count_laws.specs.Facts.{IsFirmAt, KeepsCounts, IsSound, IsFirm}
use Rattle.count_laws.specs.Known.{IsSoundAt, Names, ReachesThrough, row_at}

module _ (trace : Trace) (all : Thing → Option Row) (ps : List Person) (s : Actors) (inv : KeepsCounts trace all ps s)
    (a : ℕ) (c d : Cell) (ls : List Letter) (at : seat_at s a ≡ seat c ls) (marked : Thing → Bool)
    (same : d.holdings ≡ c.holdings) (person : person_of c ls ≡ person_of d ls) where
  abbrev pub swept : Cell
  swept = record d { holdings = sweep marked a d.holdings; dirty = false }

  abbrev pub after : Actors
  after = set s a (seat swept ls)

  within : a < length s
  within = present_below s a _ at

  both : Balanced (after_collect marked a d ls s) × NeverOverdraws trace (after_collect marked a d ls s)
  both = collect_keeps marked s a c d ls at same (firm_counted marked d.holdings (subst IsFirm (sym same) (inv.firm a c ls at))) trace (in_hand s inv.balanced) inv.prefixes

  same_person : person_of c ls ≡ person_of swept ls
  same_person = person ∙ (λ i. record (person_of d ls) { serial = sym (next-sweep marked a d.holdings) i })

  pub collect_put : Every (IsSound trace all) (after_collect marked a d ls s) → KeepsCounts trace all ps (after_collect marked a d ls s)
  collect_put sound =
      let decs = by_owner (given_back marked d.holdings) in
      record {
        balanced = out_of_hand _ both.0;
        prefixes = both.1;
        sound = sound;
        agrees = agrees_decs ps decs after (agrees_same ps s a c swept ls ls at same_person inv.agrees);
        bare = inv.bare;
        long = inv.long ∙ sym (length-decs decs after ∙ length-set s a _);
        firm = every_decs IsFirmAt (λ es b d ms q. q) decs after
            (every_set IsFirmAt s a swept ls within (firm_sweep marked a d.holdings (subst IsFirm (sym same) (inv.firm a c ls at))) inv.firm);
      }

module _ (all : Thing → Option Row) (ps : List Person) (s : Actors) (inv : KeepsCounts Deep all ps s)
    (a : ℕ) (c : Cell) (ls : List Letter) (at : seat_at s a ≡ seat c ls) (idle : c.frame ≡ None) (marked : Thing → Bool)
    (sound : (x : Thing) → marked x ≡ true → ReachesThrough (row_at a c.holdings) (Names c.fields.values) x)
    (whole : (x : Thing) → ReachesThrough (row_at a c.holdings) (Names c.fields.values) x → marked x ≡ true) where
  pub collect_keeps_counts : KeepsCounts Deep all ps (after_collect marked a c ls s)
  collect_keeps_counts =
      let here = inv.sound a c ls at in
      let swept' : Cell = record c { holdings = sweep marked a c.holdings; dirty = false } in
      collect_put Deep all ps s inv a c c ls at marked refl refl
      (every_decs (IsSoundAt all) (λ es b d ms q. record { closed = q.closed; rows = q.rows; loads = mail_push all ms (Dec es) tt q.loads }) (by_owner (given_back marked c.holdings)) (set s a (seat swept' ls))
      (every_set (IsSoundAt all) s a swept' ls (present_below s a _ at) (record {
        closed = collect_closed all marked a c idle sound whole here.closed here.rows;
        rows = collect_rows all marked a c idle sound whole here.closed here.rows;
        loads = here.loads;
      }) inv.sound))
