-- A turn keeps all that is kept of the counts, with the rows that it makes.
use Rattle.std.proofs.Common.{◌≡◌, ℕ, ◌<◌, Bool, Option, Some, List, length, set, refl, sym, ◌∙◌, ap, arith, length-set}
use Rattle.std.specs.FinMap as m
use Rattle.orca_names.specs.declared.names.Thing.{Thing}
use Rattle.behaviour_code.specs.declared.code.Program.{Program}
use Rattle.turn_rules.specs.Segment.{Stop}
use Rattle.turn_rules.specs.declared.act.Frame.{Frame}
use Rattle.letter_kinds.specs.Holdings.{Row, held_in, own_in}
use Rattle.letter_kinds.specs.Letters.{Letter}
use Rattle.count_laws.proofs.agreement.Agreeing.{agrees_set}
use Rattle.count_laws.proofs.events.Every.{every_set}
use Rattle.count_laws.proofs.knowledge.Global.{sound_set}
use Rattle.count_laws.proofs.knowledge.Going.{Grows, after, closed_after, held_after, own_after, rows_after, sound_after, turn}
use Rattle.count_laws.proofs.balance.InHand.{in_hand, none, out_of_hand}
use Rattle.machine_rules.proofs.Present.{present_below}
use Rattle.count_laws.proofs.balance.Sends.{cell_balanced, cell_prefix}
use Rattle.orca_names.specs.declared.trace.Trace.{Trace}
use Rattle.orca_names.specs.declared.trace.Trace.TheVariants.{Deep}
use Rattle.machine_rules.specs.Actors.{Actors, seat, seat_at, Every}
use Rattle.count_laws.specs.Agreement.{Person, person_of}
use Rattle.machine_rules.specs.Cell.{Cell}
use Rattle.count_laws.specs.Facts.{IsFirmAt, KeepsCounts, IsSound}
use Rattle.count_laws.specs.Known.{InFrame, Names}

-- an actor's cell after rows were made, which counts and holds as before
module _ (trace : Trace) (all all' : Thing → Option Row) (ps : List Person) (s : Actors) (inv : KeepsCounts trace all ps s)
    (a : ℕ) (c c1 : Cell) (ls : List Letter) (at : seat_at s a ≡ seat c ls) (made : List Row) (grows : Grows all all' a c.holdings.next made)
    (foreign_after : c1.holdings.foreign ≡ c.holdings.foreign)
    (own_same : (x : Thing) → own_in c1.holdings x ≡ own_in c.holdings x) (held_same : (x : Thing) → held_in c1.holdings x ≡ held_in c.holdings x) where
  within : a < length s
  within = present_below s a _ at

  pub turn_put : Every (IsSound trace all') (set s a (seat c1 ls)) → KeepsCounts trace all' (set ps a (person_of c1 ls)) (set s a (seat c1 ls))
  turn_put sound = record {
    balanced = out_of_hand _ (cell_balanced s a c c1 ls at none none none none
        (λ x is. let o = own_same x in let h = held_same x in omega arith)
        (λ x not. let h = held_same x in omega arith)
        (in_hand s inv.balanced));
    prefixes = cell_prefix s a c c1 ls at trace (λ x is. let o = own_same x in omega arith) inv.prefixes;
    sound = sound;
    agrees = agrees_set ps s a c c1 ls ls at (let w = inv.long in let z = within in omega arith) inv.agrees;
    bare = grows.bare;
    long = length-set ps a _ ∙ inv.long ∙ sym (length-set s a _);
    firm = every_set IsFirmAt s a c1 ls within (λ x e is. inv.firm a c ls at x e (ap (λ q. m.get q x) (sym foreign_after) ∙ is)) inv.firm;
  }

module _ (program : Program) (all all' : Thing → Option Row) (ps : List Person) (s : Actors) (inv : KeepsCounts Deep all ps s)
    (a : ℕ) (c : Cell) (ls : List Letter) (at : seat_at s a ≡ seat c ls) (f : Frame) (frame : c.frame ≡ Some f) where
  abbrev t : Stop
  t = turn program all all' ps s inv a c ls at f frame

  module _ (grows : Grows all all' a c.holdings.next t.turn.made) (nf : Option Frame) (nd : Bool) (names_nf : (x : Thing) → InFrame nf x → Names t.turn.registers x) where
    abbrev c1 : Cell
    c1 = after program all all' ps s inv a c ls at f frame grows nf nd names_nf

    foreign : c1.holdings.foreign ≡ c.holdings.foreign
    unfolding after
    foreign = refl

    pub turn_keeps_counts : KeepsCounts Deep all' (set ps a (person_of c1 ls)) (set s a (seat c1 ls))
    turn_keeps_counts = turn_put Deep all all' ps s inv a c c1 ls at t.turn.made grows foreign
        (own_after program all all' ps s inv a c ls at f frame grows nf nd names_nf) (held_after program all all' ps s inv a c ls at f frame grows nf nd names_nf)
        (sound_set all' s a (seat c ls) c1 ls (present_below s a _ at) at
        (record {
          closed = closed_after program all all' ps s inv a c ls at f frame grows nf nd names_nf;
          rows = rows_after program all all' ps s inv a c ls at f frame grows nf nd names_nf;
          loads = (sound_after program all all' ps s inv a c ls at f frame grows nf nd names_nf a c ls at).loads;
        })
        (sound_after program all all' ps s inv a c ls at f frame grows nf nd names_nf))
