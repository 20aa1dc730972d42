-- What the letter of a turn loads of the objects that the turn made.
use Rattle.std.proofs.Common.{◌≡◌, ℕ, zero, suc, ◌-◌, ◌≤◌, Bool, true, false, cond, List, [], ◌∷◌, Option, None, Some, get_or, refl, sym, ap, subst, ◌∙◌, arith}
use Rattle.std.proofs.lemmas.Bool.{leb-true}
use Rattle.std.specs.Prelude.{◌==◌, ◌&&◌, nat_le, IsSome, map, option_map, slice_get}
use Rattle.std.proofs.lemmas.Option.{slice_get_within}
use Rattle.std.proofs.lemmas.List.Elements.{All-cons}
use Rattle.std.specs.FinMap as m
use Rattle.orca_names.specs.declared.names.ObjName.{ObjName}
use Rattle.orca_names.specs.declared.names.Thing.{Thing}
use Rattle.orca_names.specs.declared.names.Thing.TheVariants.{Actor, Obj}
use Rattle.orca_names.specs.declared.names.Value.{Value}
use Rattle.orca_names.specs.declared.options.Options.{Options}
use Rattle.orca_names.specs.declared.trace.Trace.TheVariants.{Deep}
use Rattle.behaviour_code.specs.declared.code.Program.{Program}
use Rattle.turn_rules.specs.Segment.{Turn}
use Rattle.turn_rules.specs.declared.act.Act.{Act}
use Rattle.turn_rules.specs.declared.act.Act.TheVariants as acts
use Rattle.turn_rules.specs.declared.act.Frame.{Frame}
use Rattle.reach_walk.specs.Marks.{marks_of}
use Rattle.row_store.specs.Told.{Lying, thing_row}
use Rattle.letter_kinds.specs.Counting.{Loaded}
use Rattle.letter_kinds.specs.Holdings.{Holdings, Row, add_rows, entry_row, known_objects, row_of, with_made}
use Rattle.letter_kinds.specs.Letters.{App, Letter}
use Rattle.letter_kinds.specs.Load.{HasGiven, HaveGiven, as_load, given_to}
use Rattle.letter_kinds.proofs.MadeRows.{add_rows-made}
use Rattle.machine_rules.specs.Cell.{Cell}
use Rattle.machine_rules.specs.Go.{lacking_from, load_from, rows_from, turn_of_cell}
use Rattle.actor_cell.specs.Goes.{IsTold, Turned, having_made, letter_or_mint, load_in, move_by}
use Rattle.actor_cell.specs.Moves.{Post, act_in, move_of}
use Rattle.actor_cell.specs.Tells.{where_sent}
use Rattle.actor_cell.specs.declared.turning.Doing.{Doing}
use Rattle.actor_cell.specs.declared.turning.Doing.TheVariants as does
use Rattle.actor_cell.specs.declared.turning.Turned as found

-- an object that the turn made has its row
made_row : (me : ℕ) (h : Holdings) (made : List Row) (n : ObjName) → IsSome (given_to me h.next made (Obj n)) → row_of me (with_made made h) n ≡ given_to me h.next made (Obj n)
unfolding row_of
made_row me h made n = by (n.owner == me) (nat_le h.next n.serial) refl
  where
    i : ℕ
    i = n.serial - h.next

    given : (o : Option Row) → slice_get made i ≡ o → h.next ≤ n.serial → IsSome o
        → option_map (λ e. e.0) (m.get (add_rows h.next made h.rows) n.serial) ≡ o
    given None is from some = cc
    given (Some row) is from some =
        let l = slice_get_within made i row is in
        ap (option_map (λ (e : Row × ℕ). e.0)) (add_rows-made h.next made h.rows i n.serial l (omega (arith, from))) ∙ got made i row is
      where
        got : (rows : List Row) (j : ℕ) (r : Row) → slice_get rows j ≡ Some r → Some (get_or rows j []) ≡ Some r
        got [] j r e = cc
        got (x ∷ rows) zero r e = e
        got (x ∷ rows) (suc j) r e = got rows j r e

    by : (mine from : Bool) → nat_le h.next n.serial ≡ from → IsSome (cond (mine && from) (slice_get made i) None)
        → cond mine (option_map (λ e. e.0) (m.get (add_rows h.next made h.rows) n.serial)) (entry_row (m.get h.foreign (Obj n))) ≡ cond (mine && from) (slice_get made i) None
    by true true is some = given (slice_get made i) refl (leb-true h.next n.serial is) some
    by true false is some = cc
    by false from is some = cc

-- so has each that the letter loads
pub loads_given : (me : ℕ) (h : Holdings) (made : List Row) (things : List Thing) (load : List (Thing × Lying))
    → as_load load ≡ map (λ x. (x, thing_row (row_of me (with_made made h)) x)) things → HaveGiven me h.next made load
loads_given me h made things [] is = λ i d l. absurd (omega (arith, l))
loads_given me h made [] (e ∷ load) is = cc
loads_given me h made (x ∷ things) (e ∷ load) is =
    let head : (e.0, e.1.row) ≡ (x, thing_row (row_of me (with_made made h)) x) = cc in
    let tail : as_load load ≡ map (λ y. (y, thing_row (row_of me (with_made made h)) y)) things = cc in
    All-cons (HasGiven me h.next made) e load (one e.0 e.1 (ap (λ (l : Thing × Option Row). l.0) head) (ap (λ (l : Thing × Option Row). l.1) head)) (loads_given me h made things load tail)
  where
    one : (y : Thing) (l : Lying) → y ≡ x → l.row ≡ thing_row (row_of me (with_made made h)) x → HasGiven me h.next made (y, l)
    one (Actor a) l same row some = cc
    one (Obj n) l same row some = row ∙ ap (thing_row (row_of me (with_made made h))) (sym same) ∙ made_row me h made n some

-- ---- what was found of a turn

-- a letter that is found so loads what its arguments reach
letter_found : (options : Options) (a : ℕ) (c : Cell) (to : ℕ) (letter : Letter) (act : Act) → options.trace ≡ Deep
    → move_by options a c act ≡ Post to letter → (args : List Value) × (load_in letter ≡ load_from Deep a c.holdings args)
letter_found options a c to letter (acts.Post to' behaviour args) deep is =
    (args, by (lacking_from options.trace a c.holdings args) is ∙ ap (λ t. load_from t a c.holdings args) deep)
  where
    by : (lacked : List Loaded)
        → letter_or_mint options.weight to' behaviour args (load_from options.trace a c.holdings args) (rows_from options.trace a c args) lacked ≡ Post to letter
        → load_in letter ≡ load_from options.trace a c.holdings args
    by [] is = cc
    by (e ∷ lacked) is = cc
letter_found options a c to letter (acts.New kind register) deep is = cc
letter_found options a c to letter (acts.Print value) deep is = cc
letter_found options a c to letter acts.End deep is = cc

pub letter_loads : (options : Options) (program : Program) (a : ℕ) (c : Cell) (frame : Frame) (turn : Turn) (place to : ℕ) (letter : Letter)
    → options.trace ≡ Deep → IsTold options program a c turn place (Post to letter) frame
    → (args : List Value) × (load_in letter ≡ load_from Deep a (with_made turn.made c.holdings) args)
letter_loads options program a c frame turn place to letter deep told =
    let o : Options = record options { trace = Deep } in
    let its : IsTold o program a c turn place (Post to letter) frame = subst (λ t. IsTold (record options { trace = t }) program a c turn place (Post to letter) frame) deep told in
    let stop = turn_of_cell Deep program a c frame in
    let made : stop.turn.made ≡ turn.made = ap (λ (t : Turned). t.turn.made) its in
    let found = letter_found o a (having_made stop.turn.made c) to letter stop.act refl (ap (λ (t : Turned). t.act) its) in
    (found.0, found.1 ∙ ap (λ rows. load_from Deep a (with_made rows c.holdings) found.0) made)

-- so a letter that was found loads what its turn made with its rows
pub found_given : (options : Options) (program : Program) (a : ℕ) (c : Cell) (frame : Frame) (turn : Turn) (turned : found.Turned) → options.trace ≡ Deep
    → IsTold options program a c turn turned.place (act_in turned) frame → HaveGiven a c.holdings.next turn.made (where_sent turned.doing turned.load)
found_given options program a c frame turn turned deep its = by turned.doing its
  where
    none : HaveGiven a c.holdings.next turn.made []
    none i d l = absurd (omega (arith, l))

    by : (doing : Doing) → IsTold options program a c turn turned.place (move_of doing turned.args (as_load turned.load) (as_load turned.rows) turned.things) frame
        → HaveGiven a c.holdings.next turn.made (where_sent doing turned.load)
    by (does.Post to behaviour) its =
        let loads = letter_loads options program a c frame turn turned.place to (App behaviour turned.args (as_load turned.load) (as_load turned.rows)) deep its in
        let h = with_made turn.made c.holdings in
        loads_given a c.holdings turn.made (marks_of (row_of a h) (known_objects a h) loads.0) turned.load loads.1
    by (does.Mint owner) its = none
    by (does.New kind register) its = none
    by (does.Print value) its = none
    by does.End its = none
    by does.Rest its = none
