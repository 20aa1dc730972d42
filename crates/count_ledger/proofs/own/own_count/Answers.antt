use Rattle.std.proofs.Common.{◌≡◌, ℕ, true, refl, sym, ap, subst, ◌∙◌}
use Rattle.std.specs.FinMap as m
use Rattle.orca_names.specs.Names.{owner_of}
use Rattle.orca_names.specs.declared.names.ObjName.{ObjName}
use Rattle.orca_names.specs.declared.names.Thing.TheVariants.{Actor, Obj}
use Rattle.letter_kinds.specs.Holdings.{has_own, own_in, row_count}
use Rattle.object_heap.specs.Heap.{Has}
use Rattle.actor_cell.specs.declared.cell.Cell.{Cell}
use Rattle.actor_cell.specs.Cells.{as_cell}
use Rattle.count_ledger.proofs.own.own_count.Goals as goal

-- an object of its own that is there is in its heap
in_heap : (c : Cell) (n : ObjName) → n.owner ≡ c.heap.owner → has_own (as_cell c).holdings (Obj n) ≡ true
    → Has c.heap n
unfolding has_own
in_heap c n mine there = record { owner = mine; there = there }

-- the count of the actor, and of an object
own_actor : (c : Cell) (a : ℕ) → c.count ≡ own_in (as_cell c).holdings (Actor a)
unfolding own_in
own_actor c a = refl

own_object : (c : Cell) (n : ObjName)
    → row_count (m.get c.heap.rows n.serial) ≡ own_in (as_cell c).holdings (Obj n)
unfolding own_in
own_object c n = refl

pub count-requires : goal.count-requires
count-requires c =
    let cell = c.args.cell.now in
    let mine = subst (λ x. owner_of x ≡ cell.heap.owner) c.in-Obj.is c.requires.mine in
    in_heap cell c.in-Obj.n mine (subst (λ x. has_own (as_cell cell).holdings x ≡ true)
    c.in-Obj.is c.requires.there)

pub returns-in-Actor : goal.returns-in-Actor
returns-in-Actor c =
    let cell = c.args.cell.now in
    c.get.ensures.count ∙ own_actor cell c.in-Actor.field-0
    ∙ ap (own_in (as_cell cell).holdings) (sym c.in-Actor.is)

pub returns-in-Obj : goal.returns-in-Obj
returns-in-Obj c =
    let cell = c.args.cell.now in
    c.count.ensures.count ∙ own_object cell c.in-Obj.n ∙ ap (own_in (as_cell cell).holdings) (sym c.in-Obj.is)
