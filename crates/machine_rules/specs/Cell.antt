-- What an actor keeps in the machine that collects.
use Rattle.std.specs.Prelude.{ℕ, false, Bool, List, ◌++◌, map, replicate, Option, None, ◌==◌, if◌then◌else◌, option_map}
use Rattle.std.specs.List.{filter_map}
use Rattle.std.specs.FinMap as m
use Rattle.orca_names.specs.Names.{thing_cmp}
use Rattle.orca_names.specs.declared.names.ObjName.{ObjName}
use Rattle.orca_names.specs.declared.names.Thing.TheVariants as things
use Rattle.orca_names.specs.declared.names.Value.TheVariants.{Null}
use Rattle.orca_names.specs.declared.row.Fields.{Fields}
use Rattle.behaviour_code.specs.declared.code.Program.{Program}
use Rattle.behaviour_code.specs.Find.{field_count}
use Rattle.turn_rules.specs.declared.act.Frame.{Frame}
use Rattle.orca_names.specs.declared.trace.Trace.{Trace}
use Rattle.orca_names.specs.declared.trace.Trace.TheVariants.{Deep, Roots}
use Rattle.letter_kinds.specs.Holdings.{Holdings, Row, nothing_held, object_name, row_of}

pub record Cell : Type 0 where
  pub kind : ℕ
  pub fields : Fields
  -- where it stands in a behaviour, if it is in one
  pub frame : Option Frame
  pub holdings : Holdings
  -- it did something since it collected
  pub dirty : Bool
  -- it told the detector that it is blocked
  pub reported : Bool
  -- with root-only tracing: the rows of others' objects that letters brought
  pub known : m.FinMap thing_cmp Row

-- a clean actor with null fields that is counted so often
abbrev pub clean_cell : Program → ℕ → ℕ → Cell
clean_cell program kind count = record {
  kind = kind;
  fields = record { values = replicate (field_count program kind) Null; pinned = false };
  frame = None;
  holdings = nothing_held count;
  dirty = false;
  reported = false;
  known = m.empty;
}

-- the first actor, which nobody holds
abbrev pub first_cell : Program → Cell
first_cell program = clean_cell program 0 0

-- an actor that was just made; its maker holds it with the weight
abbrev pub fresh_cell : ℕ → Program → ℕ → Cell
fresh_cell weight program kind = clean_cell program kind weight

-- ---- root-only tracing

-- the row of an object: its own, or one that a letter brought
unfoldable pub row_by_roots : ℕ → Cell → ObjName → Option Row
row_by_roots me c n =
    if n.owner == me then option_map (λ e. e.0) (m.get c.holdings.rows n.serial)
    else m.get c.known (things.Obj n)

-- the row of an own object
unfoldable pub own_row_of : ℕ → Holdings → ObjName → Option Row
own_row_of me h n = if n.owner == me then option_map (λ e. e.0) (m.get h.rows n.serial) else None

-- its own objects, and those of which letters brought the rows
unfoldable pub listed_objects : ℕ → Cell → List ObjName
listed_objects me c =
    map (λ e. record { owner = me; serial = e.0 }) (m.entries c.holdings.rows)
    ++ filter_map (λ e. object_name e.0) (m.entries c.known)

-- ---- the rows that an actor has, by the mode

abbrev pub row_by : Trace → ℕ → Cell → ObjName → Option Row
row_by Deep me c = row_of me c.holdings
row_by Roots me c = row_by_roots me c
