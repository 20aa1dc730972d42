-- What a pass knows, and what becomes of it.
use Rattle.std.specs.Prelude.{◌+◌, List, [], ◌∷◌, ◌++◌, length, nat_lt, if◌then◌else◌}
use Rattle.turn_log.specs.declared.rule.Known.{Known}

-- the longer of two logs
abbrev pub longer : {I : Type 0} → List I → List I → List I
longer xs ys = if nat_lt (length xs) (length ys) then ys else xs

module _ {I V : Type 0} where
  -- a pass that has seen nothing
  abbrev pub newcomer : V → Known I V
  newcomer client = record { seen = []; heard = []; turns = 0; client = client }

  -- at one turn more, where this is the whole log
  abbrev pub at_turn : List I → Known I V → Known I V
  at_turn log k = record k { seen = log; heard = log; turns = k.turns + 1 }

  -- having written an item, by which what it knows beside the log changes
  abbrev pub having_written : (I → V → V) → I → Known I V → Known I V
  having_written after i k =
      record k { seen = k.seen ++ i ∷ []; heard = k.seen ++ i ∷ []; client = after i k.client }

  -- one of the two that it is split into, by what that one knows beside the log
  abbrev pub half : (V → V) → Known I V → Known I V
  half side k = record k { client = side k.client }

  -- having taken in a pass that knew w, with what it then knows beside the log
  abbrev pub having_joined : (V → V → V) → Known I V → Known I V → Known I V
  having_joined both w k =
      record k { heard = longer k.heard w.heard; client = both k.client w.client }
