-- How much letters say of a thing, and what they bring.
use Rattle.std.specs.Prelude.{ℕ, List, [], ◌∷◌, ◌++◌, if◌then◌else◌, sum_by}
use Rattle.orca_names.specs.Names.{is_thing, times_among}
use Rattle.orca_names.specs.declared.names.Thing.{Thing}
use Rattle.letter_kinds.specs.Letters.{Letter, App, Inc, Dec, Confirm}
use Rattle.letter_kinds.specs.Counting.{Amount, Loaded}

-- the amounts for x in a list
unfoldable pub amount_of : Thing → List Amount → ℕ
amount_of x things = sum_by (λ e. if is_thing x e.0 then e.1 else 0) things

-- how often x stands in a load
unfoldable pub times_loaded : Thing → List Loaded → ℕ
times_loaded x load = times_among x load

-- the amount by which an Inc raises x
unfoldable pub inc_of : Thing → Letter → ℕ
inc_of x (App behaviour args load rows) = 0
inc_of x (Inc things) = amount_of x things
inc_of x (Dec things) = 0
inc_of x (Confirm token) = 0

-- the amount by which a Dec lowers x
unfoldable pub dec_of : Thing → Letter → ℕ
dec_of x (App behaviour args load rows) = 0
dec_of x (Inc things) = 0
dec_of x (Dec things) = amount_of x things
dec_of x (Confirm token) = 0

-- how often an application letter loads x
unfoldable pub load_count : Thing → Letter → ℕ
load_count x (App behaviour args load rows) = times_loaded x load
load_count x (Inc things) = 0
load_count x (Dec things) = 0
load_count x (Confirm token) = 0

-- the things that letters bring uncounted, objects with their rows
abbrev pub brought_by : List Letter → List Loaded
brought_by [] = []
brought_by (App behaviour args load rows ∷ mail) = rows ++ brought_by mail
brought_by (Inc things ∷ mail) = brought_by mail
brought_by (Dec things ∷ mail) = brought_by mail
brought_by (Confirm token ∷ mail) = brought_by mail
