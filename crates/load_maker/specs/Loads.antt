-- The load program as text: nodes that stand in a ring, each of which holds the one object.
use Rattle.std.specs.Prelude.{ℕ, List, [], ◌∷◌, ◌++◌, codes}
use Rattle.std.specs.Fmt.{decimal}
use Rattle.std.specs.List.{flat_map}

-- the lines of the first kind, which makes the object and the first node
abbrev pub main_lines : ℕ → List (List ℕ)
main_lines n =
    codes "kind Main 0"
    ∷ codes "on start 0"
    ∷ (codes "int r0 " ++ decimal n)
    ∷ codes "row r1 r0"
    ∷ codes "new r2 Node"
    ∷ codes "send r2 grow r0 r2 r1"
    ∷ codes "end"
    ∷ []

-- the lines of a node's kind, which makes the next node, or as the last one prints the number
abbrev pub node_lines : List (List ℕ)
node_lines =
    codes "kind Node 2"
    ∷ codes "on grow 3"
    ∷ codes "store f1 r2"
    ∷ codes "int r3 1"
    ∷ codes "same r4 r0 r3"
    ∷ codes "jzero r4 more"
    ∷ codes "store f0 r1"
    ∷ codes "get r5 r2 0"
    ∷ codes "print r5"
    ∷ codes "jump done"
    ∷ codes "label more"
    ∷ codes "sub r0 r0 r3"
    ∷ codes "new r6 Node"
    ∷ codes "store f0 r6"
    ∷ codes "send r6 grow r0 r1 r2"
    ∷ codes "label done"
    ∷ codes "end"
    ∷ []

-- the text of the load program with so many nodes: each line is ended by a line feed
unfoldable pub load_text : ℕ → List ℕ
load_text n = flat_map (λ line. line ++ codes "\n") (main_lines n ++ node_lines)
