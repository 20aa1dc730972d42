-- The text in the pieces that the code writes, and its length.
use Rattle.std.proofs.Common.{◌≡◌, ◌<◌, ◌≤◌, ◌^◌, ℕ, List, ◌++◌, codes, ap, sym, append_assoc, length, length-append, arith}
use Rattle.std.specs.Fmt.{decimal}
use Rattle.std.proofs.lemmas.Fmt.{length-decimal-le}
use Rattle.load_maker.specs.Loads.{load_text}

-- what follows the number
abbrev rest_text : List ℕ
rest_text =
    codes "\nrow r1 r0\nnew r2 Node\nsend r2 grow r0 r2 r1\nend\n"
    ++ (codes "kind Node 2\non grow 3\nstore f1 r2\nint r3 1\nsame r4 r0 r3\njzero r4 more\n"
    ++ (codes "store f0 r1\nget r5 r2 0\nprint r5\njump done\nlabel more\nsub r0 r0 r3\n"
    ++ codes "new r6 Node\nstore f0 r6\nsend r6 grow r0 r1 r2\nlabel done\nend\n"))

-- what stands before the number
abbrev first_text : List ℕ
first_text = codes "kind Main 0\non start 0\nint r0 "

pub joined_text : (n : ℕ) → first_text ++ (decimal n ++ rest_text) ≡ load_text n
unfolding load_text
joined_text n = ap (λ t. first_text ++ t) (sym (append_assoc (decimal n) (codes "\n") _))

-- the number has at most ten digits
pub is_short_text : (n : ℕ) → n < 2 ^ 32 → length (load_text n) ≤ 310
is_short_text n small =
    let few = length-decimal-le 10 n (omega arith) (omega arith) (omega arith) in
    rw (← joined_text n) (omega (arith, length-append (decimal n) rest_text, few))
