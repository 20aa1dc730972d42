-- The command that reads the words, and when the words have no reading.
use Rattle.std.proofs.Common.{◌≡◌, ◌≢◌, ℕ, ◌==◌, Bor, List, [], ◌∷◌, length, map, Bool, true, false, Option, Some, None, IfOk, IfErr, if◌then◌else◌, ap, subst, sym, ◌∙◌, refl, inl, inr, rules, arith}
use Rattle.std.specs.declared.result.Result.{Result}
use Rattle.std.specs.Option.{ok_or}
use Rattle.std.proofs.lemmas.List.{length-map}
use Rattle.clap.specs.Words.{App, Row, Text, HasKind, Kinds, fault_of, is_simple, is_simple_and_free, kind_of, subcommand_of}
use Rattle.clap.specs.Walk.{is_empty}
use Rattle.clap.specs.declared.error.Error.{Error}
use Rattle.clap.specs.declared.error.kind.ErrorKind.TheVariants.{OutOfMemory}
use Rattle.clap.proofs.OnLiterals.{clap_on_literals}
use Rattle.word_line.specs.declared.order.Order.{Order}
use Rattle.word_line.specs.declared.order.WordErr.{WordErr}
use Rattle.word_line.specs.declared.order.WordErr.TheVariants.{BadWords}
use Rattle.word_line.specs.Commands.{command_line}
use Rattle.word_line.specs.Orders.{order_of, order_in, default_order}

pub is_free_line : is_simple_and_free command_line ≡ true
unfolding clap_on_literals command_line
is_free_line = refl

pub is_simple_line : is_simple command_line ≡ true
unfolding clap_on_literals command_line
is_simple_line = refl

second_of_three : (b c : Bool) (d o : Option Order) → b ≡ false → c ≡ true → (if b then d else (if c then o else None)) ≡ o
second_of_three true c d o e f = cc
second_of_three false true d o e f = refl
second_of_three false false d o e f = cc

last_of_three : (b c : Bool) (d o : Option Order) → b ≡ false → c ≡ false → (if b then d else (if c then o else None)) ≡ None
last_of_three true c d o e f = cc
last_of_three false true d o e f = cc
last_of_three false false d o e f = refl

-- an error for another cause than memory is a fault of the words
has_fault : (kinds : Kinds) (e : Error) → HasKind kinds e → kind_of e ≢ OutOfMemory → is_empty kinds ≡ false
has_fault [] e (inl h) other = absurd (other h)
has_fault [] e (inr h) other = absurd h
has_fault (k ∷ ks) e h other = search (rules, arith)

-- a list of borrowed words that is not empty
pub is_empty-words : (words : List (Bor Text)) (empty : Bool) → empty ≡ (length words == 0) → empty ≡ false → is_empty (map (λ word. word.now) words) ≡ false
is_empty-words words empty e some = ap (λ (n : ℕ). n == 0) (length-map words (λ (word : Bor Text). word.now)) ∙ (sym e ∙ some)

-- words that the command takes read as their subcommand
pub order_of-taken : (words : List Text) (a : App) (found : Option (Text × List Row)) → a ≡ command_line → is_empty words ≡ false
    → fault_of a words ≡ [] → found ≡ subcommand_of a words → order_of words ≡ order_in found
unfolding order_of
order_of-taken words a found line some none rows =
    let no_fault : fault_of command_line words ≡ [] = sym (ap (λ (b : App). fault_of b words) line) ∙ none in
    second_of_three (is_empty words) (is_empty (fault_of command_line words)) (Some default_order) (order_in (subcommand_of command_line words)) some (ap is_empty no_fault)
    ∙ ap order_in (sym (rows ∙ ap (λ (b : App). subcommand_of b words) line))

-- words with a fault have no reading
pub order_of-fault : (words : List Text) (a : App) (e : Error) → a ≡ command_line → is_empty words ≡ false → HasKind (fault_of a words) e
    → kind_of e ≢ OutOfMemory → order_of words ≡ None
unfolding order_of
order_of-fault words a e line some fails other =
    last_of_three (is_empty words) (is_empty (fault_of command_line words)) (Some default_order) (order_in (subcommand_of command_line words)) some
    (has_fault (fault_of command_line words) e (subst (λ (b : App). HasKind (fault_of b words) e) line fails) other)

-- a reading, or bad words where there is none
pub IfOk-ok_or : (read o : Option Order) (r : Result Order WordErr) → r ≡ ok_or o BadWords → read ≡ o → IfOk r (λ order. read ≡ Some order)
IfOk-ok_or read None r e is = rw e tt
IfOk-ok_or read (Some order) r e is = rw e is

pub IfErr-ok_or : (read o : Option Order) (r : Result Order WordErr) → r ≡ ok_or o BadWords → read ≡ o → IfErr r (λ x. x ≡ BadWords → read ≡ None)
IfErr-ok_or read None r e is = rw e (λ bad. is)
IfErr-ok_or read (Some order) r e is = rw e tt
