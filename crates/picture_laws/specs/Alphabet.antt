-- The bytes of a picture: one text of a book, and of an alphabet.
use Rattle.std.specs.Prelude.{ℕ, ◌≡◌, ◌||◌, ◌==◌, Bool, true, List}
use Rattle.std.specs.List.{list_all}
use Rattle.behaviour_code.specs.Names.{is_name_byte}
use Rattle.behaviour_code.specs.WellFormed.{IsWellFormed}
use Rattle.behaviour_code.specs.declared.code.Program.{Program}
use Rattle.event_rule.specs.declared.event.Event.{Event}
use Rattle.machine_rules.specs.Options.{Options}
use Rattle.machine_rules.specs.State.{State}
use Rattle.picture_rules.specs.Pictures.{IsPicture}

-- a letter, a digit, an underscore, a dot or a dash
abbrev pub is_word_byte : ℕ → Bool
is_word_byte b = is_name_byte b || (b == 46) || (b == 45)

-- one of these, a space or a line feed
abbrev pub is_shown : ℕ → Bool
is_shown b = is_word_byte b || (b == 32) || (b == 10)

-- a picture has no other byte, and so nothing of it can end the element in which it stands
abbrev pub HasShownBytes : Type 0
HasShownBytes =
    (program : Program) (options : Options) (book : List Event) (t : State) (bytes : List ℕ)
    → IsWellFormed program → IsPicture program options book t bytes → list_all is_shown bytes ≡ true

-- a book has one picture
abbrev pub HasOnePicture : Type 0
HasOnePicture =
    (program : Program) (options : Options) (book : List Event) (t : State) (bytes other : List ℕ)
    → IsPicture program options book t bytes → IsPicture program options book t other → bytes ≡ other
