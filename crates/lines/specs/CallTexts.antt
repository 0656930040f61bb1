-- Document 02, §8: "prints each call .. in the line program's form": a call as the line program takes it.
-- Assumes nothing.
use Rattle.std.specs.Prelude.{List, [], ◌∷◌, ◌++◌, ℕ, ◌^◌, ◌<◌}
use Rattle.fields.specs.Printing.{tabbed, line_end, key_text}
use Rattle.lines.specs.Commands.{open_word, admit_word, join_word, withdraw_word, plan_word}
use Rattle.lines.specs.declared.commands.Command.{Command}
use Rattle.lines.specs.declared.commands.Command.TheVariants.{Open, Admit, Join, Withdraw, Plan}

-- "Open has key (16 hexadecimal digits ..), k, n"; "16 digits, capitals", and numbers "without leading zeros"
unfoldable pub call_text : Command → List ℕ
call_text (Open key k n) = open_word ++ (9 ∷ []) ++ key_text key ++ tabbed k ++ tabbed n
call_text Admit = admit_word
call_text Join = join_word
call_text (Withdraw slot) = withdraw_word ++ tabbed slot
call_text Plan = plan_word

-- "Lines end in a line feed"
unfoldable pub call_line : Command → List ℕ
call_line c = call_text c ++ line_end

-- a key of 64 bits; "slots, k and n .. below 2^32"
abbrev pub InRange : Command → Type 0
InRange (Open key k n) = (key < 2 ^ 64) × (k < 2 ^ 32) × (n < 2 ^ 32)
InRange Admit = Unit {0}
InRange Join = Unit {0}
InRange (Withdraw slot) = slot < 2 ^ 32
InRange Plan = Unit {0}
