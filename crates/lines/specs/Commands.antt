-- Document 01, **The line program**: what a line asks for. Every line that is none of the forms below has no known form, which is
-- refused with 12: "12 .. a program line of no known form".
-- Assumes nothing.
use Rattle.std.specs.Prelude.{cond, List, [], ◌∷◌, ℕ, leb, length}
use Rattle.std.proofs.Math.Option.{Option, none, some}
use Rattle.answers.specs.Answers.{Answer, refusal, result}
use Rattle.fields.specs.Lines.{fields, alike}
use Rattle.fields.specs.Numbers.{number_of, key_of}
use Rattle.lines.specs.declared.commands.Command.{Command}
use Rattle.lines.specs.declared.commands.Command.TheVariants.{Open, Admit, Join, Withdraw, Plan}

-- ---- the forms

-- the words, in bytes: open, admit, join, withdraw, plan
abbrev pub open_word : List ℕ
open_word = 111 ∷ 112 ∷ 101 ∷ 110 ∷ []

abbrev pub admit_word : List ℕ
admit_word = 97 ∷ 100 ∷ 109 ∷ 105 ∷ 116 ∷ []

abbrev pub join_word : List ℕ
join_word = 106 ∷ 111 ∷ 105 ∷ 110 ∷ []

abbrev pub withdraw_word : List ℕ
withdraw_word = 119 ∷ 105 ∷ 116 ∷ 104 ∷ 100 ∷ 114 ∷ 97 ∷ 119 ∷ []

abbrev pub plan_word : List ℕ
plan_word = 112 ∷ 108 ∷ 97 ∷ 110 ∷ []

-- a word alone: admit, join, plan
unfoldable pub word_alone : List ℕ → Answer Command
word_alone w = cond (alike w admit_word) (result Admit) (cond (alike w join_word) (result Join) (cond (alike w plan_word) (result Plan) (refusal 12)))

-- withdraw and its slot
abbrev pub withdraw_form : Option ℕ → Answer Command
withdraw_form none = refusal 12
withdraw_form (some s) = result (Withdraw s)

unfoldable pub word_and_one : List ℕ → List ℕ → Answer Command
word_and_one w a = cond (alike w withdraw_word) (withdraw_form (number_of a)) (refusal 12)

-- "Open has key .., k, n"
abbrev pub open_form : Option ℕ → Option ℕ → Option ℕ → Answer Command
open_form none k n = refusal 12
open_form (some key) none n = refusal 12
open_form (some key) (some k) none = refusal 12
open_form (some key) (some k) (some n) = result (Open key k n)

unfoldable pub word_and_three : List ℕ → List ℕ → List ℕ → List ℕ → Answer Command
word_and_three w a b c = cond (alike w open_word) (open_form (key_of a) (number_of b) (number_of c)) (refusal 12)

abbrev pub by_fields : List (List ℕ) → Answer Command
by_fields [] = refusal 12
by_fields (w ∷ []) = word_alone w
by_fields (w ∷ a ∷ []) = word_and_one w a
by_fields (w ∷ a ∷ b ∷ []) = refusal 12
by_fields (w ∷ a ∷ b ∷ c ∷ []) = word_and_three w a b c
by_fields (w ∷ a ∷ b ∷ c ∷ d ∷ more) = refusal 12

-- "lines to 80 bytes (a longer one has no known form)"
unfoldable pub command_of : List ℕ → Answer Command
command_of line = cond (leb (length line) 80) (by_fields (fields line)) (refusal 12)

-- ---- what is answered to a line

-- 01's number, or what the line asks for
unfoldable pub parse_call : List ℕ → Answer Command
parse_call line = command_of line
