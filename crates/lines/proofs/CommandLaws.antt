-- Laws of a line taken apart: its words, and what it asks for.
-- Assumes nothing.
use mathlib.Core.Path.{◌≡◌, refl, sym, ap}
use mathlib.Core.List.{List, [], ◌∷◌}
use Prim.Native.Nat.{ℕ, ◌≤◌, ◌<◌}
use native.Mathlib.Omega.{arith}
use borrow.Author.Tests.{lt-leb, le-leb}
use lib.ListN.{length, take, length-take}
use lib.Seq.{take_all}
use Rattle.std.specs.Prelude.{Option, Some, None}
use Rattle.std.specs.Option.{ok_or}
use Rattle.std.proofs.Math.Option.{none, some}
use Rattle.std.proofs.Common.{rules}
use Rattle.std.proofs.lemmas.Slice.Eq.{HasBytesAt, text_from_reads}
use Rattle.answers.specs.Refusals.{answer_of}
use Rattle.answers.specs.declared.Refusal.TheVariants.{Misfit}
use Rattle.answers.specs.Answers.{refusal, result}
use Rattle.lists.proofs.Tests.{by_below}
use Rattle.fields.specs.Lines.{fields}
use Rattle.fields.specs.Parts.{at_most_four}
use Rattle.fields.proofs.AlikeLaws.{alike_not}
use Rattle.fields.proofs.FieldLaws.{listed_are, listed_more}
use Rattle.lines.specs.declared.commands.Command.{Command}
use Rattle.lines.specs.declared.commands.Command.TheVariants.{Admit, Join, Plan}
use Rattle.lines.specs.Commands.{word_alone, admit_word, join_word, plan_word, by_fields, command_of}
use Rattle.lines.specs.InnerLines.{answer_of_form}

-- ---- words

module _ (w : List ℕ) where
  pub alone_admit : length w ≡ 5 → HasBytesAt w 0 admit_word → result Admit ≡ word_alone w
  unfolding word_alone
  alone_admit n b = rw (text_from_reads w admit_word n b)

  pub alone_join : length w ≡ 4 → HasBytesAt w 0 join_word → result Join ≡ word_alone w
  unfolding word_alone
  alone_join n b = rw (text_from_reads w join_word n b)

  pub alone_plan : length w ≡ 4 → HasBytesAt w 0 plan_word → result Plan ≡ word_alone w
  unfolding word_alone
  alone_plan n b = rw (text_from_reads w plan_word n b)

  pub alone_else : (length w ≡ 5 → HasBytesAt w 0 admit_word → ⊥) → (length w ≡ 4 → HasBytesAt w 0 join_word → ⊥) → (length w ≡ 4 → HasBytesAt w 0 plan_word → ⊥)
      → refusal 12 ≡ word_alone w
  unfolding word_alone
  alone_else a j p = rw (alike_not w admit_word (search rules) a, alike_not w join_word (search rules) j, alike_not w plan_word (search rules) p)

-- ---- fields

module _ (l : List ℕ) (short : length l ≤ 80) where
  -- a line's fields are read off the promise of the call that takes it apart; they tell what it asks for,
  pub command_fields : (fs : List (List ℕ)) → some fs ≡ at_most_four (fields l) → by_fields fs ≡ command_of l
  unfolding command_of
  command_fields fs e = rw (le-leb (length l) 80 short) (ap by_fields (sym (listed_are (fields l) fs e)))

  -- and more than four are too many
  pub command_more : none ≡ at_most_four (fields l) → refusal 12 ≡ command_of l
  unfolding command_of
  command_more e = rw (le-leb (length l) 80 short) (sym (many (fields l) (listed_more (fields l) e)))
    where
      many : (fs : List (List ℕ)) → 4 < length fs → by_fields fs ≡ refusal 12
      many [] h = absurd (omega arith)
      many (a ∷ []) h = absurd (omega arith)
      many (a ∷ b ∷ []) h = absurd (omega arith)
      many (a ∷ b ∷ c ∷ []) h = absurd (omega arith)
      many (a ∷ b ∷ c ∷ d ∷ []) h = absurd (omega arith)
      many (a ∷ b ∷ c ∷ d ∷ e ∷ more) h = refl

-- ---- what a line asks for

-- a form that there is none of is a misfit
pub form_answer : (o : Option Command) → answer_of (ok_or o Misfit) ≡ answer_of_form o
form_answer (Some c) = refl
form_answer None = refl

-- a line asks for what its first 81 bytes ask for
pub command_first : (l : List ℕ) → command_of (take 81 l) ≡ command_of l
unfolding command_of
command_first l =
    by_below 80 (length l)
    (λ h. let k : 80 < length (take 81 l) = omega (arith, length-take 81 l) in
    rw (lt-leb (length (take 81 l)) 80 k, lt-leb (length l) 80 h))
    (λ h. rw (take_all 81 l (omega arith)))
