-- Worked texts of answers, computed on the definitions. In the comments a blank stands for a tab, and each line ends in a line feed.
-- Assumes nothing.
use mathlib.Core.Path.{◌≡◌, refl}
use mathlib.Core.List.{[], ◌∷◌}
use mathlib.Core.Option.{some}
use Rattle.rounds.specs.Ledgers.{sheet}
use Rattle.fields.specs.Printing.{decimal_of, tabbed}
use Rattle.lines.specs.Replies.{opened, admitted, nothing, joined, withdrawn, planned, place_line, text_of, reply_text}
use Rattle.answers.specs.Answers.{refusal}

--     opened
opened_text : reply_text opened ≡ 111 ∷ 112 ∷ 101 ∷ 110 ∷ 101 ∷ 100 ∷ 10 ∷ []
unfolding reply_text
opened_text = refl

--     joined 0
joined_text : reply_text (joined 0) ≡ 106 ∷ 111 ∷ 105 ∷ 110 ∷ 101 ∷ 100 ∷ 9 ∷ 48 ∷ 10 ∷ []
unfolding reply_text tabbed decimal_of
joined_text = refl

--     refused 10
refused_text : text_of (refusal 10) ≡ 114 ∷ 101 ∷ 102 ∷ 117 ∷ 115 ∷ 101 ∷ 100 ∷ 9 ∷ 49 ∷ 48 ∷ 10 ∷ []
unfolding text_of tabbed decimal_of
refused_text = refl

--     withdrawn 0
withdrawn_text : reply_text (withdrawn 0) ≡ 119 ∷ 105 ∷ 116 ∷ 104 ∷ 100 ∷ 114 ∷ 97 ∷ 119 ∷ 110 ∷ 9 ∷ 48 ∷ 10 ∷ []
unfolding reply_text tabbed decimal_of
withdrawn_text = refl

--     admit 1073741823 4294967295
admitted_text : reply_text (admitted 1073741823 4294967295) ≡ 97 ∷ 100 ∷ 109 ∷ 105 ∷ 116 ∷ 9 ∷ 49 ∷ 48 ∷ 55 ∷ 51 ∷ 55 ∷ 52 ∷ 49 ∷ 56 ∷ 50 ∷ 51 ∷ 9 ∷ 52 ∷ 50 ∷ 57 ∷ 52 ∷ 57 ∷ 54 ∷ 55 ∷ 50 ∷ 57 ∷ 53 ∷ 10 ∷ []
unfolding reply_text tabbed decimal_of
admitted_text = refl

--     none
nothing_text : reply_text nothing ≡ 110 ∷ 111 ∷ 110 ∷ 101 ∷ 10 ∷ []
unfolding reply_text
nothing_text = refl

--     0 0 0
planned_one : reply_text (planned (sheet 0 (some 0) ∷ [])) ≡ 48 ∷ 9 ∷ 48 ∷ 9 ∷ 48 ∷ 10 ∷ []
unfolding reply_text place_line tabbed decimal_of
planned_one = refl

--     0 7 1
--     1 4294967295 12
planned_two : reply_text (planned (sheet 7 (some 1) ∷ sheet 4294967295 (some 12) ∷ [])) ≡ 48 ∷ 9 ∷ 55 ∷ 9 ∷ 49 ∷ 10 ∷ 49 ∷ 9 ∷ 52 ∷ 50 ∷ 57 ∷ 52 ∷ 57 ∷ 54 ∷ 55 ∷ 50 ∷ 57 ∷ 53 ∷ 9 ∷ 49 ∷ 50 ∷ 10 ∷ []
unfolding reply_text place_line tabbed decimal_of
planned_two = refl
