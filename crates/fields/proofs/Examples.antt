-- Worked numbers, keys, inputs and cuts, computed on the definitions. In the comments, \t is a tab and \n a line feed.
-- Assumes nothing.
use mathlib.Core.Path.{◌≡◌, refl}
use mathlib.Core.List.{[], ◌∷◌, ◌++◌}
use mathlib.Core.Option.{none, some}
use lib.ListN.{replicate}
use Rattle.answers.specs.Answers.{result, after}
use Rattle.lists.specs.Lists.{written}
use Rattle.fields.specs.Lines.{fields, lines_of}
use Rattle.fields.specs.Numbers.{within, digit_of, number_of, key_of}
use Rattle.fields.specs.Printing.{decimal_of, capital_digit, key_text}
use Rattle.fields.specs.Inputs.{short_line, only_line}
use Rattle.fields.specs.Cuts.{kept, cut_call, firsts, cut_lines}
use Rattle.fields.specs.declared.cuts.Cutting.TheVariants.{Open, Whole, Joined}

-- ---- numbers and keys

-- 0
zero_text : decimal_of 0 ≡ 48 ∷ []
unfolding decimal_of
zero_text = refl

-- 4294967295
largest_text : decimal_of 4294967295 ≡ 52 ∷ 50 ∷ 57 ∷ 52 ∷ 57 ∷ 54 ∷ 55 ∷ 50 ∷ 57 ∷ 53 ∷ []
unfolding decimal_of
largest_text = refl

-- '007' is 7
leading_zeros : number_of (48 ∷ 48 ∷ 55 ∷ []) ≡ some 7
unfolding number_of within digit_of
leading_zeros = refl

-- '+7' is no number
plus_sign : number_of (43 ∷ 55 ∷ []) ≡ none
unfolding number_of within digit_of
plus_sign = refl

-- '4294967296' is too large
too_large : number_of (52 ∷ 50 ∷ 57 ∷ 52 ∷ 57 ∷ 54 ∷ 55 ∷ 50 ∷ 57 ∷ 54 ∷ []) ≡ none
unfolding number_of within digit_of
too_large = refl

-- DEADBEEFCAFEF00D
key_printed : key_text 0xDEAD_BEEF_CAFE_F00D ≡ 68 ∷ 69 ∷ 65 ∷ 68 ∷ 66 ∷ 69 ∷ 69 ∷ 70 ∷ 67 ∷ 65 ∷ 70 ∷ 69 ∷ 70 ∷ 48 ∷ 48 ∷ 68 ∷ []
unfolding key_text capital_digit
key_printed = refl

-- 0000000000000001
small_key : key_text 1 ≡ 48 ∷ 48 ∷ 48 ∷ 48 ∷ 48 ∷ 48 ∷ 48 ∷ 48 ∷ 48 ∷ 48 ∷ 48 ∷ 48 ∷ 48 ∷ 48 ∷ 48 ∷ 49 ∷ []
unfolding key_text capital_digit
small_key = refl

-- 'deadBEEFcafeF00d', either case
key_read : key_of (100 ∷ 101 ∷ 97 ∷ 100 ∷ 66 ∷ 69 ∷ 69 ∷ 70 ∷ 99 ∷ 97 ∷ 102 ∷ 101 ∷ 70 ∷ 48 ∷ 48 ∷ 100 ∷ []) ≡ some 0xDEAD_BEEF_CAFE_F00D
unfolding key_of within digit_of
key_read = refl

-- ---- fields and lines

-- 'a\t\tb': three fields
three_fields : fields (97 ∷ 9 ∷ 9 ∷ 98 ∷ []) ≡ (97 ∷ []) ∷ [] ∷ (98 ∷ []) ∷ []
three_fields = refl

-- 'a\n\nb': three lines
three_lines : lines_of (97 ∷ 10 ∷ 10 ∷ 98 ∷ []) ≡ (97 ∷ []) ∷ [] ∷ (98 ∷ []) ∷ []
three_lines = refl

-- ---- an input of one line

-- ''
no_byte : only_line [] ≡ none
unfolding only_line
no_byte = refl

-- 'ab'
without_feed : only_line (97 ∷ 98 ∷ []) ≡ some (97 ∷ 98 ∷ [])
unfolding only_line short_line
without_feed = refl

-- 'ab\n'
with_feed : only_line (97 ∷ 98 ∷ 10 ∷ []) ≡ some (97 ∷ 98 ∷ [])
unfolding only_line short_line
with_feed = refl

-- '\n'
feed_alone : only_line (10 ∷ []) ≡ some []
unfolding only_line short_line
feed_alone = refl

-- 'ab\n\n'
empty_second : only_line (97 ∷ 98 ∷ 10 ∷ 10 ∷ []) ≡ none
unfolding only_line short_line
empty_second = refl

-- 'ab\nc'
second : only_line (97 ∷ 98 ∷ 10 ∷ 99 ∷ []) ≡ none
unfolding only_line short_line
second = refl

-- '\nab'
empty_first : only_line (10 ∷ 97 ∷ 98 ∷ []) ≡ none
unfolding only_line short_line
empty_first = refl

-- 80 blanks and a line feed
eighty : only_line (replicate 80 32 ++ 10 ∷ []) ≡ some (replicate 80 32)
unfolding only_line short_line
eighty = refl

-- 81 blanks
eighty_one : only_line (replicate 81 32) ≡ none
unfolding only_line short_line
eighty_one = refl

-- ---- cuts

-- 'ab\ncd', with nothing held: the line 'ab' stands in the piece
cut_whole : cut_call (97 ∷ 98 ∷ 10 ∷ 99 ∷ 100 ∷ []) 0 (replicate 81 0) ≡ after (result (Whole 2 3)) (replicate 81 0)
unfolding cut_call kept
cut_whole = refl

-- 'cd', with nothing held: it is held
cut_open : cut_call (99 ∷ 100 ∷ []) 0 (replicate 81 0) ≡ after (result (Open 2)) (99 ∷ 100 ∷ replicate 79 0)
unfolding cut_call kept written
cut_open = refl

-- 'e\nf', with 'cd' held: the line is 'cde'
cut_joined : cut_call (101 ∷ 10 ∷ 102 ∷ []) 2 (99 ∷ 100 ∷ replicate 79 0) ≡ after (result (Joined 3 2)) (99 ∷ 100 ∷ 101 ∷ replicate 78 0)
unfolding cut_call kept written
cut_joined = refl

-- 100 blanks and a line feed: 81 of them are the line
cut_long : cut_call (replicate 100 32 ++ 10 ∷ []) 0 (replicate 81 0) ≡ after (result (Whole 81 101)) (replicate 81 0)
unfolding cut_call kept
cut_long = refl

-- a list of two places holds two bytes: 'c', with 'ab' held
cut_short : cut_call (99 ∷ []) 2 (97 ∷ 98 ∷ []) ≡ after (result (Open 2)) (97 ∷ 98 ∷ [])
unfolding cut_call kept written
cut_short = refl

-- 'b\n', with 'a' held, then the line '' and the last, 'c'
rest_of_input : cut_lines (97 ∷ []) (98 ∷ 10 ∷ 10 ∷ 99 ∷ []) ≡ (97 ∷ 98 ∷ []) ∷ [] ∷ (99 ∷ []) ∷ []
rest_of_input = refl

-- of a line of 100 bytes 81 are left
long_line : firsts (lines_of (replicate 100 32 ++ 10 ∷ [])) ≡ replicate 81 32 ∷ []
long_line = refl
