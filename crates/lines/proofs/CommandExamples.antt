-- What the lines of document 01 ask for, and some of no known form, computed on the definitions. In the comments, \t is a tab.
-- Assumes nothing.
use mathlib.Core.Path.{◌≡◌, refl}
use mathlib.Core.List.{[], ◌∷◌}
use lib.ListN.{replicate}
use Rattle.answers.specs.Answers.{refusal, result}
use Rattle.lines.specs.declared.commands.Command.TheVariants.{Open, Admit, Join, Withdraw, Plan}
use Rattle.fields.specs.Numbers.{within, digit_of, number_of, key_of}
use Rattle.lines.specs.Commands.{word_alone, word_and_one, word_and_three, command_of}

-- the lines of document 01's table: 'open\t0000000000000001\t1\t1'
pub open_example : command_of (111 ∷ 112 ∷ 101 ∷ 110 ∷ 9 ∷ 48 ∷ 48 ∷ 48 ∷ 48 ∷ 48 ∷ 48 ∷ 48 ∷ 48 ∷ 48 ∷ 48 ∷ 48 ∷ 48 ∷ 48 ∷ 48 ∷ 48 ∷ 49 ∷ 9 ∷ 49 ∷ 9 ∷ 49 ∷ []) ≡ result (Open 1 1 1)
unfolding command_of word_alone word_and_one word_and_three key_of number_of digit_of within
open_example = refl

-- 'join'
pub join_example : command_of (106 ∷ 111 ∷ 105 ∷ 110 ∷ []) ≡ result Join
unfolding command_of word_alone word_and_one word_and_three key_of number_of digit_of within
join_example = refl

-- 'plan'
pub plan_example : command_of (112 ∷ 108 ∷ 97 ∷ 110 ∷ []) ≡ result Plan
unfolding command_of word_alone word_and_one word_and_three key_of number_of digit_of within
plan_example = refl

-- 'withdraw\t3'
pub withdraw_example : command_of (119 ∷ 105 ∷ 116 ∷ 104 ∷ 100 ∷ 114 ∷ 97 ∷ 119 ∷ 9 ∷ 51 ∷ []) ≡ result (Withdraw 3)
unfolding command_of word_alone word_and_one word_and_three key_of number_of digit_of within
withdraw_example = refl

-- 'withdraw\t0'
pub withdraw_0_example : command_of (119 ∷ 105 ∷ 116 ∷ 104 ∷ 100 ∷ 114 ∷ 97 ∷ 119 ∷ 9 ∷ 48 ∷ []) ≡ result (Withdraw 0)
unfolding command_of word_alone word_and_one word_and_three key_of number_of digit_of within
withdraw_0_example = refl

-- 'admit', of the text below the table
pub admit_example : command_of (97 ∷ 100 ∷ 109 ∷ 105 ∷ 116 ∷ []) ≡ result Admit
unfolding command_of word_alone word_and_one word_and_three key_of number_of digit_of within
admit_example = refl

-- a key in either case: 'open\tDEADbeefCAFEf00d\t0001\t1073741824'
pub either_case : command_of (111 ∷ 112 ∷ 101 ∷ 110 ∷ 9 ∷ 68 ∷ 69 ∷ 65 ∷ 68 ∷ 98 ∷ 101 ∷ 101 ∷ 102 ∷ 67 ∷ 65 ∷ 70 ∷ 69 ∷ 102 ∷ 48 ∷ 48 ∷ 100 ∷ 9 ∷ 48 ∷ 48 ∷ 48 ∷ 49 ∷ 9 ∷ 49 ∷ 48 ∷ 55 ∷ 51 ∷ 55 ∷ 52 ∷ 49 ∷ 56 ∷ 50 ∷ 52 ∷ []) ≡ result (Open 0xDEAD_BEEF_CAFE_F00D 1 1073741824)
unfolding command_of word_alone word_and_one word_and_three key_of number_of digit_of within
either_case = refl

-- a key of 15 digits: 'open\t000000000000001\t1\t1'
pub fifteen_digits : command_of (111 ∷ 112 ∷ 101 ∷ 110 ∷ 9 ∷ 48 ∷ 48 ∷ 48 ∷ 48 ∷ 48 ∷ 48 ∷ 48 ∷ 48 ∷ 48 ∷ 48 ∷ 48 ∷ 48 ∷ 48 ∷ 48 ∷ 49 ∷ 9 ∷ 49 ∷ 9 ∷ 49 ∷ []) ≡ refusal 12
unfolding command_of word_alone word_and_one word_and_three key_of number_of digit_of within
fifteen_digits = refl

-- the largest slot: 'withdraw\t4294967295'
pub largest : command_of (119 ∷ 105 ∷ 116 ∷ 104 ∷ 100 ∷ 114 ∷ 97 ∷ 119 ∷ 9 ∷ 52 ∷ 50 ∷ 57 ∷ 52 ∷ 57 ∷ 54 ∷ 55 ∷ 50 ∷ 57 ∷ 53 ∷ []) ≡ result (Withdraw 4294967295)
unfolding command_of word_alone word_and_one word_and_three key_of number_of digit_of within
largest = refl

-- and one more: 'withdraw\t4294967296'
pub too_large : command_of (119 ∷ 105 ∷ 116 ∷ 104 ∷ 100 ∷ 114 ∷ 97 ∷ 119 ∷ 9 ∷ 52 ∷ 50 ∷ 57 ∷ 52 ∷ 57 ∷ 54 ∷ 55 ∷ 50 ∷ 57 ∷ 54 ∷ []) ≡ refusal 12
unfolding command_of word_alone word_and_one word_and_three key_of number_of digit_of within
too_large = refl

-- ten digits: 'withdraw\t0000000003'
pub ten_digits : command_of (119 ∷ 105 ∷ 116 ∷ 104 ∷ 100 ∷ 114 ∷ 97 ∷ 119 ∷ 9 ∷ 48 ∷ 48 ∷ 48 ∷ 48 ∷ 48 ∷ 48 ∷ 48 ∷ 48 ∷ 48 ∷ 51 ∷ []) ≡ result (Withdraw 3)
unfolding command_of word_alone word_and_one word_and_three key_of number_of digit_of within
ten_digits = refl

-- eleven: 'withdraw\t00000000003'
pub eleven_digits : command_of (119 ∷ 105 ∷ 116 ∷ 104 ∷ 100 ∷ 114 ∷ 97 ∷ 119 ∷ 9 ∷ 48 ∷ 48 ∷ 48 ∷ 48 ∷ 48 ∷ 48 ∷ 48 ∷ 48 ∷ 48 ∷ 48 ∷ 51 ∷ []) ≡ refusal 12
unfolding command_of word_alone word_and_one word_and_three key_of number_of digit_of within
eleven_digits = refl

-- and none: 'withdraw\t'
pub no_digits : command_of (119 ∷ 105 ∷ 116 ∷ 104 ∷ 100 ∷ 114 ∷ 97 ∷ 119 ∷ 9 ∷ []) ≡ refusal 12
unfolding command_of word_alone word_and_one word_and_three key_of number_of digit_of within
no_digits = refl

-- a tab after the word: 'join\t'
pub tab_after : command_of (106 ∷ 111 ∷ 105 ∷ 110 ∷ 9 ∷ []) ≡ refusal 12
unfolding command_of word_alone word_and_one word_and_three key_of number_of digit_of within
tab_after = refl

-- an empty line: ''
pub empty : command_of [] ≡ refusal 12
unfolding command_of word_alone word_and_one word_and_three key_of number_of digit_of within
empty = refl

-- a capital letter: 'Join'
pub capital : command_of (74 ∷ 111 ∷ 105 ∷ 110 ∷ []) ≡ refusal 12
unfolding command_of word_alone word_and_one word_and_three key_of number_of digit_of within
capital = refl

-- 81 blanks; no word is opened, so that the length alone decides
pub eighty_one : command_of (replicate 81 32) ≡ refusal 12
unfolding command_of
eighty_one = refl
