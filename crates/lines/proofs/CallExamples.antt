-- What calls are printed as, computed on the definitions. In the comments a blank stands for a tab.
-- Assumes nothing.
use mathlib.Core.Path.{◌≡◌, refl}
use mathlib.Core.List.{[], ◌∷◌}
use Rattle.fields.specs.Printing.{decimal_of, tabbed, capital_digit, key_text}
use Rattle.lines.specs.CallTexts.{call_text, call_line}
use Rattle.lines.specs.declared.commands.Command.TheVariants.{Open, Admit, Join, Withdraw, Plan}

--     open 0000000000000001 1 1
open_call : call_text (Open 1 1 1) ≡ 111 ∷ 112 ∷ 101 ∷ 110 ∷ 9 ∷ 48 ∷ 48 ∷ 48 ∷ 48 ∷ 48 ∷ 48 ∷ 48 ∷ 48 ∷ 48 ∷ 48 ∷ 48 ∷ 48 ∷ 48 ∷ 48 ∷ 48 ∷ 49 ∷ 9 ∷ 49 ∷ 9 ∷ 49 ∷ []
unfolding call_text tabbed decimal_of key_text capital_digit
open_call = refl

--     open DEADBEEFCAFEF00D 20 4294967295
capitals : call_text (Open 0xDEAD_BEEF_CAFE_F00D 20 4294967295) ≡ 111 ∷ 112 ∷ 101 ∷ 110 ∷ 9 ∷ 68 ∷ 69 ∷ 65 ∷ 68 ∷ 66 ∷ 69 ∷ 69 ∷ 70 ∷ 67 ∷ 65 ∷ 70 ∷ 69 ∷ 70 ∷ 48 ∷ 48 ∷ 68 ∷ 9 ∷ 50 ∷ 48 ∷ 9 ∷ 52 ∷ 50 ∷ 57 ∷ 52 ∷ 57 ∷ 54 ∷ 55 ∷ 50 ∷ 57 ∷ 53 ∷ []
unfolding call_text tabbed decimal_of key_text capital_digit
capitals = refl

--     admit
admit_call : call_text Admit ≡ 97 ∷ 100 ∷ 109 ∷ 105 ∷ 116 ∷ []
unfolding call_text tabbed decimal_of key_text capital_digit
admit_call = refl

--     join
join_call : call_text Join ≡ 106 ∷ 111 ∷ 105 ∷ 110 ∷ []
unfolding call_text tabbed decimal_of key_text capital_digit
join_call = refl

--     withdraw 0
withdraw_call : call_text (Withdraw 0) ≡ 119 ∷ 105 ∷ 116 ∷ 104 ∷ 100 ∷ 114 ∷ 97 ∷ 119 ∷ 9 ∷ 48 ∷ []
unfolding call_text tabbed decimal_of key_text capital_digit
withdraw_call = refl

--     plan
plan_call : call_text Plan ≡ 112 ∷ 108 ∷ 97 ∷ 110 ∷ []
unfolding call_text tabbed decimal_of key_text capital_digit
plan_call = refl

--     withdraw 12, and the line's end
withdraw_line : call_line (Withdraw 12) ≡ 119 ∷ 105 ∷ 116 ∷ 104 ∷ 100 ∷ 114 ∷ 97 ∷ 119 ∷ 9 ∷ 49 ∷ 50 ∷ 10 ∷ []
unfolding call_line call_text tabbed decimal_of
withdraw_line = refl
