-- THE LAW of a call's text: the line program takes it for that call.
-- Assumes nothing.
use mathlib.Core.Path.{◌≡◌, refl, ap, ◌∙◌}
use mathlib.Core.List.{List, [], ◌∷◌, ◌++◌, append_assoc}
use Prim.Native.Nat.{ℕ, ◌^◌, ◌<◌, ◌≤◌}
use native.Mathlib.Omega.{arith}
use borrow.Author.Tests.{le-leb}
use lib.ListN.{length, length-append}
use Rattle.answers.specs.Answers.{result}
use Rattle.fields.specs.Lines.{fields}
use Rattle.fields.specs.Printing.{decimal_of, tabbed, key_text}
use Rattle.fields.proofs.DecimalLaws.{length_decimal}
use Rattle.fields.proofs.ReadBackLaws.{number_again}
use Rattle.fields.proofs.KeyLaws.{key_again, length_key}
use Rattle.fields.proofs.TabLaws.{field_then, field_last, decimal_bare, key_bare}
use Rattle.lines.specs.declared.commands.Command.{Command}
use Rattle.lines.specs.declared.commands.Command.TheVariants.{Open, Admit, Join, Withdraw, Plan}
use Rattle.lines.specs.Commands.{open_word, withdraw_word, word_alone, word_and_one, word_and_three, by_fields, command_of, parse_call}
use Rattle.lines.specs.CallTexts.{call_text, InRange}

-- a line that is not too long asks for what its fields do
by_line : (line : List ℕ) (fs : List (List ℕ)) → length line ≤ 80 → fields line ≡ fs → command_of line ≡ by_fields fs
unfolding command_of
by_line line fs h e = rw (le-leb (length line) 80 h) (ap by_fields e)

withdraw_again : (slot : ℕ) → slot < 2 ^ 32 → command_of (call_text (Withdraw slot)) ≡ result (Withdraw slot)
unfolding call_text tabbed word_and_one
withdraw_again slot h =
    let d = decimal_of slot in
    let n : length (withdraw_word ++ 9 ∷ d) ≤ 80 = omega (arith, length-append withdraw_word (9 ∷ d), length_decimal slot) in
    let e : fields (withdraw_word ++ 9 ∷ d) ≡ withdraw_word ∷ d ∷ [] = ap (λ (fs : List (List ℕ)). withdraw_word ∷ fs) (field_last d (decimal_bare slot)) in
    by_line (withdraw_word ++ 9 ∷ d) (withdraw_word ∷ d ∷ []) n e ∙ rw (number_again slot h)

open_again : (key k n : ℕ) → key < 2 ^ 64 → k < 2 ^ 32 → n < 2 ^ 32 → command_of (call_text (Open key k n)) ≡ result (Open key k n)
unfolding call_text tabbed word_and_three
open_again key k n hkey hk hn =
    let x = key_text key in
    let y = decimal_of k in
    let z = decimal_of n in
    let rest : (x ++ 9 ∷ y) ++ 9 ∷ z ≡ x ++ 9 ∷ (y ++ 9 ∷ z) = append_assoc x (9 ∷ y) (9 ∷ z) in
    let parts : fields ((x ++ 9 ∷ y) ++ 9 ∷ z) ≡ x ∷ y ∷ z ∷ [] =
    ap fields rest
    ∙ field_then x (y ++ 9 ∷ z) (key_bare key)
    ∙ ap (λ (fs : List (List ℕ)). x ∷ fs) (field_then y z (decimal_bare k) ∙ ap (λ (fs : List (List ℕ)). y ∷ fs) (field_last z (decimal_bare n))) in
    let long : length ((x ++ 9 ∷ y) ++ 9 ∷ z) ≤ 38 = omega (arith, length-append (x ++ 9 ∷ y) (9 ∷ z), length-append x (9 ∷ y), length_key key, length_decimal k, length_decimal n) in
    let line = open_word ++ 9 ∷ ((x ++ 9 ∷ y) ++ 9 ∷ z) in
    let e : fields line ≡ open_word ∷ x ∷ y ∷ z ∷ [] = ap (λ (fs : List (List ℕ)). open_word ∷ fs) parts in
    by_line line (open_word ∷ x ∷ y ∷ z ∷ []) (omega (arith, long)) e
    ∙ rw (key_again key hkey, number_again k hk, number_again n hn)

pub call_again : (c : Command) → InRange c → parse_call (call_text c) ≡ result c
unfolding parse_call call_text command_of word_alone
call_again (Open key k n) h = open_again key k n h.0 h.1 h.2
call_again Admit h = refl
call_again Join h = refl
call_again (Withdraw slot) h = withdraw_again slot h
call_again Plan h = refl
