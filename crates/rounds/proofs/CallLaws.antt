-- Calls as numbers: what reading one tells, and the test of a list of numbers.
-- Assumes nothing.
use mathlib.Core.Path.{◌≡◌, refl, sym, ap, ◌∙◌}
use mathlib.Core.Bool.{Bool, ◌&&◌, true, true≢false}
use mathlib.Core.List.{List, [], ◌∷◌}
use Prim.Native.Nat.{ℕ, ◌+◌, ◌/◌, ◌%◌, ◌^◌, ◌<◌}
use native.Mathlib.Omega.{arith}
use borrow.Author.Tests.{ne_eqb}
use lib.ListN.{length, get_or}
use Rattle.std.proofs.Math.Seq.{take-length}
use Rattle.std.specs.List.{list_all}
use Rattle.std.specs.Prelude.{Result, Ok, Err, is_ok}
use Rattle.answers.specs.declared.Refusal.{Refusal}
use Rattle.lists.specs.Lists.{every}
use Rattle.lists.proofs.Ranges.{every_place}
use Rattle.rounds.specs.declared.calls.Call as numbered
use Rattle.rounds.specs.Ledgers.{Call, admit, join, withdraw}
use Rattle.rounds.specs.Calls.{known, call_of, number_of, as_call, Reads}

-- ---- a number as a call: read, or not known

pub read_call : (x : ℕ) (c : numbered.Call) (r : Result numbered.Call Refusal) → Reads x r → r ≡ Ok c → as_call c ≡ call_of x
read_call x c r p e = (rw e at p).1

pub reads_is : (x : ℕ) (r : Result numbered.Call Refusal) → Reads x r → is_ok r ≡ known x
reads_is x (Ok c) p = sym p.0
reads_is x (Err w) p = sym p.0

pub reads_ok : (x : ℕ) (r : Result numbered.Call Refusal) → Reads x r → known x ≡ true → is_ok r ≡ true
reads_ok x (Ok c) p y = refl
reads_ok x (Err w) p y = absurd (true≢false (sym y ∙ p.0))

-- ---- the number of a call is read back as that call

pub number_again : (c : Call) → ((s : ℕ) → c ≡ withdraw s → s < 2 ^ 32) → (known (number_of c) ≡ true) × (call_of (number_of c) ≡ c)
unfolding known call_of
number_again admit small = (refl, refl)
number_again join small = (refl, refl)
number_again (withdraw s) small =
    let h = small s refl in
    let e = ne_eqb (2 ^ 32 + s) 0 (λ z. omega (arith, z)) in
    let f = ne_eqb (2 ^ 32 + s) 1 (λ z. omega (arith, z)) in
    let q : (2 ^ 32 + s) / 2 ^ 32 ≡ 1 = omega (arith, h) in
    let r : (2 ^ 32 + s) % 2 ^ 32 ≡ s = omega (arith, h) in
    (rw (e, f, q) refl, rw (e, f, r) refl)

-- ---- a list of numbers

-- the library's `all` is `every`
pub known_all : (codes : List ℕ) → list_all known codes ≡ every known codes
unfolding every
known_all [] = refl
known_all (x ∷ codes) = ap (λ (b : Bool). known x && b) (known_all codes)

pub known_at : (codes : List ℕ) (i : ℕ) → every known codes ≡ true → i < length codes → known (get_or codes i 0) ≡ true
known_at codes i e h = every_place known codes (length codes) i (rw (take-length codes) e) h h
