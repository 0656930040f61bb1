-- The one pass over the listed numbers: what is left gives the whole.
-- Assumes nothing.
use mathlib.Core.Path.{◌≡◌, refl, sym, ap, ◌∙◌}
use mathlib.Core.Bool.{Bool, true, false, cond}
use mathlib.Core.List.{List, ◌∷◌}
use Prim.Native.Nat.{ℕ, ◌+◌, ◌-◌, ◌%◌, ◌^◌, ◌<◌, ◌≤◌, min}
use native.Mathlib.Numerals.{add-one}
use native.Mathlib.Nat.{add-zero}
use native.Mathlib.Omega.{arith}
use lib.Bits.{bit_or}
use lib.ListN.{length, drop, get_or, drop_of_length-le}
use lib.Seq.{drop-cons}
use Rattle.lists.specs.Lists.{not_below}
use Rattle.lists.proofs.Tests.{not_below_yes, not_below_no, by_test, by_below}
use Rattle.orders.specs.declared.checks.Survey.{Survey}
use Rattle.orders.specs.Reservoirs.{counts}
use Rattle.orders.specs.InnerPasses.{surveyed, survey_of}
use Rattle.orders.proofs.ScanLaws.{smallest_in}

survey_eq : {a b c d e f : ℕ} → a ≡ b → c ≡ d → e ≡ f → ◌≡◌ {A = Survey} (record { count = a; low = c; high = e }) (record { count = b; low = d; high = f })
survey_eq p q r = λ t. record { count = p t; low = q t; high = r t }

-- for any two tests
module _ (p q : ℕ → Bool) where
  survey_step : (c low high x : ℕ) (xs : List ℕ)
      → surveyed p q c low high (x ∷ xs) ≡ surveyed p q (cond (p x) (c + 1) c) (cond (q x) (min x low) low) (bit_or high x) xs
  survey_step c low high x xs =
      by_test (p x)
      (λ h. rw h (survey_eq (omega arith) (smallest_in q x low xs) refl))
      (λ h. rw h (survey_eq refl (smallest_in q x low xs) refl))

  pub survey_turn : (list : List ℕ) (i c low high c' low' high' : ℕ) {s : Survey} → i < length list
      → c' ≡ cond (p (get_or list i 0)) (c + 1) c → low' ≡ cond (q (get_or list i 0)) (min (get_or list i 0) low) low → high' ≡ bit_or high (get_or list i 0)
      → surveyed p q c low high (drop i list) ≡ s → surveyed p q c' low' high' (drop (i + 1) list) ≡ s
  survey_turn list i c low high c' low' high' h e f g inv =
      let d : drop i list ≡ get_or list i 0 ∷ drop (i + 1) list = rw (add-one, drop-cons list i 0 h) in
      rw (e, f, g) (sym (survey_step c low high (get_or list i 0) (drop (i + 1) list)) ∙ ap (surveyed p q c low high) (sym d) ∙ inv)

  pub survey_done : (list : List ℕ) (i c low high : ℕ) {s : Survey} → length list ≤ i
      → surveyed p q c low high (drop i list) ≡ s → record { count = c; low = low; high = high } ≡ s
  survey_done list i c low high h inv =
      survey_eq (sym (add-zero c)) refl refl ∙ ap (surveyed p q c low high) (sym (drop_of_length-le list h)) ∙ inv

survey_start : (n : ℕ) (xs : List ℕ) → surveyed (counts n) (not_below n) 0 (4 ^ 15) 0 (drop 0 xs) ≡ survey_of n xs
unfolding survey_of
survey_start n xs = refl

-- the minimum of what is not below n, less n
pub closer_is : (x n near d r : ℕ) → x < 4294967296 → near + n ≤ 4 ^ 15 → d ≡ (x + (4294967296 - n)) % 4294967296 → r ≡ min near d → r + n ≡ cond (not_below n x) (min x (near + n)) (near + n)
closer_is x n near d r h g e f =
    by_below x n (λ l. rw (not_below_no x n l) (omega arith)) (λ l. rw (not_below_yes x n l) (omega arith))

pub closer_le : (x n near r : ℕ) → near + n ≤ 4 ^ 15 → r + n ≡ cond (not_below n x) (min x (near + n)) (near + n) → r + n ≤ 4 ^ 15
closer_le x n near r g e = rw e (step (not_below n x))
  where
    step : (b : Bool) → cond b (min x (near + n)) (near + n) ≤ 4 ^ 15
    step true = omega arith
    step false = g

pub survey_near : (n : ℕ) (xs : List ℕ) → n ≤ 4 ^ 15 → surveyed (counts n) (not_below n) 0 (4 ^ 15 - n + n) 0 (drop 0 xs) ≡ survey_of n xs
survey_near n xs h = let e : 4 ^ 15 - n + n ≡ 4 ^ 15 = omega arith in rw e (survey_start n xs)
