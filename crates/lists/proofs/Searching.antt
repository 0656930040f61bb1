-- The first number from n up that passes a test.
-- Assumes nothing.
use mathlib.Core.Path.{◌≡◌, refl, sym, ap, ◌∙◌}
use mathlib.Core.Bool.{Bool, true, false}
use mathlib.Core.Option.{none, some}
use Prim.Native.Nat.{ℕ, zero, suc, ◌+◌, ◌≤◌, ◌<◌}
use native.Mathlib.Omega.{arith}
use Rattle.lists.specs.Lists.{first_from}
use Rattle.lists.proofs.Tests.{by_test, by_same}

pub first_some : (t : ℕ → Bool) (v n c : ℕ) → n ≤ v → v < n + c → t v ≡ true → ((u : ℕ) → n ≤ u → u < v → t u ≡ false) → first_from t n c ≡ some v
first_some t v n zero a b y f = absurd (omega arith)
first_some t v n (suc c) a b y f =
    by_same n v
    (λ e. rw (ap t e ∙ y, e) refl)
    (λ d. rw (f n (omega arith) (omega arith)) (first_some t v (suc n) c (omega arith) (omega arith) y (λ u g h. f u (omega arith) h)))

pub first_none : (t : ℕ → Bool) (n c : ℕ) → ((u : ℕ) → n ≤ u → u < n + c → t u ≡ false) → first_from t n c ≡ none
first_none t n zero f = refl
first_none t n (suc c) f = rw (f n (omega arith) (omega arith)) (first_none t (suc n) c (λ u g h. f u (omega arith) (omega arith)))

-- by cases: the first that passes, or none does
pub by_first : {C : Type 0} (t : ℕ → Bool) (a c : ℕ)
    → ((i : ℕ) → first_from t a c ≡ some i → a ≤ i → i < a + c → t i ≡ true → ((u : ℕ) → a ≤ u → u < i → t u ≡ false) → C)
    → (first_from t a c ≡ none → ((u : ℕ) → a ≤ u → u < a + c → t u ≡ false) → C) → C
by_first t a zero f g = g refl (λ u l h. absurd (omega arith))
by_first t a (suc c) f g =
    by_test (t a)
    (λ y. f a (rw y refl) (omega arith) (omega arith) y (λ u l h. absurd (omega arith)))
    (λ m. by_first t (suc a) c
    (λ i e l h y b. f i (rw m e) (omega arith) (omega arith) y (λ u l' h'. by_same u a (λ d. ap t d ∙ m) (λ d. b u (omega arith) h')))
    (λ e b. g (rw m e) (λ u l h. by_same u a (λ d. ap t d ∙ m) (λ d. b u (omega arith) (omega arith)))))

-- what was found
pub first_is : (t : ℕ → Bool) (a c i : ℕ) → first_from t a c ≡ some i → (a ≤ i) × (i < a + c) × (t i ≡ true)
first_is t a zero i e = absurd (let z : ◌≡◌ {A = ℕ} 0 1 = cc in omega arith)
first_is t a (suc c) i e =
    by_test (t a)
    (λ y. let e' : some a ≡ some i = rw y at e in
    let d : a ≡ i = cc in
    (omega arith, omega arith, ap t (sym d) ∙ y))
    (λ m. let g = first_is t (suc a) c i (rw m at e) in
    (omega (arith, g.0), omega (arith, g.1), g.2))

pub first_same : (t u : ℕ → Bool) (n c : ℕ) → ((v : ℕ) → n ≤ v → v < n + c → t v ≡ u v) → first_from t n c ≡ first_from u n c
first_same t u n zero h = refl
first_same t u n (suc c) h = rw (h n (omega arith) (omega arith), first_same t u (suc n) c (λ v a b. h v (omega arith) (omega arith)))
