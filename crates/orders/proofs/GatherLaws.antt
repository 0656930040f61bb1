-- The sample written to another list, from the front: a turn of a pass over the listed numbers, the last of which is of the sample.
-- Assumes nothing.
use mathlib.Core.Path.{◌≡◌, refl, ap, sym, ◌∙◌}
use mathlib.Core.Bool.{Bool, true, false, cond}
use mathlib.Core.List.{List, [], ◌∷◌, ◌++◌, append-nil}
use Prim.Native.Nat.{ℕ, zero, suc, ◌+◌, ◌-◌, ◌<◌, ◌≤◌}
use native.Mathlib.Numerals.{add-one}
use native.Mathlib.Omega.{arith}
use lib.ListN.{length, take, drop, get_or, set, length-append}
use lib.Seq.{set_at, append_snoc, take-take, take_all}
use Rattle.std.proofs.lemmas.List.{take_more}
use Rattle.lists.specs.Lists.{put, keep, written, last}
use Rattle.lists.proofs.Tests.{by_test}
use Rattle.lists.proofs.Ascending.{length_snoc}
use Rattle.lists.proofs.Members.{keep_append}
use Rattle.lists.proofs.Prefixes.{keep_take_le}
use Rattle.lists.proofs.Writing.{written_more, length_written}
use Rattle.orders.specs.Reservoirs.{counts}
use Rattle.orders.proofs.CountsLaws.{counts_yes}

-- what the first i numbers have of the sample
abbrev pub gathered : (ℕ → Bool) → List ℕ → ℕ → List ℕ
gathered p list i = keep p (take i list)

-- the other list when the i-th number comes: the one before it is written in any case
abbrev pub led : (ℕ → Bool) → List ℕ → List ℕ → ℕ → List ℕ
led p list old zero = old
led p list old (suc i) = written (gathered p list i ++ (get_or list i 0 ∷ [])) old

-- the number behind those that stay is written over
again : (xs old : List ℕ) (t x y : ℕ) → t ≡ length xs → set (written (xs ++ (y ∷ [])) old) t x ≡ written (xs ++ (x ∷ [])) old
unfolding written
again xs old t x y e =
    rw (length_snoc xs y, length_snoc xs x, append_snoc xs y (drop (suc (length xs)) old), append_snoc xs x (drop (suc (length xs)) old))
    (set_at xs y (drop (suc (length xs)) old) x t (sym e))

module _ (p : ℕ → Bool) (list old : List ℕ) where
  more : (i : ℕ) → i < length list → gathered p list (i + 1) ≡ gathered p list i ++ keep p (get_or list i 0 ∷ [])
  more i lt = ap (keep p) (take_more list i 0 lt) ∙ keep_append p (take i list) (get_or list i 0 ∷ [])

  pub gather_yes : (i : ℕ) → i < length list → p (get_or list i 0) ≡ true → gathered p list (i + 1) ≡ gathered p list i ++ (get_or list i 0 ∷ [])
  gather_yes i lt y = more i lt ∙ ap (λ (b : Bool). gathered p list i ++ put b (get_or list i 0) []) y

  pub gather_no : (i : ℕ) → i < length list → p (get_or list i 0) ≡ false → gathered p list (i + 1) ≡ gathered p list i
  gather_no i lt n = more i lt ∙ ap (λ (b : Bool). gathered p list i ++ put b (get_or list i 0) []) n ∙ append-nil _

  pub gather_count : (i : ℕ) → i < length list
      → length (gathered p list (i + 1)) ≡ cond (p (get_or list i 0)) (length (gathered p list i) + 1) (length (gathered p list i))
  gather_count i lt =
      by_test (p (get_or list i 0))
      (λ y. rw y (ap length (gather_yes i lt y) ∙ length-append (gathered p list i) (get_or list i 0 ∷ [])))
      (λ n. rw n (ap length (gather_no i lt n)))

  -- there is room for a number of the sample,
  pub gather_room : length (keep p list) ≤ length old → (i : ℕ) → i < length list → p (get_or list i 0) ≡ true → length (gathered p list i) < length old
  gather_room room i lt y =
      let on : length (gathered p list (i + 1)) ≡ length (gathered p list i) + 1 = ap length (gather_yes i lt y) ∙ length-append (gathered p list i) (get_or list i 0 ∷ []) in
      omega (arith, on, keep_take_le p (i + 1) list)

  -- and for every other, where the last is of the sample
  module _ (room : length (keep p list) ≤ length old) (ends : p (get_or list (length list - 1) 0) ≡ true) where
    pub led_room : (i : ℕ) → i < length list → length (gathered p list i) < length old
    led_room i lt =
        let m = length list - 1 in
        let same : take i (take m list) ≡ take i list = take-take i m list (omega arith) in
        let before : length (gathered p list i) ≤ length (gathered p list m) = rw same at (keep_take_le p i (take m list)) in
        omega (arith, before, gather_room room m (omega arith) ends)

    pub led_length : (i : ℕ) → i ≤ length list → length (led p list old i) ≡ length old
    led_length zero h = refl
    led_length (suc j) h = length_written (gathered p list j ++ (get_or list j 0 ∷ [])) old (omega (arith, led_room j (omega arith), length_snoc (gathered p list j) (get_or list j 0)))

    step : (i t : ℕ) → i < length list → t ≡ length (gathered p list i) → set (led p list old i) t (get_or list i 0) ≡ led p list old (suc i)
    unfolding written
    step zero t lt e = written_more [] old t (get_or list zero 0) e (omega (arith, e, led_room zero lt))
    step (suc j) t lt e =
        let x = get_or list (suc j) 0 in
        let y = get_or list j 0 in
        by_test (p y)
        (λ is. let on : gathered p list (suc j) ≡ gathered p list j ++ (y ∷ []) = rw (add-one j) at (gather_yes j (omega arith) is) in
        ap (λ (r : List ℕ). set (written r old) t x) (sym on) ∙ written_more (gathered p list (suc j)) old t x e (omega (arith, e, led_room (suc j) lt)))
        (λ no. let on : gathered p list (suc j) ≡ gathered p list j = rw (add-one j) at (gather_no j (omega arith) no) in
        again (gathered p list j) old t x y (e ∙ ap length on) ∙ ap (λ (r : List ℕ). written (r ++ (x ∷ [])) old) (sym on))

    pub led_turn : (i t : ℕ) → i < length list → t ≡ length (gathered p list i) → set (led p list old i) t (get_or list i 0) ≡ led p list old (i + 1)
    led_turn i t lt e = step i t lt e ∙ ap (led p list old) (sym (add-one i))

    pub led_end : (i : ℕ) → i ≡ length list → led p list old i ≡ written (keep p list) old
    unfolding written
    led_end zero e = ap (λ (l : List ℕ). written (keep p l) old) (take_all zero list (omega arith))
    led_end (suc j) e =
        let all : take (suc j) list ≡ list = take_all (suc j) list (omega arith) in
        let same : get_or list j 0 ≡ get_or list (length list - 1) 0 = ap (λ (k : ℕ). get_or list k 0) (omega arith) in
        let on : gathered p list (suc j) ≡ gathered p list j ++ (get_or list j 0 ∷ []) = rw (add-one j) at (gather_yes j (omega arith) (ap p same ∙ ends)) in
        ap (λ (r : List ℕ). written r old) (sym on ∙ ap (keep p) all)

-- "the last below n"
pub led_ends : (n : ℕ) (list : List ℕ) → last list < n → counts n (get_or list (length list - 1) 0) ≡ true
unfolding last
led_ends n list h = counts_yes _ n h
