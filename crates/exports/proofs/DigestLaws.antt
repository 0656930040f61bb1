-- A turn of the loop that feeds a whole walk to one state, for any walk.
-- Assumes nothing.
use mathlib.Core.Path.{◌≡◌, refl, sym, ap}
use mathlib.Core.Option.{none, some}
use mathlib.Core.List.{List, [], ◌∷◌}
use Prim.Native.Nat.{ℕ, ◌+◌, ◌%◌, ◌^◌, ◌<◌}
use native.Mathlib.Omega.{arith}
use lib.ListN.{length}
use Rattle.std.specs.Prelude.{true, Result, Ok, Err, is_ok}
use Rattle.std.specs.Prelude as rust
use Rattle.answers.specs.declared.Refusal.{Refusal}
use Rattle.answers.specs.Refusals.{answer_of_option}
use Rattle.answers.specs.Answers.{result, refusal, after}
use Rattle.hashes.specs.Hashes.{feed}
use Rattle.hashes.specs.Calls.{limited}
use Rattle.answers.specs.Steps.{Step}
use Rattle.answers.proofs.Turns.{Turn, ended, gave}
use Rattle.hashes.proofs.CallLaws.{limited_in, limited_out, limited_says, limited_refuses}
use Rattle.exports.specs.Coded.{fed_all, digest, coded_number}

module _ {W : Type 0} {step : W → Step W} {rest : W → List ℕ} {good : W → Type 0} (turn : (w : W) → good w → Turn step rest good w) where
  -- a call on w gave x and left v: x is fed, and v is to give the rest
  pub record Fed (d x : ℕ) (v w : W) : Type 0 where
    pub goes_on : good v
    pub same : fed_all (feed d x) (rest v) ≡ fed_all d (rest w)
    pub less : length (rest v) < length (rest w)

  pub fed : (d x : ℕ) (v w : W) → good w → after (result (some x)) v ≡ step w → Fed d x v w
  fed d x v w g p = go (turn w g)
    where
      go : Turn step rest good w → Fed d x v w
      go (ended said stays nothing empty) = let f = ap (λ (t : Step W). t.answer) p in let z : ◌≡◌ {A = ℕ} 0 1 = cc in absurd (omega arith)
      go (gave y said more splits) =
          let f = ap (λ (t : Step W). t.answer) p in
          let q : y ≡ x = cc in
          let v' : (step w).left ≡ v = ap (λ (t : Step W). t.left) (sym p) in
          let s : rest w ≡ x ∷ rest v = rw (q, v') at splits in
          record { goes_on = rw v' at more; same = ap (fed_all d) (sym s); less = rw s (omega arith) }

  -- it gave none: nothing was left
  pub fed_all_of : (v w : W) → good w → after (result none) v ≡ step w → rest w ≡ []
  fed_all_of v w g p = go (turn w g)
    where
      go : Turn step rest good w → rest w ≡ []
      go (ended is stays nothing empty) = empty
      go (gave y is more splits) = let f = ap (λ (t : Step W). t.answer) p in let z : ◌≡◌ {A = ℕ} 0 1 = cc in absurd (omega arith)

  -- it is not refused
  pub fed_ok : (said : Result (rust.Option ℕ) Refusal) (v w : W) → good w → after (answer_of_option said) v ≡ step w → is_ok said ≡ true
  fed_ok (Ok x) v w g p = refl
  fed_ok (Err why) v w g p = go (turn w g)
    where
      go : {A : Type 0} → Turn step rest good w → A
      go (ended is stays nothing empty) = let f = ap (λ (t : Step W). t.answer) p in let z : ◌≡◌ {A = ℕ} 0 1 = cc in absurd (omega arith)
      go (gave y is more splits) = let f = ap (λ (t : Step W). t.answer) p in let z : ◌≡◌ {A = ℕ} 0 1 = cc in absurd (omega arith)

-- ---- the answer of a call that makes a walk and feeds it, over any walk: xs n is what it gives

module _ {W : Type 0} (n : ℕ) (start : W) (rest : W → List ℕ) where
  pub digest_made : (w : W) (r : ℕ) → limited n start ≡ result w → r ≡ fed_all 0 (rest w) → r % 2 ^ 63 ≡ coded_number (limited n (digest (rest start)))
  unfolding digest
  digest_made w r e q =
      let s = limited_says n start w e in
      rw (limited_in n (fed_all 0 (rest start) % 2 ^ 63) s.0, q, s.1)

  pub digest_refused : (c : ℕ) → limited n start ≡ refusal c → 2 ^ 63 + c ≡ coded_number (limited n (digest (rest start)))
  digest_refused c e =
      let s = limited_refuses n c start e in
      rw (limited_out n (digest (rest start)) s.0, s.1)
