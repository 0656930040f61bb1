-- Document 02, §4: falling and rising agree.
-- Assumes nothing.
use mathlib.Core.Path.{◌≡◌, refl, sym, ap, ◌∙◌}
use mathlib.Core.Bool.{Bool, true}
use mathlib.Core.Option.{Option, none, some}
use Prim.Native.Nat.{ℕ, ◌+◌, ◌^◌, ◌≤◌}
use native.Mathlib.Omega.{arith}
use native.Mathlib.Numerals.{add-one}
use Rattle.std.specs.Prelude.{◌↔◌}
use Rattle.answers.specs.Answers.{Answer, result}
use Rattle.lists.specs.Lists.{not_below}
use Rattle.lists.proofs.Extremes.{by_min, picked_within}
use Rattle.answers.proofs.AnswerLaws.{said_same}
use Rattle.hashes.specs.declared.ConsistentHashIterator.{ConsistentHashIterator}
use Rattle.hashes.specs.Hashes.{hashes, is_hash, prev}
use Rattle.hashes.specs.Next.{smallest_from}
use Rattle.hashes.specs.Calls.{prev_number}
use Rattle.hashes.specs.Walks.{rising_from, go_on_above, rise}
use Rattle.hashes.specs.Agreement.{begins, AgreementHolds}
use Rattle.hashes.proofs.PrevLaws.{prev_is}
use Rattle.hashes.proofs.LargestLaws.{occurrences_hash, prev_is_hash, prev_suc_yes}
use Rattle.hashes.proofs.CallLaws.{limited_in}
use Rattle.hashes.proofs.WalkLaws.{smallest_here}

-- an answer that gives n exactly if a test passes
exactly : {test : Bool} {n : ℕ} (t : Answer (Option ℕ)) (o : Option ℕ) → t ≡ result o → (test ≡ true → o ≡ some n) → (o ≡ some n → test ≡ true)
    → (test ≡ true) ↔ (t ≡ result (some n))
exactly t o e there back = (λ y. e ∙ ap result (there y), λ g. back (said_same _ _ (sym e ∙ g)))

smallest_back : (s n : ℕ) → smallest_from s n ≡ some n → is_hash s n ≡ true
unfolding smallest_from
smallest_back s n e = occurrences_hash s n (picked_within by_min (not_below n) (hashes s) n e)

prev_there : (s n : ℕ) → is_hash s n ≡ true → prev s (n + 1) ≡ some n
prev_there s n e = rw (add-one n) (prev_suc_yes s n e)

prev_back : (s n : ℕ) → prev s (n + 1) ≡ some n → is_hash s n ≡ true
prev_back s n e =
    let f : prev s (n + 1) ≡ some (prev_number s (n + 1)) = prev_is s (n + 1) (omega arith) in
    let same : prev_number s (n + 1) ≡ n = cc in
    rw same at (prev_is_hash s (n + 1) (omega arith))

-- what a step of the rising walk says is what it found
said_found : (w : ConsistentHashIterator) (o : Option ℕ) → (go_on_above w o).answer ≡ result o
said_found w none = refl
said_found w (some x) = refl

begins_is : (s n : ℕ) → n ≤ 2 ^ 62 → begins (rising_from n s) ≡ result (smallest_from s n)
unfolding rise
begins_is s n h = ap begins (limited_in n _ h) ∙ said_found (record { state = s; low = n }) (smallest_from s n)

pub agree : AgreementHolds
agree s n h = record {
  walk = exactly _ _ (begins_is s n (omega arith)) (smallest_here s n) (smallest_back s n);
  next = exactly _ _ (limited_in n _ (omega arith)) (smallest_here s n) (smallest_back s n);
  prev = exactly _ _ (limited_in (n + 1) _ (omega arith)) (prev_there s n) (prev_back s n);
}
