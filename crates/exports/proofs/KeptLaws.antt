-- What stands in a record's words after a call, by what that answered, for any record.
-- Assumes nothing.
use Rattle.std.proofs.Common.{◌≡◌, cond, List, ℕ, Option, Some, None, Result, Ok, Err, is_ok, refl}
use Rattle.lists.specs.Lists.{written}
use Rattle.answers.specs.Answers.{Answer, refusal, result}
use Rattle.answers.specs.declared.Refusal.{Refusal}
use Rattle.answers.specs.Refusals.{answer_of, answer_of_option}
use Rattle.orders.specs.declared.consistent_reservoir.Exchange.{Exchange}
use Rattle.orders.specs.ReservoirCalls.{answer_of_exchange}
use Rattle.exports.specs.Crossings.{words_by}
use Rattle.exports.specs.InnerRecords.{made_over}

module _ (ws rs : List ℕ) where
  pub kept : {A : Type 0} (said : Result A Refusal) → cond (is_ok said) (written rs ws) ws ≡ words_by (λ x. rs) ws (answer_of said)
  kept (Ok x) = refl
  kept (Err why) = refl

  pub kept_option : (said : Result (Option ℕ) Refusal) → cond (is_ok said) (written rs ws) ws ≡ words_by (λ x. rs) ws (answer_of_option said)
  kept_option (Ok x) = refl
  kept_option (Err why) = refl

  pub kept_exchange : (said : Result (Option Exchange) Refusal) → cond (is_ok said) (written rs ws) ws ≡ words_by (λ x. rs) ws (answer_of_exchange said)
  kept_exchange (Ok (Some e)) = refl
  kept_exchange (Ok None) = refl
  kept_exchange (Err why) = refl

-- a record that was made
pub kept_made : {R : Type 0} (f : R → List ℕ) (ws : List ℕ) (t : Answer R) → made_over (λ w r. written (f r) w) ws t ≡ words_by f ws t
kept_made f ws (result r) = refl
kept_made f ws (refusal c) = refl
