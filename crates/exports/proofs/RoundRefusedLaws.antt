-- Demand 1 of each call on a round as it crosses to C and Rust, on any words, list and table: a refusal is one of its own, and leaves all
-- that was lent as it was. Plan and replay, which are lent a scratch, are taken by their promise.
-- Assumes nothing.
use mathlib.Core.Path.{◌≡◌, refl, sym, subst}
use mathlib.Core.List.{List}
use Prim.Native.Nat.{ℕ, ◌^◌, ◌≤◌}
use native.Mathlib.Omega.{arith}
use lib.ListN.{length}
use Rattle.answers.specs.Answers.{Answer, refusal, result}
use Rattle.answers.specs.Making.{short_refusal}
use Rattle.orders.proofs.RefusedLaws as orders
use Rattle.rounds.specs.Rounds.{State, fitting, open_call, admit_call, join_call, withdraw_call}
use Rattle.rounds.specs.Plans.{PlanLists, plan_lists, plan_call}
use Rattle.rounds.specs.Replays.{ReplayMemory, replay_memory, replay_call}
use Rattle.rounds.specs.RefusedBy as library
use Rattle.rounds.proofs.RefusedLaws as rounds
use Rattle.exports.specs.Coded.{truth}
use Rattle.exports.specs.Crossings.{Crossed, crossed, words_list}
use Rattle.exports.specs.Reservoirs.{exchange_number}
use Rattle.exports.specs.Slots as Slots
use Rattle.exports.specs.Rounds.{Lent, round_in, round_layout, round_lending, open_crossed, admit_crossed, join_crossed, withdraw_crossed, plan_crossed, fits_crossed, replay_crossed, ReplayScratchAs}
use Rattle.exports.proofs.TooFewLaws.{made_refuses, read_refuses, called_refuses, fits_refuses}
use Rattle.exports.specs.RefusedBy.{Crosses, said_else, said_by, words_refusals, round_admit_refusals, round_join_refusals, round_withdraw_refusals, round_plan_refusals}

pub round_open_refuses : (key k n : ℕ) (ws l : List ℕ) → let t = said_else (short_refusal (2 ^ 30) 1 k n) round_layout.count ws (open_call key k n l).answer in
    let a = open_crossed key k n ws l in Crosses (λ r. 0) library.open_refusals t a.answer (words_list ws l) a.left
unfolding open_crossed
round_open_refuses key k n ws l =
    made_refuses round_layout ws _ words_list l library.open_refusals (open_call key k n l) (orders.short_refuses k n) (rounds.open_refuses key k n l)

module _ (x : Lent) where
  pub round_admit_refuses : let o = said_by round_layout.count x.words (admit_call (round_in x)).answer in
      let a = admit_crossed x in Crosses exchange_number round_admit_refusals o a.answer x a.left
  unfolding admit_crossed
  round_admit_refuses = called_refuses round_lending _ _ x.words (round_in x) admit_call (rounds.admit_refuses (round_in x))

  pub round_join_refuses : let o = said_by round_layout.count x.words (join_call (round_in x)).answer in
      let a = join_crossed x in Crosses (λ slot. slot) round_join_refusals o a.answer x a.left
  unfolding join_crossed
  round_join_refuses = called_refuses round_lending _ _ x.words (round_in x) join_call (rounds.join_refuses (round_in x))

  pub round_withdraw_refuses : (slot : ℕ) → let o = said_by round_layout.count x.words (withdraw_call (round_in x) slot).answer in
      let a = withdraw_crossed slot x in Crosses (λ u. 0) round_withdraw_refusals o a.answer x a.left
  unfolding withdraw_crossed
  round_withdraw_refuses slot = called_refuses round_lending _ _ x.words (round_in x) (λ (s : State). withdraw_call s slot) (rounds.withdraw_refuses (round_in x) slot)

  pub round_fits_refuses : let w = said_by round_layout.count x.words (result (fitting (round_in x))) in
      Crosses {M = Unit {0}} truth words_refusals w (fits_crossed x) tt tt
  unfolding fits_crossed
  round_fits_refuses = fits_refuses round_layout x.words _

-- what is refused leaves the scratch too
with_scratch : {A M : Type 0} (vs : List ℕ) (o : Answer A) (a : ℕ) (m m' : M) (before now : List ℕ)
    → (2 ^ 63 ≤ a → now ≡ before) → Crosses (λ u. 0) vs o a m m'
    → Crosses {M = M × List ℕ} (λ u. 0) vs o a (m, before) (m', now)
with_scratch vs (refusal w) a m m' before now k c = (c.0, (c.1.0, (λ i. (c.1.1 i, k (omega (arith, c.0)) i))))
with_scratch vs (result x) a m m' before now k c = (c.0, tt)

-- by what it promises of its answer and of what it leaves
by_promise : {A M : Type 0} (vs : List ℕ) (o : Answer A) (m m' : M) (a : ℕ) (x : Crossed M) → crossed a m' ≡ x → Crosses (λ u. 0) vs o x.answer m x.left → Crosses (λ u. 0) vs o a m m'
by_promise vs o m m' a x e c = subst (λ (y : Crossed _). Crosses (λ u. 0) vs o y.answer m y.left) (sym e) c

module _ (x : Lent) (ls ts ls' ts' before now : List ℕ) where
  -- as replay by its promise
  pub round_plan_refuses : (a : ℕ) → let o = said_by round_layout.count x.words (plan_call (round_in x) ls ts (length before)).answer in
      crossed a (plan_lists ls' ts') ≡ plan_crossed x ls ts (length before) → Slots.ScratchAfter a before now
      → Crosses {M = PlanLists × List ℕ} (λ u. 0) round_plan_refusals o a (plan_lists ls ts, before) (plan_lists ls' ts', now)
  unfolding plan_crossed
  round_plan_refuses a e k =
      let p = plan_call (round_in x) ls ts (length before) in
      with_scratch _ _ a _ _ before now k
      (by_promise _ _ _ _ a _ e (read_refuses round_layout x.words (λ u. 0) _ (plan_lists ls ts) p (rounds.plan_spares (round_in x) ls ts (length before))))

module _ (key k n : ℕ) (codes l t ws ls ts l' t' ws' ls' ts' before now : List ℕ) where
  pub round_replay_refuses : (a : ℕ) → let o = (replay_call key k n codes l t ws ls ts (length before)).answer in
      crossed a (replay_memory l' t' ws' ls' ts') ≡ replay_crossed key k n codes l t ws ls ts (length before)
      → ReplayScratchAs a (length codes) ws' before now
      → Crosses {M = ReplayMemory × List ℕ} (λ u. 0) library.replay_refusals o a
      (replay_memory l t ws ls ts, before) (replay_memory l' t' ws' ls' ts', now)
  unfolding replay_crossed
  round_replay_refuses a e s =
      with_scratch _ _ a _ _ before now s.0 (by_promise _ _ _ _ a _ e (refl, rounds.replay_spares l t ws ls ts key k n codes (length before)))
