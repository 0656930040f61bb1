-- The answers written one after the other, and what replay leaves by its tests.
-- Assumes nothing.
use mathlib.Core.Path.{◌≡◌, refl, sym, ap, ◌∙◌}
use mathlib.Core.Bool.{true, false}
use mathlib.Core.List.{List, [], ◌∷◌, ◌++◌, map, append_assoc, append-nil}
use Prim.Native.Nat.{ℕ, ◌+◌, ◌*◌, ◌/◌, ◌≤◌, ◌<◌, ◌^◌}
use native.Mathlib.Numerals.{add-one}
use native.Mathlib.Omega.{arith}
use borrow.Author.Tests.{lt-ltb, le-ltb}
use lib.ListN.{length, take, drop, get_or, length-append, length-map, drop_of_length-le}
use lib.Seq.{drop-cons, drop-append-add, drop-drop, take_at, get_or_at, length-take-le}
use Rattle.answers.specs.Answers.{Answer, refusal, result, map_answer, after}
use Rattle.lists.specs.Lists.{every, written}
use Rattle.std.specs.Prelude.{Result, Ok, Err}
use Rattle.answers.specs.declared.Refusal.{Refusal}
use Rattle.answers.specs.Refusals.{number, answer_of}
use Rattle.answers.specs.Making.{short_refusal}
use Rattle.rounds.specs.declared.round.Round.{Round}
use Rattle.rounds.specs.Rounds.{State, state, open_call}
use Rattle.rounds.specs.Plans.{plan_call, ScratchAfter, plan_lists}
use Rattle.rounds.specs.Ledgers.{Call}
use Rattle.rounds.specs.Histories.{nothing_said, call, after_all, all_said}
use Rattle.rounds.specs.Calls.{known, call_of}
use Rattle.rounds.specs.Replays.{coded, coded_all, run_of, replay_call, ScratchRun, replay_memory}
use Rattle.rounds.specs.InnerReplays.{placed_at, Stepped, stepped, step_of}

rest_cons : (codes : List ℕ) (i : ℕ) → i < length codes → drop i codes ≡ get_or codes i 0 ∷ drop (i + 1) codes
rest_cons codes i h = rw (add-one, drop-cons codes i 0 h)

-- ---- four numbers over the places from p on

-- behind what was written before
pub placed_behind : (p : ℕ) (xs ys ws : List ℕ) → length xs ≡ p → placed_at p ys (written xs ws) ≡ written (xs ++ ys) ws
unfolding placed_at written
placed_behind p xs ys ws e =
    let seam : take p (xs ++ drop (length xs) ws) ≡ xs = take_at xs (drop (length xs) ws) p e in
    let rest : drop (p + length ys) (xs ++ drop (length xs) ws) ≡ drop (length (xs ++ ys)) ws =
    rw (← e) (drop-append-add xs (drop (length xs) ws) (length ys) ∙ drop-drop (length ys) (length xs) ws ∙ ap (λ (k : ℕ). drop k ws) (sym (length-append xs ys))) in
    rw (seam, rest)

coded_length : (a : Answer (List ℕ)) → length (coded a) ≡ 4
coded_length (refusal w) = refl
coded_length (result vs) = refl

-- ---- the answers of a list of calls, each over its four places from p on

unfoldable pub placed_all : ℕ → State → List Call → List ℕ → List ℕ
placed_all p s [] ws = ws
placed_all p s (x ∷ xs) ws = placed_all (p + 4) (call s x).left xs (placed_at p (coded (call s x).answer) ws)

-- the calls from place i on
abbrev pub calls_from : ℕ → List ℕ → List Call
calls_from i codes = map call_of (drop i codes)

-- a turn: the i-th call on s, whose answer's four numbers are w, and which leaves u
module _ (codes : List ℕ) (i : ℕ) (h : i < length codes) (s u : State) (c : Call) (w : List ℕ) (is : c ≡ call_of (get_or codes i 0)) (e : stepped w u ≡ step_of c s) where
  stepped_by : stepped w u ≡ step_of (call_of (get_or codes i 0)) s
  stepped_by = e ∙ ap (λ (x : Call). step_of x s) is

  pub after_turn : {end : State} → after_all s (calls_from i codes) ≡ end → after_all u (calls_from (i + 1) codes) ≡ end
  unfolding after_all step_of
  after_turn q =
      ap (λ (z : Stepped). after_all z.state (calls_from (i + 1) codes)) stepped_by
      ∙ rw (rest_cons codes i h) at q

  pub placed_turn : (ws ws' : List ℕ) {end : List ℕ} → ws' ≡ placed_at (4 * i) w ws
      → placed_all (4 * i) s (calls_from i codes) ws ≡ end → placed_all (4 * (i + 1)) u (calls_from (i + 1) codes) ws' ≡ end
  unfolding placed_all step_of
  placed_turn ws ws' put q =
      let p : 4 * (i + 1) ≡ 4 * i + 4 = omega arith in
      let rest = calls_from (i + 1) codes in
      ap (λ (k : ℕ). placed_all k u rest ws') p
      ∙ ap (λ (r : List ℕ). placed_all (4 * i + 4) u rest r) put
      ∙ ap (λ (z : Stepped). placed_all (4 * i + 4) z.state rest (placed_at (4 * i) z.words ws)) stepped_by
      ∙ rw (rest_cons codes i h) at q

-- the end
module _ (codes : List ℕ) (i : ℕ) (h : length codes ≤ i) (s : State) where
  pub after_end : {end : State} → after_all s (calls_from i codes) ≡ end → s ≡ end
  unfolding after_all
  after_end w = rw (drop_of_length-le codes h) at w

  pub placed_end : (ws : List ℕ) {end : List ℕ} → placed_all (4 * i) s (calls_from i codes) ws ≡ end → ws ≡ end
  unfolding placed_all
  placed_end ws w = rw (drop_of_length-le codes h) at w

-- all of them, behind what was written before
placed_all_lem : (p : ℕ) (xs ws : List ℕ) (s : State) (calls : List Call) → length xs ≡ p
    → placed_all p s calls (written xs ws) ≡ written (xs ++ coded_all (all_said s calls)) ws
unfolding placed_all all_said
placed_all_lem p xs ws s [] e = rw (append-nil xs)
placed_all_lem p xs ws s (x ∷ calls) e =
    let a = call s x in
    let long : length (xs ++ coded a.answer) ≡ p + 4 = length-append xs (coded a.answer) ∙ omega (arith, coded_length a.answer) in
    ap (λ (r : List ℕ). placed_all (p + 4) a.left calls r) (placed_behind p xs (coded a.answer) ws e)
    ∙ placed_all_lem (p + 4) (xs ++ coded a.answer) ws a.left calls long
    ∙ ap (λ (r : List ℕ). written r ws) (append_assoc xs (coded a.answer) (coded_all (all_said a.left calls)))

pub placed_written : (s : State) (calls : List Call) (ws : List ℕ) → placed_all 0 s calls ws ≡ written (coded_all (all_said s calls)) ws
unfolding written
placed_written s calls ws = placed_all_lem 0 [] ws s calls refl

-- four places a call
pub said_length : (s : State) (calls : List Call) → length (coded_all (all_said s calls)) ≡ 4 * length calls
unfolding all_said
said_length s [] = refl
said_length s (x ∷ calls) =
    let a = call s x in
    length-append (coded a.answer) (coded_all (all_said a.left calls)) ∙ omega (arith, coded_length a.answer, said_length a.left calls)

-- ---- the calls and the plan after them

-- The calls leave the round r, l and t, and the answers us; then the plan says o, and its answer a is placed behind the others.
pub run_is : (s : State) (codes : List ℕ) (r : Round) (l t ws us ls ts : List ℕ) (places : ℕ) (o : Result (Unit {0}) Refusal) (a ws' ls' ts' : List ℕ)
    → state r l t ≡ after_all s (map call_of codes)
    → us ≡ written (coded_all (all_said s (map call_of codes))) ws
    → after (answer_of o) (plan_lists ls' ts') ≡ plan_call (state r l t) ls ts places
    → a ≡ coded (map_answer nothing_said (answer_of o))
    → ws' ≡ placed_at (4 * length codes) a us
    → after (result tt) (replay_memory l t ws' ls' ts') ≡ run_of s (map call_of codes) ws ls ts places
unfolding run_of
run_is s codes r l t ws us ls ts places o a ws' ls' ts' ends said planned words put =
    let calls = map call_of codes in
    let long : length (coded_all (all_said s calls)) ≡ 4 * length codes = said_length s calls ∙ ap (λ (k : ℕ). 4 * k) (length-map codes call_of) in
    let answers : ws' ≡ written (coded_all (all_said s calls) ++ coded (map_answer nothing_said (answer_of o))) ws =
    rw (put, words, said) (placed_behind (4 * length codes) (coded_all (all_said s calls)) (coded (map_answer nothing_said (answer_of o))) ws long) in
    rw (answers, ← ends, ← planned)

placed_first : (p a b c d : ℕ) (l : List ℕ) → p ≤ length l → get_or (placed_at p (a ∷ b ∷ c ∷ d ∷ []) l) p 0 ≡ a
unfolding placed_at
placed_first p a b c d l h = rw (append_assoc (take p l) (a ∷ b ∷ c ∷ d ∷ []) (drop (p + 4) l)) (get_or_at (take p l) a (b ∷ c ∷ d ∷ drop (p + 4) l) 0 p (length-take-le p l h))

-- the plan's answer tells whether the plan was refused, and so whether the scratch is as it was
pub run_scratch : (c : ℕ) (o : Result (Unit {0}) Refusal) (a us ws before now : List ℕ) → 4 * c ≤ length us → a ≡ coded (map_answer nothing_said (answer_of o))
    → ws ≡ placed_at (4 * c) a us → ScratchAfter o before now → ScratchRun c ws before now
run_scratch c (Ok u) a us ws before now h words put kept =
    let first : get_or ws (4 * c) 0 ≡ 0 =
    ap (λ (l : List ℕ). get_or l (4 * c) 0) (rw words at put) ∙ placed_first (4 * c) 0 0 0 0 us h in
    (kept, λ accepted. absurd (accepted first))
run_scratch c (Err w) a us ws before now h words put kept = (ap length kept, λ refused. kept)

-- ---- replay, by its tests

module _ (key k n : ℕ) (codes l t ws ls ts : List ℕ) (places : ℕ) where
  pub replay_unknown : every known codes ≡ false → after (refusal 12) (replay_memory l t ws ls ts) ≡ replay_call key k n codes l t ws ls ts places
  unfolding replay_call
  replay_unknown m = rw m

  pub replay_short : every known codes ≡ true → length ws / 4 ≤ length codes → (w : ℕ) → w ≡ short_refusal (2 ^ 30) 1 k n → after (refusal w) (replay_memory l t ws ls ts) ≡ replay_call key k n codes l t ws ls ts places
  unfolding replay_call
  replay_short y m w e = rw (y, lt-ltb (length ws) (4 * length codes + 4) (omega arith), e)

  -- what open said, and the list that it left
  module _ (y : every known codes ≡ true) (long : length codes < length ws / 4) (o : Result Round Refusal) (l' : List ℕ) (opens : after (answer_of o) l' ≡ open_call key k n l) where
    pub replay_refused : (w : Refusal) → o ≡ Err w → after (refusal (number w)) (replay_memory l' t ws ls ts) ≡ replay_call key k n codes l t ws ls ts places
    unfolding replay_call
    replay_refused w m = rw (y, le-ltb (length ws) (4 * length codes + 4) (omega arith), ← opens, m)

    pub replay_run : (r : Round) (l'' t' ws' ls' ts' : List ℕ) → o ≡ Ok r
        → after (result tt) (replay_memory l'' t' ws' ls' ts') ≡ run_of (state r l' t) (map call_of codes) ws ls ts places
        → after (result tt) (replay_memory l'' t' ws' ls' ts') ≡ replay_call key k n codes l t ws ls ts places
    unfolding replay_call
    replay_run r l'' t' ws' ls' ts' m e = rw (y, le-ltb (length ws) (4 * length codes + 4) (omega arith), ← opens, m) e
