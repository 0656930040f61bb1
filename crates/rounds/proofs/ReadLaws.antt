-- Answers written as numbers and read again.
-- Assumes nothing.
use mathlib.Core.Path.{◌≡◌, refl, ap, ◌∙◌}
use mathlib.Core.Logic.{◌≢◌}
use mathlib.Core.List.{List, [], ◌∷◌, ◌++◌, append_assoc}
use mathlib.Core.Option.{Option, none, some}
use Prim.Native.Nat.{ℕ, suc, ◌*◌}
use native.Mathlib.Omega.{arith}
use borrow.Author.Tests.{ne_eqb}
use lib.ListN.{length, drop}
use Rattle.answers.specs.Answers.{Answer, refusal, result}
use Rattle.orders.specs.Reservoirs.{in_and_out}
use Rattle.rounds.specs.Ledgers.{Call, admit, join, withdraw, Ledger, due_in, exchanged, answer}
use Rattle.rounds.specs.Replays.{coded, coded_all, read_one, read_all}

-- four numbers can be read: a refusal has a number above 0, and there are at most two values
abbrev pub Readable : Answer (List ℕ) → Type 0
Readable (refusal w) = w ≢ 0
Readable (result []) = Unit {0}
Readable (result (a ∷ [])) = Unit {0}
Readable (result (a ∷ b ∷ [])) = Unit {0}
Readable (result (a ∷ b ∷ c ∷ vs)) = ⊥

abbrev pub AllReadable : List (Answer (List ℕ)) → Type 0
AllReadable [] = Unit {0}
AllReadable (w ∷ ws) = Readable w × AllReadable ws

pub read_one_lem : (w : Answer (List ℕ)) (rest : List ℕ) → Readable w → read_one (coded w ++ rest) ≡ w
unfolding read_one
read_one_lem (refusal w) rest h = rw (ne_eqb w 0 h)
read_one_lem (result []) rest h = refl
read_one_lem (result (a ∷ [])) rest h = refl
read_one_lem (result (a ∷ b ∷ [])) rest h = refl
read_one_lem (result (a ∷ b ∷ c ∷ vs)) rest h = absurd h

-- four places on
drop_one : (w : Answer (List ℕ)) (rest : List ℕ) → drop 4 (coded w ++ rest) ≡ rest
drop_one (refusal w) rest = refl
drop_one (result vs) rest = refl

pub read_all_lem : (ws : List (Answer (List ℕ))) (rest : List ℕ) → AllReadable ws → read_all (length ws) (coded_all ws ++ rest) ≡ ws
unfolding read_all
read_all_lem [] rest h = refl
read_all_lem (w ∷ ws) rest h =
    let e : coded_all (w ∷ ws) ++ rest ≡ coded w ++ (coded_all ws ++ rest) = append_assoc (coded w) (coded_all ws) rest in
    rw (e, read_one_lem w (coded_all ws ++ rest) h.0, drop_one w (coded_all ws ++ rest)) (ap (λ (r : List (Answer (List ℕ))). w ∷ r) (read_all_lem ws rest h.1))

drop_more : (w : Answer (List ℕ)) (m : ℕ) (rest : List ℕ) → drop (suc (suc (suc (suc m)))) (coded w ++ rest) ≡ drop m rest
drop_more (refusal w) m rest = refl
drop_more (result vs) m rest = refl

pub drop_all : (ws : List (Answer (List ℕ))) (rest : List ℕ) → drop (4 * length ws) (coded_all ws ++ rest) ≡ rest
drop_all [] rest = refl
drop_all (w ∷ ws) rest =
    let e : coded_all (w ∷ ws) ++ rest ≡ coded w ++ (coded_all ws ++ rest) = append_assoc (coded w) (coded_all ws) rest in
    let m : 4 * length (w ∷ ws) ≡ suc (suc (suc (suc (4 * length ws)))) = omega arith in
    rw (e, m) (drop_more w (4 * length ws) (coded_all ws ++ rest) ∙ drop_all ws rest)

-- what the ledger answers can be read
in_out_readable : (g : Ledger) (o : Option ℕ) → Readable (result (exchanged (in_and_out g.key g.k g.n o)))
in_out_readable g none = tt
in_out_readable g (some v) = tt

pub answer_readable : (g : Ledger) (x : Call) → Readable (result (answer g x))
unfolding answer
answer_readable g admit = in_out_readable g (due_in g)
answer_readable g join = tt
answer_readable g (withdraw x) = tt
