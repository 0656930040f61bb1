-- Any list of admits and grow_layers from an accepted open leaves a record that is kept, and so an admit of it says and leaves what
-- document 01 says; a growth of any record.
-- Assumes nothing.
use mathlib.Core.Path.{◌≡◌, refl, sym, ap, subst, ◌∙◌}
use mathlib.Core.Bool.{true, false}
use mathlib.Core.Logic.{inl, inr, ⊎_elim}
use mathlib.Core.List.{List, [], ◌∷◌}
use mathlib.Core.Option.{Option}
use Prim.Native.Nat.{ℕ, suc, ◌+◌, ◌^◌, ◌≤◌, ◌<◌}
use native.Mathlib.Omega.{arith}
use borrow.Author.Tests.{lt-ltb, le-ltb, ne_eqb, eqb-false}
use lib.Dec.{eqb}
use lib.ListN.{length, take}
use Rattle.answers.specs.Answers.{result, After, after, refused}
use Rattle.lists.specs.Lists.{keep, written}
use Rattle.lists.proofs.Tests.{by_test, by_below}
use Rattle.answers.proofs.AnswerLaws.{not_said, said_same}
use Rattle.orders.specs.declared.consistent_reservoir.ConsistentReservoir.{ConsistentReservoir}
use Rattle.orders.specs.Orders.{P}
use Rattle.orders.specs.Reservoirs.{grown, held, counts}
use Rattle.orders.specs.ReservoirCalls.{key_of, j_of, listed, sample, fitting, reservoir_of, open_call, admit_call, grow_to, grow_layer_call, reservoir_state, ReservoirState}
use Rattle.orders.specs.Histories.{Call, admit, grow_layer, step_by, after_all}
use Rattle.orders.proofs.MemoryLaws.{written_rest, admit_spares}
use Rattle.orders.specs.Admissions.{Kept, Opened, Short, Admits, AdmissionHolds, Grows, GrowthHolds}
use Rattle.orders.proofs.LogLaws.{pow_up}
use Rattle.orders.proofs.DueLaws.{due_holds}
use Rattle.orders.proofs.ReservoirLaws.{fitting_kept, sample_is, written_take, written_kept, open_kept}
use Rattle.orders.proofs.AdmissionLaws.{admit_kept, admit_changes, grown_held}
use Rattle.orders.proofs.CheckLaws.{Fits, fits_parts}
use Rattle.orders.proofs.GrowLaws.{grow_sample}

-- ---- grow_layer, of any record and list

module _ (r : ConsistentReservoir) (l : List ℕ) where
  abbrev next : List ℕ
  next = grown (key_of r) (j_of r + 1) r.k (listed r l)

  raise : (y : fitting r l ≡ true) → r.used ≤ r.k → (j_of r ≡ 14 → ⊥) → length next ≤ length l → Grows r l (grow_layer_call r l)
  unfolding grow_layer_call grow_to sample
  raise y full low room =
      let s : Fits r l = fits_parts r l y in
      let j1 : j_of r + 1 ≤ 14 = omega (arith, s.shape.j_low) in
      let e : grow_layer_call r l ≡ after (result tt) (reservoir_state (reservoir_of (key_of r) r.k r.n (j_of r + 1) (length next)) (written next l)) =
      rw (y, le-ltb r.k r.used full, ne_eqb (j_of r) 14 low, le-ltb (length l) (length next) room) in
      let nj : r.n ≤ 4 ^ suc (j_of r + 1) = omega (arith, s.shape.n_le, pow_up (suc (j_of r)) (suc (j_of r + 1)) (omega arith)) in
      subst (λ (a : After ReservoirState (Unit {0})). Grows r l a) (sym e) (record {
        answer_is = refl;
        key_is = refl;
        k_is = refl;
        n_is = refl;
        j_is = refl;
        sample_is = ap (keep (counts r.n)) (written_take next l) ∙ grow_sample r (j_of r + 1) l s full (omega arith) (omega arith);
        kept = λ k. written_kept (key_of r) r.k r.n (j_of r + 1) (length next) next l k.some_k k.k_le nj j1 refl
            (grown_held r l k full (j_of r + 1) (omega arith) j1 (λ u a b. absurd (omega arith)));
        past_used = written_rest next l (length next) refl;
      })

  unfit : fitting r l ≡ false → grow_layer_call r l ≡ refused 12 (reservoir_state r l)
  unfolding grow_layer_call
  unfit m = rw m

  seven : fitting r l ≡ true → r.k < r.used → grow_layer_call r l ≡ refused 7 (reservoir_state r l)
  unfolding grow_layer_call
  seven y h = rw (y, lt-ltb r.k r.used h)

  eight : fitting r l ≡ true → r.used ≤ r.k → eqb (j_of r) 14 ≡ true → grow_layer_call r l ≡ refused 8 (reservoir_state r l)
  unfolding grow_layer_call
  eight y h e = rw (y, le-ltb r.k r.used h, e)

  four : fitting r l ≡ true → r.used ≤ r.k → eqb (j_of r) 14 ≡ false → length l < length next → grow_layer_call r l ≡ refused 4 (reservoir_state r l)
  unfolding grow_layer_call grow_to
  four y h m t = rw (y, le-ltb r.k r.used h, m, lt-ltb (length l) _ t)

-- a refusal changes nothing; else it grows
pub growth : GrowthHolds
growth r l =
    by_test (fitting r l)
    (λ y. by_below r.k r.used
    (λ h. inl (7, seven r l y h))
    (λ h. by_test (eqb (j_of r) 14)
    (λ e. inl (8, eight r l y h e))
    (λ m. by_below (length l) (length (grown (key_of r) (j_of r + 1) r.k (listed r l)))
    (λ t. inl (4, four r l y h m t))
    (λ t. inr (raise r l y h (eqb-false (j_of r) 14 m) t)))))
    (λ m. inl (12, unfit r l m))

-- ---- any list of calls

-- a record and its list, reached under a key with k
pub record Reached (key k : ℕ) (t : ReservoirState) : Type 0 where
  pub key_is : key_of t.reservoir ≡ key
  pub k_is : t.reservoir.k ≡ k
  pub kept : Kept t.reservoir t.list

pub step_reached : (key k : ℕ) (c : Call) (t : ReservoirState) → Reached key k t → Reached key k (step_by c t)
step_reached key k admit t s =
    ⊎_elim
    (λ (h : Short t.reservoir t.list (admit_call t.reservoir t.list)). subst (λ (a : After ReservoirState _). Reached key k a.left) (sym h.is_refused) s)
    (λ (h : Admits t.reservoir (admit_call t.reservoir t.list)). record { key_is = h.key_is ∙ s.key_is; k_is = h.k_is ∙ s.k_is; kept = h.kept })
    (admit_kept t.reservoir t.list s.kept)
step_reached key k grow_layer t s =
    ⊎_elim
    (λ (h : (c : ℕ) × (grow_layer_call t.reservoir t.list ≡ refused c (reservoir_state t.reservoir t.list))). subst (λ (a : After ReservoirState _). Reached key k a.left) (sym h.1) s)
    (λ (h : Grows t.reservoir t.list (grow_layer_call t.reservoir t.list)). record { key_is = h.key_is ∙ s.key_is; k_is = h.k_is ∙ s.k_is; kept = h.kept s.kept })
    (growth t.reservoir t.list)

all_reached : (key k : ℕ) (cs : List Call) (t : ReservoirState) → Reached key k t → Reached key k (after_all cs t)
all_reached key k [] t s = s
all_reached key k (c ∷ cs) t s = all_reached key k cs (step_by c t) (step_reached key k c t s)

-- what an open that was not refused says and leaves
pub accepted : (k n key : ℕ) (l : List ℕ) (r : ConsistentReservoir) (l' : List ℕ) → open_call k n key l ≡ after (result r) l' → Opened key k n r l'
accepted k n key l r l' =
    open_kept (λ o. o ≡ after (result r) l' → Opened key k n r l') k n key l
    (λ c q. not_said c r (ap (λ (o : (After (List ℕ) ConsistentReservoir)). o.answer) q))
    (λ r₁ l₁ o q. let p : r₁ ≡ r = said_same r₁ r (ap (λ (z : (After (List ℕ) ConsistentReservoir)). z.answer) q) in
    let m : l₁ ≡ l' = ap (λ (z : (After (List ℕ) ConsistentReservoir)). z.left) q in
    subst (λ (z : List ℕ). Opened key k n r z) m (subst (λ (z : ConsistentReservoir). Opened key k n z l₁) p o))

-- from an accepted open, after any list of calls
module _ (k n key : ℕ) (l : List ℕ) (t : ReservoirState) (is_open : open_call k n key l ≡ after (result t.reservoir) t.list) (cs : List Call) where
  abbrev now : ReservoirState
  now = after_all cs t

  pub reached : Reached key k now
  reached =
      let o : Opened key k n t.reservoir t.list = accepted k n key l t.reservoir t.list is_open in
      all_reached key k cs t (record { key_is = o.key_is; k_is = o.k_is; kept = o.kept })

  -- it lists what its layer gives up to and with the k-th number below its n
  pub reached_listed : listed now.reservoir now.list ≡ held key (j_of now.reservoir) k now.reservoir.n
  reached_listed = reached.kept.list_is ∙ (λ i. held (reached.key_is i) (j_of now.reservoir) (reached.k_is i) now.reservoir.n)

  -- it is never refused 12
  pub reached_fits : fitting now.reservoir now.list ≡ true
  reached_fits = fitting_kept now.reservoir now.list reached.kept

  -- its sample is the first k of P(n)
  pub reached_sample : sample now.reservoir now.list ≡ take k (P key now.reservoir.n)
  reached_sample =
      sample_is now.reservoir now.list reached.kept
      ∙ (λ i. take (reached.k_is i) (P (reached.key_is i) now.reservoir.n))

-- an admit is refused 4 where a number is due and the list is too short for it, else it says and leaves what is due
pub admission : AdmissionHolds
admission k n key l t is_open cs =
    let now : ReservoirState = after_all cs t in
    let r : ConsistentReservoir = now.reservoir in
    let a : After ReservoirState (Option (ℕ × ℕ)) = admit_call now.reservoir now.list in
    let s : Reached key k now = reached k n key l t is_open cs in
    record {
      key_is = s.key_is;
      k_is = s.k_is;
      kept = s.kept;
      due_is = due_holds (key_of r) r.k r.n;
      outcome = admit_kept now.reservoir now.list s.kept;
      sample_is = λ h. admit_changes now.reservoir now.list s.kept a.left.reservoir a.left.list h.kept h.key_is h.k_is _ refl h.n_is;
      past_used = admit_spares r now.list;
    }
