-- A record reached from open lists what an open of its k at its n lists. Its layer is that of n, but 14 after an admit that said none.
-- So whether an admit finds its list too short goes by key, k, n and the list's length alone.
-- Assumes nothing.
use mathlib.Core.Path.{◌≡◌, refl, sym, ap, subst, ◌∙◌}
use mathlib.Core.Bool.{Bool, true, false, true≢false, cond}
use mathlib.Core.Logic.{◌⊎◌, inl, inr, ⊎_elim}
use mathlib.Core.List.{List}
use mathlib.Core.Option.{Option, none, some}
use Prim.Native.Nat.{ℕ, suc, ◌+◌, ◌-◌, ◌^◌, ◌≤◌, ◌<◌}
use native.Mathlib.Numerals.{add-one}
use native.Mathlib.Omega.{arith}
use borrow.Author.Tests.{lt-ltb, le-ltb, ltb-true}
use lib.Dec.{ltb}
use lib.ListN.{length}
use Rattle.answers.specs.Answers.{result, After, after, refused}
use Rattle.lists.specs.Lists.{below, up_to}
use Rattle.lists.proofs.Tests.{by_below, by_cond}
use Rattle.answers.proofs.AnswerLaws.{not_said, said_same}
use Rattle.lists.proofs.Replacing.{replace_length}
use Rattle.lists.proofs.Searching.{by_first}
use Rattle.orders.specs.declared.consistent_reservoir.ConsistentReservoir.{ConsistentReservoir}
use Rattle.orders.specs.Orders.{layer_of}
use Rattle.orders.specs.Reservoirs.{opening, outputs, up_to_zeros, grown, wider, held, due, kth}
use Rattle.orders.specs.ReservoirCalls.{key_of, j_of, listed, reservoir_of, exchange_by, exchange, admit_at, admit_call, ReservoirState, reservoir_state}
use Rattle.orders.specs.Admissions.{Kept, Opened, ends_at, Short, Admits}
use Rattle.orders.proofs.LogLaws.{pow_up, layer_fits, layer_least, layer_in}
use Rattle.orders.proofs.HeldLaws.{held_at, Comes, comes, waits, grow_none}
use Rattle.orders.proofs.DueLaws.{due_some, due_next, some_is, none_not}
use Rattle.orders.proofs.ReservoirLaws.{held_arranged, fitting_kept, list_at, used_is, opening_held, n_in}
use Rattle.orders.proofs.AdmissionLaws.{admit_kept, zeros_at, grown_at, k_listed, just_k, grown_held}
use Rattle.orders.proofs.MemoryLaws.{admit_length}

-- b: an admit said none
pub record Anew (r : ConsistentReservoir) (l : List ℕ) (b : Bool) : Type 0 where
  pub listed_is : listed r l ≡ opening (key_of r) r.k r.n
  pub layer_is : j_of r ≡ cond b 14 (layer_of r.n)
  pub none_due : b ≡ true → due (key_of r) r.k r.n ≡ none

-- what the layer of n lists is what an open lists
pub held_opening : (key k n : ℕ) → n ≤ 2 ^ 30 → held key (layer_of n) k n ≡ opening key k n
held_opening key k n h = held_arranged key (layer_of n) k n (layer_in n h) ∙ sym (opening_held key k n h)

-- ---- the layer that an admit ends at

-- the layer of a number between two powers
layer_between : (v i : ℕ) → 4 ^ i ≤ v → v < 4 ^ suc i → layer_of (suc v) ≡ i
layer_between v i a b =
    by_below (layer_of (suc v)) i
    (λ h. absurd (omega (arith, layer_fits (suc v), pow_up (suc (layer_of (suc v))) i (omega arith))))
    (λ h. omega (arith, layer_least (suc v) i (omega arith)))

-- n and a later number below the same power have one layer
layer_stays : (n v i : ℕ) → layer_of n ≡ i → n ≤ v → v < 4 ^ suc i → layer_of (suc v) ≡ i
layer_stays n v i e a b =
    omega (arith, layer_least (suc v) i (omega arith), layer_least n (layer_of (suc v)) (omega (arith, layer_fits (suc v))))

module _ (r : ConsistentReservoir) (l : List ℕ) (s : Kept r l) where
  -- where layer i lists more than k numbers, the one that is due is one of its numbers
  in_layer : (i : ℕ) → i ≤ 14 → r.n ≤ 4 ^ suc i → r.k < length (held_at (key_of r) (suc i) r.k r.n) → (v : ℕ) → due (key_of r) r.k r.n ≡ some v → v < 4 ^ suc i
  in_layer i il nj long v d =
      let w = waits (key_of r) (suc i) r.k r.n (omega arith) s.k_le nj long in
      let c : Comes (key_of r) (suc i) r.k r.n (held_at (key_of r) (suc i) r.k r.n) w.0 =
      comes (key_of r) (suc i) r.k r.n (omega arith) s.some_k s.k_le nj w.0 w.2 in
      let e : due (key_of r) r.k r.n ≡ some w.0 = due_some (key_of r) r.k r.n w.0 c.next (omega (arith, c.small, pow_up (suc i) 15 (omega arith))) in
      let same : w.0 ≡ v = some_is w.0 v (sym e ∙ d) in
      omega (arith, c.small)

  -- at a layer that takes more, no number below it is due
  module _ (full : r.used ≤ r.k) (i : ℕ) (above : j_of r < i) (il : i ≤ 14)
      (passed : (u : ℕ) → j_of r < u → u < i → ltb r.k (length (up_to_zeros (key_of r) u r.k)) ≡ false) (more : ltb r.k (length (up_to_zeros (key_of r) i r.k)) ≡ true) where
    at_sum : suc (j_of r) + (i - suc (j_of r)) ≡ i
    at_sum = omega arith

    from_layer : (v : ℕ) → due (key_of r) r.k r.n ≡ some v → 4 ^ i ≤ v
    from_layer v d =
        let x = due_next (key_of r) r.k r.n v d in
        by_below v (4 ^ i)
        (λ h. absurd (grow_none (key_of r) (suc (j_of r)) r.k r.n s.k_le s.n_le (k_listed r l s full) (i - suc (j_of r)) (omega arith)
        (λ u c b. just_k r l s full u c (passed u c (omega arith))) v x.1.large (rw at_sum h) x.1.enters))
        (λ h. h)

    grown_long : r.k < length (held_at (key_of r) (suc i) r.k r.n)
    grown_long =
        omega (
          arith,
          ltb-true r.k (length (up_to_zeros (key_of r) i r.k)) more,
          ap length (zeros_at (key_of r) i r.k),
          ap length (grown_at (key_of r) i r.k (listed r l)),
          replace_length (below (4 ^ i)) (up_to (below (4 ^ i)) r.k (outputs (key_of r) i)) (listed r l),
          ap length (grown_held r l s full i above il passed),
        )

    to_layer : (v : ℕ) → due (key_of r) r.k r.n ≡ some v → layer_of (suc v) ≡ i
    to_layer v d =
        layer_between v i (from_layer v d) (in_layer i il (omega (arith, s.n_le, pow_up (suc (j_of r)) (suc i) (omega arith))) grown_long v d)

  -- an admit by which a number comes in ends at the layer of the n that it ends with
  module _ (b : Bool) (a : Anew r l b) (v : ℕ) (d : due (key_of r) r.k r.n ≡ some v) where
    own_layer : (b : Bool) → j_of r ≡ cond b 14 (layer_of r.n) → (b ≡ true → due (key_of r) r.k r.n ≡ none) → layer_of r.n ≡ j_of r
    own_layer true e f = absurd (none_not v (sym (f refl) ∙ d))
    own_layer false e f = sym e

    pub ends_layer : (i : ℕ) → ends_at r ≡ some i → i ≡ layer_of (suc v)
    unfolding wider
    ends_layer i e =
        by_below r.k r.used
        (λ h. let f : some (j_of r) ≡ some i = rw (lt-ltb r.k r.used h) at e in
        let j : j_of r ≡ i = some_is (j_of r) i f in
        let long : r.k < length (held_at (key_of r) (suc (j_of r)) r.k r.n) = omega (arith, used_is r l s, ap length (list_at r l s)) in
        let z : layer_of (suc v) ≡ j_of r =
        layer_stays r.n v (j_of r) (own_layer b a.layer_is a.none_due) (due_next (key_of r) r.k r.n v d).1.large (in_layer (j_of r) s.j_le s.n_le long v d) in
        omega arith)
        (λ h. let f : wider (key_of r) r.k (j_of r) ≡ some i = rw (le-ltb r.k r.used h) at e in
        by_first (λ i. ltb r.k (length (up_to_zeros (key_of r) i r.k))) (suc (j_of r)) (14 - j_of r)
        (λ w g x y t z. let is : w ≡ i = some_is w i (sym g ∙ f) in
        omega (arith, to_layer h w x (omega arith) z t v d))
        (λ g z. absurd (none_not i (sym g ∙ f))))

-- ---- an admit, by the layer that it ends at

module _ (r : ConsistentReservoir) (l : List ℕ) where
  -- at layer i it is refused 4, or a number comes in
  abbrev AtLayer : Option ℕ → After ReservoirState (Option (ℕ × ℕ)) → Type 0
  AtLayer none a = a ≡ after (result none) (reservoir_state (reservoir_of (key_of r) r.k r.n 14 r.used) l)
  AtLayer (some i) a = (a ≡ refused 4 (reservoir_state r l)) ⊎ ((p : ℕ × ℕ) × (a.answer ≡ result (some p)))

  exchange_at : (i : ℕ) (xs : List ℕ) → AtLayer (some i) (exchange r i xs l)
  unfolding exchange exchange_by
  exchange_at i xs = by_cond (AtLayer (some i)) (ltb (length l) _) _ _ (λ y. inl refl) (λ n. inr (_, refl))

  at_wider : (o : Option ℕ) → AtLayer o (admit_at r l o)
  at_wider none = refl
  at_wider (some i) = exchange_at i (grown (key_of r) i r.k (listed r l))

  at_ends : (c : Bool) → AtLayer (cond c (some (j_of r)) (wider (key_of r) r.k (j_of r))) (cond c (exchange r (j_of r) (listed r l) l) (admit_at r l (wider (key_of r) r.k (j_of r))))
  at_ends true = exchange_at (j_of r) (listed r l)
  at_ends false = at_wider (wider (key_of r) r.k (j_of r))

  admit_at_layer : Kept r l → AtLayer (ends_at r) (admit_call r l)
  unfolding admit_call
  admit_at_layer s =
      subst (λ (c : Bool). AtLayer (ends_at r) (cond c (cond (ltb r.k r.used) (exchange r (j_of r) (listed r l) l) (admit_at r l (wider (key_of r) r.k (j_of r)))) (refused 12 (reservoir_state r l))))
      (sym (fitting_kept r l s)) (at_ends (ltb r.k r.used))

-- What an admit says and leaves of a record that lists what an open lists: refused 4 exactly where a number v is due and the list is
-- shorter than an open at v+1 asks.
pub data AdmitAnew (r : ConsistentReservoir) (l : List ℕ) (b : Bool) (a : After ReservoirState (Option (ℕ × ℕ))) : Type 0 where
  finds_short : (v : ℕ) → due (key_of r) r.k r.n ≡ some v → length l < length (opening (key_of r) r.k (suc v)) → a ≡ refused 4 (reservoir_state r l) → AdmitAnew r l b a
  finds_none : due (key_of r) r.k r.n ≡ none → a ≡ after (result none) (reservoir_state (reservoir_of (key_of r) r.k r.n 14 r.used) l) → Anew a.left.reservoir a.left.list true → AdmitAnew r l b a
  brings_in : (v : ℕ) → due (key_of r) r.k r.n ≡ some v → length (opening (key_of r) r.k (suc v)) ≤ length l → b ≡ false
      → Admits r a → Anew a.left.reservoir a.left.list false → AdmitAnew r l b a

none_not_pair : (p : ℕ × ℕ) → none ≡ some p → ⊥
none_not_pair p e = let z : true ≡ false = cc in true≢false z

module _ (r : ConsistentReservoir) (l : List ℕ) (s : Kept r l) (b : Bool) (now : Anew r l b) where
  abbrev a : After ReservoirState (Option (ℕ × ℕ))
  a = admit_call r l

  -- none is due
  module _ (d : due (key_of r) r.k r.n ≡ none) where
    says_none : a.answer ≡ result none
    says_none =
        ⊎_elim
        (λ (h : Short r l a). absurd (none_not h.v (sym d ∙ h.is_due)))
        (λ (h : Admits r a). h.answer_is ∙ rw d refl)
        (admit_kept r l s)

    leaves_none : (o : Option ℕ) → AtLayer r l o a → a ≡ after (result none) (reservoir_state (reservoir_of (key_of r) r.k r.n 14 r.used) l)
    leaves_none none e = e
    leaves_none (some i) (inl e) = not_said 4 none (sym (ap (λ (z : After ReservoirState (Option (ℕ × ℕ))). z.answer) e) ∙ says_none)
    leaves_none (some i) (inr e) = absurd (none_not_pair e.0 (said_same none (some e.0) (sym says_none ∙ e.1)))

    none_due : AdmitAnew r l b a
    none_due =
        let e = leaves_none (ends_at r) (admit_at_layer r l s) in
        finds_none d e (subst (λ (z : After ReservoirState (Option (ℕ × ℕ))). Anew z.left.reservoir z.left.list true) (sym e) (record { listed_is = now.listed_is; layer_is = refl; none_due = λ t. d }))

  -- v is due
  module _ (v : ℕ) (d : due (key_of r) r.k r.n ≡ some v) where
    v_small : suc v ≤ 2 ^ 30
    v_small = (due_next (key_of r) r.k r.n v d).0

    not_yet : (b : Bool) → (b ≡ true → due (key_of r) r.k r.n ≡ none) → b ≡ false
    not_yet true f = absurd (none_not v (sym (f refl) ∙ d))
    not_yet false f = refl

    -- the layer after it
    layer_now : Admits r a → (o : Option ℕ) → ends_at r ≡ o → AtLayer r l o a → j_of a.left.reservoir ≡ layer_of (suc v)
    layer_now h none e q =
        absurd (none_not_pair (v, kth (key_of r) r.k r.n)
        (said_same none (some (v, kth (key_of r) r.k r.n)) (sym (ap (λ (z : After ReservoirState (Option (ℕ × ℕ))). z.answer) q) ∙ h.answer_is ∙ rw d refl)))
    layer_now h (some i) e q = h.layer_is ∙ rw e (ends_layer r l s b now v d i e)

    lists_now : Admits r a → Anew a.left.reservoir a.left.list false
    lists_now h =
        let n : a.left.reservoir.n ≡ suc v = h.n_is ∙ rw d (add-one v) in
        let j : j_of a.left.reservoir ≡ layer_of (suc v) = layer_now h (ends_at r) refl (admit_at_layer r l s) in
        record {
          listed_is =
              h.kept.list_is
              ∙ (λ i. held (key_of a.left.reservoir) (j i) a.left.reservoir.k (n i))
              ∙ held_opening (key_of a.left.reservoir) a.left.reservoir.k (suc v) v_small
              ∙ ap (opening (key_of a.left.reservoir) a.left.reservoir.k) (sym n);
          layer_is = j ∙ ap layer_of (sym n);
          none_due = λ e. absurd (true≢false (sym e));
        }

    -- how many it lists then
    long_now : Admits r a → length (opening (key_of r) r.k (suc v)) ≤ length l
    long_now h =
        let n : a.left.reservoir.n ≡ suc v = h.n_is ∙ rw d (add-one v) in
        let e : listed a.left.reservoir a.left.list ≡ opening (key_of r) r.k (suc v) = (lists_now h).listed_is ∙ (λ i. opening (h.key_is i) (h.k_is i) (n i)) in
        omega (arith, ap length e, used_is a.left.reservoir a.left.list h.kept, h.kept.used_le, admit_length r l)

    v_due : AdmitAnew r l b a
    v_due =
        ⊎_elim
        (λ (h : Short r l a).
        let w : h.v ≡ v = some_is h.v v (sym h.is_due ∙ d) in
        let i : h.j ≡ layer_of (suc v) = ends_layer r l s b now v d h.j h.at_layer in
        let e : held (key_of r) h.j r.k (h.v + 1) ≡ opening (key_of r) r.k (suc v) =
        (λ t. held (key_of r) (i t) r.k ((ap (λ (u : ℕ). u + 1) w ∙ add-one v) t)) ∙ held_opening (key_of r) r.k (suc v) v_small in
        finds_short v d (omega (arith, h.short, ap length e)) h.is_refused)
        (λ (h : Admits r a). brings_in v d (long_now h) (not_yet b now.none_due) h (lists_now h))
        (admit_kept r l s)

  admit_by : (o : Option ℕ) → due (key_of r) r.k r.n ≡ o → AdmitAnew r l b a
  admit_by none d = none_due d
  admit_by (some v) d = v_due v d

-- THE LAW
pub admit_anew : (r : ConsistentReservoir) (l : List ℕ) → Kept r l → (b : Bool) → Anew r l b → AdmitAnew r l b (admit_call r l)
admit_anew r l s b now = admit_by r l s b now (due (key_of r) r.k r.n) refl

-- an accepted open begins so
pub open_anew : (key k n : ℕ) (r : ConsistentReservoir) (l : List ℕ) → Opened key k n r l → Anew r l false
open_anew key k n r l o =
    let j : j_of r ≡ layer_of r.n = o.layer_is ∙ ap layer_of (sym o.n_is) in
    record {
      listed_is = o.kept.list_is ∙ ap (λ (i : ℕ). held (key_of r) i r.k r.n) j ∙ held_opening (key_of r) r.k r.n (n_in r l o.kept);
      layer_is = j;
      none_due = λ e. absurd (true≢false (sym e));
    }
