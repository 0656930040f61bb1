-- Passes over the bytes of a slot map's table, a turn of each loop as a law.
-- Assumes nothing.
use mathlib.Core.Path.{◌≡◌, refl, sym, ap, subst, ◌∙◌}
use mathlib.Core.Logic.{◌≢◌}
use mathlib.Core.Bool.{Bool, true, false, not, true≢false, ◌&&◌}
use mathlib.Core.List.{List, [], ◌∷◌, ◌++◌}
use Rattle.std.specs.Prelude.{◌↔◌, Contains}
use Rattle.std.proofs.lemmas.Grind.{get_or_default_zero}
use Rattle.std.specs.Prelude.{Option, Some, None, unwrap_or, option_map}
use Rattle.std.specs.Option.{option_eq}
use Rattle.std.specs.Bool.{MatchBool}
use Rattle.std.specs.Option.{MatchOption, is_some}
use Rattle.std.specs.Fn.{CalledAt}
use Rattle.std.specs.List.{sum_by}
use Rattle.std.specs.Iterator.{Yields}
use Rattle.std.specs.Iterator.Adapters.{take_while_source, take_while_done, take_while_callee, take_while_steps}
use Rattle.std.specs.Slice.Iter.{chunks_exact_rest, chunks_exact_size, chunks_exact_steps}
use Rattle.std.proofs.lemmas.List.Sums.{sum_by_more}
use Rattle.std.specs.declared.iter.TakeWhile.{TakeWhile}
use Rattle.std.specs.declared.slice.ChunksExact.{ChunksExact}
use denote.Ref.{Bor}
use denote.Param.Members.{Mut}
use mathlib.Core.Option as maybe
use Prim.Native.Nat.{ℕ, zero, suc, ◌+◌, ◌-◌, ◌*◌, ◌≤◌, ◌<◌, max, min}
use native.Mathlib.Numerals.{add-one}
use native.Mathlib.Omega.{arith}
use borrow.Author.Tests.{lt-ltb, le-ltb, le-leb, lt-leb, eq-eqb, ne_eqb, ltb-true, eqb-true, leb-true}
use lib.Dec.{ltb, leb, eqb}
use lib.ListN.{length, get_or, take, drop, length-drop, length-append, get_or-append, get_or-eq_default}
use lib.Seq.{take-suc, take_all, length-take-le, get_or-drop, get_or-take, drop-append_seam, drop-drop}
use Rattle.lists.specs.Lists.{keep, occurrences, zero_to, every, not_below, first_from}
use Rattle.lists.proofs.Tests.{by_below, by_same}
use Rattle.lists.proofs.Keeping.{both, keep_same}
use Rattle.lists.proofs.Members.{keep_none, occurrences_keep_yes}
use Rattle.lists.proofs.Prefixes.{keep_snoc_yes, keep_snoc_no}
use Rattle.lists.proofs.Ranges.{zero_to_snoc, occurrences_from, every_snoc, every_place}
use Rattle.lists.proofs.Searching.{by_first, first_some, first_none}
use Rattle.choosers.specs.Slots.{active, deleted, actives, vacant}
use Rattle.choosers.specs.SlotCalls.{at_most_one}
use Rattle.choosers.specs.InnerSlots.{Taken}

-- ---- active and deleted, from facts and back

pub active_yes : (t : List ℕ) (c x : ℕ) → x < c → get_or t x 0 ≡ 1 → active t c x ≡ true
unfolding active
active_yes t c x h e = rw (lt-ltb x c h, e)

pub active_over : (t : List ℕ) (c x : ℕ) → c ≤ x → active t c x ≡ false
unfolding active
active_over t c x h = rw (le-ltb x c h)

pub active_byte : (t : List ℕ) (c x : ℕ) → x < c → active t c x ≡ eqb (get_or t x 0) 1
unfolding active
active_byte t c x h = rw (lt-ltb x c h)

pub active_no : (t : List ℕ) (c x : ℕ) → get_or t x 0 ≢ 1 → active t c x ≡ false
active_no t c x d = by_below x c (λ h. active_byte t c x h ∙ ne_eqb (get_or t x 0) 1 d) (λ h. active_over t c x h)

-- an active slot is below the count, and its byte is 1
pub active→ : (t : List ℕ) (c x : ℕ) → active t c x ≡ true → (x < c) × (get_or t x 0 ≡ 1)
unfolding active
active→ t c x e =
    let b = both (ltb x c) (eqb (get_or t x 0) 1) e in
    (ltb-true x c b.0, eqb-true (get_or t x 0) 1 b.1)

-- two tables and counts that agree on x
pub active_same : (t u : List ℕ) (c d x : ℕ) → ltb x c ≡ ltb x d → get_or t x 0 ≡ get_or u x 0 → active t c x ≡ active u d x
unfolding active
active_same t u c d x e h = rw (e, h)

pub deleted_byte : (t : List ℕ) (c x : ℕ) → x < c → deleted t c x ≡ eqb (get_or t x 0) 0
unfolding deleted
deleted_byte t c x h = rw (lt-ltb x c h)

-- the byte that a read of the table gives, if it is there, is 1
pub reads_one : (o : Option (Bor ℕ)) (one : Bor ℕ) (b : ℕ) → one.now ≡ 1 → unwrap_or (option_map (λ x. x.now) o) 0 ≡ b → option_eq (λ x y. eqb x.now y.now) o (Some one) ≡ eqb b 1
reads_one None one b e q = ap (λ (b : ℕ). eqb b 1) q
reads_one (Some x) one b e q = ap (eqb x.now) e ∙ ap (λ (b : ℕ). eqb b 1) q

-- ---- small: no byte above 1, by the largest so far

leb_max : (a b : ℕ) → leb (max a b) 1 ≡ (leb a 1 && leb b 1)
leb_max a b =
    by_below a 2
    (λ p. by_below b 2
    (λ q. rw (le-leb (max a b) 1 (omega arith), le-leb a 1 (omega arith), le-leb b 1 (omega arith)))
    (λ q. rw (lt-leb (max a b) 1 (omega arith), le-leb a 1 (omega arith), lt-leb b 1 (omega arith))))
    (λ p. rw (lt-leb (max a b) 1 (omega arith), lt-leb a 1 (omega arith)))

pub small_none : every at_most_one [] ≡ leb 0 1
unfolding every
small_none = refl

pub small_turn : (t : List ℕ) (i a r : ℕ) → i < length t → r ≡ max a (get_or t i 0) → every at_most_one (take i t) ≡ leb a 1 → every at_most_one (take (i + 1) t) ≡ leb r 1
small_turn t i a r h e q = rw (add-one, take-suc t i 0 h, every_snoc at_most_one (take i t) (get_or t i 0), q, e) (sym (leb_max a (get_or t i 0)))

-- ---- full: no byte is 0, by the smallest so far

leb_min : (a b : ℕ) → leb 1 (min a b) ≡ (leb 1 a && leb 1 b)
leb_min a b =
    by_below a 1
    (λ p. rw (lt-leb 1 (min a b) (omega arith), lt-leb 1 a (omega arith)))
    (λ p. by_below b 1
    (λ q. rw (lt-leb 1 (min a b) (omega arith), le-leb 1 a (omega arith), lt-leb 1 b (omega arith)))
    (λ q. rw (le-leb 1 (min a b) (omega arith), le-leb 1 a (omega arith), le-leb 1 b (omega arith))))

pub full_none : every (not_below 1) [] ≡ leb 1 255
unfolding every
full_none = refl

pub full_turn : (t : List ℕ) (i a r : ℕ) → i < length t → r ≡ min a (get_or t i 0) → every (not_below 1) (take i t) ≡ leb 1 a → every (not_below 1) (take (i + 1) t) ≡ leb 1 r
unfolding not_below
full_turn t i a r h e q =
    rw (add-one, take-suc t i 0 h, every_snoc (not_below 1) (take i t) (get_or t i 0), q, e) (sym (leb_min a (get_or t i 0)))

-- by cases: the lowest deleted slot, or the count
pub by_vacant : {C : Type 0} (t : List ℕ) (c : ℕ) → (vacant t c < c → get_or t (vacant t c) 0 ≡ 0 → C) → (vacant t c ≡ c → C) → C
unfolding vacant
by_vacant t c f g =
    by_first (deleted t c) 0 c
    (λ i e l h y b. let v : maybe.get_or (first_from (deleted t c) 0 c) c ≡ i = ap (λ (o : maybe.Option ℕ). maybe.get_or o c) e in
    f (omega arith) (ap (λ (x : ℕ). get_or t x 0) v ∙ eqb-true (get_or t i 0) 0 (sym (deleted_byte t c i (omega arith)) ∙ y)))
    (λ e b. g (ap (λ (o : maybe.Option ℕ). maybe.get_or o c) e))

-- ---- lowest: no byte below x is 0

-- i bytes more
pub taken_on : (t : List ℕ) (x i : ℕ) → Taken t x → Taken (drop x t) i → Taken t (x + i)
taken_on t x i taken more j h =
    by_below j x
    (λ l. taken j l)
    (λ l z. more (j - x) (omega arith) (get_or-drop x t (j - x) 0 ∙ ap (λ (k : ℕ). get_or t k 0) (omega arith) ∙ z))

-- a block that begins at x has no 0
block_turn : (t rest block more : List ℕ) (x : ℕ) → rest ≡ drop x t → x ≤ length t → Taken t x → rest ≡ block ++ more → length block ≡ 32 → every (not_below 1) block ≡ true
    → (more ≡ drop (x + 32) t) × (x + 32 ≤ length t) × Taken t (x + 32)
unfolding not_below
block_turn t rest block more x e l taken cut long full =
    let is : drop x t ≡ block ++ more = sym e ∙ cut in
    let all : every (not_below 1) (take (length block) block) ≡ true = ap (every (not_below 1)) (take_all (length block) block (omega arith)) ∙ full in (
      sym (drop-append_seam block more) ∙ ap (λ (n : ℕ). drop n (block ++ more)) long ∙ ap (drop 32) (sym is) ∙ drop-drop 32 x t,
      omega (arith, length-drop x t, length-append block more, ap length is),
      taken_on t x 32 taken (λ i h z.
          let b : 1 ≤ get_or block i 0 = leb-true 1 (get_or block i 0) (every_place (not_below 1) block (length block) i all (omega arith) (omega arith)) in
          omega (arith, b, ap (λ (u : List ℕ). get_or u i 0) is, get_or-append block more 0 i (omega arith), z)),
    )

-- a block that the pass takes comes next, and has no 0; over all that it takes
module _ {F : Type 0} (g : Mut F (Bor (Bor (List ℕ)) × Unit {0}) Bool) (f : F)
    (tests : (x : Bor (List ℕ)) (b : Bool) (q : F) → CalledAt g f x b q → (q ≡ f) × (b ≡ every (not_below 1) x.now)) (t : List ℕ) where
  abbrev Pass : Type 0
  Pass = TakeWhile (ChunksExact ℕ) F

  abbrev Comes : Pass → Pass → Bor (List ℕ) → Type 0
  Comes s w x = chunks_exact_steps {A = ℕ} (take_while_source s) (Some x) (take_while_source w) × (every (not_below 1) x.now ≡ true) × (take_while_callee w ≡ f)

  abbrev Turn : Pass → Pass → Bor (List ℕ) → Option (Bor (List ℕ)) → Type 0
  Turn s w x o = MatchOption o ((Some x ≡ None) × (take_while_done w ≡ false))
      (λ y. (b : Bool) × CalledAt g (take_while_callee s) y b (take_while_callee w) × MatchBool b ((Some x ≡ Some y) × (take_while_done w ≡ false)) ((Some x ≡ None) × (take_while_done w ≡ true)))

  turn : (s w : Pass) (x : Bor (List ℕ)) (o : Option (Bor (List ℕ))) → take_while_callee s ≡ f → chunks_exact_steps {A = ℕ} (take_while_source s) o (take_while_source w) → Turn s w x o → Comes s w x
  turn s w x None c a p = absurd (true≢false (ap is_some p.0))
  turn s w x (Some y) c a (false, l, p) = absurd (true≢false (ap is_some p.0))
  turn s w x (Some y) c a (true, l, p) =
      let e : y ≡ x = ap (unwrap_or_else y) (sym p.0) in
      let q = tests y true (take_while_callee w) (subst (λ z. CalledAt g z y true (take_while_callee w)) c l) in
      (subst (λ z. chunks_exact_steps {A = ℕ} (take_while_source s) (Some z) (take_while_source w)) e a, subst (λ z. every (not_below 1) z.now ≡ true) e (sym q.1), q.0)
    where
      unwrap_or_else : Bor (List ℕ) → Option (Bor (List ℕ)) → Bor (List ℕ)
      unwrap_or_else z None = z
      unwrap_or_else z (Some v) = v

  comes : (s w : Pass) (x : Bor (List ℕ)) (d : Bool) → take_while_callee s ≡ f
      → MatchBool d ((Some x ≡ None) × (w ≡ s)) ((o : Option (Bor (List ℕ))) × chunks_exact_steps {A = ℕ} (take_while_source s) o (take_while_source w) × Turn s w x o) → Comes s w x
  comes s w x true c p = absurd (true≢false (ap is_some p.0))
  comes s w x false c (o, a, p) = turn s w x o c a p

  pub blocks_taken : (xs : List (Bor (List ℕ))) (s w : Pass) (x : ℕ) → take_while_callee s ≡ f → chunks_exact_size (take_while_source s) ≡ 32 → chunks_exact_rest (take_while_source s) ≡ drop x t
      → x ≤ length t → Taken t x → Yields (take_while_steps (chunks_exact_steps {A = ℕ}) g) s xs w → Taken t (x + 32 * length xs)
  blocks_taken [] s w x c size rest l taken p = subst (Taken t) (omega arith) taken
  blocks_taken (y ∷ ys) s w x c size rest l taken (j, p, q) =
      let m = comes s j y (take_while_done s) c p in
      let b = block_turn t _ y.now _ x rest l taken m.0.1.0 (m.0.1.1 ∙ size) m.1 in
      subst (Taken t) (omega arith) (blocks_taken ys j w (x + 32) m.2 (m.0.0 ∙ size) b.0 b.1 b.2 q)

-- the lowest 0 of those from x on
pub lowest_some : (t : List ℕ) (x i : ℕ) → x ≤ length t → Taken t x → i < length (drop x t) → get_or (drop x t) i 0 ≡ 0 → Taken (drop x t) i
    → (x + i < length t) × (get_or t (x + i) 0 ≡ 0) × Taken t (x + i)
lowest_some t x i l taken h z more = (omega (arith, length-drop x t), sym (get_or-drop x t i 0) ∙ z, taken_on t x i taken more)

pub lowest_none : (t : List ℕ) (x : ℕ) → x ≤ length t → Taken t x → Taken (drop x t) (length (drop x t)) → Taken t (length t)
lowest_none t x l taken more i h = taken_on t x (length (drop x t)) taken more i (omega (arith, length-drop x t))

-- ---- sum: how many of the slots below i are active

abbrev active_below : List ℕ → ℕ → ℕ → ℕ
active_below t c i = length (keep (active t c) (zero_to i))

active_all : (t : List ℕ) (c : ℕ) → active_below t c c ≡ length (actives t c)
unfolding actives
active_all t c = refl

-- slot i counts as its byte, which is 0 or 1
more_yes : (t : List ℕ) (c i : ℕ) → i < c → get_or t i 0 ≡ 1 → active_below t c (i + 1) ≡ suc (active_below t c i)
more_yes t c i h e = ap (λ (r : List ℕ). length (keep (active t c) r)) (zero_to_snoc i) ∙ keep_snoc_yes (active t c) (zero_to i) i (active_yes t c i h e)

more_no : (t : List ℕ) (c i : ℕ) → get_or t i 0 ≢ 1 → active_below t c (i + 1) ≡ active_below t c i
more_no t c i d = ap (λ (r : List ℕ). length (keep (active t c) r)) (zero_to_snoc i) ∙ keep_snoc_no (active t c) (zero_to i) i (active_no t c i d)

byte_small : (t : List ℕ) (i : ℕ) → every at_most_one t ≡ true → i < length t → get_or t i 0 ≤ 1
byte_small t i e h =
    leb-true (get_or t i 0) 1 (every_place at_most_one t (length t) i (rw (take_all (length t) t (omega arith)) e) h (omega arith))

sum_to : (t : List ℕ) → every at_most_one t ≡ true → (i : ℕ) → i ≤ length t → sum_by (λ b. b) (take i t) ≡ active_below t (length t) i
sum_to t small zero h = refl
sum_to t small (suc i) h =
    let ih = sum_to t small i (omega arith) in
    let step : sum_by (λ b. b) (take (suc i) t) ≡ sum_by (λ b. b) (take i t) + get_or t i 0
    = ap (λ (k : ℕ). sum_by (λ b. b) (take k t)) (sym (add-one i)) ∙ sum_by_more (λ b. b) t i 0 h in
    let on : active_below t (length t) (suc i) ≡ active_below t (length t) (i + 1) = ap (active_below t (length t)) (sym (add-one i)) in
    by_same (get_or t i 0) 1
    (λ e. omega (arith, more_yes t (length t) i h e))
    (λ d. omega (arith, more_no t (length t) i d, byte_small t i small h))

-- the sum of all bytes
pub sum_all : (t : List ℕ) → every at_most_one t ≡ true → sum_by (λ b. b) t ≡ length (actives t (length t))
sum_all t small =
    ap (sum_by (λ b. b)) (sym (take_all (length t) t (omega arith))) ∙ sum_to t small (length t) (omega arith) ∙ active_all t (length t)

not_empty : (x : ℕ) (xs : List ℕ) → 0 < occurrences x xs → true ≡ not (eqb (length xs) 0)
not_empty x [] h = absurd (omega arith)
not_empty x (y ∷ xs) h = rw (ne_eqb (length (y ∷ xs)) 0 (λ e. omega arith))

-- ---- the bytes u of the slots below the count c, in place of the table t

module _ (t u : List ℕ) (c : ℕ) (is : u ≡ take c t) (within : c ≤ length t) where
  long : length u ≡ c
  long = ap length is ∙ length-take-le c t within

  byte_is : (i : ℕ) → i < c → get_or u i 0 ≡ get_or t i 0
  byte_is i h = ap (λ (u : List ℕ). get_or u i 0) is ∙ get_or-take c t i 0 h

  pub actives_front : actives u (length u) ≡ actives t c
  unfolding actives
  actives_front =
      rw long
      (keep_same (active u c) (active t c)
      (λ x. by_below x c
      (λ h. active_same u t c c x refl (byte_is x h))
      (λ h. active_over u c x h ∙ sym (active_over t c x h)))
      (zero_to c))

  deleted_no : (i : ℕ) → i < c → get_or u i 0 ≢ 0 → deleted t c i ≡ false
  deleted_no i h d = deleted_byte t c i h ∙ ne_eqb (get_or t i 0) 0 (λ e. d (byte_is i h ∙ e))

  -- the lowest 0 of them is the lowest deleted slot
  pub vacant_some : (x : ℕ) → x < length u → get_or u x 0 ≡ 0 → Taken u x → x ≡ vacant t c
  unfolding vacant
  vacant_some x l z taken =
      let h : x < c = omega (arith, long) in
      sym (ap (λ (o : maybe.Option ℕ). maybe.get_or o c) (first_some (deleted t c) x 0 c (omega arith) (omega arith)
      (deleted_byte t c x h ∙ eq-eqb (get_or t x 0) 0 (sym (byte_is x h) ∙ z))
      (λ i g k. deleted_no i (omega arith) (taken i k))))

  pub vacant_none : Taken u (length u) → c ≡ vacant t c
  unfolding vacant
  vacant_none taken =
      sym (ap (λ (o : maybe.Option ℕ). maybe.get_or o c) (first_none (deleted t c) 0 c
      (λ i g k. deleted_no i (omega arith) (taken i (omega (arith, long))))))

  -- where one of them is 1, a slot is active
  pub some_active : (b : Bool) → ((b ≡ true) ↔ Contains u 1) → b ≡ not (eqb (length (actives t c)) 0)
  unfolding actives
  some_active true f =
      let (i, h, e) = f.0 refl in
      let l : i < c = omega (arith, long) in
      let y : active t c i ≡ true = active_yes t c i l (sym (byte_is i l) ∙ sym (get_or_default_zero u i 1 h) ∙ e) in
      not_empty i (keep (active t c) (zero_to c)) (omega (arith, occurrences_keep_yes (active t c) i (zero_to c) y, occurrences_from i 0 c (omega arith) (omega arith)))
  some_active false f =
      let none : keep (active t c) (zero_to c) ≡ []
      = keep_none (active t c) (zero_to c) (λ x _.
      by_below x c
      (λ l. active_byte t c x l ∙ ne_eqb (get_or t x 0) 1 (λ e.
      let h : x < length u = omega (arith, long) in
      true≢false (sym (f.1 (x, h, get_or_default_zero u x 1 h ∙ byte_is x l ∙ e)))))
      (λ l. active_over t c x l)) in
      ap (λ (xs : List ℕ). not (eqb (length xs) 0)) (sym none)

  -- a slot is active where its byte is there and is 1
  pub slot_active : (x : ℕ) → active t c x ≡ eqb (get_or u x 0) 1
  slot_active x =
      by_below x c
      (λ h. active_byte t c x h ∙ ap (λ (b : ℕ). eqb b 1) (sym (byte_is x h)))
      (λ h. active_over t c x h ∙ ap (λ (b : ℕ). eqb b 1) (sym (get_or-eq_default u 0 (omega (arith, long)))))
