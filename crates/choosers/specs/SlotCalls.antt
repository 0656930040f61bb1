-- What the slot map's calls say and leave, on any count and any table.
-- Assumes nothing.
use Rattle.std.specs.Prelude.{◌≡◌, Bool, cond, ◌||◌, ◌&&◌, List, ℕ, ◌+◌, min, ltb, leb, eqb, length, set, take, Result, Ok, Err}
use Rattle.std.proofs.Math.Option as maybe
use Rattle.answers.specs.Answers.{Answer, refusal, result, After, after, refused}
use Rattle.lists.specs.Lists.{every, find}
use Rattle.answers.specs.declared.Refusal.{Refusal}
use Rattle.choosers.specs.declared.node_map.ConsistentNodeMap.{ConsistentNodeMap}
use Rattle.choosers.specs.Choosers.{Q}
use Rattle.choosers.specs.Slots.{active, actives, vacant, holder}

abbrev pub map_of : ℕ → ConsistentNodeMap
map_of c = record { total = c }

-- a map and its table
pub record SlotState : Type 0 where
  pub map : ConsistentNodeMap
  pub table : List ℕ

abbrev pub slot_state : ConsistentNodeMap → List ℕ → SlotState
slot_state m t = record { map = m; table = t }

-- "9 .. the count at .. 65,536"
abbrev pub slot_limit : ℕ
slot_limit = 65536

abbrev pub at_most_one : ℕ → Bool
at_most_one b = leb b 1

-- Refusal 12 is for any of these: "a table byte above 1 below the count, a count past the table or 65,536"
unfoldable pub fitting : ConsistentNodeMap → List ℕ → Bool
fitting m t = leb m.total (length t) && leb m.total slot_limit && every at_most_one (take m.total t)

-- ---- add and remove

-- "Add takes the lowest deleted slot below the count, else the count, then one higher, and sets its byte to 1". 9: "add with no
-- deleted slot and the count at the table's length, or 65,536".
unfoldable pub add_call : ConsistentNodeMap → List ℕ → After SlotState ℕ
add_call m t =
    let c = m.total in
    let x = vacant t c in
    cond (fitting m t)
    (cond (ltb x c) (after (result x) (slot_state m (set t x 1)))
    (cond (eqb c (length t) || eqb c slot_limit) (refused 9 (slot_state m t))
    (after (result c) (slot_state (map_of (c + 1)) (set t c 1)))))
    (refused 12 (slot_state m t))

-- "Remove of the last slot lowers the count by one only and writes no byte; of another it sets the byte to 0." 10: "remove of a
-- slot not active".
unfoldable pub remove_call : ConsistentNodeMap → List ℕ → ℕ → After SlotState (Unit {0})
remove_call m t x =
    let c = m.total in
    cond (fitting m t)
    (cond (active t c x)
    (cond (eqb (x + 1) c) (after (result tt) (slot_state (map_of x) t)) (after (result tt) (slot_state m (set t x 0))))
    (refused 10 (slot_state m t)))
    (refused 12 (slot_state m t))

-- ---- the slot queries

-- 12, or the result
unfoldable pub queried : {A : Type 0} → ConsistentNodeMap → List ℕ → A → Answer A
queried m t a = cond (fitting m t) (result a) (refusal 12)

abbrev pub len_call : ConsistentNodeMap → List ℕ → Answer ℕ
len_call m t = queried m t (length (actives t m.total))

abbrev pub is_empty_call : ConsistentNodeMap → List ℕ → Answer Bool
is_empty_call m t = queried m t (eqb (length (actives t m.total)) 0)

abbrev pub is_active_call : ConsistentNodeMap → List ℕ → ℕ → Answer Bool
is_active_call m t x = queried m t (active t m.total x)

-- ---- get

-- the lookup without the record's tests: of the numbers of Q(count) as many as the scratch has places
unfoldable pub look_up : ℕ → List ℕ → ℕ → ℕ → maybe.Option ℕ
look_up c t s places = find (active t c) (take places (Q s c))

-- "11 get .. with none active"
abbrev pub or_none : maybe.Option ℕ → Answer ℕ
or_none maybe.none = refusal 11
or_none (maybe.some x) = result x

-- 4: "scratch shorter than the smaller of the table's length and 65,536"
unfoldable pub get_call : ConsistentNodeMap → List ℕ → ℕ → ℕ → Answer ℕ
get_call m t s places =
    cond (fitting m t)
    (cond (ltb places (min (length t) slot_limit)) (refusal 4) (or_none (holder s t m.total)))
    (refusal 12)

-- "the scratch is free": any numbers may stand in it, as many as before
abbrev pub ScratchFree : List ℕ → List ℕ → Type 0
ScratchFree before now = length now ≡ length before

-- "the scratch is free after an accepted get .., unchanged after a refused one"
abbrev pub ScratchAfter : Result ℕ Refusal → List ℕ → List ℕ → Type 0
ScratchAfter (Ok x) before now = ScratchFree before now
ScratchAfter (Err why) before now = now ≡ before
