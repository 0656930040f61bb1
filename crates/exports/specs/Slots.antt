-- How a slot map's answers cross to C and Rust, as one number. The map is its slot count, which the caller keeps beside the
-- table.
-- Assumes nothing.
use Rattle.std.specs.Prelude.{◌≡◌, List, ℕ, ◌+◌, ◌*◌, ◌^◌, ◌≤◌}
use Rattle.choosers.specs.SlotCalls.{map_of, add_call, remove_call}
use Rattle.exports.specs.Coded.{coded_by}
use Rattle.exports.specs.Crossings.{Crossed, crossed}

-- the count after it times 2^32 plus the slot: both are below 2^17
unfoldable pub add_crossed : ℕ → List ℕ → Crossed (List ℕ)
add_crossed c t =
    let a = add_call (map_of c) t in
    crossed (coded_by (λ x. a.left.map.total * 2 ^ 32 + x) a.answer) a.left.table

-- the count after it
unfoldable pub remove_crossed : ℕ → ℕ → List ℕ → Crossed (List ℕ)
remove_crossed x c t =
    let a = remove_call (map_of c) t x in
    crossed (coded_by (λ u. a.left.map.total) a.answer) a.left.table

-- a get that answers a refusal leaves the scratch
abbrev pub ScratchAfter : ℕ → List ℕ → List ℕ → Type 0
ScratchAfter a before now = 2 ^ 63 ≤ a → now ≡ before
