-- `layers::KeyedLayer::apply` meets its contract.
-- Assumes nothing.
use Rattle.std.proofs.Common.{◌≡◌, ◌^◌, ◌<◌, ap, ◌∙◌, arith}
use Rattle.layers.specs.declared.KeyedLayer.{KeyedLayer}
use Rattle.layers.specs.KeyedLayers.{applied}
use Rattle.layers.specs.InnerRounds.{Within}
use Rattle.layers.proofs.KeyedLaws.{keyed_layer_lem}
use Rattle.layers.proofs.RoundLaws.{new_lt, start_within, rounds_within}
use Rattle.layers.proofs.KeyedLayer.apply.Goals as goal

pub over-requires : goal.over-requires
over-requires c =
    let h = c.new-half.result.bits in
    let s : Within h c.start-s.result = rw c.start-s.ensures (start_within h _ _) in
    let a : c.turned-a.result < 2 ^ h = rw c.turned-a.ensures (new_lt h _ _ _ _ s.left) in
    let b : c.turned-b.result < 2 ^ h = rw c.turned-b.ensures (new_lt h _ _ _ _ s.right) in
    let left : c.turned-c.result < 2 ^ h = rw c.turned-c.ensures (new_lt h _ _ _ _ a) in
    let right : c.turned-d.result < 2 ^ h = rw c.turned-d.ensures (new_lt h _ _ _ _ b) in
    rw c.unrolled.ensures (rounds_within h _ _ (record { left = left; right = right }))

pub returns : goal.returns
unfolding applied
returns c =
    let a = c.args in
    let e : c.over.result ≡ applied a.self a.x = simp (
      c.over.ensures,
      c.unrolled.ensures,
      c.turned-d.ensures,
      c.turned-c.ensures,
      c.turned-b.ensures,
      c.turned-a.ensures,
      c.start-s.ensures,
      c.new-half.ensures,
    ) in
    record { any = e; layer = λ j key q f. e ∙ ap (λ (g : KeyedLayer). applied g a.x) f ∙ keyed_layer_lem j key a.x (omega arith) }
