-- `layers::KeyedLayer::invert` meets its contract.
-- Assumes nothing.
use Rattle.std.proofs.Common.{◌≡◌, ◌%◌, sym, subst, ℕ}
use Rattle.layers.specs.declared.feistel.Halves.{Halves}
use Rattle.layers.specs.Layer.{over}
use Rattle.layers.specs.KeyedLayers.{Inverts}
use Rattle.layers.proofs.KeyedInverse.{unapplied, unapplied_is, unapplied_within, inverts, input_at}
use Rattle.layers.proofs.KeyedLayer.invert.Goals as goal
use Rattle.layers.proofs.KeyedLayer.invert.Goals.{After-turned-l}

-- the halves that the code comes to
came : (c : After-turned-l) → ◌≡◌ {A = Halves} (record { l = c.turned-l.result; r = c.turned-r.result; key = c.args.self.key }) (unapplied c.args.self c.args.y)
came c =
    let h = c.new-half.ensures in
    unapplied_is c.args.self c.args.y _ _ _ _ _ (rw (c.start.ensures, h) at c.back-t.ensures) (rw h at c.turned-b.ensures) (rw h at c.turned-a.ensures) (rw h at c.turned-r.ensures) (rw h at c.turned-l.ensures)

pub over-requires : goal.over-requires
over-requires c =
    let s = (goal.at.over-requires c).After-turned-l in
    rw (c.new-half.ensures, came s) (unapplied_within c.args.self c.args.y)

pub returns : goal.returns
returns c =
    let a = c.args in
    let s = (goal.at.returns c).After-turned-l in
    let e : c.over.result ≡ over (a.self.half % 16) (unapplied a.self a.y) = rw (c.new-half.ensures, came s) at c.over.ensures in
    let i : Inverts a.self a.y c.over.result = subst (λ (x : ℕ). Inverts a.self a.y x) (sym e) (inverts a.self a.y) in
    record { any = i; layer = input_at a.self a.y c.over.result i }
