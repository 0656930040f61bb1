-- The inverse by a layer's record: the rounds that are more undone, then its four. It undoes any such record both ways (`keyed_undo`).
-- Assumes nothing.
use Rattle.std.proofs.Common.{◌≡◌, ℕ, ◌+◌, ◌%◌, ◌<◌, refl, sym, ap, ◌∙◌, subst, mod-eq_of_lt, arith}
use Rattle.lists.proofs.Numbers.{xor_cancel}
use Rattle.layers.specs.declared.feistel.Halves.{Halves}
use Rattle.layers.specs.declared.KeyedLayer.{KeyedLayer}
use Rattle.layers.specs.Layer.{size, start, rounds, over}
use Rattle.layers.specs.Inverses.{input_of}
use Rattle.layers.specs.InnerRounds.{Within}
use Rattle.layers.specs.KeyedLayers.{keyed_layer, new_right, applied, reach, Inverts, InputAt, KeyedUndo}
use Rattle.layers.specs.Permutations.{under, last_key, back}
use Rattle.layers.proofs.RoundLaws.{new_lt, start_within, rounds_within, over_lt}
use Rattle.layers.proofs.Inverse.{back_rounds, back_any, back_under, rounds_back, back_within}
use Rattle.layers.proofs.Permutes.{over_start, start_over, over_under}
use Rattle.layers.proofs.KeyedLaws.{keyed_layer_lem}
use Rattle.layers.proofs.InverseLaws.{layers_undo}

-- ---- the four rounds by the record's numbers

unfoldable pub four : ℕ → KeyedLayer → Halves → Halves
four h f s =
    let a = new_right h s.l s.r f.first.xor f.first.mul in
    let b = new_right h s.r a f.second.xor f.second.mul in
    let c = new_right h a b f.third.xor f.third.mul in
    record { l = c; r = new_right h b c f.fourth.xor f.fourth.mul; key = f.key }

unfoldable pub unfour : ℕ → KeyedLayer → Halves → Halves
unfour h f t =
    let b = new_right h t.r t.l f.fourth.xor f.fourth.mul in
    let a = new_right h t.l b f.third.xor f.third.mul in
    let r = new_right h b a f.second.xor f.second.mul in
    record { l = new_right h a r f.first.xor f.first.mul; r = r; key = f.key }

new_back : (h l r x m : ℕ) → new_right h (new_right h l r x m) r x m ≡ l
unfolding new_right
new_back h l r x m = xor_cancel l _

four_unfour : (h : ℕ) (f : KeyedLayer) (t : Halves) → four h f (unfour h f t) ≡ under f.key t
unfolding four unfour
four_unfour h f t =
    let b = new_right h t.r t.l f.fourth.xor f.fourth.mul in
    let a = new_right h t.l b f.third.xor f.third.mul in
    let r = new_right h b a f.second.xor f.second.mul in
    rw (new_back h a r f.first.xor f.first.mul, new_back h b a f.second.xor f.second.mul, new_back h t.l b f.third.xor f.third.mul, new_back h t.r t.l f.fourth.xor f.fourth.mul) refl

unfour_four : (h : ℕ) (f : KeyedLayer) (s : Halves) → unfour h f (four h f s) ≡ under f.key s
unfolding four unfour
unfour_four h f s =
    let a = new_right h s.l s.r f.first.xor f.first.mul in
    let b = new_right h s.r a f.second.xor f.second.mul in
    let c = new_right h a b f.third.xor f.third.mul in
    rw (new_back h b c f.fourth.xor f.fourth.mul, new_back h a b f.third.xor f.third.mul, new_back h s.r a f.second.xor f.second.mul, new_back h s.l s.r f.first.xor f.first.mul) refl

four_within : (h : ℕ) (f : KeyedLayer) (s : Halves) → Within h s → Within h (four h f s)
unfolding four
four_within h f s w =
    let a = new_lt h s.l s.r f.first.xor f.first.mul w.left in
    let b = new_lt h s.r _ f.second.xor f.second.mul w.right in
    record { left = new_lt h _ _ f.third.xor f.third.mul a; right = new_lt h _ _ f.fourth.xor f.fourth.mul b }

unfour_within : (h : ℕ) (f : KeyedLayer) (t : Halves) → Within h t → Within h (unfour h f t)
unfolding unfour
unfour_within h f t w =
    let b = new_lt h t.r t.l f.fourth.xor f.fourth.mul w.right in
    let a = new_lt h t.l _ f.third.xor f.third.mul w.left in
    record { left = new_lt h _ _ f.first.xor f.first.mul a; right = new_lt h _ _ f.second.xor f.second.mul b }

-- ---- the whole

-- the halves that y comes from
unfoldable pub unapplied : KeyedLayer → ℕ → Halves
unapplied f y = let h = f.half % 16 in unfour h f (back h f.more f.key (start h f.key y))

-- as code comes to them
pub unapplied_is : (f : KeyedLayer) (y : ℕ) (t : Halves) (b a r l : ℕ) → let h = f.half % 16 in
    t ≡ back h f.more f.key (start h f.key y) → b ≡ new_right h t.r t.l f.fourth.xor f.fourth.mul → a ≡ new_right h t.l b f.third.xor f.third.mul
    → r ≡ new_right h b a f.second.xor f.second.mul → l ≡ new_right h a r f.first.xor f.first.mul → ◌≡◌ {A = Halves} (record { l = l; r = r; key = f.key }) (unapplied f y)
unfolding unapplied unfour
unapplied_is f y t b a r l e eb ea er el = rw (el, er, ea, eb, e) refl

pub unapplied_within : (f : KeyedLayer) (y : ℕ) → Within (f.half % 16) (unapplied f y)
unfolding unapplied
unapplied_within f y = let h = f.half % 16 in unfour_within h f _ (back_within h f.more f.key _ (start_within h f.key y))

four_under : (h K : ℕ) (f : KeyedLayer) (s : Halves) → four h f (under K s) ≡ four h f s
unfolding four
four_under h K f s = refl

back_four : (h n : ℕ) (f : KeyedLayer) (s : Halves) → back h n f.key (rounds h n (four h f s)) ≡ four h f s
unfolding four
back_four h n f s = back_rounds h n (four h f s)

applied_four : (f : KeyedLayer) (x : ℕ) → let h = f.half % 16 in applied f x ≡ over h (rounds h f.more (four h f (start h f.key x)))
unfolding applied four
applied_four f x = refl

applied_lt : (f : KeyedLayer) (x : ℕ) → applied f x < reach f
applied_lt f x =
    let h = f.half % 16 in
    rw (applied_four f x) (over_lt h _ (rounds_within h f.more _ (four_within h f _ (start_within h f.key x))))

applied_back : (f : KeyedLayer) (y : ℕ) → applied f (over (f.half % 16) (unapplied f y)) ≡ y % reach f
unfolding unapplied
applied_back f y =
    let h = f.half % 16 in
    let n = f.more in
    let K = f.key in
    let s = start h K y in
    let t = back h n K s in
    let u = unfour h f t in
    applied_four f (over h u)
    ∙ ap (λ (z : Halves). over h (rounds h n z))
    (ap (four h f) (start_over h K u (unfour_within h f t (back_within h n K s (start_within h K y))))
    ∙ four_under h K f u ∙ four_unfour h f t ∙ back_under h n K s)
    ∙ ap (over h) (rounds_back h n K s) ∙ over_under h (last_key h n K) s ∙ over_start h K y

back_applied : (f : KeyedLayer) (x : ℕ) → over (f.half % 16) (unapplied f (applied f x)) ≡ x % reach f
unfolding unapplied
back_applied f x =
    let h = f.half % 16 in
    let n = f.more in
    let K = f.key in
    let s = start h K x in
    let r = rounds h n (four h f s) in
    ap (λ (z : ℕ). over h (unfour h f (back h n K (start h K z)))) (applied_four f x)
    ∙ ap (λ (z : Halves). over h (unfour h f (back h n K z))) (start_over h K r (rounds_within h n _ (four_within h f s (start_within h K x))))
    ∙ ap (λ (z : Halves). over h (unfour h f z)) (back_any h n K K r ∙ back_four h n f s)
    ∙ ap (over h) (unfour_four h f s) ∙ over_under h K s ∙ over_start h K x

-- what the code comes to
pub inverts : (f : KeyedLayer) (y : ℕ) → Inverts f y (over (f.half % 16) (unapplied f y))
inverts f y = record { below = over_lt (f.half % 16) _ (unapplied_within f y); gives = applied_back f y }

-- the whole claim
inverse_is : (f : KeyedLayer) (y x : ℕ) → Inverts f y x → x ≡ over (f.half % 16) (unapplied f (applied f x))
inverse_is f y x i = sym (back_applied f x ∙ mod-eq_of_lt i.below)

pub keyed_undo : (f : KeyedLayer) → KeyedUndo f
keyed_undo f = record {
  back = λ x z i. inverse_is f (applied f x) z i ∙ ap (λ (y : ℕ). over (f.half % 16) (unapplied f y)) (i.gives ∙ mod-eq_of_lt (applied_lt f x)) ∙ back_applied f x;
  forth = λ y x i. i.gives;
  only = λ y x z i j. inverse_is f y x i ∙ ap (λ (u : ℕ). over (f.half % 16) (unapplied f u)) (i.gives ∙ sym j.gives) ∙ sym (inverse_is f y z j);
}

-- of the record of a layer
pub input_at : (f : KeyedLayer) (y x : ℕ) → Inverts f y x → InputAt f y x
input_at f y x i j key p e =
    let m : (j + 1) % 16 ≡ j + 1 = omega arith in
    let g : Inverts (keyed_layer j key) y x = subst (λ (r : KeyedLayer). Inverts r y x) e i in
    let b : x < size j = rw m at g.below in
    let v : applied (keyed_layer j key) x ≡ y % size j = rw m at g.gives in
    sym ((layers_undo j key).back x b) ∙ ap (input_of j key) (sym (keyed_layer_lem j key x (omega arith)) ∙ v)
