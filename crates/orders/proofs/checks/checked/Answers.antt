-- `orders::checks::checked` meets its contract.
-- Assumes nothing.
use mathlib.Core.Path.{◌≡◌, ap, ◌∙◌}
use mathlib.Core.Bool.{true, false}
use native.Mathlib.Omega.{arith}
use borrow.Author.Tests.{lt-ltb, le-ltb, lt-leb, le-leb, eq-eqb, ne_eqb}
use lib.ListN.{length}
use Rattle.lists.specs.Lists.{last}
use Rattle.layers.specs.Layer.{size}
use Rattle.orders.specs.ReservoirCalls.{listed}
use Rattle.orders.proofs.LogLaws.{size_suc, size_in}
use Rattle.orders.proofs.CheckLaws.{Shape, shape_of, close_of, count_le, no_shape, no_close, yes_close}
use Rattle.orders.proofs.checks.checked.Goals as goal
use Rattle.orders.proofs.checks.checked.Goals.{Else-list-r, In_ok-layer, After-survey_list-s}
use Rattle.orders.proofs.checks.checked.Goals.{then-r-eq0-via-then-r-eq0, then-r-eq0-via-else-r-eq0+then-r, then-r-eq0-via-else-r-eq0+else-r+then-size-r, then-r-eq0-via-else-r-eq0+else-r+else-size-r+then-list-r}
use Rattle.orders.proofs.checks.checked.Goals.{then-s-r-via-then-s-r, then-s-r-via-else-s-r+then-size-s, then-s-r-via-else-s-r+else-size-s+then-r-listed}

-- the record's numbers are in order, once they are tested
shape : (c : Else-list-r) → Shape c.args.r (length c.args.list.now)
shape c =
    let j = c.in_ok-layer.layer in
    record {
      j_low = omega (arith, j.below, c.in_ok-layer.ensures);
      some_k = omega arith;
      k_le = c.if-r.false;
      n_le = omega (arith, c.if-size-r.false, c.size.ensures, ap size c.in_ok-layer.ensures, size_suc c.args.r.j_max);
      used_le = c.if-list-r.false;
    }

pub returns-in_err-layer : goal.returns-in_err-layer
unfolding shape_of
returns-in_err-layer c =
    let r = c.args.r in
    let is : shape_of r (length c.args.list.now) ≡ false = simp (lt-leb r.j_max 14 (omega (arith, c.in_err-layer.ensures))) in
    c.from_residual.ensures ∙ no_shape _ _ is

pub returns-then-r-eq0 : goal.returns-then-r-eq0
unfolding shape_of
returns-then-r-eq0 c =
    let r = c.args.r in
    let len = length c.args.list.now in
    let j = le-leb r.j_max 14 (omega (arith, c.in_ok-layer.layer.below, c.in_ok-layer.ensures)) in
    let is : shape_of r len ≡ false =
    elim c.then-r-eq0.branch [
      | then-r-eq0-via-then-r-eq0 w ↦ simp (j, lt-leb 1 r.k (omega arith))
      | then-r-eq0-via-else-r-eq0+then-r w ↦ simp (j, le-leb 1 r.k (omega arith), lt-leb r.k r.n (omega arith))
      | then-r-eq0-via-else-r-eq0+else-r+then-size-r w ↦
          simp (j, le-leb 1 r.k (omega arith), le-leb r.k r.n (omega arith), lt-leb r.n (size r.j_max) (omega (arith, w.size.ensures, ap size c.in_ok-layer.ensures)))
      | then-r-eq0-via-else-r-eq0+else-r+else-size-r+then-list-r w ↦
          simp (j, le-leb 1 r.k (omega arith), le-leb r.k r.n (omega arith), le-leb r.n (size r.j_max) (omega (arith, w.size.ensures, ap size c.in_ok-layer.ensures)), lt-leb r.used len (omega arith))
    ] in
    no_shape _ _ is

pub survey_list-s-requires-clause-limit : goal.survey_list-s-requires-clause-limit
survey_list-s-requires-clause-limit c =
    let j = c.in_ok-layer.layer in
    omega (arith, c.if-size-r.false, c.size.ensures, size_in j.number j.below)

pub overflow_sub-listed : goal.overflow_sub-listed
overflow_sub-listed c = omega (arith, count_le _ _ _ c.survey_list-s.ensures)

pub bounds-listed-listed : goal.bounds-listed-listed
bounds-listed-listed c = omega (arith, count_le _ _ _ c.survey_list-s.ensures)

pub returns-then-s-r : goal.returns-then-s-r
unfolding close_of last
returns-then-s-r c =
    let r = c.args.r in
    let s = c.survey_list-s.result in
    let x = last (listed r c.args.list.now) in
    let is : close_of r s x ≡ false =
    elim c.then-s-r.branch [
      | then-s-r-via-then-s-r w ↦ simp (ne_eqb s.count r.k w.if-s-r.true)
      | then-s-r-via-else-s-r+then-size-s w ↦ simp (eq-eqb s.count r.k (omega arith), le-ltb s.high (size r.j_max) (omega (arith, w.size-else-s-r.ensures, ap size c.in_ok-layer.ensures)))
      | then-s-r-via-else-s-r+else-size-s+then-r-listed w ↦
          simp (eq-eqb s.count r.k (omega arith), lt-ltb s.high (size r.j_max) (omega (arith, w.size-else-s-r.ensures, ap size c.in_ok-layer.ensures)), le-ltb x r.n w.if-r-listed.true)
    ] in
    no_close _ _ (shape (goal.at.returns-then-s-r c).Else-list-r) _ c.survey_list-s.ensures is

pub returns : goal.returns
unfolding close_of last
returns c =
    let r = c.args.r in
    let s = c.survey_list-s.result in
    let x = last (listed r c.args.list.now) in
    let is : close_of r s x ≡ true = simp (eq-eqb s.count r.k (omega arith), lt-ltb s.high (size r.j_max) (omega (arith, c.size-else-s-r.ensures, ap size c.in_ok-layer.ensures)), lt-ltb x r.n c.if-r-listed.false) in
    yes_close _ _ (shape (goal.at.returns c).Else-list-r) _ c.survey_list-s.ensures is
