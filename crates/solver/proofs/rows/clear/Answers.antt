use mathlib.Core.Path.{◌≡◌, ap, ◌∙◌}
use mathlib.Core.Bool.{true}
use Prim.Native.Nat.{ℕ, ◌+◌, ◌-◌, ◌*◌, ◌<◌}
use Rattle.solver.specs.Rows.{reduced, clear_in}
use Rattle.laws.proofs.Loops.{again, ended}
use native.Mathlib.Nat.{add-mul, one-mul, zero-mul}
use native.Mathlib.Omega.{arith}
use Rattle.solver.proofs.rows.clear.Invariants.{rows_left}
use Rattle.solver.proofs.rows.clear.Goals as goal

one_row : (w row : ℕ) → row < 6 → rows_left w row ≡ w + rows_left w (row + 1)
one_row w row l =
    let e : 6 - row ≡ 6 - (row + 1) + 1 = omega arith in
    let y = add-mul (6 - (row + 1)) 1 w in
    let o = one-mul w in
    ap (λ (k : ℕ). k * w) e ∙ omega (arith, y, o)

pub loop-row-init : goal.loop-row-init
unfolding clear_in
loop-row-init c = let a = c.args in (
  omega arith,
  c.requires.1,
  λ (u rest : ℕ) e.
      let k : a.left - (rows_left (6 - a.col) (a.col + 1) + rest) ≡ u = omega (arith, e) in
      (ap (λ (u : ℕ). clear_in a.col (reduced true a.m.now u)) k, omega (arith, e)),
)

pub less-now_left-requires : goal.less-now_left-requires
less-now_left-requires c = let l = c.loop-row in
    let a = c.args in
    let z = one_row (6 - a.col) l.row c.loop-row-test.true in
    (c.requires.0, c.loop-row-test.true, omega (arith, l.invariant.1, z))

pub loop-row-preserved : goal.loop-row-preserved
loop-row-preserved c = let l = c.loop-row in
    let a = c.args in
    let z = one_row (6 - a.col) l.row c.loop-row-test.true in
    let first = c.less-now_left.ensures (l.now_left - rows_left (6 - a.col) l.row) (rows_left (6 - a.col) (l.row + 1)) (omega (arith, l.invariant.1, z)) in (
      omega arith,
      first.1,
      λ (u rest : ℕ) e.
          let p = l.invariant.2 u rest e in
          let q = c.less-now_left.ensures (l.now_left - (rows_left (6 - a.col) l.row + rest)) (rows_left (6 - a.col) (l.row + 1) + rest) (omega (arith, p.1, z)) in
          (again _ _ _ c.loop-row-test.true q.0 p.0, q.1),
    )

pub returns : goal.returns
returns c = λ (u rest : ℕ) e.
    let l = c.loop-row in
    let a = c.args in
    let p = l.invariant.2 u rest e in
    let six : l.row ≡ 6 = omega (arith, c.loop-row-test.false, l.invariant.0) in
    let none : rows_left (6 - a.col) l.row ≡ 0 = ap (rows_left (6 - a.col)) six ∙ zero-mul (6 - a.col) in
    let k : l.now_left - rest ≡ l.now_left - (rows_left (6 - a.col) l.row + rest) = omega (arith, none) in
    (ap (reduced true l.m) k ∙ ended _ _ _ c.loop-row-test.false p.0, omega (arith, p.1, none))
