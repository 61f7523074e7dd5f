use borrow.Author.Rules.{rules}
use native.Mathlib.Omega.{arith}
use Prim.Native.Nat.{◌≤◌, ◌<◌}
use lib.ListN.{length}
use Rattle.house.proofs.Columns.{column_start, column_skip, column_keep, column_end}
use Rattle.house.proofs.Repeating.{rest_start, rest_end, rest_drop, rest_keep}
use Rattle.house.specs.Check.{k_of, w_of, weight_of}
use Rattle.house.proofs.keep.Goals as goal
use Rattle.house.proofs.keep.Goals.{then-not-among, else-not-among}

pub loop-i-init : goal.loop-i-init
loop-i-init c = let e = rest_start c.args.sent.now in (search rules, column_start k_of _ _ _ e, column_start w_of _ _ _ e, column_start weight_of _ _ _ e)

pub loop-i-preserved : goal.loop-i-preserved
loop-i-preserved c =
    let old = c.loop-i in
    let q = c.quote_of-q.ensures in
    let hk : old.m < length old.k = omega arith in
    let hw : old.m < length old.w = omega arith in
    let hz : old.m < length old.weight = omega arith in
    elim c.if-not-among.branch [
      | then-not-among w ↦
          let e = rest_keep c.args.sent.now old.i c.loop-i-test.true c.quote_of-q.result q c.among.ensures w.if-not-among.true in (
            omega (arith, w.m-is),
            column_keep k_of _ _ _ _ _ old.m _ _ old.k _ hk e w.f64_of.ensures w.k-is w.m-is old.invariant.1,
            column_keep w_of _ _ _ _ _ old.m _ _ old.w _ hw e w.f64_of-then-not-among.ensures w.w-is w.m-is old.invariant.2,
            column_keep weight_of _ _ _ _ _ old.m _ _ old.weight _ hz e w.f64_of-then-not-among-2.ensures w.weight-is w.m-is old.invariant.3,
          )
      | else-not-among w ↦
          let e = rest_drop c.args.sent.now old.i c.loop-i-test.true c.quote_of-q.result q c.among.ensures w.if-not-among.false in (
            omega (arith, w.m-is),
            column_skip k_of _ _ _ old.m _ _ old.k _ e w.k-is w.m-is old.invariant.1,
            column_skip w_of _ _ _ old.m _ _ old.w _ e w.w-is w.m-is old.invariant.2,
            column_skip weight_of _ _ _ old.m _ _ old.weight _ e w.weight-is w.m-is old.invariant.3,
          )
    ]

pub returns : goal.returns
returns c =
    let e = rest_end c.args.sent.now c.loop-i.i c.loop-i-test.false in
    let hk : c.loop-i.m ≤ length c.loop-i.k = omega arith in
    let hw : c.loop-i.m ≤ length c.loop-i.w = omega arith in
    let hz : c.loop-i.m ≤ length c.loop-i.weight = omega arith in
    let k = column_end k_of _ _ _ _ _ hk e c.loop-i.invariant.1 in
    record { value = k.0; k_after = k.1; w_after = (column_end w_of _ _ _ _ _ hw e c.loop-i.invariant.2).1; weight_after = (column_end weight_of _ _ _ _ _ hz e c.loop-i.invariant.3).1 }
