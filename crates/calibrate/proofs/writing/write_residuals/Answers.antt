use Rattle.std.proofs.Common.{ap₂, ◌∙◌}
use Rattle.std.proofs.lemmas.List.{length_push}
use Rattle.std.proofs.lemmas.Iterator.{YieldsList-from_slice, YieldsList-from_zip}
use Rattle.std.proofs.lemmas.Iterator.Consumers.{YieldsList-from_enumerate, YieldsList-turn, YieldsList-end}
use Rattle.judge.specs.Judge.{residual_at}
use Rattle.calibrate.proofs.Quads.{turned, all_turned, rows_start, rows_next, rows_end}
use Rattle.calibrate.proofs.writing.write_residuals.Goals as goal

pub loop-i-init : goal.loop-i-init
loop-i-init c = rows_start _ _ _ _

pub loop-i-preserved : goal.loop-i-preserved
loop-i-preserved c =
    let a = c.args in
    let l = c.loop-i in
    let y = YieldsList-from_enumerate (YieldsList-from_zip (YieldsList-from_slice a.k.now cc) (YieldsList-from_slice a.w.now cc)) cc in
    let t = turned a.s a.k.now a.w.now _ _ _ _ c.requires.0 (YieldsList-turn y l.yielded l.i-iterator l.yielded_by _ c.next.new.self _ c.in-Some.is c.next.ensures.steps) in
    rw (length_push l.yielded (c.in-Some.i, (c.in-Some.k, c.in-Some.w)), t.1, t.2, t.3, c.unwrap_or.ensures)
    (rows_next _ _ _ _ _ _ c.residual_at-r.result t.0 c.requires.1 (c.residual_at-r.ensures ∙ ap₂ (residual_at a.s) t.2 t.3) l.invariant)

pub returns : goal.returns
returns c =
    let a = c.args in
    let l = c.loop-i in
    let y = YieldsList-from_enumerate (YieldsList-from_zip (YieldsList-from_slice a.k.now cc) (YieldsList-from_slice a.w.now cc)) cc in
    let e = YieldsList-end y l.yielded l.i-iterator l.yielded_by _ c.next.new.self c.in-None.is c.next.ensures.steps in
    rows_end a.s a.k.now a.w.now _ _ _ (e.1 ∙ all_turned a.s a.k.now a.w.now c.requires.0) l.invariant
