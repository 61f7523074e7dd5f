-- `surface::copied` meets its contract: one more record is copied in each turn. Assumes nothing.
use Rattle.std.proofs.Common.{◌∙◌, ap, get_or, take}
use Rattle.std.proofs.lemmas.List.{get_or_default}
use Rattle.slice.specs.declared.SviSlice.{SviSlice}
use Rattle.slice.specs.Slice.{no_slice}
use Rattle.surface.specs.Inner.{pushed}
use Rattle.surface.specs.Runs.{past, run_of}
use Rattle.surface.specs.declared.types.Run.{Run}
use Rattle.surface.proofs.Padded.{push_next}
use Rattle.surface.proofs.copied.Goals as goal

pub loop-x-preserved : goal.loop-x-preserved
loop-x-preserved c =
    let s = c.args.s.now in
    let i = c.loop-x.x-index in
    let within = c.loop-x-test.true in
    c.push.ensures ∙ ap (λ (r : Run). pushed r (get_or s i past)) c.loop-x.invariant
    ∙ ap (λ (x : SviSlice). pushed (run_of (take i s)) x) (get_or_default s i past no_slice within) ∙ push_next s i within
