-- `surface::answers::bracket_run` meets its contract. Assumes nothing.
use Rattle.std.specs.Prelude.{Err}
use mathlib.Core.Path.{ap, ◌∙◌}
use Rattle.refusals.proofs.Numbers.{check_passes, check_refuses}
use Rattle.surface.specs.declared.types.Nodes.{Nodes}
use Rattle.surface.specs.Lookup.{bracket_of}
use Rattle.surface.specs.Surface.{bracket_run, bracket_in}
use Rattle.surface.proofs.answers.bracket_run.Goals as goal

pub returns-in_err-check_run : goal.returns-in_err-check_run
unfolding bracket_run
returns-in_err-check_run c = check_refuses _ c.from_residual.result _ c.from_residual.ensures.1 c.in_err-check_run.ensures

pub returns : goal.returns
unfolding bracket_run bracket_in
returns c = let a = c.args in
    check_passes Err c.in_ok-check_run.ensures (c.bracket.ensures ∙ ap (λ (m : Nodes). bracket_of m.taus m.tols m.count a.policy a.k a.tau) c.of.ensures)
