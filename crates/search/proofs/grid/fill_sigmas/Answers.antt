use mathlib.Core.Path.{refl, ap, ◌∙◌}
use lib.ListN.{set}
use Rattle.laws.proofs.Loops.{again, ended}
use Rattle.exponent.specs.Exp.{exp_of}
use Rattle.laws.specs.Room.{filled_on}
use Rattle.search.specs.Sigmas.{sigma_at}
use Rattle.search.proofs.grid.fill_sigmas.Goals as goal

pub loop-j-init : goal.loop-j-init
unfolding filled_on
loop-j-init c = refl

pub loop-j-preserved : goal.loop-j-preserved
unfolding sigma_at
loop-j-preserved c = let l = c.loop-j in
    again _ _ _ c.loop-j-test.true (ap (set l.sigmas l.j) (c.exp.ensures ∙ ap exp_of c.linspace_at.ensures)) l.invariant

pub returns : goal.returns
returns c = ended _ _ _ c.loop-j-test.false c.loop-j.invariant
