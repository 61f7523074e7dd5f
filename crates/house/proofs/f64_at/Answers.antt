-- `house::f64_at` meets its contract. Assumes nothing.
use Rattle.house.specs.File.{f64_at}
use Rattle.house.proofs.f64_at.Goals as goal

pub returns : goal.returns
unfolding f64_at
returns c = cc
