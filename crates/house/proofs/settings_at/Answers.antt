-- `house::settings_at` meets its contract. Assumes nothing.
use Rattle.house.specs.File.{settings_at, f64_at}
use Rattle.house.proofs.settings_at.Goals as goal

pub returns : goal.returns
unfolding settings_at f64_at
returns c = rw (c.u64_at.ensures, c.u64_at-2.ensures, c.u64_at-3.ensures, c.f64_at.ensures, c.f64_at-2.ensures, c.f64_at-3.ensures, c.u64_at-4.ensures, c.f64_at-4.ensures, c.f64_at-5.ensures, c.f64_at-6.ensures, c.f64_at-7.ensures)
