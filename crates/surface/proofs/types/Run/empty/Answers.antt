-- `surface::types::Run::empty` meets its contract. Assumes nothing.
use lib.ListN.{replicate}
use Rattle.surface.specs.Runs.{pad}
use Rattle.surface.proofs.types.Run.empty.Goals as goal

pub returns : goal.returns
unfolding pad
returns c = let e = c.default.ensures in
    λ i.
    record {
      count = 0;
      recs =
          replicate 32
          record {
            tau = e.0 i;
            a = e.1.0 i;
            b = e.1.1.0 i;
            rho = e.1.1.1.0 i;
            m = e.1.1.1.1.0 i;
            sigma = e.1.1.1.1.1.0 i;
            k_range = record { lo = e.1.1.1.1.1.1.0 i; hi = e.1.1.1.1.1.1.1 i };
          };
    }
