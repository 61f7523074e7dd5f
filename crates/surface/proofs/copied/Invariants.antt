-- What has been copied so far is the run of the records so far.
use Rattle.std.proofs.Common.{◌≡◌, take}
use Rattle.surface.specs.Runs.{run_of}
use Rattle.surface.proofs.copied.Given as goal

abbrev pub invariant-loop-x : goal.invariant-loop-x
invariant-loop-x l = l.run ≡ run_of (take l.x-index l.s)
