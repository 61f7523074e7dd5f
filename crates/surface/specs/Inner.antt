-- What the inner functions of this crate hand each other. No public contract cites it.
use Rattle.std.specs.Prelude.{Bool, true, false, List, ℕ, ◌+◌, ltb, set}
use Rattle.slice.specs.declared.SviSlice.{SviSlice}
use Rattle.surface.specs.declared.types.Run.{Run}

abbrev pub kept_if : Bool → List SviSlice → ℕ → SviSlice → List SviSlice
kept_if true xs n x = set xs n x
kept_if false xs n x = xs

-- one more record: kept while there is room, and counted
abbrev pub pushed : Run → SviSlice → Run
pushed run x = record { count = run.count + 1; recs = kept_if (ltb run.count 32) run.recs run.count x }
