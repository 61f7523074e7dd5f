-- `outcome::of_file` meets its contract. Assumes nothing.
use mathlib.Core.Path.{sym, ◌∙◌}
use native.Mathlib.Omega.{arith}
use Rattle.refusals.proofs.Numbers.{refuses_some}
use Rattle.refusals.specs.declared.Refusal.TheVariants.{Malformed}
use Rattle.house.proofs.Files.{file_is}
use Rattle.outcome.specs.Outcome.{outcome_in}
use Rattle.outcome.proofs.Coming.{none_written, malformed_is, part_is, of_the_file}
use Rattle.outcome.proofs.of_file.Goals as goal

pub returns-in_default : goal.returns-in_default
returns-in_default c =
    let e = c.refused.ensures in
    let no = refuses_some Malformed in
    record { value = e ∙ malformed_is _ _ _ (sym c.in_default.is ∙ c.house_of.ensures); residuals_after = none_written _ 43 0 _ _ e no; capped_after = none_written _ 43 0 _ _ e no }

pub overflow_mul-from : goal.overflow_mul-from
overflow_mul-from c = let h = file_is c.args.file.now c.in-Some.layout.settings c.in-Some.layout.count (sym c.in-Some.is ∙ c.house_of.ensures) in
    omega arith

pub overflow_add-from : goal.overflow_add-from
overflow_add-from c = let h = file_is c.args.file.now c.in-Some.layout.settings c.in-Some.layout.count (sym c.in-Some.is ∙ c.house_of.ensures) in
    omega arith

pub slice_bounds-of_records-count : goal.slice_bounds-of_records-count
slice_bounds-of_records-count c = let h = file_is c.args.file.now c.in-Some.layout.settings c.in-Some.layout.count (sym c.in-Some.is ∙ c.house_of.ensures) in
    omega arith

pub slice_bounds-of_records-start : goal.slice_bounds-of_records-start
slice_bounds-of_records-start c = let h = file_is c.args.file.now c.in-Some.layout.settings c.in-Some.layout.count (sym c.in-Some.is ∙ c.house_of.ensures) in
    omega arith

pub returns : goal.returns
returns c =
    let told = c.of_records.ensures in
    let came =
    of_the_file c.args.file.now _ _ _ (sym c.in-Some.is ∙ c.house_of.ensures) (part_is c.args.file.now _) c.tau_of-tau.result c.config_of-config.result c.args.residuals.now c.args.capped.now (outcome_in c.of_records.result) _ _ c.tau_of-tau.ensures c.config_of-config.ensures (told.value, (told.residuals_after, told.capped_after)) in
    record { value = came.0; residuals_after = came.1.0; capped_after = came.1.1 }
