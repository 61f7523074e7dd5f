-- `outcome::of_records` meets its contract. Assumes nothing.
use mathlib.Core.Path.{◌≡◌, refl, sym, ap, ◌∙◌}
use mathlib.Core.List.{List, map}
use lib.ListN.{length, replicate}
use lib.Ieee.{Float}
use Rattle.refusals.proofs.Numbers.{refuses_some}
use Rattle.laws.specs.Floats.{+0}
use Rattle.records.specs.Answer.{answer_in}
use Rattle.house.specs.Check.{k_of, w_of, weight_of}
use Rattle.house.specs.File.{records_of}
use Rattle.refusals.specs.Numbers.{refusal_number}
use Rattle.house.specs.Taken.{intake_number, taken_of}
use Rattle.house.proofs.Files.{records_long}
use Rattle.house.proofs.Taking.{taken_all, passed, few}
use Rattle.outcome.specs.Outcome.{refused_at}
use Rattle.outcome.proofs.Fronts.{column_front, column_long}
use Rattle.outcome.proofs.Coming.{none_written, refused_is, comes_to}
use Rattle.outcome.proofs.of_records.Goals as goal

-- what the columns hold at first
abbrev zeros : List Float
zeros = replicate 256 +0

pub returns-in-Err : goal.returns-in-Err
returns-in-Err c =
    let a = c.args in
    let e = c.refused.ensures in
    let no = refuses_some c.in-Err.refusal in
    record { value = e ∙ ap (refused_at (refusal_number c.in-Err.refusal)) (sym (records_long a.quotes.now)) ∙ refused_is a.tau a.config (records_of a.quotes.now) _ _ _ c.in-Err.ensures no; residuals_after = none_written _ _ _ _ _ e no; capped_after = none_written _ _ _ _ _ e no }

pub slice_bounds-fit_slice-end : goal.slice_bounds-fit_slice-end
slice_bounds-fit_slice-end c =
    let t = c.take-m.ensures in
    let qs = taken_of (records_of c.args.quotes.now) 256 256 256 in
    column_long k_of qs zeros _ _ t.value t.k_after

pub slice_bounds-fit_slice-end-2 : goal.slice_bounds-fit_slice-end-2
slice_bounds-fit_slice-end-2 c = let t = c.take-m.ensures in
    let qs = taken_of (records_of c.args.quotes.now) 256 256 256 in
    column_long w_of qs zeros _ _ t.value t.w_after

pub slice_bounds-fit_slice-end-3 : goal.slice_bounds-fit_slice-end-3
slice_bounds-fit_slice-end-3 c = let t = c.take-m.ensures in
    let qs = taken_of (records_of c.args.quotes.now) 256 256 256 in
    column_long weight_of qs zeros _ _ t.value t.weight_after

pub returns : goal.returns
returns c = let a = c.args in
    let t = c.take-m.ensures in
    let qs = records_of a.quotes.now in
    let z : 0 ≡ intake_number a.config qs (length a.residuals.now) (length a.capped.now) = c.in_default.ensures in
    let l = few (length qs) a.config (passed a.config qs _ _ (sym z)).1 in
    let taken = taken_of qs 256 256 256 in
    let all = taken_all qs 256 256 256 l l l in
    let came = comes_to a.tau a.config qs a.residuals.now a.capped.now (answer_in c.fit_slice-fit.result) _ _ 0 _ _ _ _ _ z refl (records_long a.quotes.now)
    (t.value ∙ ap length all)
    (column_front k_of taken zeros _ _ t.value t.k_after ∙ ap (map k_of) all)
    (column_front w_of taken zeros _ _ t.value t.w_after ∙ ap (map w_of) all)
    (column_front weight_of taken zeros _ _ t.value t.weight_after ∙ ap (map weight_of) all)
    c.fit_slice-fit.ensures in
    record { value = came.0; residuals_after = came.1.0; capped_after = came.1.1 }
