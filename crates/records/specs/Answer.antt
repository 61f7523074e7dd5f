-- What a fit hands back, as it is told: a refusal's is zeros but for what is named. Definitions only.
-- docs/METHOD.md, 'The end'.
use Rattle.std.specs.Prelude.{Bool, false, List, ℕ, replicate, Float, Result, Ok, Err}
use Rattle.laws.specs.Floats.{+0}
use Rattle.slice.specs.declared.SviSlice.{SviSlice}
use Rattle.slice.specs.Slice.{no_slice}
use Rattle.records.specs.declared.Counts.{Counts}
use Rattle.records.specs.declared.FitAnswer.{FitAnswer}
use Rattle.records.specs.declared.SliceFit.{SliceFit}
use Rattle.records.specs.declared.FitFailure.{FitFailure}
use Rattle.refusals.specs.Numbers.{refusal_number}

-- no pass was made
abbrev pub no_counts : Counts
no_counts = record { passes = 0; recentres = 0; shrinks = 0; cells = 0; faces = 0; updates = 0 }

unfoldable pub refused_with : ℕ → ℕ → ℕ → Float → Float → Counts → FitAnswer
refused_with number observed required rmse most counts =
    record {
      number = number;
      observed = observed;
      required = required;
      rmse_vol = rmse;
      max_rmse_vol = most;
      slice = no_slice;
      objective = +0;
      objective_params = +0;
      lee_margin = +0;
      a_margin = +0;
      active = replicate 7 false;
      counts = counts;
      capped = 0;
    }

-- a refusal that carries the counts of the passes before it, and else zeros
abbrev pub refused_after : ℕ → Counts → FitAnswer
refused_after number counts = refused_with number 0 0 +0 +0 counts

-- ---- what the code hands back, as it is told

abbrev pub accepted_answer : SliceFit → FitAnswer
accepted_answer f =
    record {
      number = 0;
      observed = 0;
      required = 0;
      rmse_vol = f.rmse_vol;
      max_rmse_vol = +0;
      slice = f.slice;
      objective = f.objective;
      objective_params = f.objective_params;
      lee_margin = f.lee_margin;
      a_margin = f.a_margin;
      active = f.active;
      counts = f.counts;
      capped = f.capped;
    }

abbrev pub failure_answer : FitFailure → FitAnswer
failure_answer f = refused_with (refusal_number f.why) f.observed f.required f.rmse_vol f.max_rmse_vol f.counts

abbrev pub answer_in : Result SliceFit FitFailure → FitAnswer
answer_in (Ok f) = accepted_answer f
answer_in (Err f) = failure_answer f
