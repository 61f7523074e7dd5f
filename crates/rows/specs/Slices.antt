-- The answers about one slice as they are told: the number of a refusal, or 0, and the values. A refusal carries zeros. Definitions only.
use Rattle.std.specs.Prelude.{ℕ, Float, Result}
use Rattle.laws.specs.Floats.{+0}
use Rattle.slice.specs.declared.KRange.{KRange}
use Rattle.slice.specs.declared.SviSlice.{SviSlice}
use Rattle.slice.specs.declared.Values.{Values}
use Rattle.slice.specs.Slice.{no_slice}
use Rattle.rows.specs.declared.Answer.{Answer}
use Rattle.rows.specs.Told.{told_as}

-- a range, or the zeros of a refusal
abbrev pub range_answer : Result KRange ℕ → Answer KRange
range_answer = told_as record { lo = +0; hi = +0 }

-- a slice, or the zeros of a refusal
abbrev pub slice_answer : Result SviSlice ℕ → Answer SviSlice
slice_answer = told_as no_slice

-- one value, or the zero of a refusal
abbrev pub level_answer : Result Float ℕ → Answer Float
level_answer = told_as +0

-- w, w_k and w_kk, or the zeros of a refusal
abbrev pub values_answer : Result Values ℕ → Answer Values
values_answer = told_as record { w = +0; w_k = +0; w_kk = +0 }
