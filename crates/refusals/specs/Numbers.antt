-- The number that each refusal has outside, and an answer with its refusal's number in place of the refusal. Definitions only.
use Rattle.std.specs.Prelude.{ℕ, Result, Ok, Err}
use Rattle.refusals.specs.declared.Refusal.{Refusal}
use Rattle.refusals.specs.declared.Refusal.TheVariants.{Settings, Tau, TooFew, NoSpan, Weights, NoFace, GridEdge, OutOfDomain, Rmse, BadObservation, Size, Lengths, KRange, NotFinite, SliceTau, B, Rho, Sigma, Lee, Minimum, EvalK, Eval, Curvature, TwoSlices, TauOrder, PointK, PointTau, BeforeFirst, BeyondLast, Variance, Derivative, KAxis, TauAxis, Tolerance, Malformed, TwoContents}

abbrev pub refusal_number : Refusal → ℕ
refusal_number Settings = 1
refusal_number Tau = 2
refusal_number TooFew = 3
refusal_number NoSpan = 4
refusal_number Weights = 5
refusal_number NoFace = 6
refusal_number GridEdge = 7
refusal_number OutOfDomain = 8
refusal_number Rmse = 9
refusal_number BadObservation = 10
refusal_number Size = 11
refusal_number Lengths = 12
refusal_number KRange = 21
refusal_number NotFinite = 22
refusal_number SliceTau = 23
refusal_number B = 24
refusal_number Rho = 25
refusal_number Sigma = 26
refusal_number Lee = 27
refusal_number Minimum = 28
refusal_number EvalK = 29
refusal_number Eval = 30
refusal_number Curvature = 31
refusal_number TwoSlices = 32
refusal_number TauOrder = 33
refusal_number PointK = 34
refusal_number PointTau = 35
refusal_number BeforeFirst = 36
refusal_number BeyondLast = 37
refusal_number Variance = 38
refusal_number Derivative = 39
refusal_number KAxis = 40
refusal_number TauAxis = 41
refusal_number Tolerance = 42
refusal_number Malformed = 43
refusal_number TwoContents = 44

-- an answer, or the number of its refusal
abbrev pub numbered : {A : Type 0} → Result A Refusal → Result A ℕ
numbered (Ok a) = Ok a
numbered (Err e) = Err (refusal_number e)

-- the number of the refusal, or 0 where there is none
abbrev pub number_in : {A : Type 0} → Result A Refusal → ℕ
number_in (Ok a) = 0
number_in (Err e) = refusal_number e
