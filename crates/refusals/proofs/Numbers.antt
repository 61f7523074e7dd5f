-- No two refusals have one number, and none has 0: a number settles the answer that carries it. What `?` hands on. Assumes nothing.
use mathlib.Core.Path.{◌≡◌, refl, sym, ap, ◌∙◌}
use mathlib.Core.Bool.{false, cond}
use Prim.Native.Nat.{ℕ}
use lib.Dec.{eqb}
use Rattle.std.specs.Prelude.{Result, Ok, Err, IsErrAnd}
use Rattle.laws.specs.Choice.{refusing}
use Rattle.laws.proofs.Choices.{false_true, number_goes, number_no}
use Rattle.refusals.specs.declared.Refusal.{Refusal}
use Rattle.refusals.specs.declared.Refusal.TheVariants.{Settings, Tau, TooFew, NoSpan, Weights, NoFace, GridEdge, OutOfDomain, Rmse, BadObservation, Size, Lengths, KRange, NotFinite, SliceTau, B, Rho, Sigma, Lee, Minimum, EvalK, Eval, Curvature, TwoSlices, TauOrder, PointK, PointTau, BeforeFirst, BeyondLast, Variance, Derivative, KAxis, TauAxis, Tolerance, Malformed, TwoContents}
use Rattle.refusals.specs.Numbers.{refusal_number, numbered, number_in}

-- the refusal of a number; of one that none has, the last
abbrev refusal_of : ℕ → Refusal
refusal_of n =
    cond (eqb n 1) Settings (
    cond (eqb n 2) Tau (
    cond (eqb n 3) TooFew (
    cond (eqb n 4) NoSpan (
    cond (eqb n 5) Weights (
    cond (eqb n 6) NoFace (
    cond (eqb n 7) GridEdge (
    cond (eqb n 8) OutOfDomain (
    cond (eqb n 9) Rmse (
    cond (eqb n 10) BadObservation (
    cond (eqb n 11) Size (
    cond (eqb n 12) Lengths (
    cond (eqb n 21) KRange (
    cond (eqb n 22) NotFinite (
    cond (eqb n 23) SliceTau (
    cond (eqb n 24) B (
    cond (eqb n 25) Rho (
    cond (eqb n 26) Sigma (
    cond (eqb n 27) Lee (
    cond (eqb n 28) Minimum (
    cond (eqb n 29) EvalK (
    cond (eqb n 30) Eval (
    cond (eqb n 31) Curvature (
    cond (eqb n 32) TwoSlices (
    cond (eqb n 33) TauOrder (
    cond (eqb n 34) PointK (
    cond (eqb n 35) PointTau (
    cond (eqb n 36) BeforeFirst (
    cond (eqb n 37) BeyondLast (
    cond (eqb n 38) Variance (
    cond (eqb n 39) Derivative (
    cond (eqb n 40) KAxis (
    cond (eqb n 41) TauAxis (
    cond (eqb n 42) Tolerance (
    cond (eqb n 43) Malformed (
    TwoContents)))))))))))))))))))))))))))))))))))

refusal_of_number : (e : Refusal) → refusal_of (refusal_number e) ≡ e
refusal_of_number Settings = refl
refusal_of_number Tau = refl
refusal_of_number TooFew = refl
refusal_of_number NoSpan = refl
refusal_of_number Weights = refl
refusal_of_number NoFace = refl
refusal_of_number GridEdge = refl
refusal_of_number OutOfDomain = refl
refusal_of_number Rmse = refl
refusal_of_number BadObservation = refl
refusal_of_number Size = refl
refusal_of_number Lengths = refl
refusal_of_number KRange = refl
refusal_of_number NotFinite = refl
refusal_of_number SliceTau = refl
refusal_of_number B = refl
refusal_of_number Rho = refl
refusal_of_number Sigma = refl
refusal_of_number Lee = refl
refusal_of_number Minimum = refl
refusal_of_number EvalK = refl
refusal_of_number Eval = refl
refusal_of_number Curvature = refl
refusal_of_number TwoSlices = refl
refusal_of_number TauOrder = refl
refusal_of_number PointK = refl
refusal_of_number PointTau = refl
refusal_of_number BeforeFirst = refl
refusal_of_number BeyondLast = refl
refusal_of_number Variance = refl
refusal_of_number Derivative = refl
refusal_of_number KAxis = refl
refusal_of_number TauAxis = refl
refusal_of_number Tolerance = refl
refusal_of_number Malformed = refl
refusal_of_number TwoContents = refl

not_zero : (e : Refusal) → eqb (refusal_number e) 0 ≡ false
not_zero Settings = refl
not_zero Tau = refl
not_zero TooFew = refl
not_zero NoSpan = refl
not_zero Weights = refl
not_zero NoFace = refl
not_zero GridEdge = refl
not_zero OutOfDomain = refl
not_zero Rmse = refl
not_zero BadObservation = refl
not_zero Size = refl
not_zero Lengths = refl
not_zero KRange = refl
not_zero NotFinite = refl
not_zero SliceTau = refl
not_zero B = refl
not_zero Rho = refl
not_zero Sigma = refl
not_zero Lee = refl
not_zero Minimum = refl
not_zero EvalK = refl
not_zero Eval = refl
not_zero Curvature = refl
not_zero TwoSlices = refl
not_zero TauOrder = refl
not_zero PointK = refl
not_zero PointTau = refl
not_zero BeforeFirst = refl
not_zero BeyondLast = refl
not_zero Variance = refl
not_zero Derivative = refl
not_zero KAxis = refl
not_zero TauAxis = refl
not_zero Tolerance = refl
not_zero Malformed = refl
not_zero TwoContents = refl

-- so no refusal has the number 0
pub refuses_some : (e : Refusal) → refusal_number e ≡ 0 → ⊥
refuses_some e h = false_true (sym (not_zero e) ∙ ap (λ n. eqb n 0) h)

-- the answer of which a number is told
abbrev answer_of : {A : Type 0} → Result A ℕ → Result A Refusal
answer_of (Ok a) = Ok a
answer_of (Err n) = Err (refusal_of n)

answer_of_numbered : {A : Type 0} (x : Result A Refusal) → answer_of (numbered x) ≡ x
answer_of_numbered (Ok a) = refl
answer_of_numbered (Err e) = ap Err (refusal_of_number e)

-- two answers that are told alike are one answer
pub one_answer : {A : Type 0} {x y : Result A Refusal} {z : Result A ℕ} → numbered x ≡ z → numbered y ≡ z → x ≡ y
one_answer {A} {x} {y} h k = sym (answer_of_numbered x) ∙ ap answer_of (h ∙ sym k) ∙ answer_of_numbered y

-- the same of checks, which answer nothing
abbrev check_of : ℕ → Result (Unit {0}) Refusal
check_of n = cond (eqb n 0) (Ok tt) (Err (refusal_of n))

check_of_number : (x : Result (Unit {0}) Refusal) → check_of (number_in x) ≡ x
check_of_number (Ok a) = refl
check_of_number (Err e) = ap (λ b. cond b (Ok tt) (Err (refusal_of (refusal_number e)))) (not_zero e) ∙ ap Err (refusal_of_number e)

pub one_check : {x y : Result (Unit {0}) Refusal} {z : ℕ} → number_in x ≡ z → number_in y ≡ z → x ≡ y
one_check {x} {y} h k = sym (check_of_number x) ∙ ap check_of (h ∙ sym k) ∙ check_of_number y

-- ---- `check()?` in a chain of refusals

-- a check that passed leaves the rest
pub check_passes : {A : Type 0} {x z : A} (f : ℕ → A) {n : ℕ} → 0 ≡ n → z ≡ x → z ≡ refusing n f x
check_passes f h e = number_goes (f _) h refl e

-- a refusal stops the chain of the definition where the code stops
pub check_stops : {A : Type 0} (x : A) (f : ℕ → A) (e : Refusal) {n : ℕ} → refusal_number e ≡ n → f (refusal_number e) ≡ refusing n f x
check_stops x f e h = number_no x f h (refuses_some e)

-- one that failed is handed on as it is: of an answer, and of a check
pub handed_on : {A : Type 0} (r : Result A Refusal) (e : Refusal) → IsErrAnd r (λ y. y ≡ e) → numbered r ≡ Err (refusal_number e)
handed_on (Ok a) e i = absurd i
handed_on (Err y) e i = ap (λ y. Err (refusal_number y)) i

pub handed_on_too : {A : Type 0} (r : Result A Refusal) (e : Refusal) → IsErrAnd r (λ y. y ≡ e) → number_in r ≡ refusal_number e
handed_on_too (Ok a) e i = absurd i
handed_on_too (Err y) e i = ap refusal_number i

pub check_refuses : {A : Type 0} (x : Result A ℕ) (r : Result A Refusal) (e : Refusal) {n : ℕ} → IsErrAnd r (λ y. y ≡ e) → refusal_number e ≡ n → numbered r ≡ refusing n Err x
check_refuses x r e i h = handed_on r e i ∙ check_stops x Err e h

pub check_refuses_too : {A : Type 0} (x : ℕ) (r : Result A Refusal) (e : Refusal) {n : ℕ} → IsErrAnd r (λ y. y ≡ e) → refusal_number e ≡ n → number_in r ≡ refusing n (λ n. n) x
check_refuses_too x r e i h = handed_on_too r e i ∙ check_stops x (λ n. n) e h
