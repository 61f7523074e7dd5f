-- Choices: `cond`, `unless`, chains of tests and of refusal numbers, forwards (what the code hands back is what the definition picks) and backwards
-- (a chain that ended in acceptance passed each test). Assumes nothing.
use mathlib.Core.Path.{◌≡◌, refl, sym, ap, ◌∙◌, subst}
use mathlib.Core.Bool.{Bool, true, false, not, ◌&&◌, ◌||◌, cond}
use Prim.Native.Nat.{ℕ}
use lib.Dec.{T, eqb}
use borrow.Author.Tests.{eq-eqb, ne_eqb, eqb-true, not-true, not-false}
use Rattle.laws.specs.Choice.{unless, refusing}

-- two answers that meet one equation are one answer
pub settled : {A : Type 0} {x y z : A} → x ≡ z → y ≡ z → x ≡ y
settled e h = e ∙ sym h

pub false_true : {A : Type 0} → false ≡ true → A
false_true e = absurd (subst T (sym e) tt)

-- ---- bools

pub or_right : (a : Bool) {b : Bool} → b ≡ true → (a || b) ≡ true
or_right true k = refl
or_right false k = k

pub or_assoc : (a b c : Bool) → (a || (b || c)) ≡ ((a || b) || c)
or_assoc true b c = refl
or_assoc false b c = refl

pub and_assoc : (a b c : Bool) → (a && (b && c)) ≡ ((a && b) && c)
and_assoc true b c = refl
and_assoc false b c = refl

-- what is asked behind a is asked only where a holds
pub and_same : (a : Bool) {b c : Bool} → (a ≡ true → b ≡ c) → (a && b) ≡ (a && c)
and_same true f = f refl
and_same false f = refl

pub eqb_sym : (a b : ℕ) → eqb a b ≡ eqb b a
eqb_sym a b = go (eqb a b) refl
  where
    go : (x : Bool) → eqb a b ≡ x → eqb a b ≡ eqb b a
    go true p = p ∙ sym (eq-eqb b a (sym (eqb-true a b p)))
    go false p = p ∙ sym (ne_eqb b a (λ h. false_true (sym p ∙ eq-eqb a b (sym h))))

-- ---- one choice

-- an arm of the code is the arm that `cond` picks
pub if_true : {A : Type 0} {x z : A} (y : A) {t : Bool} → t ≡ true → z ≡ x → z ≡ cond t x y
if_true {A} {x} {z} y {t} h e = e ∙ sym (ap (λ (t : Bool). cond t x y) h)

pub if_false : {A : Type 0} {y z : A} (x : A) {t : Bool} → t ≡ false → z ≡ y → z ≡ cond t x y
if_false {A} {y} {z} x {t} h e = e ∙ sym (ap (λ (t : Bool). cond t x y) h)

-- what holds of both arms holds of the choice
pub cond_ind : {A : Type 0} (P : A → Type 0) (b : Bool) {x y : A} → P x → P y → P (cond b x y)
cond_ind P true p q = p
cond_ind P false p q = q

-- the same where each arm may know the test
pub cond_test : {A : Type 0} (P : A → Type 0) (b : Bool) {x y : A} → (b ≡ true → P x) → (b ≡ false → P y) → P (cond b x y)
cond_test P true p q = p refl
cond_test P false p q = q refl

-- what is computed holds of what it is equal to
pub is : {A : Type 0} (p : A → Bool) {x y : A} {b : Bool} → x ≡ y → p x ≡ b → p y ≡ b
is p e h = sym (ap p e) ∙ h

-- ---- chains of `unless`: the flag r of the code is the test t

-- `if !r { return z }` was taken, or left
pub stops : {A : Type 0} {n z : A} (rest : A) {r t : Bool} → r ≡ t → not r ≡ true → z ≡ n → z ≡ unless t n rest
stops rest {r} {t} e h k = if_false _ (sym e ∙ not-true r h) k

pub goes : {A : Type 0} {rest z : A} (n : A) {r t : Bool} → r ≡ t → not r ≡ false → z ≡ rest → z ≡ unless t n rest
goes n {r} {t} e h k = if_true _ (sym e ∙ not-false r h) k

-- the same of a refusal number r, 0 for none: `if r != 0 { return z }`
pub number_stops : {A : Type 0} {n z : A} (rest : A) {r m : ℕ} → r ≡ m → (r ≡ 0 → ⊥) → z ≡ n → z ≡ unless (eqb m 0) n rest
number_stops rest {r} {m} e h k = if_false _ (ne_eqb m 0 (λ q. h (e ∙ q))) k

pub number_goes : {A : Type 0} {rest z : A} (n : A) {r m : ℕ} → r ≡ m → r ≡ 0 → z ≡ rest → z ≡ unless (eqb m 0) n rest
number_goes n {r} {m} e h k = if_true _ (eq-eqb m 0 (sym e ∙ h)) k

-- the number itself is handed on in a refusal
pub number_no : {A : Type 0} (x : A) (refusal : ℕ → A) {n m : ℕ} → n ≡ m → (n ≡ 0 → ⊥) → refusal n ≡ refusing m refusal x
number_no x refusal {n} {m} e h = number_stops x e h (ap refusal e)

-- ---- backwards

pub both : (a b : Bool) → (a && b) ≡ true → (a ≡ true) × (b ≡ true)
both true b h = (refl, h)
both false b h = false_true h

-- a conjunction that fails has a part that fails
pub split : {R : Type 0} (a b : Bool) → (a && b) ≡ false → (a ≡ false → R) → (b ≡ false → R) → R
split true b h x y = y h
split false b h x y = x refl

-- nothing is both
pub off : {b : Bool} → b ≡ false → b ≡ true → ⊥
off e h = false_true (sym e ∙ h)

-- a chain that ends in m, which is not its first number, passed its first test
pub past_one : (m : ℕ) (t : Bool) (n rest : ℕ) → (n ≡ m → ⊥) → unless t n rest ≡ m → (t ≡ true) × (rest ≡ m)
past_one m true n rest f h = (refl, h)
past_one m false n rest f h = absurd (f h)

-- and so did one that ends in 0
pub passed_one : (t : Bool) (n rest : ℕ) → (n ≡ 0 → ⊥) → unless t n rest ≡ 0 → (t ≡ true) × (rest ≡ 0)
passed_one = past_one 0

-- and a number that is handed on is 0 where the chain is
pub passed_number : (m rest : ℕ) → unless (eqb m 0) m rest ≡ 0 → (m ≡ 0) × (rest ≡ 0)
passed_number m rest h = by (eqb m 0) refl h
  where
    by : (t : Bool) → eqb m 0 ≡ t → cond t rest m ≡ 0 → (m ≡ 0) × (rest ≡ 0)
    by true e h = (eqb-true m 0 e, h)
    by false e h = false_true (sym e ∙ eq-eqb m 0 h)
