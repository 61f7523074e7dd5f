-- Sums of counts, and loops that count. Assumes nothing.
use mathlib.Core.Path.{◌≡◌, refl, ap, ◌∙◌}
use Prim.Native.Nat.{ℕ, zero, suc, ◌+◌, ◌-◌, ◌*◌, ◌≤◌, ◌<◌}
use native.Mathlib.Omega.{arith}
use native.Mathlib.Numerals.{add-one}
use native.Mathlib.Nat.{add-zero, zero-add}
use Rattle.laws.specs.Loop.{turns, for, sum}
use Rattle.laws.proofs.Loops.{turns_last, for_ind, for_turns}

pub sum_none : (g : ℕ → ℕ) → sum 0 g ≡ 0
unfolding sum turns
sum_none g = refl

pub sum_next : (n : ℕ) (g : ℕ → ℕ) → sum (n + 1) g ≡ sum n g + g n
unfolding sum
sum_next n g =
    let f : ℕ → ℕ → ℕ = λ i t. t + g i in
    let e : n + 1 - 0 ≡ suc n = omega arith in
    let d : n ≡ n - 0 = omega arith in
    ap (λ (k : ℕ). turns f k 0 0) e ∙ turns_last f n 0 0 ∙ ap (λ (k : ℕ). turns f n 0 0 + g k) (zero-add n) ∙ ap (λ (k : ℕ). turns f k 0 0 + g n) d

-- terms of at most b
pub sum_most : (n b : ℕ) (g : ℕ → ℕ) → ((i : ℕ) → i < n → g i ≤ b) → sum n g ≤ n * b
unfolding sum
sum_most n b g h = for_ind (λ i t. t + g i) (λ (i t : ℕ). t ≤ i * b) n (λ i t l p. let q = h i l in omega arith) 0 (omega arith)

-- terms of nothing
pub sum_still : (a k : ℕ) (g : ℕ → ℕ) → ((i : ℕ) → a ≤ i → i < a + k → g i ≡ 0) → sum (a + k) g ≡ sum a g
sum_still a zero g none = ap (λ (n : ℕ). sum n g) (add-zero a)
sum_still a (suc k) g none =
    let e : a + suc k ≡ a + k + 1 = omega arith in
    let z = none (a + k) (omega arith) (omega arith) in
    let p = sum_still a k g (λ i l m. none i l (omega arith)) in
    let x = sum_next (a + k) g in
    ap (λ (n : ℕ). sum n g) e ∙ omega (arith, z, p, x)

-- terms each of which, c times, is at most another sum's
pub sum_times : (c n : ℕ) (g h : ℕ → ℕ) → ((i : ℕ) → i < n → c * g i ≤ h i) → c * sum n g ≤ sum n h
sum_times c n g h le = go n (omega arith)
  where
    go : (k : ℕ) → k ≤ n → c * sum k g ≤ sum k h
    go zero l = rw (sum_none g) (omega arith)
    go (suc k) l =
        let p = go k (omega arith) in
        let q = le k (omega arith) in
        let x = sum_next k g in
        let y = sum_next k h in
        rw (← add-one k, x, y) (omega (arith, p, q))

-- a loop of which each turn adds at most d to a count
pub for_most : {S : Type 0} (count : S → ℕ) (f : ℕ → S → S) (a b d : ℕ) → ((i : ℕ) (s : S) → i < b → count (f i s) ≤ count s + d) → (s : S) → count (for a b f s) ≤ count s + (b - a) * d
for_most {S} count f a b d step s = for_turns f (λ (k : ℕ) (t : S). count t ≤ count s + k * d) a b (λ k t l p. let q = step (a + k) t l in omega arith) s (omega arith)

-- or exactly d, where something holds at the start that each turn keeps
pub for_adds : {S : Type 0} (P : S → Type 0) (count : S → ℕ) (f : ℕ → S → S) (a b d : ℕ) → ((i : ℕ) → a ≤ i → i < b → (s : S) → P s → P (f i s) × (count (f i s) ≡ count s + d)) → (s : S) → P s
    → count (for a b f s) ≡ count s + (b - a) * d
for_adds {S} P count f a b d step s p =
    (for_turns f (λ (k : ℕ) (t : S). P t × (count t ≡ count s + k * d)) a b (λ k t l w. let q = step (a + k) (omega arith) l t w.0 in (q.0, omega arith)) s (p, omega arith)).1
