-- `roots::pattern::short_by` meets its contract: a number's digits and the zeros before them are 64. Assumes nothing.
use mathlib.Core.Path.{◌≡◌, refl, sym, ap, ◌∙◌}
use Prim.Native.Nat.{ℕ, suc, ◌+◌, ◌-◌, ◌*◌, ◌^◌, ◌≤◌, ◌<◌}
use native.Mathlib.Nat.{mul-le-mul_right, mul-lt-mul_of_pos_right, lt_of_not-le}
use native.Mathlib.Omega.{arith}
use lib.Count.{count_leading_zeros, leading_top}
use lib.Pow.{pow-add, pow_mono, pow_pos}
use Rattle.roots.proofs.pattern.short_by.Goals as goal

short : (t z : ℕ) → z ≡ count_leading_zeros 64 t → 0 < t → t < 2 ^ 52 → (11 ≤ z) × (2 ^ 52 ≤ t * 2 ^ (z - 11)) × (t * 2 ^ (z - 11) < 2 ^ 53) × (z - 11 ≤ 52)
short t z e p h =
    let l = leading_top 64 t p (omega arith) in
    let sum : z + suc l.0 ≡ 64 = rw e l.1 in
    let few : l.0 < 52 = lt_of_not-le (λ (g : 52 ≤ l.0). let k : 2 ^ 52 ≤ 2 ^ l.0 = pow_mono g in omega (arith, l.2)) in
    let low : 2 ^ l.0 * 2 ^ (z - 11) ≡ 2 ^ 52 = sym (pow-add 2 l.0 (z - 11)) ∙ ap (λ (x : ℕ). 2 ^ x) (let s : l.0 + (z - 11) ≡ 52 = omega arith in s) in
    let high : 2 ^ suc l.0 * 2 ^ (z - 11) ≡ 2 ^ 53 = sym (pow-add 2 (suc l.0) (z - 11)) ∙ ap (λ (x : ℕ). 2 ^ x) (let s : suc l.0 + (z - 11) ≡ 53 = omega arith in s) in
    (omega arith, omega (arith, mul-le-mul_right (2 ^ (z - 11)) l.2), omega (arith, mul-lt-mul_of_pos_right l.3 (pow_pos (z - 11))), omega arith)

pub overflow_sub-result : goal.overflow_sub-result
overflow_sub-result c = (short c.args.t _ refl c.requires.0 c.requires.1).0

pub returns : goal.returns
returns c = let s = short c.args.t _ refl c.requires.0 c.requires.1 in ((s.1, s.2), s.3)
