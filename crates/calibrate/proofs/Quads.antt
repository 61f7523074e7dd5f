-- Residuals written four at a time: what one turn of the loop does to the lent room. Assumes nothing.
use mathlib.Core.Path.{◌≡◌, refl, ap, ◌∙◌}
use mathlib.Core.List.{List, [], ◌∷◌, ◌++◌, append_assoc}
use Prim.Native.Nat.{ℕ, ◌+◌, ◌*◌, ◌≤◌, ◌<◌}
use native.Mathlib.Omega.{arith}
use lib.ListN.{length, get_or, drop, set, length-set, length-append}
use lib.Ieee.{Float, nan}
use native.Mathlib.Nat.{zero-add}
use Rattle.std.specs.List.{zip, enumerate_from}
use Rattle.std.proofs.lemmas.List.{get_or_default}
use Rattle.std.proofs.lemmas.List.FromFn.{length-enumerate_from, get_or-enumerate_from}
use Rattle.std.proofs.lemmas.Slice.Zip.{length-zip, get_or-zip}
use Rattle.laws.specs.Loop.{turns, for}
use Rattle.laws.specs.Floats.{at}
use Rattle.laws.proofs.Loops.{for_ind, for_next}
use Rattle.laws.proofs.Rooms.{put_next}
use Rattle.slice.specs.declared.SviSlice.{SviSlice}
use Rattle.judge.specs.declared.Residual.{Residual}
use Rattle.judge.specs.Judge.{fitted_in, residual_at}
use Rattle.calibrate.specs.Fit.{residuals_of}

regroup : (p : List Float) (a b c d : Float) → (((p ++ (a ∷ [])) ++ (b ∷ [])) ++ (c ∷ [])) ++ (d ∷ []) ≡ p ++ (a ∷ b ∷ c ∷ d ∷ [])
regroup p a b c d = simp append_assoc

put_four : (p o : List Float) (n : ℕ) (a b c d : Float) → length p ≡ n → n + 4 ≤ length o
    → set (set (set (set (p ++ drop n o) n a) (n + 1) b) (n + 2) c) (n + 3) d ≡ (p ++ (a ∷ b ∷ c ∷ d ∷ [])) ++ drop (n + 4) o
put_four p o n a b c d e l =
    let p1 : List Float = p ++ (a ∷ []) in
    let p2 : List Float = p1 ++ (b ∷ []) in
    let p3 : List Float = p2 ++ (c ∷ []) in
    let e1 : length p1 ≡ n + 1 = length-append p (a ∷ []) ∙ ap (λ (k : ℕ). k + 1) e in
    let e2 : length p2 ≡ n + 2 = length-append p1 (b ∷ []) ∙ omega arith in
    let e3 : length p3 ≡ n + 3 = length-append p2 (c ∷ []) ∙ omega arith in
    ap (λ (t : List Float). set (set (set t (n + 1) b) (n + 2) c) (n + 3) d) (put_next nan p o n (n + 1) a e (omega arith) (omega arith))
    ∙ ap (λ (t : List Float). set (set t (n + 2) c) (n + 3) d) (put_next nan p1 o (n + 1) (n + 2) b e1 (omega arith) (omega arith))
    ∙ ap (λ (t : List Float). set t (n + 3) d) (put_next nan p2 o (n + 2) (n + 3) c e2 (omega arith) (omega arith))
    ∙ put_next nan p3 o (n + 3) (n + 4) d e3 (omega arith) (omega arith)
    ∙ ap (λ (t : List Float). t ++ drop (n + 4) o) (regroup p a b c d)

module _ (s : SviSlice) (ks ws : List Float) where
  -- the four numbers of observation i, and the rows of the first i
  abbrev row : ℕ → List Float
  row i = at ks i ∷ at ws i ∷ fitted_in (residual_at s (at ks i) (at ws i)).fitted ∷ (residual_at s (at ks i) (at ws i)).vol ∷ []

  abbrev pub rows_to : ℕ → List Float
  rows_to i = for 0 i (λ i l. l ++ row i) []

  rows_length : (i : ℕ) → length (rows_to i) ≡ i * 4
  rows_length i =
      for_ind (λ i l. l ++ row i) (λ (i : ℕ) (l : List Float). length l ≡ i * 4) i (λ j l k h. length-append l (row j) ∙ omega (arith, h)) [] (omega arith)

  -- the first i rows stand in out, which is otherwise o
  pub record Rows (i : ℕ) (o out : List Float) : Type 0 where
    pub within : i ≤ length ks
    pub long : length out ≡ length o
    pub is : out ≡ rows_to i ++ drop (i * 4) o

  pub rows_start : (o : List Float) → Rows 0 o o
  unfolding turns
  rows_start o = record { within = omega arith; long = refl; is = refl }

  pub rows_next : (i : ℕ) (o out : List Float) (r : Residual) → i < length ks → length ks * 4 ≤ length o → r ≡ residual_at s (at ks i) (at ws i) → Rows i o out
      → Rows (i + 1) o (set (set (set (set out (i * 4) (at ks i)) (i * 4 + 1) (at ws i)) (i * 4 + 2) (fitted_in r.fitted)) (i * 4 + 3) r.vol)
  rows_next i o out r l m e h =
      let k : (i + 1) * 4 ≡ i * 4 + 4 = omega arith in
      record {
        within = omega arith;
        long = simp length-set h.long;
        is =
            rw (k, h.is, e, for_next (λ i l. l ++ row i) [] i)
            (put_four (rows_to i) o (i * 4) (at ks i) (at ws i) (fitted_in (residual_at s (at ks i) (at ws i)).fitted) (residual_at s (at ks i) (at ws i)).vol (rows_length i) (omega arith));
      }

  -- the loop over the observations: how many turns it has, and what it has in its turn
  pub all_turned : length ws ≡ length ks → length (enumerate_from 0 (zip ks ws)) ≡ length ks
  all_turned e = length-enumerate_from 0 (zip ks ws) ∙ length-zip ks ws ∙ omega (arith, e)

  pub turned : (k i : ℕ) (x y : Float) → length ws ≡ length ks → (k < length (enumerate_from 0 (zip ks ws))) × ((i, (x, y)) ≡ get_or (enumerate_from 0 (zip ks ws)) k (i, (x, y)))
      → (k < length ks) × (i ≡ k) × (x ≡ at ks k) × (y ≡ at ws k)
  turned k i x y e t =
      let h : k < length ks = rw (all_turned e) at t.0 in
      let g : k < length ws = omega (arith, h, e) in
      let z : k < length (zip ks ws) = rw (length-enumerate_from 0 (zip ks ws)) at t.0 in
      let q : (i, (x, y)) ≡ (0 + k, (get_or ks k x, get_or ws k y)) = t.1 ∙ get_or-enumerate_from 0 (zip ks ws) k (i, (x, y)) z ∙ ap (λ (p : Float × Float). (0 + k, p)) (get_or-zip ks ws k (x, y) h g) in
      (h, ap (λ (p : ℕ × (Float × Float)). p.0) q ∙ zero-add k, ap (λ (p : ℕ × (Float × Float)). p.1.0) q ∙ get_or_default ks k x nan h, ap (λ (p : ℕ × (Float × Float)). p.1.1) q ∙ get_or_default ws k y nan g)

  pub rows_end : (i : ℕ) (o out : List Float) → i ≡ length ks → Rows i o out → out ≡ residuals_of s ks ws ++ drop (length ks * 4) o
  unfolding residuals_of
  rows_end i o out e h = h.is ∙ ap (λ (k : ℕ). rows_to k ++ drop (k * 4) o) e

  pub residuals_length : length (residuals_of s ks ws) ≡ length ks * 4
  unfolding residuals_of
  residuals_length = rows_length (length ks)
