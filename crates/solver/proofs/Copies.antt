-- A piece of one list copied into another, as the definitions write it out, number by number. Assumes nothing.
use mathlib.Core.Path.{◌≡◌, sym, ap, ◌∙◌}
use mathlib.Core.List.{List, [], ◌∷◌, ◌++◌, append_assoc}
use Prim.Native.Nat.{ℕ, zero, suc, ◌+◌, ◌≤◌, ◌<◌}
use native.Mathlib.Omega.{arith}
use lib.ListN.{length, take, drop, set, get_or}
use lib.Ieee.{Float, nan}
use Rattle.std.proofs.Math.Seq.{take-suc}
use Rattle.std.proofs.lemmas.List.{take-append-drop, get_or-take, get_or-drop, length-take-le, length-append, length-drop, append-nil, drop-drop}
use Rattle.laws.specs.Loop.{turns, for}
use Rattle.laws.specs.Floats.{at}
use Rattle.laws.proofs.Loops.{for_next}
use Rattle.laws.proofs.Rooms.{put_next}

-- a number of a piece
pub piece_at : (m : List Float) (a k i : ℕ) → i < k → get_or (take k (drop a m)) i nan ≡ at m (a + i)
piece_at m a k i l = get_or-take k (drop a m) i nan l ∙ get_or-drop a m i nan

pub piece_length : (m : List Float) (a k : ℕ) → a + k ≤ length m → length (take k (drop a m)) ≡ k
piece_length m a k l = length-take-le k (drop a m) (omega (arith, length-drop a m))

-- n numbers of m from place l on, copied into t from place o on
copied : (o l : ℕ) (m t : List Float) (n : ℕ) → o + n ≤ length t → l + n ≤ length m → for 0 n (λ j t. set t (o + j) (at m (l + j))) t ≡ (take o t ++ take n (drop l m)) ++ drop (o + n) t
unfolding turns
copied o l m t zero h k =
    let none : o + 0 ≡ o = omega arith in
    sym (ap (λ (p : List Float). p ++ drop (o + 0) t) (append-nil (take o t)) ∙ ap (λ (k : ℕ). take o t ++ drop k t) none ∙ take-append-drop o t)
copied o l m t (suc n) h k =
    let f : ℕ → List Float → List Float = λ j t. set t (o + j) (at m (l + j)) in
    let d = drop l m in
    let p = take o t ++ take n d in
    let e : suc n ≡ n + 1 = omega arith in
    let whole = length-append (take o t) (take n d) in
    let front = length-take-le o t (omega (arith, h)) in
    let back = piece_length m l n (omega (arith, k)) in
    let long : length p ≡ o + n = omega (arith, whole, front, back) in
    let next : at m (l + n) ≡ get_or d n nan = sym (get_or-drop l m n nan) in
    let shorter = length-drop l m in
    let more : p ++ (at m (l + n) ∷ []) ≡ take o t ++ take (suc n) d =
    append_assoc (take o t) (take n d) (at m (l + n) ∷ []) ∙ ap (λ (q : List Float). take o t ++ q) (ap (λ (x : Float). take n d ++ (x ∷ [])) next ∙ sym (take-suc d n nan (omega (arith, k, shorter))))
    in
    ap (λ (c : ℕ). for 0 c f t) e ∙ for_next f t n ∙ ap (f n) (copied o l m t n (omega (arith, h)) (omega (arith, k)))
    ∙ put_next nan p t (o + n) (o + suc n) (at m (l + n)) long (omega (arith, h)) (omega arith)
    ∙ ap (λ (q : List Float). q ++ drop (o + suc n) t) more

-- the same as the library leaves it: ys in the place of n numbers of t
pub put : (o l n : ℕ) (m t : List Float) {ys : List Float} → o + n ≤ length t → l + n ≤ length m → ys ≡ take n (drop l m) → take o t ++ (ys ++ drop n (drop o t)) ≡ for 0 n (λ j t. set t (o + j) (at m (l + j))) t
put o l n m t h k e =
    ap (λ (ys : List Float). take o t ++ (ys ++ drop n (drop o t))) e
    ∙ ap (λ (q : List Float). take o t ++ (take n (drop l m) ++ q)) (drop-drop n o t)
    ∙ sym (copied o l m t n h k ∙ append_assoc (take o t) (take n (drop l m)) (drop (o + n) t))
