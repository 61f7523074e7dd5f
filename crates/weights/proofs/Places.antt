-- One turn of each loop over the weights, said of lists. Assumes nothing.
use mathlib.Core.Path.{◌≡◌, refl, sym, ap, ap₂, subst, ◌∙◌}
use mathlib.Core.Bool.{Bool, true}
use mathlib.Core.List.{List, [], ◌∷◌, ◌++◌, map, append_assoc, map-append}
use Prim.Native.Nat.{ℕ, suc, ◌+◌, ◌-◌, ◌≤◌, ◌<◌}
use native.Mathlib.Omega.{arith}
use native.Mathlib.Nat.{sub-zero, add-zero, zero-add}
use native.Mathlib.Numerals.{add-one}
use lib.ListN.{length, take, drop, set, length-set, length-map, length-drop, get_or}
use lib.Seq.{take-suc-set, take-suc, drop-cons, get_or-drop, drop-length, take-length, take_at, drop_at, drop-drop, drop-set-lt, length-take-le}
use lib.Ieee.{Float, nan}
use Rattle.std.specs.Prelude.{reverse}
use Rattle.std.specs.List.{enumerate_from}
use Rattle.std.proofs.lemmas.List.{length-reverse, get_or-reverse, get_or_default}
use Rattle.std.proofs.lemmas.List.FromFn.{length-enumerate_from, get_or-enumerate_from}
use Rattle.laws.specs.Floats.{◌*f◌, at}
use Rattle.laws.specs.Room.{at_front}
use borrow.Author.Tests.{le-leb}
use Rattle.laws.proofs.Choices.{if_true}
use Rattle.laws.proofs.Rooms.{put_next}
use Rattle.weights.specs.declared.Weights.{Weights}
use Rattle.weights.specs.Weights.{insert_of, sort_of, lesser, greater, mid_of, median_of, cap_of, top_of, scale_one, scaled_of, all_good, weighable, weighed, weights_of, scaled_in}

-- lists that agree from k on agree from k + 1 on
drop_more : (k : ℕ) (a b : List Float) → drop k a ≡ drop k b → drop (k + 1) a ≡ drop (k + 1) b
drop_more k a b e = sym (drop-drop 1 k a) ∙ ap (drop 1) e ∙ drop-drop 1 k b

at_drop : (k : ℕ) (a : List Float) → at (drop k a) 0 ≡ at a k
at_drop k a = get_or-drop k a 0 nan ∙ ap (at a) (add-zero k)

-- and have the same at k
at_same : (k : ℕ) (a b : List Float) → drop k a ≡ drop k b → at a k ≡ at b k
at_same k a b e = sym (at_drop k a) ∙ ap (λ (l : List Float). at l 0) e ∙ at_drop k b

-- ---- x goes through a list: the first k have been passed, and `carry` goes on

pub record Passing (k : ℕ) (x carry : Float) (a out : List Float) : Type 0 where
  pub long : length out ≡ length a
  pub front : take k out ++ insert_of carry (drop k a) ≡ insert_of x a
  pub back : drop k out ≡ drop k a

pub passing_start : (x : Float) (a : List Float) → Passing 0 x x a a
passing_start x a = record { long = refl; front = refl; back = refl }

pub passing_next :
    (k : ℕ) (x carry : Float) (a out : List Float) → k < length a → Passing k x carry a out
    → Passing (k + 1) x (greater carry (at out k)) a (set out k (lesser carry (at out k)))
unfolding insert_of
passing_next k x carry a out l h =
    rw (at_same k out a h.back)
    (record {
      long = length-set out k _ ∙ h.long;
      front = rw (add-one k, take-suc-set out k (lesser carry (at a k)) (rw h.long l), append_assoc) (rw (drop-cons a k nan l) at h.front);
      back = drop-set-lt (k + 1) out k _ (omega arith) ∙ drop_more k out a h.back;
    })

-- all have been passed, and what goes on is the greatest
pub passing_end : (x carry : Float) (a out : List Float) → Passing (length a) x carry a out → out ++ (carry ∷ []) ≡ insert_of x a
unfolding insert_of
passing_end x carry a out h =
    sym (ap₂ (λ (p q : List Float). p ++ insert_of carry q) (ap (λ (n : ℕ). take n out) (sym h.long) ∙ take-length out) (drop-length a)) ∙ h.front

-- so it is put in the first n + 1 places of the room a, behind the n that it passed
pub passing_room : (n : ℕ) (x carry : Float) (a out : List Float) → n < length a → Passing n x carry (take n a) out → set (out ++ drop n a) n carry ≡ insert_of x (take n a) ++ drop (n + 1) a
passing_room n x carry a out l h =
    let e : length (take n a) ≡ n = length-take-le n a (omega arith) in
    put_next nan out a n (n + 1) carry (h.long ∙ e) l (add-one n)
    ∙ ap (λ (s : List Float). s ++ drop (n + 1) a) (passing_end x carry (take n a) out (subst (λ (k : ℕ). Passing k x carry (take n a) out) (sym e) h))

-- ---- the sort: m weights, from the last on, are in place

insert_length : (x : Float) (ys : List Float) → length (insert_of x ys) ≡ suc (length ys)
unfolding insert_of
insert_length x [] = refl
insert_length x (y ∷ ys) = ap suc (insert_length (greater x y) ys)

sort_length : (weights : List Float) → length (sort_of weights) ≡ length weights
unfolding sort_of
sort_length [] = refl
sort_length (w ∷ weights) = insert_length w (sort_of weights) ∙ ap suc (sort_length weights)

abbrev pub Sorting : List Float → List Float → ℕ → List Float → Type 0
Sorting weights room m a = (m ≤ length weights) × (length a ≡ length room) × (a ≡ sort_of (drop (length weights - m) weights) ++ drop m room)

pub sort_start : (weights room : List Float) → Sorting weights room 0 room
unfolding sort_of
sort_start weights room = (omega arith, refl, rw (sub-zero (length weights), drop-length weights))

pub sort_next :
    (weights room a next : List Float) (m : ℕ) → m < length weights → Sorting weights room m a → length next ≡ length a → next ≡ insert_of (at weights (length weights - 1 - m)) (take m a) ++ drop (m + 1) a
    → Sorting weights room (m + 1) next
unfolding sort_of
sort_next weights room a next m h inv same e =
    let i = length weights - 1 - m in
    let x : length weights - (m + 1) ≡ i = omega arith in
    let y : length weights - m ≡ suc i = omega arith in
    let s = sort_of (drop (length weights - m) weights) in
    let long : length s ≡ m = sort_length (drop (length weights - m) weights) ∙ length-drop (length weights - m) weights ∙ omega arith in
    let front : take m a ≡ s = ap (take m) inv.2 ∙ take_at s (drop m room) m long in
    let back : drop (m + 1) a ≡ drop (m + 1) room = drop_more m a room (ap (drop m) inv.2 ∙ drop_at s (drop m room) m long) in
    let one : insert_of (at weights i) s ≡ sort_of (drop (length weights - (m + 1)) weights) = rw (x, y, drop-cons weights i nan (omega arith)) in
    (omega arith, same ∙ inv.1, e ∙ ap (λ (l : List Float). insert_of (at weights i) l ++ drop (m + 1) a) front ∙ ap (λ (l : List Float). insert_of (at weights i) s ++ l) back ∙ ap (λ (l : List Float). l ++ drop (m + 1) room) one)

pub sort_end : (weights room a : List Float) (m : ℕ) → m ≡ length weights → Sorting weights room m a → a ≡ at_front (sort_of weights) room
sort_end weights room a m e inv =
    let z : length weights - m ≡ 0 = omega arith in
    inv.2 ∙ ap (λ (k : ℕ). sort_of (drop k weights) ++ drop m room) z ∙ ap (λ (k : ℕ). sort_of weights ++ drop k room) (e ∙ sym (sort_length weights))

-- the loop over the weights from the last on: how many turns it has, and what it has in its turn
pub all_turned : (weights : List Float) → length (enumerate_from 0 (reverse weights)) ≡ length weights
all_turned weights = length-enumerate_from 0 (reverse weights) ∙ length-reverse weights

pub turned : (weights : List Float) (k m : ℕ) (w : Float) → (k < length (enumerate_from 0 (reverse weights))) × ((m, w) ≡ get_or (enumerate_from 0 (reverse weights)) k (m, w)) → (k < length weights) × (m ≡ k) × (w ≡ at weights (length weights - 1 - k))
turned weights k m w t =
    let h : k < length weights = rw (all_turned weights) at t.0 in
    let g : k < length (reverse weights) = rw (length-reverse weights) h in
    let b : length weights - 1 - k < length weights = omega arith in
    let e : (m, w) ≡ (0 + k, get_or (reverse weights) k w) = t.1 ∙ get_or-enumerate_from 0 (reverse weights) k (m, w) g in
    (h, ap (λ (p : ℕ × Float). p.0) e ∙ zero-add k, ap (λ (p : ℕ × Float). p.1) e ∙ get_or-reverse weights k w h ∙ get_or_default weights (length weights - 1 - k) w nan b)

-- ---- the weights scaled by f, one after the other

abbrev pub Scaling : (Float → Float) → List Float → List Float → ℕ → List Float → Type 0
Scaling f weights room i a = (i ≤ length weights) × (length a ≡ length room) × (a ≡ map f (take i weights) ++ drop i room)

pub scale_next :
    (f : Float → Float) (weights room a : List Float) (i : ℕ) → i < length weights → i < length room → Scaling f weights room i a → Scaling f weights room (i + 1) (set a i (f (at weights i)))
scale_next f weights room a i h k inv =
    let p = map f (take i weights) in
    let long : length p ≡ i = length-map (take i weights) f ∙ length-take-le i weights (omega arith) in
    let one : map f (take (i + 1) weights) ≡ p ++ (f (at weights i) ∷ []) = rw (add-one i, take-suc weights i nan h, map-append) in
    (omega arith, length-set a i _ ∙ inv.1, ap (λ (l : List Float). set l i (f (at weights i))) inv.2 ∙ put_next nan p room i (i + 1) (f (at weights i)) long k (omega arith) ∙ ap (λ (l : List Float). l ++ drop (i + 1) room) (sym one))

pub scale_end : (f : Float → Float) (weights room a : List Float) (i : ℕ) → length weights ≤ i → Scaling f weights room i a → a ≡ at_front (map f weights) room
scale_end f weights room a i h inv =
    let e : i ≡ length weights = omega (arith, inv.0, h) in
    inv.2 ∙ ap (λ (k : ℕ). map f (take k weights) ++ drop k room) e ∙ ap (λ (l : List Float). map f l ++ drop (length weights) room) (take-length weights)
    ∙ ap (λ (k : ℕ). map f weights ++ drop k room) (sym (length-map weights f))

-- ---- what stands behind a list does not count

front_is : (n : ℕ) (l room a : List Float) → length l ≡ n → a ≡ at_front l room → take n a ≡ l
front_is n l room a e h = ap (take n) h ∙ take_at l (drop (length l) room) n e

-- a list written over one of its length
over_front : (l s room : List Float) → length l ≡ length s → at_front l (at_front s room) ≡ at_front l room
over_front l s room e = ap (λ (r : List Float). l ++ r) (drop_at s (drop (length s) room) (length l) (sym e) ∙ ap (λ (k : ℕ). drop k room) (sym e))

-- ---- step 3 as the code makes it: the room with the sorted weights, then with the scaled ones
pub weighed_is :
    (ratio : Float) (weights room sorted scaled : List Float) (mid most : Float) (ok : Bool)
    → 1 ≤ length weights
    → sorted ≡ at_front (sort_of weights) room
    → mid ≡ (let l = take (length weights) sorted in mid_of (length l) l)
    → most ≡ top_of (ratio *f mid) weights
    → scaled ≡ at_front (map (scale_one (ratio *f mid) most) weights) sorted
    → ok ≡ all_good (take (length weights) scaled)
    → (◌≡◌ {A = Weights} (record { ok = ok; cap = ratio *f mid }) (weighed ratio weights)) × (scaled ≡ at_front (scaled_of ratio weights) room)
weighed_is ratio weights room sorted scaled mid most ok h e1 e2 e3 e4 e5 =
    let n = length weights in
    let f : Float → Float = scale_one (cap_of ratio weights) (top_of (cap_of ratio weights) weights) in
    let m : mid ≡ median_of weights =
    e2 ∙ ap (λ (l : List Float). mid_of (length l) l) (front_is n (sort_of weights) room sorted (sort_length weights) e1) ∙ ap (λ (k : ℕ). mid_of k (sort_of weights)) (sort_length weights) in
    let t : most ≡ top_of (cap_of ratio weights) weights = e3 ∙ ap (λ (x : Float). top_of (ratio *f x) weights) m in
    let s : scaled ≡ at_front (scaled_of ratio weights) room =
    e4 ∙ ap (λ (x : Float). at_front (map (scale_one (ratio *f x) most) weights) sorted) m ∙ ap (λ (x : Float). at_front (map (scale_one (cap_of ratio weights) x) weights) sorted) t
    ∙ ap (at_front (scaled_of ratio weights)) e1 ∙ over_front (scaled_of ratio weights) (sort_of weights) room (length-map weights f ∙ sym (sort_length weights)) in
    let o : ok ≡ all_good (scaled_of ratio weights) = e5 ∙ ap all_good (front_is n (scaled_of ratio weights) room scaled (length-map weights f) s) in
    (λ i. record { ok = o i; cap = ratio *f m i }, s)

-- ---- what a caller with 1 to 256 weights holds

pub scaled_length : (ratio : Float) (weights : List Float) → length (scaled_of ratio weights) ≡ length weights
scaled_length ratio weights = length-map weights (scale_one (cap_of ratio weights) (top_of (cap_of ratio weights) weights))

are_weighable : (weights : List Float) → 1 ≤ length weights → length weights ≤ 256 → weighable weights ≡ true
are_weighable weights l h = rw (le-leb 1 (length weights) l) (le-leb (length weights) 256 h)

pub weights_are : (ratio : Float) (weights : List Float) → 1 ≤ length weights → length weights ≤ 256 → weights_of ratio weights ≡ weighed ratio weights
unfolding weights_of
weights_are ratio weights l h = sym (if_true _ (are_weighable weights l h) refl)

pub take_scaled : (ratio : Float) (weights room : List Float) → 1 ≤ length weights → length weights ≤ 256 → take (length weights) (scaled_in ratio weights room) ≡ scaled_of ratio weights
unfolding scaled_in
take_scaled ratio weights room l h =
    let s = scaled_of ratio weights in
    ap (take (length weights)) (sym (if_true room (are_weighable weights l h) refl)) ∙ take_at s (drop (length s) room) (length weights) (scaled_length ratio weights)
