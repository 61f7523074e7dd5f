-- The default values are those of the definitions. Assumes nothing.
use mathlib.Core.Path.{◌≡◌, refl, ap₂}
use mathlib.Core.Bool.{Bool, false}
use mathlib.Core.List.{List, [], ◌∷◌}
use Prim.Native.Nat.{ℕ, zero, suc, ◌<◌}
use native.Mathlib.Omega.{arith}
use lib.ListN.{length, replicate, get_or}
use lib.Ieee.{Float}
use Rattle.std.specs.Array.{AllOfLen}
use Rattle.laws.specs.Floats.{+0}
use Rattle.faces.specs.declared.Face.{Face}
use Rattle.faces.specs.Faces.{face_of}
use Rattle.cell.specs.declared.Tried.{Tried}
use Rattle.cell.specs.declared.Cell.{Cell}
use Rattle.cell.specs.Cell.{no_try, no_cell}

-- a list of n equal members
same_at : {A : Type 0} (a : A) (n : ℕ) (xs : List A) → length xs ≡ n → ((i : ℕ) (d : A) → i < n → get_or xs i d ≡ a) → xs ≡ replicate n a
same_at a zero [] e h = refl
same_at a zero (x ∷ xs) e h = absurd (omega (arith, e))
same_at a (suc n) [] e h = absurd (omega (arith, e))
same_at a (suc n) (x ∷ xs) e h = ap₂ ◌∷◌ (h 0 a (omega arith)) (same_at a n xs (omega (arith, e)) (λ i d l. h (suc i) d (omega arith)))

same : {A : Type 0} (a : A) (n : ℕ) (xs : List A) → AllOfLen (λ x. x ≡ a) xs n → xs ≡ replicate n a
same a n xs h = same_at a n xs h.long h.at

abbrev pub IsEmpty : Face → Type 0
IsEmpty f = (f.size ≡ 0) × ((f.a ≡ 0) × ((f.b ≡ 0) × (f.c ≡ 0)))

pub empty_face : (f : Face) → IsEmpty f → f ≡ face_of []
empty_face f e = λ i. record { size = e.0 i; a = e.1.0 i; b = e.1.1.0 i; c = e.1.1.1 i }

abbrev pub IsNone : Tried → Type 0
IsNone t = (t.some ≡ false) × ((t.objective ≡ +0) × (AllOfLen (λ (x : Float). x ≡ +0) t.x 3 × IsEmpty t.face))

pub none_tried : (t : Tried) → IsNone t → t ≡ no_try
none_tried t e =
    let x = same +0 3 t.x e.1.1.0 in
    let f = empty_face t.face e.1.1.1 in
    λ i. record { some = e.0 i; objective = e.1.0 i; x = x i; face = f i }

abbrev pub IsNoCell : Cell → Type 0
IsNoCell c = (c.some ≡ false) × ((c.objective ≡ +0) × (AllOfLen (λ (x : Float). x ≡ +0) c.x 3 × (AllOfLen (λ (b : Bool). b ≡ false) c.active 7 × ((c.faces ≡ 0) × (c.updates ≡ 0)))))

pub none_found : (c : Cell) → IsNoCell c → c ≡ no_cell
none_found c e =
    let x = same +0 3 c.x e.1.1.0 in
    let a = same false 7 c.active e.1.1.1.0 in
    λ i. record { some = e.0 i; objective = e.1.0 i; x = x i; active = a i; faces = e.1.1.1.1.0 i; updates = e.1.1.1.1.1 i }
