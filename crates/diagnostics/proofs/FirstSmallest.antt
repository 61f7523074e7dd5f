-- A tally of any points: how many there are, how many are violations, and the first smallest value, where a NaN that comes first stays; and only one point is that. Assumes nothing.
use mathlib.Core.Path.{◌≡◌, refl, sym, ap, subst, ◌∙◌}
use mathlib.Core.Bool.{Bool, true, false, not, cond}
use mathlib.Core.List.{List, [], ◌∷◌, ◌++◌, append-nil}
use mathlib.Core.Logic.{◌⊎◌, inl, inr, ⊎_elim}
use Prim.Native.Nat.{ℕ, zero, suc, ◌+◌, ◌<◌}
use native.Mathlib.Nat.{eq-or-lt_of_le}
use native.Mathlib.Omega.{arith}
use lib.Dec.{T, ltb}
use lib.ListN.{length, length-append, get_or-append}
use lib.Seq.{append_snoc, get_or_at}
use lib.Ieee.{Float, nan, inf, fin, lt, le, is_nan, neg}
use borrow.Author.Tests.{ltb-true, ltb-false}
use Rattle.laws.proofs.Choices.{false_true}
use Rattle.laws.proofs.Comparing.{lt_or_le}
use Rattle.laws.proofs.Floats.{is_nan_lem}
use Rattle.laws.proofs.Loops.{below_next}
use Rattle.laws.proofs.Order.{lt_le_trans, lt_not_self, lt_or, lt→le}
use Rattle.diagnostics.specs.declared.tally.DiagnosticPoint.{DiagnosticPoint}
use Rattle.diagnostics.specs.declared.tally.Worst.{Worst}
use Rattle.diagnostics.specs.declared.tally.Check.{Check}
use Rattle.diagnostics.specs.Tally.{point_at, one_more, found, worse_of, recorded_of, no_check}
use Rattle.diagnostics.specs.Recorded.{recorded_all, tally_of, up_to, violations_in, point_of, value_of, FirstSmallest, Tallies}

-- ---- the order of values

no_lt : (x y : Float) → (T (lt x y) → ⊥) → lt x y ≡ false
no_lt x y h = go (lt x y) h
  where
    go : (b : Bool) → (T b → ⊥) → b ≡ false
    go true h = absurd (h tt)
    go false h = refl

is_lt : (x y : Float) → T (lt x y) → lt x y ≡ true
is_lt x y h = go (lt x y) h
  where
    go : (b : Bool) → T b → b ≡ true
    go true h = refl
    go false h = absurd h

from_lt : {b : Bool} → b ≡ true → T b
from_lt e = subst T (sym e) tt

no_nan_above : (p w : Float) → T (lt p w) → T (not (is_nan w))
unfolding lt is_nan
no_nan_above nan w h = absurd h
no_nan_above (inf false) nan h = absurd h
no_nan_above (inf true) nan h = absurd h
no_nan_above (fin s m e) nan h = absurd h
no_nan_above (inf s) (inf t) h = tt
no_nan_above (inf s) (fin t n d) h = tt
no_nan_above (fin s m e) (inf t) h = tt
no_nan_above (fin s m e) (fin t n d) h = tt

not_below_nan : (p : Float) → T (lt p nan) → ⊥
unfolding is_nan
not_below_nan p h = no_nan_above p nan h

not_above_nan : (x : Float) → T (lt nan x) → ⊥
unfolding lt
not_above_nan x h = h

-- what is below w is below all that are not below w and are no NaN
below_all : (p w x : Float) → lt p w ≡ true → lt x w ≡ false → (lt p x ≡ true) ⊎ (x ≡ nan)
below_all p w x h k = go (is_nan x) refl (le w x) (λ n q. lt_or w x (no_nan_above p w (from_lt h)) n q) (λ l. lt_le_trans p w x (from_lt h) l)
  where
    go : (n : Bool) → is_nan x ≡ n → (b : Bool) → (T (not (is_nan x)) → T (not b) → T (lt x w)) → (T b → T (lt p x)) → (lt p x ≡ true) ⊎ (x ≡ nan)
    go true e b f g = inr (is_nan_lem x e)
    go false e true f g = inl (is_lt p x (g tt))
    go false e false f g = false_true (sym k ∙ is_lt x w (f (subst (λ (n : Bool). T (not n)) (sym e) tt) tt))

-- and none of them is below it
none_below : (p w x : Float) → lt p w ≡ true → lt x w ≡ false → lt x p ≡ false
none_below p w x h k = no_lt x p (λ l. absurd (subst T k (lt_le_trans x p w l (lt→le p w (from_lt h)))))

-- ---- one point more

module _ (ps : List DiagnosticPoint) (p : DiagnosticPoint) where
  abbrev more : List DiagnosticPoint
  more = ps ++ (p ∷ [])

  one_longer : length more ≡ length ps + 1
  one_longer = length-append ps (p ∷ [])

  old : (j : ℕ) → j < length ps → point_of more j ≡ point_of ps j
  old j l = get_or-append ps (p ∷ []) (point_at nan nan nan) j l

  new : point_of more (length ps) ≡ p
  new = get_or_at ps p [] (point_at nan nan nan) (length ps) refl

  -- what holds of the old points and of the one more holds of all
  each : (P : Float → Type 0) → ((j : ℕ) → j < length ps → P (value_of ps j)) → P p.value → (j : ℕ) → j < length more → P (value_of more j)
  each P f h j l =
      below_next (λ (j : ℕ). P (value_of more j)) (length ps) (λ j l. subst (λ (q : DiagnosticPoint). P q.value) (sym (old j l)) (f j l))
      (subst (λ (q : DiagnosticPoint). P q.value) (sym new) h) j (omega (arith, l, one_longer))

  module _ (w : Worst) (s : FirstSmallest ps w) where
    first_of : 0 < length ps
    first_of = let l = s.inside in omega (arith, l)

    held : w.at.value ≡ value_of ps s.place
    held = ap (λ (w : Worst). w.at.value) s.is_it

    smaller : lt p.value w.at.value ≡ true → FirstSmallest more (found p)
    smaller h =
        let k : lt p.value (value_of ps s.place) ≡ true = ap (lt p.value) (sym held) ∙ h in
        record {
          place = length ps;
          inside = omega (arith, one_longer);
          is_it = ap found (sym new);
          none_less =
              subst (λ (q : DiagnosticPoint). (j : ℕ) → j < length more → lt (value_of more j) q.value ≡ false) (sym new)
              (each (λ (x : Float). lt x p.value ≡ false) (λ j l. none_below p.value (value_of ps s.place) (value_of ps j) k (s.none_less j l)) (no_lt p.value p.value (lt_not_self p.value)));
          earlier = λ j l.
              subst (λ (q : DiagnosticPoint). (lt (value_of more (length ps)) q.value ≡ true) ⊎ (q.value ≡ nan)) (sym (old j l))
              (subst (λ (q : DiagnosticPoint). (lt q.value (value_of ps j) ≡ true) ⊎ (value_of ps j ≡ nan)) (sym new)
              (below_all p.value (value_of ps s.place) (value_of ps j) k (s.none_less j l)));
          nan_stays = λ e.
              let z : value_of ps 0 ≡ nan = ap (λ (q : DiagnosticPoint). q.value) (sym (old 0 first_of)) ∙ e in
              let y : value_of ps s.place ≡ nan = ap (value_of ps) (s.nan_stays z) ∙ z in
              absurd (not_below_nan p.value (from_lt (ap (lt p.value) (sym y) ∙ k)));
        }

    not_smaller : lt p.value w.at.value ≡ false → FirstSmallest more w
    not_smaller h =
        record {
          place = s.place;
          inside = let l = s.inside in omega (arith, l, one_longer);
          is_it = s.is_it ∙ ap found (sym (old s.place s.inside));
          none_less =
              subst (λ (q : DiagnosticPoint). (j : ℕ) → j < length more → lt (value_of more j) q.value ≡ false) (sym (old s.place s.inside))
              (each (λ (x : Float). lt x (value_of ps s.place) ≡ false) s.none_less (ap (lt p.value) (sym held) ∙ h));
          earlier = λ j l.
              let i = s.inside in
              subst (λ (q : DiagnosticPoint). (lt (value_of more s.place) q.value ≡ true) ⊎ (q.value ≡ nan)) (sym (old j (omega (arith, l, i))))
              (subst (λ (q : DiagnosticPoint). (lt q.value (value_of ps j) ≡ true) ⊎ (value_of ps j ≡ nan)) (sym (old s.place s.inside)) (s.earlier j l));
          nan_stays = λ e. s.nan_stays (ap (λ (q : DiagnosticPoint). q.value) (sym (old 0 first_of)) ∙ e);
        }

    worse_step : FirstSmallest more (worse_of w p)
    unfolding worse_of
    worse_step = subst (λ (b : Bool). FirstSmallest more (cond b (cond (lt p.value w.at.value) (found p) w) (found p))) (sym (ap (λ (w : Worst). w.found) s.is_it)) (go (lt p.value w.at.value) refl)
      where
        go : (b : Bool) → lt p.value w.at.value ≡ b → FirstSmallest more (cond b (found p) w)
        go true e = smaller e
        go false e = not_smaller e

-- the first of all
worse_first : (w : Worst) (p : DiagnosticPoint) → w.found ≡ false → FirstSmallest (p ∷ []) (worse_of w p)
unfolding worse_of
worse_first w p e = subst (λ (b : Bool). FirstSmallest (p ∷ []) (cond b (cond (lt p.value w.at.value) (found p) w) (found p))) (sym e)
    (record {
      place = 0;
      inside = omega arith;
      is_it = refl;
      none_less = λ j l. below_next (λ (j : ℕ). lt (value_of (p ∷ []) j) p.value ≡ false) 0 (λ k z. absurd (omega (arith, z))) (no_lt p.value p.value (lt_not_self p.value)) j (omega (arith, l));
      earlier = λ j l. absurd (omega (arith, l));
      nan_stays = λ e. refl;
    })

-- ---- the counts

up_to_more : (n : ℕ) → one_more true (up_to n) ≡ up_to (n + 1)
unfolding up_to one_more
up_to_more n = go (ltb n 18446744073709551615) (ltb (n + 1) 18446744073709551615) refl refl
  where
    go : (a b : Bool) → ltb n 18446744073709551615 ≡ a → ltb (n + 1) 18446744073709551615 ≡ b
        → cond (ltb (cond a n 18446744073709551615) 18446744073709551615) (cond a n 18446744073709551615 + 1) (cond a n 18446744073709551615) ≡ cond b (n + 1) 18446744073709551615
    go true true e h = rw e
    go true false e h = let l = ltb-true n 18446744073709551615 e in let k = ltb-false (n + 1) 18446744073709551615 h in rw e (omega (arith, l, k))
    go false true e h = let l = ltb-false n 18446744073709551615 e in let k = ltb-true (n + 1) 18446744073709551615 h in absurd (omega (arith, l, k))
    go false false e h = refl

violations_more : (ps : List DiagnosticPoint) (p : DiagnosticPoint) (t : Float) → violations_in (ps ++ (p ∷ [])) t ≡ violations_in ps t + cond (lt p.value (neg t)) 1 0
unfolding violations_in
violations_more [] p t = omega arith
violations_more (q ∷ ps) p t = let e = violations_more ps p t in omega (arith, e)

count_more : (b : Bool) (n : ℕ) → one_more b (up_to n) ≡ up_to (n + cond b 1 0)
unfolding one_more
count_more true n = up_to_more n
count_more false n = ap up_to (omega arith)

-- ---- the whole

step : (ps : List DiagnosticPoint) (p : DiagnosticPoint) (t : Float) (c : Check) → Tallies ps t c → Tallies (ps ++ (p ∷ [])) t (recorded_of c p t)
unfolding recorded_of
step ps p t c s =
    record {
      points = ap (one_more true) s.points ∙ up_to_more (length ps) ∙ ap up_to (sym (one_longer ps p));
      violations = ap (one_more (lt p.value (neg t))) s.violations ∙ count_more (lt p.value (neg t)) (violations_in ps t) ∙ ap up_to (sym (violations_more ps p t));
      none = λ e. let z : length (ps ++ (p ∷ [])) ≡ 0 = ap length e in absurd (omega (arith, z, one_longer ps p));
      worst = λ l. go ps s.none s.worst;
    }
  where
    go : (ps : List DiagnosticPoint) → (ps ≡ [] → c.worst.found ≡ false) → (0 < length ps → FirstSmallest ps c.worst) → FirstSmallest (ps ++ (p ∷ [])) (worse_of c.worst p)
    go [] n w = worse_first c.worst p (n refl)
    go (q ∷ ps) n w = worse_step (q ∷ ps) p c.worst (w (omega arith))

all : (done ps : List DiagnosticPoint) (t : Float) (c : Check) → Tallies done t c → Tallies (done ++ ps) t (recorded_all c ps t)
unfolding recorded_all
all done [] t c s = subst (λ (l : List DiagnosticPoint). Tallies l t c) (sym (append-nil done)) s
all done (p ∷ ps) t c s = subst (λ (l : List DiagnosticPoint). Tallies l t (recorded_all (recorded_of c p t) ps t)) (append_snoc done p ps) (all (done ++ (p ∷ [])) ps t (recorded_of c p t) (step done p t c s))

none_yet : (t : Float) → Tallies [] t no_check
unfolding up_to violations_in
none_yet t = record { points = refl; violations = refl; none = λ e. refl; worst = λ l. absurd (omega (arith, l)) }

-- whatever the points and the tolerance: their number, the violations among them, and the first smallest value
pub tally_says : (ps : List DiagnosticPoint) (t : Float) → Tallies ps t (tally_of ps t)
tally_says ps t = all [] ps t no_check (none_yet t)

-- ---- these words fit one point only

module _ (ps : List DiagnosticPoint) {w w' : Worst} (s : FirstSmallest ps w) (t : FirstSmallest ps w') where
  not_earlier : s.place < t.place → ⊥
  not_earlier l = ⊎_elim (λ h. less h) (λ e. missing s.place refl e) (t.earlier s.place l)
    where
      less : lt (value_of ps t.place) (value_of ps s.place) ≡ true → ⊥
      less h = false_true (sym (s.none_less t.place t.inside) ∙ h)

      missing : (i : ℕ) → s.place ≡ i → value_of ps s.place ≡ nan → ⊥
      missing zero p e = let q = t.nan_stays (ap (value_of ps) (sym p) ∙ e) in omega (arith, l, q)
      missing (suc i) p e =
          ⊎_elim
          (λ h. not_above_nan (value_of ps 0) (from_lt (ap (λ (x : Float). lt x (value_of ps 0)) (sym e) ∙ h)))
          (λ z. let q = s.nan_stays z in omega (arith, p, q))
          (s.earlier 0 (omega (arith, p)))

-- so the worst of given points is one
pub only_one : (ps : List DiagnosticPoint) {w w' : Worst} → FirstSmallest ps w → FirstSmallest ps w' → w ≡ w'
only_one ps s t = s.is_it ∙ ap (λ (i : ℕ). found (point_of ps i)) same ∙ sym t.is_it
  where
    same : s.place ≡ t.place
    same = ⊎_elim (λ l. absurd (not_earlier ps s t l)) (λ h. ⊎_elim (λ e. sym e) (λ l. absurd (not_earlier ps t s l)) (eq-or-lt_of_le h)) (lt_or_le s.place t.place)
