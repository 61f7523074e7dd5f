-- 44 exactly where some record and an earlier one have one number with two contents and nothing asked before refuses: of quotes in memory, and of a file; and what it carries: zeros but for its number, and as many kept as came in.
use Prim.Native.Nat.{ℕ, zero, suc, ◌+◌, ◌*◌, ◌%◌, ◌<◌}
use mathlib.Core.Path.{◌≡◌, refl, sym, ap, ◌∙◌}
use mathlib.Core.Logic.{◌↔◌}
use mathlib.Core.Bool.{Bool, true, false, not, ◌&&◌}
use mathlib.Core.List.{List, [], ◌∷◌, map}
use native.Mathlib.Omega.{arith}
use lib.Dec.{eqb, leb}
use lib.ListN.{length}
use lib.Ieee.{Float}
use borrow.Author.Tests.{eqb-true, eq-eqb, le-leb, leb-true, not-true, not-false}
use Rattle.std.specs.Prelude.{Option, None, Some as Just}
use Rattle.laws.specs.Choice.{unless}
use Rattle.laws.specs.Some.{Some}
use Rattle.laws.proofs.Choices.{cond_test, both, split, off, past_one, false_true}
use Rattle.records.specs.declared.FitConfig.{FitConfig}
use Rattle.records.specs.Settings.{sizes_hold}
use Rattle.records.specs.Answer.{refused_with}
use Rattle.house.specs.declared.Layout.{Layout}
use Rattle.house.specs.declared.Quote.{Quote}
use Rattle.house.specs.File.{File, house_of, tau_of, config_of, records_at, records_of}
use Rattle.house.specs.Check.{k_of, w_of, weight_of, all_pass}
use Rattle.house.specs.Repeats.{same_content, clash, agrees, all_agree, kept}
use Rattle.house.specs.Taken.{intake_number}
use Rattle.house.specs.When.{nth, Clashing, TwoContents, NoneBefore44}
use Rattle.house.proofs.Files.{quotes_length}
use Rattle.house.proofs.Once.{content_is}
use Rattle.outcome.specs.Outcome.{OutcomeAnswer, refused_at, quotes_outcome, bytes_outcome, outcome_for, file_outcome}
use Rattle.outcome.proofs.Coming.{refused_is, for_house}
use Rattle.outcome.proofs.OnlyMalformed.{fit_below}

-- ---- two records

content_same : (a b : Quote) → (a.k ≡ b.k) × (a.w ≡ b.w) × (a.weight ≡ b.weight) → same_content a b ≡ true
unfolding same_content
content_same a b e = rw (eq-eqb a.k b.k e.0, eq-eqb a.w b.w e.1) (eq-eqb a.weight b.weight e.2)

clash_is : (a b : Quote) → clash a b ≡ true → Clashing a b
unfolding clash
clash_is a b h =
    let n = both (eqb a.number b.number) (not (same_content a b)) h in
    (eqb-true _ _ n.0, λ e. off (not-true (same_content a b) n.1) (content_same a b e))

is_clash : (a b : Quote) → Clashing a b → clash a b ≡ true
unfolding clash
is_clash a b h = go (same_content a b) refl
  where
    go : (x : Bool) → same_content a b ≡ x → (eqb a.number b.number && not (same_content a b)) ≡ true
    go true e = absurd (h.1 (content_is a b e))
    go false e = rw (eq-eqb a.number b.number h.0, e)

-- ---- a list of records

agrees_some : (q : Quote) (es : List Quote) → agrees q es ≡ false → Some (length es) (λ j. clash q (nth es j) ≡ true)
unfolding agrees
agrees_some q [] h = false_true (sym h)
agrees_some q (e ∷ es) h =
    split (not (clash q e)) (agrees q es) h
    (λ x. (0, omega arith, not-false (clash q e) x))
    (λ x. let s = agrees_some q es x in (suc s.0, omega (arith, s.1), s.2))

pub agrees_at : (q : Quote) (es : List Quote) (j : ℕ) → agrees q es ≡ true → j < length es → clash q (nth es j) ≡ false
unfolding agrees
agrees_at q [] j h l = absurd (omega arith)
agrees_at q (e ∷ es) zero h l = not-true (clash q e) (both (not (clash q e)) (agrees q es) h).0
agrees_at q (e ∷ es) (suc j) h l = agrees_at q es j (both (not (clash q e)) (agrees q es) h).1 (omega arith)

agree_some : (qs : List Quote) → all_agree qs ≡ false → TwoContents qs
unfolding all_agree
agree_some [] h = false_true (sym h)
agree_some (q ∷ qs) h =
    split (agrees q qs) (all_agree qs) h
    (λ x. let s = agrees_some q qs x in (suc s.0, omega (arith, s.1), (0, omega arith, clash_is q (nth qs s.0) s.2)))
    (λ x. let s = agree_some qs x in (suc s.0, omega (arith, s.1), (suc s.2.0, omega (arith, s.2.1), s.2.2)))

pub agree_at : (qs : List Quote) (i j : ℕ) → all_agree qs ≡ true → i < j → j < length qs → clash (nth qs i) (nth qs j) ≡ false
unfolding all_agree
agree_at [] i j h l k = absurd (omega arith)
agree_at (q ∷ qs) i zero h l k = absurd (omega arith)
agree_at (q ∷ qs) zero (suc j) h l k = agrees_at q qs j (both (agrees q qs) (all_agree qs) h).0 (omega arith)
agree_at (q ∷ qs) (suc i) (suc j) h l k = agree_at qs i j (both (agrees q qs) (all_agree qs) h).1 (omega arith) (omega arith)

some_differ : (qs : List Quote) → TwoContents qs → all_agree qs ≡ false
some_differ qs s = go (all_agree qs) refl
  where
    go : (x : Bool) → all_agree qs ≡ x → all_agree qs ≡ false
    go true e = absurd (off (agree_at qs s.2.0 s.0 e s.2.1 s.1) (is_clash _ _ s.2.2))
    go false e = e

-- ---- the number that refuses before dropping

module _ (config : FitConfig) (qs : List Quote) (room slots : ℕ) where
  abbrev When : Type 0
  When = NoneBefore44 config qs room slots × TwoContents qs

  intake_when : intake_number config qs room slots ≡ 44 → When
  unfolding intake_number
  intake_when h =
      let n = length qs in
      let x = past_one 44 (leb (n * 4) room && leb n slots) 12 _ (λ e. omega arith) h in
      let y = past_one 44 (sizes_hold n config) 11 _ (λ e. omega arith) x.1 in
      let z = past_one 44 (all_pass qs) 10 _ (λ e. omega arith) y.1 in
      let p = both (leb (n * 4) room) (leb n slots) x.0 in
      (((leb-true (n * 4) room p.0, leb-true n slots p.1), y.0, z.0), agree_some qs (last (all_agree qs) z.1))
    where
      last : (b : Bool) → unless {A = ℕ} b 44 0 ≡ 44 → b ≡ false
      last true h = absurd (omega arith)
      last false h = refl

  when_intake : When → intake_number config qs room slots ≡ 44
  unfolding intake_number
  when_intake w =
      let n = length qs in
      rw (le-leb (n * 4) room w.0.0.0, le-leb n slots w.0.0.1, w.0.1, w.0.2, some_differ qs w.1)

  module _ (tau : Float) where
    when_outcome : When → quotes_outcome tau config qs room slots ≡ refused_at 44 (length qs)
    when_outcome w = sym (refused_is tau config qs room slots 44 (sym (when_intake w)) (λ h. omega arith))

    quotes_when : (quotes_outcome tau config qs room slots).fit.number ≡ 44 → When
    unfolding quotes_outcome refused_with
    quotes_when =
        cond_test (λ (o : OutcomeAnswer). o.fit.number ≡ 44 → When) (eqb (intake_number config qs room slots) 0)
        (λ z h. absurd (omega (arith, h, fit_below tau config (map k_of (kept qs)) (map w_of (kept qs)) (map weight_of (kept qs)) room slots)))
        (λ z h. intake_when h)

    when_quotes : When → (quotes_outcome tau config qs room slots).fit.number ≡ 44
    unfolding refused_with
    when_quotes w = ap (λ (o : OutcomeAnswer). o.fit.number) (when_outcome w)

-- ---- what the two public functions answer

-- quotes in memory
pub quotes_44 :
    (tau : Float) (config : FitConfig) (s : List ℕ) (room slots : ℕ)
    → ((bytes_outcome tau config s room slots).fit.number ≡ 44) ↔ ((length s % 32 ≡ 0) × NoneBefore44 config (records_of s) room slots × TwoContents (records_of s))
unfolding bytes_outcome refused_with
quotes_44 tau config s room slots = (there, back)
  where
    there : (bytes_outcome tau config s room slots).fit.number ≡ 44 → (length s % 32 ≡ 0) × NoneBefore44 config (records_of s) room slots × TwoContents (records_of s)
    there =
        cond_test (λ (o : OutcomeAnswer). o.fit.number ≡ 44 → (length s % 32 ≡ 0) × NoneBefore44 config (records_of s) room slots × TwoContents (records_of s)) (eqb (length s % 32) 0)
        (λ z h. let w = quotes_when config (records_of s) room slots tau h in (eqb-true (length s % 32) 0 z, w.0, w.1))
        (λ z h. absurd (omega arith))

    back : (length s % 32 ≡ 0) × NoneBefore44 config (records_of s) room slots × TwoContents (records_of s) → (bytes_outcome tau config s room slots).fit.number ≡ 44
    back w = rw (eq-eqb (length s % 32) 0 w.0) (when_quotes config (records_of s) room slots tau (w.1, w.2))

-- a file: it is well formed, with v settings records and n observations, and its records are such
pub file_44 :
    (s : List ℕ) (room slots : ℕ)
    → ((file_outcome s room slots).fit.number ≡ 44)
    ↔ ((v : ℕ) × (n : ℕ) × (File v n ≡ house_of s) × NoneBefore44 (config_of s v) (records_at s v n) room slots × TwoContents (records_at s v n))
unfolding refused_with
file_44 s room slots = (there, back)
  where
    Told : Type 0
    Told = (v : ℕ) × (n : ℕ) × (File v n ≡ house_of s) × NoneBefore44 (config_of s v) (records_at s v n) room slots × TwoContents (records_at s v n)

    by : (h : Option Layout) → h ≡ house_of s → (outcome_for s h room slots).fit.number ≡ 44 → Told
    by None e h = absurd (omega arith)
    by (Just f) e h =
        let w = quotes_when (config_of s f.settings) (records_at s f.settings f.count) room slots (tau_of s f.settings) h in
        (f.settings, f.count, e, w.0, w.1)

    there : (file_outcome s room slots).fit.number ≡ 44 → Told
    there h = by (house_of s) refl (ap (λ (o : OutcomeAnswer). o.fit.number) (for_house s room slots (house_of s) refl) ∙ h)

    back : Told → (file_outcome s room slots).fit.number ≡ 44
    back w = sym (ap (λ (o : OutcomeAnswer). o.fit.number) (for_house s room slots (File w.0 w.1) w.2)) ∙ when_quotes (config_of s w.0) (records_at s w.0 w.1) room slots (tau_of s w.0) (w.3, w.4)

-- ---- what 44 carries

-- quotes in memory
pub quotes_44_carries :
    (tau : Float) (config : FitConfig) (s : List ℕ) (room slots : ℕ)
    → (bytes_outcome tau config s room slots).fit.number ≡ 44 → bytes_outcome tau config s room slots ≡ refused_at 44 (length (records_of s))
unfolding bytes_outcome
quotes_44_carries tau config s room slots h =
    let w = (quotes_44 tau config s room slots).0 h in
    rw (eq-eqb (length s % 32) 0 w.0) (when_outcome config (records_of s) room slots tau (w.1, w.2))

-- a file with v settings records and n observations
pub file_44_carries :
    (s : List ℕ) (v n : ℕ) → File v n ≡ house_of s → (room slots : ℕ)
    → (file_outcome s room slots).fit.number ≡ 44 → file_outcome s room slots ≡ refused_at 44 n
file_44_carries s v n e room slots h =
    let is = for_house s room slots (File v n) e in
    let w = quotes_when (config_of s v) (records_at s v n) room slots (tau_of s v) (ap (λ (o : OutcomeAnswer). o.fit.number) is ∙ h) in
    sym is ∙ when_outcome (config_of s v) (records_at s v n) room slots (tau_of s v) w ∙ ap (refused_at 44) (quotes_length s (20 + 88 * v) n)
