-- What a reader gave, what stands in lent room, and what a writer then holds. Assumes nothing.
use Rattle.std.proofs.Common.{◌≡◌, ℕ, ◌≤◌, ◌<◌, List, ◌++◌, length, take, drop, arith, sym, ap, ◌∙◌, subst, take_all, append-nil, cond, Some, None, IfSome, inl, inr}
use Rattle.std.proofs.lemmas.Bool.{le-leb, cases_lt}
use Rattle.std.proofs.lemmas.List.{take-append-le}
use Rattle.std.specs.Io.KnownBytes.{Consumes, IsAtEnd, Appends}
use Rattle.std.specs.declared.option.Option.{Option}
use Rattle.text.specs.Place.{placed}
use Rattle.laws.specs.Room.{at_front}

-- Known bytes, of which as many were read as there was room for, or all: they are the first of them.
pub first_read : (before after : Option (List ℕ)) (bs : List ℕ) (room : ℕ) → length bs ≤ room → Consumes before after bs → (length bs < room → IsAtEnd after)
    → IfSome before (λ xs. take room xs ≡ bs)
first_read None after bs room h c end = tt
first_read (Some xs) None bs room h c end = absurd c
first_read (Some xs) (Some ys) bs room h c end =
    elim (cases_lt (length bs) room) [
      | inl few ↦
          let e : xs ≡ bs = c ∙ ap (λ l. bs ++ l) (end few) ∙ append-nil bs in
          ap (take room) e ∙ take_all room bs h
      | inr full ↦
          let e : room ≡ length bs = omega arith in
          ap (take room) c ∙ take-append-le room bs ys (omega arith) ∙ take_all room bs h
    ]

-- a text that the room holds stands at its front
pub placed_front : (text before : List ℕ) (n : ℕ) → n ≡ length text → n ≤ length before → take n (placed text before) ≡ text
placed_front text before n e h =
    let fits = le-leb (length text) (length before) (subst (λ k. k ≤ length before) e h) in
    let all : length text ≤ n = omega arith in
    ap (λ b. take n (cond b (at_front text before) before)) fits ∙ take-append-le n text (drop (length text) before) (omega arith) ∙ take_all n text all

-- a text that was written, where it is what belongs to the first of the known bytes
pub wrote_of : (f : List ℕ → List ℕ) (room : ℕ) (known held holds : Option (List ℕ)) (bs text : List ℕ) → Appends held holds text → text ≡ f bs
    → IfSome known (λ xs. take room xs ≡ bs) → IfSome known (λ xs. Appends held holds (f (take room xs)))
wrote_of f room None held holds bs text a e h = tt
wrote_of f room (Some xs) held holds bs text a e h = subst (Appends held holds) (e ∙ ap f (sym h)) a
