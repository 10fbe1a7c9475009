-- P12: a walk hands out each entry once, in contents order, and then says that it is at the end, for ever. Assumes nothing.
use Prim.Native.Nat.{ℕ, zero, suc, ◌+◌, ◌≤◌, ◌<◌}
use native.Mathlib.Omega.{arith}
use native.Mathlib.Numerals.{add-one}
use mathlib.Core.Path.{◌≡◌, refl, sym, ap, ◌∙◌}
use mathlib.Core.Bool.{true, false}
use mathlib.Core.List.{List, [], ◌∷◌, ◌++◌}
use lib.ListN.{length, replicate}
use borrow.Author.Tests.{lt-ltb, le-ltb}
use Rattle.loops.specs.Loop.{up_to}
use Rattle.register.specs.Layout.{size, count, start_of, length_of, tag_of, valid, body_of, entry_of, entries_of}
use Rattle.register.specs.Answers.{body_at}
use Rattle.register.proofs.Paths.{is-short, is-invalid, picks-yes, picks-no}
use Rattle.register_walk.specs.Walk.{stays, hands, walked_of, Step, step_of, walk, handed}

-- 1 and 17 are told at every place, and do not move it
pub walk-short : (r : List ℕ) (p : ℕ) → length r < size → walked_of r p ≡ stays p 1
unfolding walked_of
walk-short r p h = sym (is-short r _ _ _ h)

pub walk-invalid : (r : List ℕ) (p : ℕ) → size ≤ length r → valid r ≡ false → walked_of r p ≡ stays p 17
unfolding walked_of
walk-invalid r p h e = sym (is-invalid r _ _ _ h e)

module _ (r : List ℕ) (full : size ≤ length r) (e : valid r ≡ true) where
  -- an entry, with its body, and on to the next place
  abbrev entry_step : ℕ → Step
  entry_step p = record { out = hands (tag_of r p) (start_of r p) (length_of r p) (p + 1); body = body_of r p }

  -- the end, which does not move the place
  abbrev end_step : ℕ → Step
  end_step p = record { out = stays p 255; body = [] }

  pub walk-on : (p : ℕ) → p < count r → step_of r p ≡ entry_step p
  unfolding walked_of body_at
  walk-on p h =
      let x : hands (tag_of r p) (start_of r p) (length_of r p) (p + 1) ≡ walked_of r p = picks-yes r _ _ _ _ _ full e (lt-ltb p (count r) h) in
      let y : body_of r p ≡ body_at r p = picks-yes r _ _ _ _ _ full e (lt-ltb p (count r) h) in
      rw (sym x, sym y)

  pub walk_end : (p : ℕ) → count r ≤ p → step_of r p ≡ end_step p
  unfolding walked_of body_at
  walk_end p h =
      let x : stays p 255 ≡ walked_of r p = picks-no r _ _ _ _ _ full e (le-ltb p (count r) h) in
      let y : [] ≡ body_at r p = picks-no r _ _ _ _ _ full e (le-ltb p (count r) h) in
      rw (sym x, sym y)

  -- up to the last entry each step hands out the entry at its place
  walk-some-from : (m p : ℕ) → p + m ≤ count r → walk m r p ≡ up_to entry_step p m
  unfolding walk up_to
  walk-some-from zero p h = refl
  walk-some-from (suc m) p h =
      let l : p < count r = omega arith in
      let x : (walked_of r p).next ≡ suc p = ap (λ s. s.out.next) (walk-on p l) ∙ add-one p in
      ap (λ s. s ∷ walk m r (walked_of r p).next) (walk-on p l)
      ∙ ap (λ q. entry_step p ∷ walk m r q) x ∙ ap (λ s. entry_step p ∷ s) (walk-some-from m (suc p) (omega arith))

  pub walk-some : (m : ℕ) → m ≤ count r → walk m r 0 ≡ up_to entry_step 0 m
  walk-some m h = walk-some-from m 0 (omega arith)

  -- past the last entry every step says the end
  ends-for-ever : (n p : ℕ) → count r ≤ p → walk n r p ≡ replicate n (end_step p)
  unfolding walk
  ends-for-ever zero p h = refl
  ends-for-ever (suc n) p h =
      let x : (walked_of r p).next ≡ p = ap (λ s. s.out.next) (walk_end p h) in
      ap (λ s. s ∷ walk n r (walked_of r p).next) (walk_end p h)
      ∙ ap (λ q. end_step p ∷ walk n r q) x ∙ ap (λ l. end_step p ∷ l) (ends-for-ever n p h)

  walk_from : (m n p : ℕ) → p + m ≡ count r → walk (m + n) r p ≡ up_to entry_step p m ++ replicate n (end_step (count r))
  unfolding walk up_to
  walk_from zero n p h =
      let x : p ≡ count r = omega arith in
      let z : 0 + n ≡ n = omega arith in
      ap (λ i. walk i r p) z ∙ ap (walk n r) x ∙ ends-for-ever n (count r) (omega arith)
  walk_from (suc m) n p h =
      let l : p < count r = omega arith in
      let x : (walked_of r p).next ≡ suc p = ap (λ s. s.out.next) (walk-on p l) ∙ add-one p in
      let z : suc m + n ≡ suc (m + n) = omega arith in
      ap (λ i. walk i r p) z
      ∙ ap (λ s. s ∷ walk (m + n) r (walked_of r p).next) (walk-on p l)
      ∙ ap (λ q. entry_step p ∷ walk (m + n) r q) x ∙ ap (λ s. entry_step p ∷ s) (walk_from m n (suc p) (omega arith))

  -- THE WALK: from place 0 each entry in its turn, and then the end as often as it is asked for
  pub walk-all : (n : ℕ) → walk (count r + n) r 0 ≡ up_to entry_step 0 (count r) ++ replicate n (end_step (count r))
  walk-all n = walk_from (count r) n 0 (omega arith)

  handed-ends : (n p : ℕ) → handed (replicate n (end_step p)) ≡ []
  unfolding handed
  handed-ends zero p = refl
  handed-ends (suc n) p = handed-ends n p

  handed-from : (m n p : ℕ) → handed (up_to entry_step p m ++ replicate n (end_step (count r))) ≡ up_to (entry_of r) p m
  unfolding handed up_to
  handed-from zero n p = handed-ends n (count r)
  handed-from (suc m) n p = ap (λ l. entry_of r p ∷ l) (handed-from m n (suc p))

  -- what is handed out is the list of entries, each once and in order
  pub handed-all : (n : ℕ) → handed (walk (count r + n) r 0) ≡ entries_of r
  unfolding entries_of
  handed-all n = ap handed (walk-all n) ∙ handed-from (count r) n 0
