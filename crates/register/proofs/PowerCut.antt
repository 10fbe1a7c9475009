-- THE POWER CUT: after every number of steps of adding, the entries listed are the old ones, or the old ones and the new one. Assumes nothing.
use Prim.Native.Nat.{ℕ, suc, ◌+◌, ◌-◌, ◌≤◌, ◌<◌}
use native.Mathlib.Omega.{arith}
use native.Mathlib.Numerals.{add-one}
use mathlib.Core.Path.{◌≡◌, refl, sym, ap, subst, ◌∙◌}
use mathlib.Core.Bool.{true}
use mathlib.Core.Logic.{◌⊎◌, inl, inr, ⊎_elim}
use mathlib.Core.List.{List, [], ◌∷◌, ◌++◌}
use lib.ListN.{length, get_or, length-take, length-drop}
use lib.Seq.{ext_get_or, get_or-take, get_or-drop}
use lib.Dec.{ltb, leb}
use borrow.Author.Tests.{ltb-true, leb-true}
use Rattle.loops.proofs.Loops.{and_left, and_right}
use Rattle.register.specs.Layout.{size, max_entries, first_body, max_body, two, count, entry_at, start_of, length_of, tag_of, valid, used, listed, part, entry_of, entries_of, listed_of}
use Rattle.register.specs.Adding.{fits, entry_bytes, low, high, steps, place_of, value_of, after_with, step_of, added_after, new_entry}
use Rattle.register.proofs.Rules.{ValidEntry, Valid, valid-is, valid-back, used-from, used-within, Same, entry-valid-too, end_same, entry-same, listed_same, valid_same, used-same, listed-valid, up_to-same, up_to-more}
use Rattle.register.proofs.Stores.{lt-or-le, halves, Place, body, entry, last, place, place-body, place-entry, place-last, step-out, after-length, after-other, after-here, after-all, value-body, value-entry, value-last}

-- room for the body
pub record Fits (r : List ℕ) (m : ℕ) : Type 0 where
  pub few : count r < max_entries
  pub short : m ≤ max_body
  pub room : used r + m ≤ size

pub fits-is : (r : List ℕ) (m : ℕ) → fits r m ≡ true → Fits r m
unfolding fits
fits-is r m h =
    let b = and_right (ltb (count r) max_entries) _ h in
    record { few = ltb-true _ _ (and_left _ _ h); short = leb-true _ _ (and_left _ _ b); room = leb-true _ _ (and_right (leb m max_body) _ b) }

module _ (r : List ℕ) (t : ℕ) (b : List ℕ) (full : size ≤ length r) (w : Valid r) (f : Fits r (length b)) where
  from : first_body ≤ used r
  from = used-from r w

  -- a step before the last stores beyond what is looked at
  beyond-by : (i j : ℕ) → j < length b + 6 → (i < entry_at (count r)) ⊎ ((first_body ≤ i) × (i < used r)) → Place (count r) (used r) (length b) j → place_of (count r) (used r) (length b) j ≡ i → ⊥
  beyond-by i j h (inl x) (body a p) y = omega (arith, x, a, p, y, from, f.few)
  beyond-by i j h (inl x) (entry a c p) y = omega (arith, x, a, c, p, y)
  beyond-by i j h (inr x) (body a p) y = omega (arith, x.1, a, p, y)
  beyond-by i j h (inr x) (entry a c p) y = omega (arith, x.0, a, c, p, y, f.few)
  beyond-by i j h x (last a p) y = omega (arith, a)

  -- the last one stores to byte 1
  beyond-one-by : (i j : ℕ) → (2 ≤ i) ⊎ (i ≡ 0) → (i < entry_at (count r)) ⊎ ((first_body ≤ i) × (i < used r)) → Place (count r) (used r) (length b) j → place_of (count r) (used r) (length b) j ≡ i → ⊥
  beyond-one-by i j z x (body a p) y = beyond-by i j (omega (arith, a)) x (body a p) y
  beyond-one-by i j z x (entry a c p) y = beyond-by i j c x (entry a c p) y
  beyond-one-by i j (inl z) x (last a p) y = omega (arith, z, p, y)
  beyond-one-by i j (inr z) x (last a p) y = omega (arith, z, p, y)

  kept : (k i : ℕ) → (2 ≤ i) ⊎ (i ≡ 0) → (i < entry_at (count r)) ⊎ ((first_body ≤ i) × (i < used r)) → get_or (added_after r t b k) i 0 ≡ get_or r i 0
  kept k i z x = after-other (count r) (used r) t b r k i (λ j h l. beyond-one-by i j z x (place (count r) (used r) (length b) j))

  same : (k : ℕ) → Same (count r) r (added_after r t b k)
  same k =
      record {
        full = full;
        long = omega (arith, after-length (count r) (used r) t b r k);
        first = kept k 0 (inr refl) (inl (omega arith));
        table = λ i h l. kept k i (inl h) (inl l);
        bodies = λ i h l. kept k i (inl (omega arith)) (inr (h, l));
      }

  count-before : (k : ℕ) → k ≤ length b + 6 → count (added_after r t b k) ≡ count r
  count-before k h = after-other (count r) (used r) t b r k 1 (λ j l m. beyond-by 1 j (omega arith) (inl (omega arith)) (place (count r) (used r) (length b) j))

  -- before the last step the old entries are listed
  pub cut-before : (k : ℕ) → k < steps (length b) → listed_of (added_after r t b k) ≡ listed_of r
  cut-before k h = listed_same r (added_after r t b k) (count-before k (omega arith)) (same k)

  pub valid-before : (k : ℕ) → k < steps (length b) → valid (added_after r t b k) ≡ valid r
  valid-before k h = valid_same r (added_after r t b k) (count-before k (omega arith)) (same k)

  pub used-before : (k : ℕ) → k < steps (length b) → used (added_after r t b k) ≡ used r
  used-before k h = used-same r (added_after r t b k) (count-before k (omega arith)) (same k)

  pub fits-before : (k : ℕ) → k < steps (length b) → fits (added_after r t b k) (length b) ≡ fits r (length b)
  unfolding fits
  fits-before k h = rw (used-before k h, count-before k (omega arith))

  -- the step, as a function of the register as it is, leads from k steps to k + 1
  pub steps-are : (k : ℕ) → step_of t b k (added_after r t b k) ≡ added_after r t b (suc k)
  unfolding after_with
  steps-are k =
      ⊎_elim (λ h. rw (used-before k h, count-before k (omega (arith, h)))) (λ h. step-out _ _ t b k _ h ∙ sym (step-out (count r) (used r) t b k (added_after r t b k) h))
      (lt-or-le k (steps (length b)))

  -- after the last step
  stored : (j i : ℕ) → j < steps (length b) → place_of (count r) (used r) (length b) j ≡ i → i < length r → get_or (added_after r t b (steps (length b))) i 0 ≡ value_of (count r) (used r) t b j
  stored j i h e l =
      ap (λ p. get_or (added_after r t b (steps (length b))) p 0) (sym e)
      ∙ after-here (count r) (used r) t b r f.few from (steps (length b)) j h (omega arith) (omega arith)

  count-after : count (added_after r t b (steps (length b))) ≡ suc (count r)
  count-after =
      stored (length b + 6) 1 (omega arith) (place-last (count r) (used r) (length b) (length b + 6) (omega arith)) (omega arith)
      ∙ value-last (count r) (used r) t b (length b + 6) (omega arith) ∙ add-one (count r)

  field : (a i : ℕ) → a ≡ entry_at (count r) + i → i < 6 → get_or (added_after r t b (steps (length b))) a 0 ≡ get_or (entry_bytes (used r) (length b) t) i 0
  field a i e h =
      let d : length b + i - length b ≡ i = omega arith in
      let g : entry_at (count r) + (length b + i - length b) ≡ a = omega arith in
      stored (length b + i) a (omega arith) (place-entry (count r) (used r) (length b) (length b + i) (omega arith) (omega arith) ∙ g) (omega (arith, f.few))
      ∙ value-entry (count r) (used r) t b (length b + i) (omega arith) (omega arith)
      ∙ ap (λ x. get_or (entry_bytes (used r) (length b) t) x 0) d

  pair : (a i x : ℕ) → a ≡ entry_at (count r) + i → i + 1 < 6 → x < 65536 → get_or (entry_bytes (used r) (length b) t) i 0 ≡ low x → get_or (entry_bytes (used r) (length b) t) (i + 1) 0 ≡ high x → two (added_after r t b (steps (length b))) a ≡ x
  unfolding two
  pair a i x e h l y z = rw (field a i e (omega arith), field (a + 1) (i + 1) (omega arith) h, y, z) (halves x l)

  start-after : start_of (added_after r t b (steps (length b))) (count r) ≡ used r
  unfolding entry_bytes
  start-after = pair (entry_at (count r)) 0 (used r) (omega arith) (omega arith) (omega (arith, used-within r w)) refl refl

  length-after : length_of (added_after r t b (steps (length b))) (count r) ≡ length b
  unfolding entry_bytes
  length-after = pair (entry_at (count r) + 2) 2 (length b) (omega arith) (omega arith) (omega (arith, f.short)) refl refl

  entry-valid-after : ValidEntry (added_after r t b (steps (length b))) (count r)
  entry-valid-after =
      record {
        start = start-after ∙ sym (end_same (count r) r (added_after r t b (steps (length b))) (same (steps (length b))) (count r) (omega arith));
        short = omega (arith, length-after, f.short);
        inside = omega (arith, start-after, length-after, f.room);
      }

  pub valid-after : Valid (added_after r t b (steps (length b)))
  valid-after =
      record {
        first = (same (steps (length b))).first ∙ w.first;
        few = omega (arith, count-after, f.few);
        entries = λ j h. ⊎_elim (λ l. entry-valid-too (count r) r (added_after r t b (steps (length b))) (same (steps (length b))) j l (w.entries j l))
            (λ l. let e : count r ≡ j = omega (arith, l, h, count-after) in subst (λ (x : ℕ). ValidEntry (added_after r t b (steps (length b))) x) e entry-valid-after) (lt-or-le j (count r));
      }

  part-after : part (added_after r t b (steps (length b))) (used r) (length b) ≡ b
  part-after =
      ext_get_or 0 (part (added_after r t b (steps (length b))) (used r) (length b)) b
      (simp (length-take, length-drop) (omega (arith, (same (steps (length b))).long, f.room)))
      (λ i h. let l : i < length b = omega (arith, simp length-take at h) in
      rw (get_or-take, get_or-drop)
      (stored i (used r + i) (omega arith) (place-body (count r) (used r) (length b) i l) (omega (arith, f.room)) ∙ value-body (count r) (used r) t b i l))

  module _ (two_bytes : t < 65536) where
    tag-after : tag_of (added_after r t b (steps (length b))) (count r) ≡ t
    unfolding entry_bytes
    tag-after = pair (entry_at (count r) + 4) 4 t (omega arith) (omega arith) two_bytes refl refl

    entry-after : entry_of (added_after r t b (steps (length b))) (count r) ≡ new_entry t b
    entry-after = rw (tag-after, start-after, length-after) (ap (new_entry t) part-after)

    entries-after : entries_of (added_after r t b (steps (length b))) ≡ entries_of r ++ (new_entry t b ∷ [])
    unfolding entries_of
    entries-after =
        rw (count-after, up_to-more, entry-after, up_to-same (entry_of (added_after r t b (steps (length b)))) (entry_of r) (count r) (entry-same (count r) r (added_after r t b (steps (length b))) (same (steps (length b))) w (omega arith)))

    -- from the last step on the old entries and the new one are listed
    pub cut-after : (k : ℕ) → steps (length b) ≤ k → listed_of (added_after r t b k) ≡ listed (entries_of r ++ (new_entry t b ∷ []))
    cut-after k h =
        ap listed_of (after-all (count r) (used r) t b r k h)
        ∙ listed-valid (added_after r t b (steps (length b))) (valid-back _ valid-after) ∙ ap listed entries-after

-- THE POWER CUT
pub power-cut : (r : List ℕ) (t : ℕ) (b : List ℕ) (k : ℕ) → size ≤ length r → valid r ≡ true → fits r (length b) ≡ true → t < 65536 → (listed_of (added_after r t b k) ≡ listed (entries_of r)) ⊎ (listed_of (added_after r t b k) ≡ listed (entries_of r ++ (new_entry t b ∷ [])))
power-cut r t b k full w f h =
    ⊎_elim (λ l. inl (cut-before r t b full (valid-is r w) (fits-is r (length b) f) k l ∙ listed-valid r w))
    (λ l. inr (cut-after r t b full (valid-is r w) (fits-is r (length b) f) h k l)) (lt-or-le k (steps (length b)))

-- nothing but byte 1, the new entry and its body changes
module _ (r : List ℕ) (t : ℕ) (b : List ℕ) (i : ℕ) (one : i ≡ 1 → ⊥) (contents : entry_at (count r) ≤ i → i < entry_at (count r) + 6 → ⊥) (bodies : used r ≤ i → i < used r + length b → ⊥) where
  elsewhere : (j : ℕ) → Place (count r) (used r) (length b) j → place_of (count r) (used r) (length b) j ≡ i → ⊥
  elsewhere j (body a p) y = bodies (omega (arith, a, p, y)) (omega (arith, a, p, y))
  elsewhere j (entry a c p) y = contents (omega (arith, a, c, p, y)) (omega (arith, a, c, p, y))
  elsewhere j (last a p) y = one (omega (arith, p, y))

  pub others-kept : (k : ℕ) → get_or (added_after r t b k) i 0 ≡ get_or r i 0
  others-kept k = after-other (count r) (used r) t b r k i (λ j h l. elsewhere j (place (count r) (used r) (length b) j))

-- byte 0, and what a longer register has past byte 32,767, never changes
module _ (r : List ℕ) (t : ℕ) (b : List ℕ) (w : Valid r) (f : Fits r (length b)) (k : ℕ) where
  pub first-kept : get_or (added_after r t b k) 0 0 ≡ get_or r 0 0
  first-kept = others-kept r t b 0 (λ e. omega arith) (λ x y. omega arith) (λ x y. omega (arith, used-from r w)) k

  pub past-kept : (i : ℕ) → size ≤ i → get_or (added_after r t b k) i 0 ≡ get_or r i 0
  past-kept i h = others-kept r t b i (λ e. omega arith) (λ x y. omega (arith, f.few)) (λ x y. omega (arith, f.room)) k
