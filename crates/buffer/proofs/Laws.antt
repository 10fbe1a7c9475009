-- Bytes laid one after the other, in a loop, with room and without. Assumes nothing.
use Prim.Native.Nat.{ℕ, suc, ◌+◌, ◌<◌, ◌≤◌}
use native.Mathlib.Omega.{arith}
use native.Mathlib.Numerals.{add-one}
use native.Mathlib.Nat.{add-zero}
use mathlib.Core.Path.{◌≡◌, refl, sym, ap, subst, ◌∙◌}
use mathlib.Core.Bool.{Bool, true, false}
use mathlib.Core.List.{List, [], ◌∷◌, ◌++◌, map, map-id, append_assoc, append-nil}
use lib.ListN.{length, set, get_or, take, drop, length-set, drop_of_length-le}
use lib.Seq.{drop-cons, take-suc-set, drop-set-lt}
use lib.Dec.{ltb}
use borrow.Author.Tests.{lt-ltb, le-ltb, ltb-true, ltb-false}
use Rattle.loops.specs.Loop.{pick}
use Rattle.buffer.specs.Buffer.{most_count, following, capped, BufferAt, buffer_at, put_byte, writes, Wrote}

pub room : (out : List ℕ) (at b : ℕ) → at < length out → Wrote (b ∷ []) (buffer_at out at) (buffer_at (set out at b) (at + 1))
unfolding put_byte writes
room out at b h = record { same = simp (lt-ltb at (length out) h, add-one at) }

pub full : (out : List ℕ) (at b : ℕ) {r : ℕ} → length out ≤ at → r ≡ following at → Wrote (b ∷ []) (buffer_at out at) (buffer_at out r)
unfolding put_byte writes
full out at b h e = record { same = ap (buffer_at out) e ∙ simp (le-ltb at (length out) h) }

writes-append : (a b : List ℕ) (p : BufferAt) → writes (a ++ b) p ≡ writes b (writes a p)
unfolding writes
writes-append [] b p = refl
writes-append (x ∷ a) b p = writes-append a b (put_byte x p)

-- nothing; one after the other; the same bytes
pub nothing : {p : BufferAt} → Wrote [] p p
unfolding writes
nothing = record { same = refl }

pub also : {a b : List ℕ} {p q r : BufferAt} → Wrote a p q → Wrote b q r → Wrote (a ++ b) p r
also {a} {b} {p} w v = record { same = v.same ∙ ap (writes b) w.same ∙ sym (writes-append a b p) }

pub as_is : {a b : List ℕ} {p q : BufferAt} → a ≡ b → Wrote b p q → Wrote a p q
as_is {p = p} e w = record { same = w.same ∙ ap (λ l. writes l p) (sym e) }

-- a loop lays f of each element of s: what is left to lay leads to the same end
pub record Laying (f : ℕ → ℕ) (s : List ℕ) (i : ℕ) (p q : BufferAt) : Type 0 where
  pub within : i ≤ length s
  pub same : writes (map f s) p ≡ writes (map f (drop i s)) q

pub laying-start : {f : ℕ → ℕ} {s : List ℕ} {p : BufferAt} → Laying f s 0 p p
laying-start = record { within = omega arith; same = refl }

pub laying-step : {f : ℕ → ℕ} {s : List ℕ} {i : ℕ} {p q r : BufferAt} → Laying f s i p q → i < length s → Wrote (f (get_or s i 0) ∷ []) q r → Laying f s (i + 1) p r
unfolding writes
laying-step {f} {s} {i} {p} {q} {r} l h w =
    record { within = omega arith; same = l.same ∙ rw (drop-cons s i 0 h, add-one i) (ap (writes (map f (drop (suc i) s))) (sym w.same)) }

pub laying-end : {f : ℕ → ℕ} {s : List ℕ} {i : ℕ} {p q : BufferAt} → Laying f s i p q → length s ≤ i → Wrote (map f s) p q
unfolding writes
laying-end {f} {s} {i} {p} {q} l h = record { same = sym (l.same ∙ rw (drop_of_length-le s h)) }

pub laid-all : {s : List ℕ} {i : ℕ} {p q : BufferAt} → Laying (λ b. b) s i p q → length s ≤ i → Wrote s p q
laid-all {s} l h = as_is (sym (map-id s)) (laying-end l h)

-- where there is room: what stood before the place, the bytes, and the rest as it was
pub record Laid (l out : List ℕ) (at : ℕ) (after : List ℕ) (r : ℕ) : Type 0 where
  pub place : r ≡ at + length l
  pub front : take r after ≡ take at out ++ l
  pub rest : drop r after ≡ drop (at + length l) out
  pub size : length after ≡ length out

laid-step : (b : ℕ) (l out : List ℕ) (at : ℕ) (after : List ℕ) (r : ℕ) → at < length out → Laid l (set out at b) (suc at) after r → Laid (b ∷ l) out at after r
laid-step b l out at after r h w =
    let n : suc at + length l ≡ at + suc (length l) = omega arith in
    let k : at < at + suc (length l) = omega arith in
    record {
      place = omega (arith, w.place);
      front = w.front ∙ rw (take-suc-set out at b h, append_assoc);
      rest = w.rest ∙ rw (n, drop-set-lt (at + suc (length l)) out at b k);
      size = w.size ∙ length-set out at b;
    }

laid_from : (l out : List ℕ) (at : ℕ) → at + length l ≤ length out → Laid l out at (writes l (buffer_at out at)).output (writes l (buffer_at out at)).place
unfolding writes put_byte
laid_from [] out at h = record { place = omega arith; front = sym (append-nil (take at out)); rest = simp add-zero; size = refl }
laid_from (b ∷ l) out at h =
    let i : at < length out = omega arith in
    let j : suc at + length l ≤ length (set out at b) = simp length-set (omega arith) in
    simp (lt-ltb at (length out) i)
    (laid-step b l out at (writes l (buffer_at (set out at b) (suc at))).output (writes l (buffer_at (set out at b) (suc at))).place i (laid_from l (set out at b) (suc at) j))

pub laid : {l out : List ℕ} {at : ℕ} {after : List ℕ} {r : ℕ} → Wrote l (buffer_at out at) (buffer_at after r) → at + length l ≤ length out → Laid l out at after r
laid {l} {out} {at} w h = subst (λ q. Laid l out at q.output q.place) (sym w.same) (laid_from l out at h)

-- ---- without room

-- the place after a byte
put-ahead : (b : ℕ) (p : BufferAt) → p.place ≤ (put_byte b p).place
unfolding put_byte
put-ahead b p = go (ltb p.place (length p.output)) (ltb p.place most_count) refl
  where
    go : (t u : Bool) → ltb p.place most_count ≡ u → p.place ≤ (pick t (buffer_at (set p.output p.place b) (suc p.place)) (buffer_at p.output (following p.place))).place
    go true u e = omega arith
    go false true e = rw e (omega arith)
    go false false e = rw e (omega arith)

writes-ahead : (l : List ℕ) (p : BufferAt) → p.place ≤ (writes l p).place
unfolding writes
writes-ahead [] p = omega arith
writes-ahead (b ∷ l) p = omega (arith, put-ahead b p, writes-ahead l (put_byte b p))

-- the next place
pub follows : (n : ℕ) → n < most_count → following n ≡ suc n
follows n h = ap (λ t. pick t (suc n) n) (lt-ltb n most_count h)

follows-past : (n m : ℕ) → n < most_count → n ≤ m → n < following m
follows-past n m h g = go (ltb m most_count) refl
  where
    go : (t : Bool) → ltb m most_count ≡ t → n < pick t (suc m) m
    go true e = omega arith
    go false e = omega (arith, ltb-false m most_count e)

over-from : (l out : List ℕ) (at : ℕ) → length out < most_count → at ≤ length out → length out < at + length l → length out < (writes l (buffer_at out at)).place
unfolding writes put_byte
over-from [] out at m i h = omega arith
over-from (b ∷ l) out at m i h =
    go (ltb at (length out)) refl
    (λ s j. over-from l (set out at b) (suc at) (omega (arith, s)) (omega (arith, s, j)) (omega (arith, s, h)))
  where
    go : (t : Bool) → ltb at (length out) ≡ t → (length (set out at b) ≡ length out → at < length out → length (set out at b) < (writes l (buffer_at (set out at b) (suc at))).place) → length out < (writes l (pick t (buffer_at (set out at b) (suc at)) (buffer_at out (following at)))).place
    go true e f = omega (arith, length-set out at b, f (length-set out at b) (ltb-true at (length out) e))
    go false e f = omega (arith, follows-past (length out) at m (ltb-false at (length out) e), writes-ahead l (buffer_at out (following at)))

-- bytes without room end past the buffer
pub over : {l out : List ℕ} {at : ℕ} {after : List ℕ} {r : ℕ} → Wrote l (buffer_at out at) (buffer_at after r) → length out < most_count → at ≤ length out → length out < at + length l → length out < r
over {l} {out} {at} w m i h = subst (λ q. length out < q.place) (sym w.same) (over-from l out at m i h)

-- ---- into nothing: the bytes are only counted

capped-within : (n : ℕ) → n ≤ most_count → n ≡ capped n
capped-within n h = go (ltb n most_count) refl
  where
    go : (t : Bool) → ltb n most_count ≡ t → n ≡ pick t n most_count
    go true e = refl
    go false e = omega (arith, ltb-false n most_count e)

capped-over : (n : ℕ) → most_count ≤ n → capped n ≡ most_count
capped-over n h = ap (λ t. pick t n most_count) (le-ltb n most_count h)

counted-from : (l : List ℕ) (at : ℕ) → at ≤ most_count → (writes l (buffer_at [] at)).place ≡ capped (at + length l)
unfolding writes put_byte
counted-from [] at h = capped-within at h ∙ ap capped (sym (add-zero at))
counted-from (b ∷ l) at h =
    ap (λ t. (writes l (pick t (buffer_at [] (suc at)) (buffer_at [] (following at)))).place) (le-ltb at 0 (omega arith))
    ∙ go (ltb at most_count) refl (λ j. counted-from l (suc at) (omega (arith, j))) (λ j. counted-from l at h)
  where
    go : (t : Bool) → ltb at most_count ≡ t → (at < most_count → (writes l (buffer_at [] (suc at))).place ≡ capped (suc at + length l)) → (most_count ≤ at → (writes l (buffer_at [] at)).place ≡ capped (at + length l)) → (writes l (buffer_at [] (pick t (suc at) at))).place ≡ capped (at + suc (length l))
    go true e f g =
        let n : suc at + length l ≡ at + suc (length l) = omega arith in
        f (ltb-true at most_count e) ∙ ap capped n
    go false e f g =
        let j : most_count ≤ at = ltb-false at most_count e in
        g j ∙ capped-over (at + length l) (omega (arith, j)) ∙ sym (capped-over (at + suc (length l)) (omega (arith, j)))

pub counted : {l out : List ℕ} {after : List ℕ} {r : ℕ} → Wrote l (buffer_at out 0) (buffer_at after r) → length out ≡ 0 → r ≡ capped (length l)
counted {l} {out} {after} {r} w e =
    let n : 0 + length l ≡ length l = omega arith in
    ap (λ (q : BufferAt). q.place) (w.same ∙ ap (λ o. writes l (buffer_at o 0)) (empty out e)) ∙ counted-from l 0 (omega arith) ∙ ap capped n
  where
    empty : (o : List ℕ) → length o ≡ 0 → o ≡ []
    empty [] h = refl
    empty (b ∷ o) h = absurd (omega arith)
