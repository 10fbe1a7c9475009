-- The keys and the offsets that a reading of bytes keeps, as a reading of tokens has them by its times: the offset of each ring token's digit stands for its time. Assumes nothing.
use mathlib.Core.Path.{◌≡◌, refl, sym, ap, ◌∙◌, subst}
use mathlib.Core.Bool.{Bool, true, false, cond}
use mathlib.Core.List.{List, [], ◌∷◌, ◌++◌, append-nil}
use Prim.Native.Nat.{ℕ, suc, ◌+◌, ◌*◌, ◌<◌, ◌≤◌}
use native.Mathlib.Omega.{arith}
use lib.Dec.{eqb, ltb}
use lib.ListN.{length, get_or, set, length-set, length-append, get_or-append}
use lib.Seq.{get_or-set_same, get_or-set_other, get_or-append_seam}
use borrow.Author.Tests.{eqb-true, eqb-false}
use Rattle.loops.specs.Loop.{pick}
use Rattle.ids.specs.Limits.{bridges}
use Rattle.reading_state.specs.State.{key_count}
use Rattle.reading_state.specs.State as state
use Rattle.writing_walk.specs.Reading.{Closure, vacant, at, closure_at, set_closure}
use Rattle.writing_walk.specs.Keyed.{Keys, keys, child_keys, keys_between, set_stamp}
use Rattle.writing_walk.specs.Ranks.{offset_clock, Ascending}
use Rattle.writing_walk.proofs.Count.{All, none, more, all_map, all_append, all-at}
use Rattle.writing_walk.proofs.Ranks.{ascending-more, offset-kept, offset-last}
use Rattle.writing_walk.proofs.Stamps.{Past, stamp-same, stamp-other, stamp-past}
use Rattle.roundtrip.proofs.Held.{hook-same, hook-other}

-- ---- two numbers for each bond: its keys, told by a clock
pub record KeyTable (clock : ℕ → ℕ) (l : List ℕ) (ks : List Keys) : Type 0 where
  pub low : (b : ℕ) → b < length ks → get_or l (2 * b) 0 ≡ clock (get_or ks b child_keys).low
  pub high : (b : ℕ) → b < length ks → get_or l (2 * b + 1) 0 ≡ clock (get_or ks b child_keys).high
  pub after : (j : ℕ) → 2 * length ks ≤ j → get_or l j 0 ≡ 0
  pub long : length l ≡ key_count

-- a clock that agrees on the times so far
told : (clock clock' : ℕ → ℕ) (z : ℕ) → ((d : ℕ) → d ≤ z → clock' d ≡ clock d) → (l : List ℕ) (ks : List Keys) → All (Past z) ks → KeyTable clock l ks → KeyTable clock' l ks
told clock clock' z h l ks a t = record {
  low = λ b g. t.low b g ∙ sym (h (get_or ks b child_keys).low (all-at (Past z) child_keys ks b a g).0);
  high = λ b g. t.high b g ∙ sym (h (get_or ks b child_keys).high (all-at (Past z) child_keys ks b a g).1);
  after = t.after;
  long = t.long;
}

-- one bond more, with two numbers that stand in the list at its place
added : (clock : ℕ → ℕ) (l l' : List ℕ) (ks : List Keys) (k : Keys) → ((j : ℕ) → j < 2 * length ks → get_or l' j 0 ≡ get_or l j 0) → get_or l' (2 * length ks) 0 ≡ clock k.low → get_or l' (2 * length ks + 1) 0 ≡ clock k.high
    → ((j : ℕ) → 2 * length ks + 2 ≤ j → get_or l' j 0 ≡ 0) → length l' ≡ key_count → KeyTable clock l ks → KeyTable clock l' (ks ++ (k ∷ []))
added clock l l' ks k before e f behind long t = record { low = λ b g. low-at b g (eqb b (length ks)) refl; high = λ b g. high-at b g (eqb b (length ks)) refl; after = λ j g. behind j (let e = longer in omega arith); long = long }
  where
    longer : length (ks ++ (k ∷ [])) ≡ suc (length ks)
    longer = length-append ks (k ∷ []) ∙ omega arith

    low-at : (b : ℕ) → b < length (ks ++ (k ∷ [])) → (x : Bool) → eqb b (length ks) ≡ x → get_or l' (2 * b) 0 ≡ clock (get_or (ks ++ (k ∷ [])) b child_keys).low
    low-at b g true y = subst (λ (c : ℕ). get_or l' (2 * c) 0 ≡ clock (get_or (ks ++ (k ∷ [])) c child_keys).low) (sym (eqb-true b (length ks) y)) (e ∙ ap (λ (c : Keys). clock c.low) (sym (get_or-append_seam ks k [] child_keys)))
    low-at b g false y =
        let z = eqb-false b (length ks) y in
        let e = longer in
        let m : b < length ks = omega arith in
        before (2 * b) (omega arith) ∙ t.low b m ∙ ap (λ (c : Keys). clock c.low) (sym (get_or-append ks (k ∷ []) child_keys b m))

    high-at : (b : ℕ) → b < length (ks ++ (k ∷ [])) → (x : Bool) → eqb b (length ks) ≡ x → get_or l' (2 * b + 1) 0 ≡ clock (get_or (ks ++ (k ∷ [])) b child_keys).high
    high-at b g true y = subst (λ (c : ℕ). get_or l' (2 * c + 1) 0 ≡ clock (get_or (ks ++ (k ∷ [])) c child_keys).high) (sym (eqb-true b (length ks) y)) (f ∙ ap (λ (c : Keys). clock c.high) (sym (get_or-append_seam ks k [] child_keys)))
    high-at b g false y =
        let z = eqb-false b (length ks) y in
        let e = longer in
        let m : b < length ks = omega arith in
        before (2 * b + 1) (omega arith) ∙ t.high b m ∙ ap (λ (c : Keys). clock c.high) (sym (get_or-append ks (k ∷ []) child_keys b m))

-- a bond to a child has no keys
with-child : (clock : ℕ → ℕ) → clock 0 ≡ 0 → (l : List ℕ) (ks : List Keys) → KeyTable clock l ks → KeyTable clock l (ks ++ (child_keys ∷ []))
with-child clock e l ks t = added clock l l ks child_keys (λ j g. refl) (t.after (2 * length ks) (omega arith) ∙ sym e) (t.after (2 * length ks + 1) (omega arith) ∙ sym e) (λ j g. t.after j (omega arith)) t.long t

-- that of a bridge has two
with-bridge : (clock : ℕ → ℕ) (l : List ℕ) (ks : List Keys) (k : Keys) (p q : ℕ) → 2 * length ks + 1 < key_count → p + 1 ≡ clock k.low → q + 1 ≡ clock k.high → KeyTable clock l ks → KeyTable clock (state.keyed l (length ks) p q) (ks ++ (k ∷ []))
with-bridge clock l ks k p q room e f t =
    let b = length ks in
    let one = set l (2 * b) (p + 1) in
    let n = t.long in
    let m : length one ≡ length l = length-set l (2 * b) (p + 1) in
    let other : (j : ℕ) → (j ≡ 2 * b → ⊥) → (j ≡ 2 * b + 1 → ⊥) → get_or (state.keyed l b p q) j 0 ≡ get_or l j 0 = λ j g h. get_or-set_other one (2 * b + 1) j (q + 1) 0 h ∙ get_or-set_other l (2 * b) j (p + 1) 0 g in
    added clock l (state.keyed l b p q) ks k (λ j g. other j (λ h. omega arith) (λ h. omega arith))
    (get_or-set_other one (2 * b + 1) (2 * b) (q + 1) 0 (λ h. omega arith) ∙ get_or-set_same l (2 * b) (p + 1) 0 (omega arith) ∙ e)
    (get_or-set_same one (2 * b + 1) (q + 1) 0 (omega arith) ∙ f)
    (λ j g. other j (λ h. omega arith) (λ h. omega arith) ∙ t.after j (omega arith))
    (length-set one (2 * b + 1) (q + 1) ∙ m ∙ n) t

-- ---- the offsets of the openings, and the offsets of all digits so far: those of the text before i
-- hs, z, ts, ks: the places of bridges, the time, the stamps and the keys of a reading of tokens
pub record Keying (offset l : List ℕ) (hs : List Closure) (z : ℕ) (ts : List ℕ) (ks : List Keys) (i : ℕ) : Type 0 where
  pub offsets : List ℕ
  pub timed : length offsets ≡ z
  pub rising : Ascending offsets
  pub past : All (λ p. p < i) offsets
  pub opened : (r u j : ℕ) → suc r < bridges → closure_at hs r ≡ at u j → get_or offset (suc r) 0 + 1 ≡ offset_clock offsets (get_or ts r 0)
  pub long : length offset ≡ bridges
  pub table : KeyTable (offset_clock offsets) l ks

-- further on in the text
pub keying-later : {offset l : List ℕ} {hs : List Closure} {z : ℕ} {ts : List ℕ} {ks : List Keys} {i j : ℕ} → i ≤ j → Keying offset l hs z ts ks i → Keying offset l hs z ts ks j
keying-later {i = i} {j = j} h k = record {
  offsets = k.offsets;
  timed = k.timed;
  rising = k.rising;
  past = all_map (λ p. p < i) (λ p. p < j) (λ p g. omega arith) k.offsets k.past;
  opened = k.opened;
  long = k.long;
  table = k.table;
}

pub keying-same : {offset l : List ℕ} {hs : List Closure} {z : ℕ} {ts : List ℕ} {ks : List Keys} {i : ℕ} → Keying offset l hs z ts ks i → Keying offset l hs z ts (ks ++ []) i
keying-same {ks = ks} k = rw (append-nil ks) k

-- an atom that is joined to the hub
pub keying-child : {offset l : List ℕ} {hs : List Closure} {z : ℕ} {ts : List ℕ} {ks : List Keys} {i : ℕ} → Keying offset l hs z ts ks i → Keying offset l hs z ts (ks ++ (child_keys ∷ [])) i
keying-child {l = l} {ks = ks} k = record {
  offsets = k.offsets;
  timed = k.timed;
  rising = k.rising;
  past = k.past;
  opened = k.opened;
  long = k.long;
  table = with-child (offset_clock k.offsets) refl l ks k.table;
}

-- a digit or `%` of the number suc r, at o
module _ {offset l : List ℕ} {hs : List Closure} {z : ℕ} {ts : List ℕ} {ks : List Keys} {i : ℕ} (k : Keying offset l hs z ts ks i) (stamps : All (λ t. t ≤ z) ts) (past : All (Past z) ks) (r o : ℕ) (g : suc r < bridges) (h : i ≤ o) where
  abbrev later : List ℕ
  later = k.offsets ++ (o ∷ [])

  later-timed : length later ≡ suc z
  later-timed = length-append k.offsets (o ∷ []) ∙ (let e = k.timed in omega arith)

  later-rising : Ascending later
  later-rising = ascending-more k.offsets o k.rising (all_map (λ p. p < i) (λ p. p < o) (λ p m. omega arith) k.offsets k.past)

  later-past : All (λ p. p < suc o) later
  later-past = all_append (λ p. p < suc o) k.offsets (o ∷ []) (all_map (λ p. p < i) (λ p. p < suc o) (λ p m. omega arith) k.offsets k.past) (more (omega arith) none)

  -- the times so far keep their offsets
  agrees : (d : ℕ) → d ≤ z → offset_clock later d ≡ offset_clock k.offsets d
  agrees d m = offset-kept k.offsets o d (let e = k.timed in omega arith)

  now : offset_clock later (suc z) ≡ o + 1
  now = ap (λ (d : ℕ). offset_clock later (suc d)) (sym k.timed) ∙ offset-last k.offsets o ∙ omega arith

  -- the places other than r
  elsewhere : (x : Closure) (y v q u j : ℕ) → (q ≡ r → ⊥) → suc q < bridges → closure_at (set_closure hs r x) q ≡ at u j → get_or (set offset (suc r) y) (suc q) 0 + 1 ≡ offset_clock later (get_or (set_stamp ts r v) q 0)
  elsewhere x y v q u j n m e =
      ap (λ (a : ℕ). a + 1) (get_or-set_other offset (suc r) (suc q) y 0 (λ a. n (omega arith)))
      ∙ k.opened q u j m (sym (hook-other hs r q x n) ∙ e)
      ∙ sym (agrees (get_or ts q 0) (stamp-past z ts q stamps))
      ∙ ap (offset_clock later) (sym (stamp-other ts r q v n))

  -- the number opens
  pub keying-open : (u j : ℕ) → Keying (set offset (suc r) o) l (set_closure hs r (at u j)) (suc z) (set_stamp ts r (suc z)) ks (suc o)
  keying-open u j = record {
    offsets = later;
    timed = later-timed;
    rising = later-rising;
    past = later-past;
    opened = λ q v w m e. go q v w m e (eqb q r) refl;
    long = length-set offset (suc r) o ∙ k.long;
    table = told (offset_clock k.offsets) (offset_clock later) z agrees l ks past k.table;
  }
    where
      go : (q v w : ℕ) → suc q < bridges → closure_at (set_closure hs r (at u j)) q ≡ at v w → (x : Bool) → eqb q r ≡ x → get_or (set offset (suc r) o) (suc q) 0 + 1 ≡ offset_clock later (get_or (set_stamp ts r (suc z)) q 0)
      go q v w m e true y = subst (λ (a : ℕ). get_or (set offset (suc r) o) (suc a) 0 + 1 ≡ offset_clock later (get_or (set_stamp ts r (suc z)) a 0)) (sym (eqb-true q r y))
          (ap (λ (a : ℕ). a + 1) (get_or-set_same offset (suc r) o 0 (let e = k.long in omega arith)) ∙ sym now ∙ ap (offset_clock later) (sym (stamp-same ts r (suc z))))
      go q v w m e false y = elsewhere (at u j) o (suc z) q v w (eqb-false q r y) m e

  -- the number closes, opened at u with its digit at the place that was kept
  pub keying-close : (u j c : ℕ) → closure_at hs r ≡ at u j → 2 * length ks + 1 < key_count
      → Keying (set offset (suc r) 0) (pick (ltb u c) (state.keyed l (length ks) (get_or offset (suc r) 0) o) (state.keyed l (length ks) o (get_or offset (suc r) 0))) (set_closure hs r vacant) (suc z) (set_stamp ts r 0) (ks ++ (keys_between u c (get_or ts r 0) (suc z) ∷ [])) (suc o)
  keying-close u j c f room = record {
    offsets = later;
    timed = later-timed;
    rising = later-rising;
    past = later-past;
    opened = λ q v w m e. go q v w m e (eqb q r) refl;
    long = length-set offset (suc r) 0 ∙ k.long;
    table = keyed-by (ltb u c);
  }
    where
      before : get_or offset (suc r) 0 + 1 ≡ offset_clock later (get_or ts r 0)
      before = k.opened r u j g f ∙ sym (agrees (get_or ts r 0) (stamp-past z ts r stamps))

      so_far : KeyTable (offset_clock later) l ks
      so_far = told (offset_clock k.offsets) (offset_clock later) z agrees l ks past k.table

      keyed-by : (x : Bool) → KeyTable (offset_clock later) (pick x (state.keyed l (length ks) (get_or offset (suc r) 0) o) (state.keyed l (length ks) o (get_or offset (suc r) 0))) (ks ++ (cond x (keys (get_or ts r 0) (suc z)) (keys (suc z) (get_or ts r 0)) ∷ []))
      keyed-by true = with-bridge (offset_clock later) l ks (keys (get_or ts r 0) (suc z)) (get_or offset (suc r) 0) o room before (sym now) so_far
      keyed-by false = with-bridge (offset_clock later) l ks (keys (suc z) (get_or ts r 0)) o (get_or offset (suc r) 0) room (sym now) before so_far

      go : (q v w : ℕ) → suc q < bridges → closure_at (set_closure hs r vacant) q ≡ at v w → (x : Bool) → eqb q r ≡ x → get_or (set offset (suc r) 0) (suc q) 0 + 1 ≡ offset_clock later (get_or (set_stamp ts r 0) q 0)
      go q v w m e true y = absurd (let b : vacant ≡ at v w = sym (hook-same hs r vacant) ∙ ap (closure_at (set_closure hs r vacant)) (sym (eqb-true q r y)) ∙ e in let a : ◌≡◌ {A = ℕ} 0 1 = cc in omega arith)
      go q v w m e false y = elsewhere vacant 0 0 q v w (eqb-false q r y) m e
